-- What the answers of this crate stand for in the definitions of `meaning`; the refusal that an answer may be stands in limits.
use Rattle.std.specs.Prelude.{cond, ℕ, ◌-◌, eqb, List, [], length, Option, Some, None, Result, Ok, Err}
use Rattle.meaning.specs.Expression.{Expr}
use Rattle.meaning.specs.Limits.{not_one_operand}
use Rattle.meaning.specs.Number.{Got, got, broken}
use Rattle.meaning.specs.Word.{Outcome, refused, answered, and_then, Pending, run}
use Rattle.limits.specs.declared.refusal.Refused.{Refused}
use Rattle.limits.specs.Refusal.{outcome_of}
use Rattle.word.specs.declared.number.Read.{Read}
use Rattle.word.specs.declared.whole.Counts.{Counts}

-- a number that was read at place `at`: its value and the bytes from `at` to the place after it
abbrev pub got_of : ℕ → Option Read → Got
got_of at (Some read) = got read.value (read.next - at)
got_of at None = broken

-- the pending operands and the steps, counted
abbrev pub counts_of : Pending → Counts
counts_of st = record { pending = length st.operands; steps = st.steps }

-- what a sign leaves pending, counted
abbrev pub counting : Outcome Pending → Outcome Counts
counting o = and_then o (λ st. answered (counts_of st))

-- "signs from left to right": what all the signs of a word make of no operands
abbrev pub all_signs : List ℕ → Outcome Expr
all_signs word = run (length word) word 0 (record { operands = []; steps = 0 })

-- after the last sign: "6: at the end, pending operands are not exactly one"
abbrev pub at_last : Result Counts Refused → ℕ → Outcome (Unit {0})
at_last (Ok counts) end = cond (eqb counts.pending 1) (answered tt) (refused not_one_operand end)
at_last (Err refusal) end = outcome_of (Err refusal)

-- whether a call is answered, without what is answered
abbrev pub verdict : {A : Type 0} → Outcome A → Outcome (Unit {0})
verdict o = and_then o (λ _. answered tt)
