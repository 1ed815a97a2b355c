-- Words: the signs, the refusals 1 to 6 with their places and their order, and the expression of an accepted word.
use Rattle.std.specs.Prelude.{Bool, true, false, ◌||◌, cond, List, [], ◌∷◌, ℕ, zero, suc, ◌+◌, ◌-◌, length, get_or, ltb, eqb}
use Rattle.meaning.specs.Expression.{Expr, empty, self, child, parent, label, comp, inter, proj1, proj2, inv}
use Rattle.meaning.specs.Limits.{longest_word, most_pending, most_steps, word_too_long, bad_number, missing_operand, too_many_pending, too_many_steps, not_one_operand}
use Rattle.meaning.specs.Number.{Got, got, broken, read_number}

-- a call is answered, or refused with a number and a place
pub data Outcome (A : Type 0) : Type 0 where
  refused : (number place : ℕ) → Outcome A
  answered : A → Outcome A

-- what is answered goes on, what is refused stays refused
abbrev pub and_then : {A B : Type 0} → Outcome A → (A → Outcome B) → Outcome B
and_then (refused n p) f = refused n p
and_then (answered a) f = f a

-- ------------------------------------------------------------------ the table of signs
pub data Sign : Type 0 where
  operand : Expr → Sign
  unary : (Expr → Expr) → Sign
  binary : (Expr → Expr → Expr) → Sign

-- signs 0 to 8
abbrev pub signs : List Sign
signs =
    operand empty
    ∷ operand self
    ∷ operand child
    ∷ operand parent
    ∷ binary comp
    ∷ unary proj1
    ∷ unary proj2
    ∷ binary inter
    ∷ unary inv
    ∷ []

-- "9+L: label L"
unfoldable pub sign_of : ℕ → Sign
sign_of n = get_or signs n (operand (label (n - 9)))

-- "Signs 2 and 3 are steps."
unfoldable pub is_step : ℕ → Bool
is_step n = eqb n 2 || eqb n 3

-- ------------------------------------------------------------------ one sign
-- the pending operands, the latest first, and the steps read so far
pub record Pending : Type 0 where
  pub operands : List Expr
  pub steps : ℕ

-- refusal 3: "an operator lacks operands"
abbrev pub on_one : (Expr → Expr) → List Expr → ℕ → ℕ → Outcome Pending
on_one f [] at k = refused missing_operand at
on_one f (e ∷ es) at k = answered (record { operands = f e ∷ es; steps = k })

-- "Signs 4 and 7 take the two latest operands, the earlier as first"
abbrev pub on_two : (Expr → Expr → Expr) → List Expr → ℕ → ℕ → Outcome Pending
on_two f [] at k = refused missing_operand at
on_two f (e ∷ []) at k = refused missing_operand at
on_two f (e ∷ (d ∷ es)) at k = answered (record { operands = f d e ∷ es; steps = k })

-- refusal 5: "a step sign is the 256th step"
abbrev pub counted : Bool → Expr → List Expr → ℕ → ℕ → Outcome Pending
counted false e es at k = answered (record { operands = e ∷ es; steps = k })
counted true e es at k = cond (ltb k most_steps) (answered (record { operands = e ∷ es; steps = k + 1 })) (refused too_many_steps at)

-- refusal 4: "an operand sign would make 257 pending operands"; "at one sign 4 goes before 5"
abbrev pub pushed : Bool → Expr → List Expr → ℕ → ℕ → Outcome Pending
pushed step e es at k = cond (ltb (length es) most_pending) (counted step e es at k) (refused too_many_pending at)

-- a sign that stands at place `at`
abbrev pub applied : Sign → Bool → Pending → ℕ → Outcome Pending
applied (operand e) step st at = pushed step e st.operands at st.steps
applied (unary f) step st at = on_one f st.operands at st.steps
applied (binary f) step st at = on_two f st.operands at st.steps

unfoldable pub takes : ℕ → Pending → ℕ → Outcome Pending
takes n st at = applied (sign_of n) (is_step n) st at

-- ------------------------------------------------------------------ the whole word
-- refusal 6: "at the end, pending operands are not exactly one", at the length of the word
abbrev pub only_one : List Expr → ℕ → Outcome Expr
only_one [] end = refused not_one_operand end
only_one (e ∷ []) end = answered e
only_one (e ∷ (d ∷ es)) end = refused not_one_operand end

unfoldable pub at_end : List ℕ → Pending → Outcome Expr
at_end word st = only_one st.operands (length word)

-- refusal 2: "a number is cut off, not shortest, or above 65,544", at its first byte
abbrev pub on_number : (ℕ → Pending → Outcome Expr) → ℕ → Pending → Got → Outcome Expr
on_number go at st (got v n) = and_then (takes v st at) (go (at + n))
on_number go at st broken = refused bad_number at

-- "signs from left to right, the first bad sign deciding": from place `at` on. A sign takes a byte or more, so as many turns as bytes are enough
unfoldable pub run : ℕ → List ℕ → ℕ → Pending → Outcome Expr
run zero word at st = at_end word st
run (suc k) word at st = cond (ltb at (length word)) (on_number (λ next st'. run k word next st') at st (read_number word at)) (at_end word st)

-- the expression of a word. Refusal 1: "the word has more than 4,096 bytes"
unfoldable pub read_word : List ℕ → Outcome Expr
read_word word = cond (ltb longest_word (length word)) (refused word_too_long longest_word) (run (length word) word 0 (record { operands = []; steps = 0 }))
