-- What one more sign does to the reading of a word: `run` from place `at` on, with as many turns as bytes are left.
use mathlib.Core.Path.{◌≡◌, ◌∙◌}
use mathlib.Core.List.{List, []}
use Prim.Native.Nat.{ℕ, suc, ◌+◌, ◌-◌, ◌<◌, ◌≤◌}
use native.Mathlib.Nat.{sub-zero}
use native.Mathlib.Omega.{arith}
use lib.ListN.{length}
use borrow.Author.Tests.{lt-ltb, le-ltb}
use Rattle.meaning.specs.Expression.{Expr}
use Rattle.meaning.specs.Number.{got, broken, read_number}
use Rattle.meaning.specs.Word.{Outcome, refused, answered, Pending, takes, at_end, on_number, run, read_word}
use Rattle.theory.proofs.Reread.{number_read, run_past, run_one, run_enough}

-- what the signs from place `at` on make of the pending operands
abbrev pub run_from : List ℕ → ℕ → Pending → Outcome Expr
run_from w at st = run (length w - at) w at st

abbrev pub nothing_pending : Pending
nothing_pending = record { operands = []; steps = 0 }

module _ (w : List ℕ) where
  -- refusal 1
  pub run_long : 4096 < length w → read_word w ≡ refused 1 4096
  unfolding read_word
  run_long h = rw (lt-ltb 4096 (length w) h)

  -- before the first sign
  pub run_start : length w ≤ 4096 → read_word w ≡ run_from w 0 nothing_pending
  unfolding read_word
  run_start h = rw (le-ltb 4096 (length w) h, sub-zero)

  module _ (at : ℕ) (st : Pending) where
    -- after the last sign
    pub run_end : length w ≤ at → run_from w at st ≡ at_end w st
    run_end h = run_past w (length w - at) at st h

    module _ (h : at < length w) where
      run_open : run_from w at st ≡ on_number (λ next st'. run (length w - at) w next st') at st (read_number w at)
      run_open = run_enough w (length w - at) (suc (length w - at)) at st (omega arith) (omega arith) ∙ run_one w (length w - at) at st h

      -- refusal 2
      pub run_broken : read_number w at ≡ broken → run_from w at st ≡ refused 2 at
      run_broken e = rw (run_open, e)

      module _ {v n : ℕ} (e : read_number w at ≡ got v n) where
        -- refusals 3, 4 and 5
        pub run_refused : {x p : ℕ} → takes v st at ≡ refused x p → run_from w at st ≡ refused x p
        run_refused q = rw (run_open, e, q)

        -- a sign that is taken, and the place `next` behind it
        pub run_sign : {st' : Pending} {next : ℕ} → next ≡ at + n → takes v st at ≡ answered st' → run_from w at st ≡ run_from w next st'
        run_sign {st'} {next} p q =
            rw (run_open, e, q, ← p) (run_enough w (length w - at) (length w - next) next st' (omega (arith, (number_read w at v n e).1)) (omega arith))
