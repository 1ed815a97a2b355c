-- The digits of a number.
use mathlib.Core.Path.{◌≡◌, refl, ap, ◌∙◌}
use mathlib.Core.Bool.{Bool, true, false, cond}
use mathlib.Core.List.{List, [], ◌∷◌, ◌++◌}
use Prim.Native.Nat.{ℕ, zero, suc, ◌+◌, ◌/◌, ◌%◌, ◌≤◌, ◌<◌}
use native.Mathlib.Omega.{arith}
use lib.Dec.{ltb}
use borrow.Author.Tests.{lt-ltb, le-ltb, ltb-false}
use Rattle.meaning.specs.Program.{decimal_f, decimal}

-- any number of turns above the number writes all its digits
decimal_fuel : (f g n : ℕ) → n < f → n < g → decimal_f f n ≡ decimal_f g n
unfolding decimal_f
decimal_fuel zero g n l m = absurd (omega arith)
decimal_fuel (suc f) zero n l m = absurd (omega arith)
decimal_fuel (suc f) (suc g) n l m = go (ltb n 10) refl (λ a b. decimal_fuel f g (n / 10) a b)
  where
    last : List ℕ
    last = (48 + n % 10) ∷ []

    go : (b : Bool) → ltb n 10 ≡ b → (n / 10 < f → n / 10 < g → decimal_f f (n / 10) ≡ decimal_f g (n / 10))
        → cond b ((48 + n) ∷ []) (decimal_f f (n / 10) ++ last) ≡ cond b ((48 + n) ∷ []) (decimal_f g (n / 10) ++ last)
    go true e ih = refl
    go false e ih = ap (λ ds. ds ++ last) (ih (omega (arith, ltb-false n 10 e)) (omega (arith, ltb-false n 10 e)))

pub decimal_one : (n : ℕ) → n < 10 → decimal n ≡ (48 + n) ∷ []
unfolding decimal_f
decimal_one n l = rw (lt-ltb n 10 l)

decimal_turn : (f n : ℕ) → 10 ≤ n → decimal_f (suc f) n ≡ decimal_f f (n / 10) ++ ((48 + n % 10) ∷ [])
unfolding decimal_f
decimal_turn f n l = rw (le-ltb n 10 l)

pub decimal_more : (n : ℕ) → 10 ≤ n → decimal n ≡ decimal (n / 10) ++ ((48 + n % 10) ∷ [])
decimal_more n l = decimal_turn n n l ∙ ap (λ ds. ds ++ ((48 + n % 10) ∷ [])) (decimal_fuel n (suc (n / 10)) (n / 10) (omega arith) (omega arith))
