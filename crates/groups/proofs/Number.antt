-- A number of several groups is its low group and the groups of what is left.
use mathlib.Core.Path.{◌≡◌, refl, ap}
use mathlib.Core.List.{List, [], ◌∷◌}
use Prim.Native.Nat.{ℕ, zero, suc, ◌+◌, ◌/◌, ◌%◌, ◌≤◌, ◌<◌}
use native.Mathlib.Decide.{dec_lt}
use native.Mathlib.Omega.{arith}
use Rattle.meaning.specs.Basics.{pick}
use Rattle.meaning.specs.Number.{num_f, num}

-- any fuel above the number writes all its groups
num_f_fuel : (f g n : ℕ) → n < f → n < g → num_f f n ≡ num_f g n
num_f_fuel zero g n l m = absurd (omega arith)
num_f_fuel (suc f) zero n l m = absurd (omega arith)
num_f_fuel (suc f) (suc g) n l m = go (dec_lt n 128) (λ a b. num_f_fuel f g (n / 128) a b)
  where
    go : (d : Dec (n < 128)) → (n / 128 < f → n / 128 < g → num_f f (n / 128) ≡ num_f g (n / 128))
        → pick d (n ∷ []) ((128 + n % 128) ∷ num_f f (n / 128)) ≡ pick d (n ∷ []) ((128 + n % 128) ∷ num_f g (n / 128))
    go (yes p) ih = refl
    go (no q) ih = ap (λ (bs : List ℕ). (128 + n % 128) ∷ bs) (ih (omega arith) (omega arith))

pub num_more : (n : ℕ) → 128 ≤ n → num n ≡ (128 + n % 128) ∷ num (n / 128)
num_more n le = go (dec_lt n 128)
  where
    go : (d : Dec (n < 128)) → pick d (n ∷ []) ((128 + n % 128) ∷ num_f n (n / 128)) ≡ (128 + n % 128) ∷ num (n / 128)
    go (yes p) = absurd (omega arith)
    go (no q) = ap (λ (bs : List ℕ). (128 + n % 128) ∷ bs) (num_f_fuel n (suc (n / 128)) (n / 128) (omega arith) (omega arith))
