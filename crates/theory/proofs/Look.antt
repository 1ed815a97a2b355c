-- Small laws that the other files use: contradictions, known decisions, and `look`, entry i of a list: where it is there, and what it is in a
-- list that was set, mapped or appended to. A table has no other rows than its entries, so a row is there exactly below the length.
use mathlib.Core.Path.{◌≡◌, refl, ap}
use mathlib.Core.Logic.{◌≢◌}
use mathlib.Core.Option.{some}
use mathlib.Core.List.{List, [], ◌∷◌, ◌++◌, map}
use Prim.Native.Nat.{ℕ, zero, suc, ◌+◌, ◌<◌}
use native.Mathlib.Nat.{zero-add, suc-add}
use native.Mathlib.Omega.{arith}
use lib.ListN.{length, set}
use Rattle.meaning.specs.Basics.{pick, look, mapped}
use Rattle.meaning.specs.TreeQuery.{Row, node, Table, at, Live}

-- two unequal constructors are never equal: `never cc`, from the equations at hand
pub never {ℓ} : {A : Type ℓ} → ◌≡◌ {A = ℕ} 0 1 → A
never e = absurd (omega arith)

-- a decision that is known chooses
pub pick_yes {κ} : {P : Type 0} {A : Type κ} (d : Dec P) (a b : A) → P → pick d a b ≡ a
pick_yes (yes _) a b p = refl
pick_yes (no np) a b p = absurd (np p)

pub pick_no {κ} : {P : Type 0} {A : Type κ} (d : Dec P) (a b : A) → ¬ P → pick d a b ≡ b
pick_no (yes p) a b np = absurd (np p)
pick_no (no _) a b np = refl

module _ {A : Type 0} where
  pub look_lt : (xs : List A) (i : ℕ) {a : A} → look xs i ≡ some a → i < length xs
  look_lt [] i e = never cc
  look_lt (x ∷ xs) zero e = omega arith
  look_lt (x ∷ xs) (suc i) e = let lt = look_lt xs i e in omega arith

  pub look_there : (xs : List A) (i : ℕ) → i < length xs → (a : A) × (look xs i ≡ some a)
  look_there [] i lt = absurd (omega arith)
  look_there (x ∷ xs) zero lt = (x, refl)
  look_there (x ∷ xs) (suc i) lt = look_there xs i (omega arith)

  pub look_set_same : (xs : List A) (i : ℕ) (a : A) → i < length xs → look (set xs i a) i ≡ some a
  look_set_same [] i a lt = absurd (omega arith)
  look_set_same (x ∷ xs) zero a lt = refl
  look_set_same (x ∷ xs) (suc i) a lt = look_set_same xs i a (omega arith)

  pub look_set_other : (xs : List A) (i j : ℕ) (a : A) → j ≢ i → look (set xs i a) j ≡ look xs j
  look_set_other [] i j a ne = refl
  look_set_other (x ∷ xs) zero zero a ne = absurd (ne refl)
  look_set_other (x ∷ xs) zero (suc j) a ne = refl
  look_set_other (x ∷ xs) (suc i) zero a ne = refl
  look_set_other (x ∷ xs) (suc i) (suc j) a ne = look_set_other xs i j a (λ e. ne (ap suc e))

  pub look_left : (xs ys : List A) (i : ℕ) → i < length xs → look (xs ++ ys) i ≡ look xs i
  look_left [] ys i lt = absurd (omega arith)
  look_left (x ∷ xs) ys zero lt = refl
  look_left (x ∷ xs) ys (suc i) lt = look_left xs ys i (omega arith)

  pub look_right : (xs ys : List A) (j : ℕ) → look (xs ++ ys) (length xs + j) ≡ look ys j
  look_right [] ys j = rw (zero-add j)
  look_right (x ∷ xs) ys j = rw (suc-add (length xs) j) (look_right xs ys j)

pub look_map : {A B : Type 0} (f : A → B) (xs : List A) (i : ℕ) → look (map f xs) i ≡ mapped f (look xs i)
look_map f [] i = refl
look_map f (x ∷ xs) zero = refl
look_map f (x ∷ xs) (suc i) = look_map f xs i

-- a row is there exactly below the length
pub live_lt : (T : Table) (i : ℕ) → Live T i → i < length T
live_lt T i (u, l, e) = look_lt T i e

pub lt_live : (T : Table) (i : ℕ) → i < length T → Live T i
lt_live T i lt = go (look_there T i lt)
  where
    go : (r : Row) × (at T i ≡ some r) → Live T i
    go (node u l, e) = (u, l, e)
