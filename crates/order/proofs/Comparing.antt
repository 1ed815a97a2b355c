-- Comparisons with three answers, of numbers and of lists of bytes; "ascending byte order" is the comparison of bytes.
use mathlib.Core.Path.{◌≡◌, refl, ap, ◌∙◌}
use mathlib.Core.Logic.{◌⊎◌, inl, inr}
use mathlib.Core.List.{List, [], ◌∷◌}
use mathlib.Core.Bool.{true, false, cond}
use Prim.Native.Nat.{ℕ, ◌+◌, ◌*◌, ◌<◌, ◌≤◌}
use native.Mathlib.Omega.{arith}
use native.Mathlib.Decide.{dec_lt}
use native.Mathlib.Nat.{mul-le-mul_right}
use borrow.Author.Tests.{lt-ltb, le-ltb, eq-eqb, ne_eqb}
use Rattle.std.specs.Ordering.{ordering_then, is_le, nat_cmp}
use Rattle.std.specs.declared.cmp.Ordering.{Ordering}
use Rattle.std.specs.declared.cmp.Ordering.TheVariants.{Less, Equal, Greater}
use Rattle.meaning.specs.Basics.{pick}
use Rattle.meaning.specs.Image.{LeL, dec_l}
use Rattle.theory.proofs.Look.{never}

pub then_assoc : (a b c : Ordering) → ordering_then (ordering_then a b) c ≡ ordering_then a (ordering_then b c)
then_assoc Less b c = refl
then_assoc Equal b c = refl
then_assoc Greater b c = refl

-- ------------------------------------------------------------------ numbers
pub cmp_lt : (a b : ℕ) → a < b → nat_cmp a b ≡ Less
cmp_lt a b h = rw (lt-ltb a b h)

pub cmp_gt : (a b : ℕ) → b < a → nat_cmp a b ≡ Greater
cmp_gt a b h = let g : b ≤ a = omega arith in rw (le-ltb a b g, ne_eqb a b (λ e. omega arith))

pub cmp_eq : (a b : ℕ) → b ≤ a → a ≤ b → nat_cmp a b ≡ Equal
cmp_eq a b h g = let e : a ≡ b = omega arith in rw (le-ltb a b h, eq-eqb a b e)

-- what an answer says
pub data Three (a b : ℕ) : Type 0 where
  lower : a < b → nat_cmp a b ≡ Less → Three a b
  equal : a ≡ b → nat_cmp a b ≡ Equal → Three a b
  upper : b < a → nat_cmp a b ≡ Greater → Three a b

pub three : (a b : ℕ) → Three a b
three a b = go (dec_lt a b) (dec_lt b a)
  where
    go : Dec (a < b) → Dec (b < a) → Three a b
    go (yes p) d = lower p (cmp_lt a b p)
    go (no n) (yes p) = upper p (cmp_gt a b p)
    go (no n) (no m) = equal (omega arith) (cmp_eq a b (omega arith) (omega arith))

-- numbers in two digits compare digit by digit, whatever the first one weighs
pub digit_cmp : (W a a' b b' : ℕ) → b < W → b' < W → nat_cmp (a * W + b) (a' * W + b') ≡ ordering_then (nat_cmp a a') (nat_cmp b b')
digit_cmp W a a' b b' l l' = go (three a a') (three b b')
  where
    X : ℕ
    X = a * W + b

    Y : ℕ
    Y = a' * W + b'

    go : Three a a' → Three b b' → nat_cmp X Y ≡ ordering_then (nat_cmp a a') (nat_cmp b b')
    go (lower h e) y = let m = mul-le-mul_right W h in cmp_lt X Y (omega arith) ∙ rw e
    go (upper h e) y = let m = mul-le-mul_right W h in cmp_gt X Y (omega arith) ∙ rw e
    go (equal z e) (lower h e') = let m = ap (λ (x : ℕ). x * W) z in cmp_lt X Y (omega arith) ∙ rw (e, e')
    go (equal z e) (upper h e') = let m = ap (λ (x : ℕ). x * W) z in cmp_gt X Y (omega arith) ∙ rw (e, e')
    go (equal z e) (equal h e') = let m = ap (λ (x : ℕ). x * W) z in cmp_eq X Y (omega arith) (omega arith) ∙ rw (e, e')

-- ------------------------------------------------------------------ bytes
unfoldable pub cmp_l : List ℕ → List ℕ → Ordering
cmp_l [] [] = Equal
cmp_l [] (y ∷ ys) = Less
cmp_l (x ∷ xs) [] = Greater
cmp_l (x ∷ xs) (y ∷ ys) = ordering_then (nat_cmp x y) (cmp_l xs ys)

pub cmp_same : (xs ys : List ℕ) → cmp_l xs ys ≡ Equal → xs ≡ ys
unfolding cmp_l
cmp_same [] [] h = refl
cmp_same [] (y ∷ ys) h = never cc
cmp_same (x ∷ xs) [] h = never cc
cmp_same (x ∷ xs) (y ∷ ys) h = go (three x y) (cmp_same xs ys)
  where
    go : Three x y → (cmp_l xs ys ≡ Equal → xs ≡ ys) → x ∷ xs ≡ y ∷ ys
    go (lower l e) ih = let z : Less ≡ Equal = rw e at h in never cc
    go (upper l e) ih = let z : Greater ≡ Equal = rw e at h in never cc
    go (equal l e) ih = let t : xs ≡ ys = ih (rw e at h) in cc

le_cmp : (xs ys : List ℕ) → LeL xs ys → is_le (cmp_l xs ys) ≡ true
unfolding cmp_l
le_cmp [] [] h = refl
le_cmp [] (y ∷ ys) h = refl
le_cmp (x ∷ xs) [] h = absurd h
le_cmp (x ∷ xs) (y ∷ ys) h = go (three x y) h (le_cmp xs ys)
  where
    go : Three x y → (x < y) ⊎ ((x ≡ y) × LeL xs ys) → (LeL xs ys → is_le (cmp_l xs ys) ≡ true) → is_le (ordering_then (nat_cmp x y) (cmp_l xs ys)) ≡ true
    go (lower l e) z ih = rw e
    go (equal q e) (inl z) ih = absurd (omega arith)
    go (equal q e) (inr (z, z')) ih = rw e (ih z')
    go (upper l e) (inl z) ih = absurd (omega arith)
    go (upper l e) (inr (z, z')) ih = absurd (omega arith)

not_le_cmp : (xs ys : List ℕ) → ¬ LeL xs ys → is_le (cmp_l xs ys) ≡ false
unfolding cmp_l
not_le_cmp [] ys h = absurd (h tt)
not_le_cmp (x ∷ xs) [] h = refl
not_le_cmp (x ∷ xs) (y ∷ ys) h = go (three x y) (not_le_cmp xs ys)
  where
    go : Three x y → (¬ LeL xs ys → is_le (cmp_l xs ys) ≡ false) → is_le (ordering_then (nat_cmp x y) (cmp_l xs ys)) ≡ false
    go (lower l e) ih = absurd (h (inl l))
    go (equal q e) ih = rw e (ih (λ z. h (inr (q, z))))
    go (upper l e) ih = rw e

-- ascending byte order, decided, is the comparison of bytes
pub pick_cmp : {A : Type 0} (xs ys : List ℕ) (a b : A) → pick (dec_l xs ys) a b ≡ cond (is_le (cmp_l xs ys)) a b
pick_cmp {A} xs ys a b = go (dec_l xs ys)
  where
    go : (d : Dec (LeL xs ys)) → pick d a b ≡ cond (is_le (cmp_l xs ys)) a b
    go (yes p) = rw (le_cmp xs ys p)
    go (no n) = rw (not_le_cmp xs ys n)
