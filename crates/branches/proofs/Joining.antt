-- Laws of joined factors: the word of joined factors is what is written of them, and two writings one after the other are one.
use mathlib.Core.Path.{◌≡◌, refl, sym, ap, ◌∙◌}
use mathlib.Core.Bool.{Bool, true, false}
use mathlib.Core.List.{List, [], ◌∷◌, ◌++◌, append_assoc, append-nil}
use Prim.Native.Nat.{ℕ, ◌+◌, ◌/◌, ◌%◌, ◌≤◌, ◌<◌}
use native.Mathlib.Decide.{dec_lt}
use native.Mathlib.Omega.{arith}
use lib.ListN.{length, length-append}
use lib.Dec.{ltb}
use borrow.Author.Tests.{lt-ltb, le-ltb}
use Rattle.meaning.specs.Basics.{pick}
use Rattle.meaning.specs.Expression.{Expr, empty, self, child, parent, label, comp, inter, proj1, proj2, inv}
use Rattle.meaning.specs.Number.{num_f, num}
use Rattle.meaning.specs.Normal.{joined, all, word_of}
use Rattle.groups.specs.declared.Writer.{Writer}
use Rattle.groups.specs.Filled.{filled, Fits}
use Rattle.groups.proofs.Put.{length_put}
use Rattle.groups.proofs.Filled.{filled_then, filled_nil}
use Rattle.branches.specs.Joining.{joint, run, fill, factor, Takes, filled_by}

-- ------------------------------------------------------------------ words and their bytes
num_some : (n : ℕ) → 1 ≤ length (num n)
num_some n = go (dec_lt n 128)
  where
    go : (d : Dec (n < 128)) → 1 ≤ length (pick d (n ∷ []) ((128 + n % 128) ∷ num_f n (n / 128)))
    go (yes p) = omega arith
    go (no q) = omega arith

pub word_some : (e : Expr) → 1 ≤ length (word_of e)
word_some empty = omega arith
word_some self = omega arith
word_some child = omega arith
word_some parent = omega arith
word_some (label l) = num_some (9 + l)
word_some (comp e f) = omega (arith, word_some e, length-append (word_of e) (word_of f ++ (4 ∷ [])))
word_some (inter e f) = omega (arith, word_some e, length-append (word_of e) (word_of f ++ (7 ∷ [])))
word_some (proj1 e) = omega (arith, word_some e, length-append (word_of e) (5 ∷ []))
word_some (proj2 e) = omega (arith, word_some e, length-append (word_of e) (6 ∷ []))
word_some (inv e) = omega (arith, word_some e, length-append (word_of e) (8 ∷ []))

joined_run : (x : Expr) (xs : List Expr) → word_of (joined x xs) ≡ word_of x ++ run true xs
unfolding run
joined_run x [] = simp append-nil
joined_run x (y ∷ ys) = joined_run (comp x y) ys ∙ simp append_assoc

-- "Factors are joined from the left (x y 4 z 4)."
pub all_run : (x : Expr) (xs : List Expr) → word_of (all (x ∷ xs)) ≡ run false (x ∷ xs)
unfolding run
all_run x xs = joined_run x xs

-- the first factor of all goes to place `at`
pub fill_first : (at : ℕ) (x : Expr) (xs : List Expr) → fill at at (x ∷ xs) ≡ word_of (all (x ∷ xs))
unfolding fill
fill_first at x xs = let z : ltb at at ≡ false = le-ltb at at (omega arith) in ap (λ (b : Bool). run b (x ∷ xs)) z ∙ sym (all_run x xs)

pub fill_nil : (from at : ℕ) → fill from at [] ≡ []
unfolding fill run
fill_nil from at = refl

-- one factor and the sign that joins it
pub fill_one : (from at : ℕ) (x : Expr) → fill from at (x ∷ []) ≡ factor from at (word_of x)
unfolding fill run
fill_one from at x = simp append-nil

run_append : (xs ys : List Expr) → run true (xs ++ ys) ≡ run true xs ++ run true ys
unfolding run
run_append [] ys = refl
run_append (x ∷ xs) ys = rw (run_append xs ys) (simp append_assoc)

-- factors behind factors: something stands before the later ones if it stood before the earlier ones or these are some
pub fill_append : (from at : ℕ) (xs ys : List Expr) → from ≤ at
    → fill from at (xs ++ ys) ≡ fill from at xs ++ fill from (at + length (fill from at xs)) ys
unfolding fill run
fill_append from at [] ys l = let z : at + 0 ≡ at = omega arith in rw z
fill_append from at (x ∷ xs) ys l = go (ltb from at)
  where
    go : (b : Bool) → word_of x ++ (joint b ++ run true (xs ++ ys))
        ≡ (word_of x ++ (joint b ++ run true xs)) ++ run (ltb from (at + length (word_of x ++ (joint b ++ run true xs)))) ys
    go b =
        let w = word_some x in
        let n = length-append (word_of x) (joint b ++ run true xs) in
        let a : ℕ = at + length (word_of x ++ (joint b ++ run true xs)) in
        let z : ltb from a ≡ true = lt-ltb from a (omega arith) in
        rw (z, run_append xs ys) (simp append_assoc)

-- ------------------------------------------------------------------ writing
-- bytes, and then others
module _ (xs ys : List ℕ) (w : Writer) (l : Fits w (xs ++ ys)) where
  pub fits_first : Fits w xs
  fits_first = omega (arith, length-append xs ys)

  pub fits_rest : {w' : Writer} → w' ≡ filled w xs → Fits w' ys
  fits_rest e = rw e (omega (arith, length-append xs ys, length_put w.room.now w.length xs))

pub filled_both : (xs ys : List ℕ) (w : Writer) {w₁ w₂ : Writer} → w₁ ≡ filled w xs → w₂ ≡ filled w₁ ys → w₂ ≡ filled w (xs ++ ys)
filled_both xs ys w e f = f ∙ ap (λ v. filled v ys) e ∙ filled_then w xs ys

pub fill_child : (from at : ℕ) → fill from at (child ∷ []) ≡ factor from at (num 2)
unfolding dec_lt
fill_child from at = fill_one from at child

pub fill_parent : (from at : ℕ) → fill from at (parent ∷ []) ≡ factor from at (num 3)
unfolding dec_lt
fill_parent from at = fill_one from at parent

-- nothing joins the first factor
pub joint_none : (from at : ℕ) (w : Writer) → at ≤ from → w ≡ filled w (joint (ltb from at))
joint_none from at w l = rw (le-ltb from at l) (sym (filled_nil w))

-- no factors, and some behind others
pub filled_by_nil : (from : ℕ) (w : Writer) → filled_by from w [] ≡ w
filled_by_nil from w = ap (filled w) (fill_nil from w.length) ∙ filled_nil w

pub filled_by_both : (from : ℕ) (w : Writer) (ys zs : List Expr) {w₁ w₂ : Writer} → from ≤ w.length → w₁ ≡ filled_by from w ys
    → w₂ ≡ filled_by from w₁ zs → w₂ ≡ filled_by from w (ys ++ zs)
filled_by_both from w ys zs l e f =
    f ∙ ap (λ v. filled_by from v zs) e ∙ filled_then w (fill from w.length ys) _ ∙ ap (filled w) (sym (fill_append from w.length ys zs l))

-- ------------------------------------------------------------------ a list of factors, part by part
-- The writer has some factors of several; those that are left, ys, find room, and with them it is the writer z.
pub record Left (z : Writer) (from : ℕ) (w : Writer) (ys : List Expr) : Type 0 where
  pub reached : from ≤ w.length
  pub fits : Takes from w ys
  pub same : filled_by from w ys ≡ z

-- it has none of them yet
pub left_start : {w : Writer} {from : ℕ} {xs : List Expr} → from ≤ w.length → Takes from w xs → Left (filled_by from w xs) from w xs
left_start l f = record { reached = l; fits = f; same = refl }

module _ {z : Writer} {from : ℕ} {w : Writer} where
  pub left_is : {ys zs : List Expr} → ys ≡ zs → Left z from w ys → Left z from w zs
  left_is e L = rw e at L

  -- nothing is left
  pub left_end : Left z from w [] → w ≡ z
  left_end L = sym (filled_by_nil from w) ∙ L.same

  -- the next part
  module _ (ys zs : List Expr) (L : Left z from w (ys ++ zs)) where
    parts : fill from w.length (ys ++ zs) ≡ fill from w.length ys ++ fill from (w.length + length (fill from w.length ys)) zs
    parts = fill_append from w.length ys zs L.reached

    both : Fits w (fill from w.length ys ++ fill from (w.length + length (fill from w.length ys)) zs)
    both = rw (← parts) L.fits

    pub left_fits : Takes from w ys
    left_fits = fits_first (fill from w.length ys) _ w both

    pub left_step : {w' : Writer} → w' ≡ filled_by from w ys → Left z from w' zs
    left_step e =
        let q = L.reached in
        rw e (record {
          reached = omega arith;
          fits = fits_rest (fill from w.length ys) _ w both refl;
          same = filled_then w (fill from w.length ys) _ ∙ ap (filled w) (sym parts) ∙ L.same;
        })

  -- the next of them is a step down, one sign
  module _ {zs : List Expr} (L : Left z from w (child ∷ zs)) where
    pub child_fits : Fits w (factor from w.length (num 2))
    child_fits = rw (← fill_child from w.length) (left_fits (child ∷ []) zs L)

    pub child_step : {w' : Writer} → w' ≡ filled w (factor from w.length (num 2)) → Left z from w' zs
    child_step e = left_step (child ∷ []) zs L (e ∙ ap (filled w) (sym (fill_child from w.length)))
