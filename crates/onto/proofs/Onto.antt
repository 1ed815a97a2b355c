-- Laws of the folding test: answers that tell, marks and labels by their numbers, and the height of what lies below a row, which falls from a row to its
-- children.
use mathlib.Core.Path.{◌≡◌, refl, sym, ap, ◌∙◌}
use mathlib.Core.Logic.{inl, inr}
use mathlib.Core.Bool.{Bool, true, false, beq, ◌&&◌}
use mathlib.Core.List.{List}
use Prim.Native.Nat.{ℕ, zero, suc, ◌+◌, ◌/◌, ◌%◌, ◌^◌, ◌≤◌, ◌<◌}
use native.Mathlib.Omega.{arith}
use lib.ListN.{get_or}
use Rattle.std.proofs.Common.{Some}
use lib.Dec.{eqb}
use lib.Bits.{bit_and, bit_or, and_mod}
use borrow.Author.Tests.{eqb-true, eqb-false}
use Rattle.meaning.specs.Basics.{is, dec_both}
use Rattle.meaning.specs.Tree.{Forest, bare, tree, size}
use Rattle.meaning.specs.Folding.{LabLe, TagLe, dec_mark}
use Rattle.theory.proofs.Look.{never}
use Rattle.theory.proofs.Canon.{height}
use Rattle.bits.specs.Bits.{bit_of, all_to}
use Rattle.bits.proofs.Bits.{all_to_lem, both}
use Rattle.rows.specs.Rows.{lab_of, below, Holds, Reaches}
use Rattle.rows.specs.Brothers.{GivesBrother}
use Rattle.rows.specs.declared.brothers.Brothers.{Brothers}
use Rattle.rows.proofs.Rows.{Opens, holds_first, holds_opens}
use Rattle.onto.specs.Left.{Nodes, tag_of, gone_at, Gone, Brother}
use Rattle.onto.specs.Onto.{Tells, so, not_so, MarksLe, FitsLeft, ChildrenFold, OntoRow, Lands, Stands}
use Rattle.onto.proofs.Brothers.{brother_range, Over, over_child, over_all}
use Rattle.onto.proofs.Left.{not_both, any_of_row, row_of_any, folds_of_rows, row_of_folds}

-- ------------------------------------------------------------------ answers that tell
module _ {P : Type 0} where
  pub yes_told : {r : Bool} → Tells P r → r ≡ true → P
  yes_told (so p) e = p
  yes_told (not_so n) e = never cc

  pub no_told : {r : Bool} → Tells P r → r ≡ false → ¬ P
  no_told (so p) e = never cc
  no_told (not_so n) e = n

  pub same_tells : {Q : Type 0} {r : Bool} → (P → Q) → (Q → P) → Tells P r → Tells Q r
  same_tells to from (so p) = so (to p)
  same_tells to from (not_so n) = not_so (λ q. n (from q))

  is_tells : (d : Dec P) → Tells P (is d)
  is_tells (yes p) = so p
  is_tells (no n) = not_so n

-- P is so: Q tells
pub both_tell : {P Q : Type 0} {r s : Bool} → Tells P r → r ≡ true → Tells Q s → Tells (P × Q) s
both_tell p e = same_tells (λ q. (yes_told p e, q)) (λ z. z.1)

-- P is not so
pub first_fails : {P Q : Type 0} {r : Bool} → Tells P r → r ≡ false → Tells (P × Q) r
first_fails p e = rw e (not_so (λ z. no_told p e z.0))

pub left_fits : (t : Nodes) (a : ℕ) (t' : Nodes) (b : ℕ) {r : Bool} → gone_at t'.mark b ≡ false → Tells (TagLe (tag_of t a) (tag_of t' b)) r
    → Tells (FitsLeft t a t' b) r
left_fits t a t' b e = same_tells (λ q. (e, q)) (λ z. z.1)

pub gone_fits : (t : Nodes) (a : ℕ) (t' : Nodes) (b : ℕ) → gone_at t'.mark b ≡ true → Tells (FitsLeft t a t' b) false
gone_fits t a t' b e = not_so (λ z. not_both e z.0)

pub eqb_tells : (x y : ℕ) → Tells (x ≡ y) (eqb x y)
eqb_tells x y = go (eqb x y) refl
  where
    go : (b : Bool) → eqb x y ≡ b → Tells (x ≡ y) b
    go true e = so (eqb-true x y e)
    go false e = not_so (eqb-false x y e)

-- ------------------------------------------------------------------ marks and labels
same_bool : (x y : Bool) → beq x y ≡ true → x ≡ y
same_bool true true e = refl
same_bool false false e = refl
same_bool true false e = never cc
same_bool false true e = never cc

pub marks_none : (s t : ℕ) → s ≡ 0 → Tells (MarksLe s t) (eqb s 0)
unfolding bit_of
marks_none s t e = rw e (so (tt, tt))

abbrev marks_fit : ℕ → ℕ → Bool
marks_fit s t = is (dec_both (dec_mark (bit_of s 0) (bit_of t 0)) (dec_mark (bit_of s 1) (bit_of t 1)))

-- the marks of two rows, by the two lowest bits of each number: sixteen cases
all_fit : all_to 4 (λ s. all_to 4 (λ t. beq (eqb (bit_and s t) s) (marks_fit s t))) ≡ true
unfolding all_to bit_of dec_mark
all_fit = refl

low_bits : (s t : ℕ) → marks_fit (s % 4) (t % 4) ≡ marks_fit s t
unfolding bit_of
low_bits s t =
    let a : s % 4 / 2 ^ 0 % 2 ≡ s / 2 ^ 0 % 2 = omega arith in
    let b : t % 4 / 2 ^ 0 % 2 ≡ t / 2 ^ 0 % 2 = omega arith in
    let c : s % 4 / 2 ^ 1 % 2 ≡ s / 2 ^ 1 % 2 = omega arith in
    let d : t % 4 / 2 ^ 1 % 2 ≡ t / 2 ^ 1 % 2 = omega arith in
    rw (a, b, c, d)

pub marks_tell : (s t : ℕ) → Tells (MarksLe s t) (eqb (bit_and s t % 4) (s % 4))
marks_tell s t =
    rw (ap (λ (n : ℕ). eqb n (s % 4)) (and_mod s t 2)
    ∙ same_bool _ _ (all_to_lem 4 _ (all_to_lem 4 _ all_fit (s % 4) (omega arith)) (t % 4) (omega arith))
    ∙ low_bits s t) (is_tells (dec_both (dec_mark (bit_of s 0) (bit_of t 0)) (dec_mark (bit_of s 1) (bit_of t 1))))

-- the mark of a row that goes, for every byte
all_go : all_to 256 (λ m. bit_of (bit_or m 128) 7 && all_to 7 (λ k. beq (bit_of (bit_or m 128) k) (bit_of m k))) ≡ true
unfolding all_to bit_of
all_go = refl

pub goes_away : (m : ℕ) → m < 256 → Gone m (bit_or m 128)
goes_away m l =
    let z = both _ _ (all_to_lem 256 _ all_go m l) in
    record { away = z.0; other = λ k b. same_bool _ _ (all_to_lem 7 _ z.1 k b) }

pub label_any : (x y : ℕ) → x ≡ 0 → Tells (LabLe (lab_of x) (lab_of y)) (eqb x 0)
label_any x y e = rw e (so tt)

label_same : (x : ℕ) → LabLe (lab_of x) (lab_of x)
label_same zero = tt
label_same (suc l) = refl

label_is : (x y : ℕ) → ¬ (x ≡ 0) → LabLe (lab_of x) (lab_of y) → x ≡ y
label_is zero y n l = absurd (n refl)
label_is (suc a) zero n l = absurd l
label_is (suc a) (suc b) n l = ap suc l

pub label_tells : (x y : ℕ) → ¬ (x ≡ 0) → Tells (LabLe (lab_of x) (lab_of y)) (eqb x y)
label_tells x y n = same_tells (λ e. rw e (label_same y)) (label_is x y n) (eqb_tells x y)

-- ------------------------------------------------------------------ rows
height_child : (span : List ℕ) (u e : ℕ) (F : Forest ℕ) → Holds span u e F → (a : ℕ) → Brother a F → height (below span a) < height F
height_child span u e bare h a t = absurd t
height_child span u e (tree i k r) h a (inl q) =
    let z : below span a ≡ k = ap (below span) (q ∙ sym h.0) ∙ (holds_first span u e i k r h).0 in rw z (omega arith)
height_child span u e (tree i k r) h a (inr t) = let z = height_child span (suc i + size k) e r h.3 a t in omega arith

module _ {t : Nodes} {u : ℕ} (S : Stands t u) where
  -- a row below it stands as well
  pub stands_opens : {a e : ℕ} → Opens t.span a e → e ≡ u + get_or t.span u 0 → Stands t a
  stands_opens o q = record { some = o.some; few = omega (arith, o.inside, S.few); held = o.held }

  -- it and all below it reach as far as their spans say
  pub stands_reaches : Reaches t.span u
  stands_reaches =
      record {
        within = omega (arith, S.some, S.few);
        inside = S.few;
        onward = λ c a b. (holds_opens t.span _ _ (below t.span u) S.held c (omega arith) b).some;
      }

  module _ {P : ℕ → Type 0} {b : Brothers} {c : ℕ} (O : Over t.span u P b) (b' : Brothers) (G : GivesBrother b (Some c) b') where
    pub stands_child : Stands t c
    stands_child = stands_opens (over_child O b' G).1 O.ends

    -- "the height of u falling"
    pub height_falls : height (below t.span c) < height (below t.span u)
    height_falls = height_child t.span _ _ (below t.span u) O.held c (over_child O b' G).0

-- ------------------------------------------------------------------ the loops of the test
-- row a does not fold onto y, if y is still there
abbrev pub Misses : Nodes → ℕ → Nodes → ℕ → Type 0
Misses t a t' y = gone_at t'.mark y ≡ false → ¬ OntoRow t a t' y

module _ (t : Nodes) (a : ℕ) (t' : Nodes) (v : ℕ) {b : Brothers} (O : Over t'.span v (Misses t a t') b) where
  pub lands_here : {c : ℕ} (b' : Brothers) → GivesBrother b (Some c) b' → FitsLeft t a t' c → ChildrenFold t a t' c → Lands t a t' v
  lands_here {c} b' G f g = any_of_row t' _ _ (below t'.span v) O.held _ c (over_child O b' G).0 f.0 (f.1, g)

  pub lands_nowhere : b.end ≤ b.next → ¬ Lands t a t' v
  lands_nowhere l x = let w = row_of_any t' _ _ (below t'.span v) O.held _ x in over_all O l w.0 w.1 w.2 w.3

-- row x, if it is still there, folds onto some child of v
abbrev pub Landed : Nodes → Nodes → ℕ → ℕ → Type 0
Landed t t' v x = gone_at t.mark x ≡ false → Lands t x t' v

module _ (t : Nodes) (u : ℕ) (t' : Nodes) (v : ℕ) {b : Brothers} (O : Over t.span u (Landed t t' v) b) where
  pub all_landed : b.end ≤ b.next → ChildrenFold t u t' v
  all_landed l = folds_of_rows t _ _ (below t.span u) O.held _ (over_all O l)

  pub none_landed : {c : ℕ} (b' : Brothers) → GivesBrother b (Some c) b' → gone_at t.mark c ≡ false → ¬ Lands t c t' v → ¬ ChildrenFold t u t' v
  none_landed {c} b' G q n f = n (row_of_folds t _ _ (below t.span u) O.held _ f c (over_child O b' G).0 q)

-- a row with nothing below it
pub lone_folds : (t : Nodes) (u : ℕ) (t' : Nodes) (v : ℕ) → Stands t u → get_or t.span u 0 ≡ 1 → ChildrenFold t u t' v
lone_folds t u t' v S q =
    folds_of_rows t _ _ (below t.span u) S.held _ (λ x n. absurd (omega (arith, brother_range t.span _ _ (below t.span u) S.held x n)))
