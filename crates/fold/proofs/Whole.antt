-- "Folding stops when no two brothers anywhere in the tree are left that fold" (01, Folding): the rows from the last to the first, each row's children
-- folded to the end. What is left is the minimal tree up to the order of brothers.
use mathlib.Core.Path.{◌≡◌, refl, sym, subst, ◌∙◌}
use mathlib.Core.Logic.{◌⊎◌, inl, inr, ⊎_elim}
use mathlib.Core.Bool.{Bool, true, false}
use mathlib.Core.List.{List}
use Prim.Native.Nat.{ℕ, ◌+◌, ◌/◌, ◌%◌, ◌^◌, ◌≤◌, ◌<◌}
use native.Mathlib.Omega.{arith}
use native.Mathlib.Decide.{ℕ_discrete}
use lib.ListN.{length, get_or}
use Rattle.meaning.specs.Tree.{Forest, bare, tree, Tag}
use Rattle.meaning.specs.Folding.{Reduced, minimal}
use Rattle.theory.proofs.Folding.{Equal, equal_trans, equal_tree}
use Rattle.theory.proofs.Unique.{minimal_same}
use Rattle.theory.proofs.Records.{same_ordered}
use Rattle.rows.specs.Rows.{below, shape, map_t, tree_rows, Holds, width, Rows}
use Rattle.rows.proofs.Rows.{Opens, row_opens}
use Rattle.bits.specs.Bits.{bit_of}
use Rattle.onto.specs.Left.{Nodes, marked, tag_of, gone_bit, gone_at, Gone, Brother, left, left_below, kept_tree}
use Rattle.onto.specs.Onto.{Stands}
use Rattle.onto.proofs.Brothers.{brother_range, brother_apart}
use Rattle.onto.proofs.Left.{not_both, left_bare, left_here, left_away, left_ind}
use Rattle.brothers.specs.Brothers.{NoneFold, ChildrenFolded}
use Rattle.brothers.proofs.Children.{gone_tag, same_tag, gone_both, below_same}
use Rattle.fold.specs.Kept.{Whole, RowsFolded}

-- the top is the only tree of a tree
top_brother : (span : List ℕ) (n : ℕ) (F : Forest ℕ) → Holds span 0 n F → width F ≤ 1 → (c : ℕ) → Brother c F → c ≡ 0
top_brother span n bare h l c t = absurd t
top_brother span n (tree i k (tree j k' r)) h l c t = absurd (omega arith)
top_brother span n (tree i k bare) h l c (inl e) = e ∙ sym h.0
top_brother span n (tree i k bare) h l c (inr t) = absurd t

-- ------------------------------------------------------------------ brothers of which each is folded below
module _ (t : Nodes) (u e : ℕ) (F : Forest ℕ) (h : Holds t.span u e F) where
  -- where all are there, folded below, they fold onto the whole and back; T says what they bear
  equal_brothers : (T : ℕ → Tag) → ((c : ℕ) → tag_of t c ≡ T c) → ((c : ℕ) → Brother c F → gone_at t.mark c ≡ false)
      → ((c : ℕ) → Brother c F → Equal (map_t T (below t.span c)) (left_below t c)) → Equal (map_t T F) (left t F)
  unfolding map_t
  equal_brothers T same =
      left_ind t
      (λ G L. ((c : ℕ) → Brother c G → gone_at t.mark c ≡ false) → ((c : ℕ) → Brother c G → Equal (map_t T (below t.span c)) (left_below t c))
      → Equal (map_t T G) L) u e (λ a b. (tt, tt))
      (λ i r l o g f. (
        λ d a b. subst (λ x. Equal (tree (T i) (map_t T (below t.span i)) (map_t T r)) (tree x (left_below t i) (left t r))) (sym (same i))
            (equal_tree (T i) (map_t T (below t.span i)) (left_below t i) (map_t T r) (left t r) (b i (inl refl))
            (f (λ c n. a c (inr n)) (λ c n. b c (inr n)))),
        λ d a b. not_both d (a i (inl refl)),
      )) F h

  -- where none folds among them and each is folded to the end below, they are folded to the end
  reduced_brothers : NoneFold (left t F) → ((c : ℕ) → Brother c F → Reduced (left_below t c)) → Reduced (left t F)
  reduced_brothers =
      left_ind t (λ G L. NoneFold L → ((c : ℕ) → Brother c G → Reduced (left_below t c)) → Reduced L) u e (λ a b. tt)
      (λ i r l o g f. (λ d a b. (b i (inl refl), f a.0 (λ c n. b c (inr n)), a.1, a.2), λ d a b. f a (λ c n. b c (inr n)))) F h

apart_single : (t : Nodes) (F : Forest ℕ) → width F ≤ 1 → NoneFold (left t F)
apart_single t bare l = rw (left_bare t) tt
apart_single t (tree i k (tree j k' r)) l = absurd (omega arith)
apart_single t (tree i k bare) l = go (gone_at t.mark i) refl
  where
    go : (b : Bool) → gone_at t.mark i ≡ b → NoneFold (left t (tree i k bare))
    go false d = rw (left_here t i k bare d, left_bare t) (tt, λ x. x, λ x. x)
    go true d = rw (left_away t i k bare d, left_bare t) tt

-- ------------------------------------------------------------------ the rows from b on
-- row j has gone: its parent's children are folded
pub record Went (mark span : List ℕ) (n b : ℕ) (mark' : List ℕ) (j : ℕ) : Type 0 where
  pub lower : 0 < j
  pub inside : j < n
  pub gone : Gone (get_or mark j 0) (get_or mark' j 0)
  pub parent : ℕ
  pub from : b ≤ parent
  pub row : parent < n
  pub child : Brother j (below span parent)

-- below each row from b on what is left is folded to the end, and only children of such rows have gone
pub record Settled (t : Nodes) (n b : ℕ) (mark' : List ℕ) : Type 0 where
  pub until : b ≤ n
  pub long : length mark' ≡ length t.mark
  pub only : (j : ℕ) → (get_or mark' j 0 ≡ get_or t.mark j 0) ⊎ Went t.mark t.span n b mark' j
  pub equal : (q : ℕ) → b ≤ q → q < n → Equal (map_t (tag_of t) (below t.span q)) (left_below (marked t mark') q)
  pub reduced : (q : ℕ) → b ≤ q → q < n → Reduced (left_below (marked t mark') q)

pub settled_none : (t : Nodes) (n : ℕ) → Settled t n n t.mark
settled_none t n =
    record { until = omega arith; long = refl; only = λ j. inl refl; equal = λ q l m. absurd (omega arith); reduced = λ q l m. absurd (omega arith) }

module _ {t : Nodes} {n : ℕ} (R : Whole t.mark t.span n) {b : ℕ} {mark' : List ℕ} (T : Settled t n b mark') where
  pub settled_stands : (p : ℕ) → p < n → Stands (marked t mark') p
  settled_stands p l = let o = row_opens t.span n R.laid p l in record { some = o.some; few = omega (arith, o.inside, R.few); held = o.held }

  -- rows bear what they bore
  settled_tag : (i : ℕ) → tag_of (marked t mark') i ≡ tag_of t i
  settled_tag i = ⊎_elim (same_tag t.code t.mark mark' i) (λ w. gone_tag t.code t.mark mark' i w.gone) (T.only i)

  -- a row that no such row has for its child is there
  stays : (c : ℕ) → c < n → (Went t.mark t.span n b mark' c → ⊥) → gone_at mark' c ≡ false
  stays c l f = ⊎_elim (λ e. rw e (R.there c l)) (λ w. absurd (f w)) (T.only c)

module _ {t : Nodes} {n : ℕ} (R : Whole t.mark t.span n) {mark' : List ℕ} where
  pub settled_all : Settled t n 0 mark' → RowsFolded t n mark'
  unfolding tree_rows
  settled_all T =
      record {
        least =
            same_ordered (kept_tree (marked t mark') n) (minimal (tree_rows t.code t.mark t.span n))
            (minimal_same (tree_rows t.code t.mark t.span n) (kept_tree (marked t mark') n)
            (reduced_brothers (marked t mark') 0 n (shape t.span n) R.laid (apart_single (marked t mark') (shape t.span n) R.single)
            (λ c s. T.reduced c (omega arith) (brother_range t.span 0 n (shape t.span n) R.laid c s).1))
            (equal_brothers (marked t mark') 0 n (shape t.span n) R.laid (tag_of t) (settled_tag R T)
            (λ c s. stays R T c (brother_range t.span 0 n (shape t.span n) R.laid c s).1
            (λ w. omega (arith, w.lower, top_brother t.span n (shape t.span n) R.laid R.single c s)))
            (λ c s. T.equal c (omega arith) (brother_range t.span 0 n (shape t.span n) R.laid c s).1)));
        only = λ j. ⊎_elim inl (λ w. inr (w.lower, w.inside, w.gone)) (T.only j);
        long = T.long;
      }

-- the children of row p are folded to the end, those of the rows behind it were before
module _ {t : Nodes} {n : ℕ} (R : Whole t.mark t.span n) {p : ℕ} {mark₁ mark' : List ℕ} (T : Settled t n (p + 1) mark₁)
    (C : ChildrenFolded (marked t mark₁) p mark') where
  abbrev P : Forest ℕ
  P = below t.span p

  o : Opens t.span p n
  o = row_opens t.span n R.laid p (omega (arith, T.until))

  behind : (q : ℕ) → p < q → q < n → left_below (marked t mark') q ≡ left_below (marked t mark₁) q
  behind q l m = below_same (marked t mark₁) C.only (row_opens t.span n R.laid q m) l o.held

  inside : (c : ℕ) → Brother c P → (p < c) × (c < n)
  inside c s = let z = brother_range t.span _ _ P o.held c s in (z.0, omega (arith, z.1, o.inside))

  -- a child of p is no child of a row behind it
  stayed : (c : ℕ) → Brother c P → gone_at mark₁ c ≡ false
  stayed c s =
      stays R T c (inside c s).1 (λ w.
      let v = row_opens t.span n R.laid w.parent w.row in
      let z = brother_range t.span _ _ (below t.span w.parent) v.held c w.child in
      brother_apart t.span _ _ P o.held c s w.parent (omega (arith, w.from)) z.0 z.1)

  equal_p : Equal (map_t (tag_of t) P) (left_below (marked t mark') p)
  equal_p =
      equal_trans (map_t (tag_of t) P) (left_below (marked t mark₁) p) (left_below (marked t mark') p)
      (equal_brothers (marked t mark₁) _ _ P o.held (tag_of t) (settled_tag R T) stayed
      (λ c s. let z = inside c s in T.equal c (omega arith) z.1)) (C.to, C.from)

  reduced_p : Reduced (left_below (marked t mark') p)
  reduced_p =
      reduced_brothers (marked t mark') _ _ P o.held C.apart
      (λ c s. let z = inside c s in rw (behind c z.0 z.1) (T.reduced c (omega arith) z.1))

  pub settled_more : Settled t n p mark'
  settled_more =
      record {
        until = omega (arith, T.until);
        long = C.long ∙ T.long;
        only = λ j. elim (C.only j) [
          | inl e ↦ elim (T.only j) [ inl f ↦ inl (e ∙ f) | inr w ↦ inr (before j w (rw (sym e) at w.gone)) ]
          | inr g ↦ inr (went j g.child (elim (T.only j) [ inl f ↦ rw f at g.gone | inr w ↦ gone_both w.gone g.gone ]))
        ];
        equal = λ q l m. elim (ℕ_discrete p q) [ yes e ↦ rw (← e) equal_p | no d ↦ rw (behind q (omega arith) m) (T.equal q (omega arith) m) ];
        reduced = λ q l m. elim (ℕ_discrete p q) [ yes e ↦ rw (← e) reduced_p | no d ↦ rw (behind q (omega arith) m) (T.reduced q (omega arith) m) ];
      }
    where
      went : (j : ℕ) → Brother j P → Gone (get_or t.mark j 0) (get_or mark' j 0) → Went t.mark t.span n p mark' j
      went j s g =
          let z = inside j s in
          record { lower = omega (arith, z.0); inside = z.1; gone = g; parent = p; from = omega arith; row = omega (arith, T.until); child = s }

      before : (j : ℕ) → Went t.mark t.span n (p + 1) mark₁ j → Gone (get_or t.mark j 0) (get_or mark' j 0) → Went t.mark t.span n p mark' j
      before j w g = record { lower = w.lower; inside = w.inside; gone = g; parent = w.parent; from = omega (arith, w.from); row = w.row; child = w.child }

-- ------------------------------------------------------------------ rows in image order
-- no mark of a tree says that its row has gone
small_there : (m : ℕ) → m ≤ 3 → bit_of m gone_bit ≡ false
unfolding bit_of
small_there m l = let z : m / 2 ^ 7 % 2 ≡ 0 = omega arith in rw z

pub rows_whole : {code mark kids span up : List ℕ} {n : ℕ} → Rows code mark kids span up n → Whole mark span n
rows_whole R = record {
  few = R.few;
  marks = R.marks;
  there = λ u l. small_there _ (R.marked u l);
  laid = R.laid;
  single = R.single;
}
