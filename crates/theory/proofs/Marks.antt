-- What the nodes of a query's tree bear: one is s and one is d, before and after folding, and every label comes from a row.
-- "u's marks are among v's": a mark folds only onto a mark, so s and d never vanish.
use mathlib.Core.Path.{◌≡◌, refl, ap, ◌∙◌}
use mathlib.Core.Logic.{inl, inr}
use mathlib.Core.Option.{Option, none, some}
use mathlib.Core.Bool.{Bool, true, false}
use mathlib.Core.List.{List, [], ◌∷◌}
use Prim.Native.Nat.{ℕ, zero, suc, ◌+◌, ◌≤◌, ◌<◌}
use native.Mathlib.Decide.{dec_lt}
use native.Mathlib.Omega.{arith}
use lib.ListN.{length}
use Rattle.meaning.specs.Basics.{pick}
use Rattle.meaning.specs.TreeQuery.{any, lab, Row, node, at, Query, TreeQuery}
use Rattle.meaning.specs.Tree.{Forest, bare, tree, Tag, Any, kids_from, lab_row, tag_of, plant, grow, tree_of}
use Rattle.meaning.specs.Folding.{MarkLe, TagLe, Folds, Onto, dec_any, dec_onto, sift, add, minimal}
use Rattle.theory.proofs.Count.{bit, count, src, dst}
use Rattle.theory.proofs.Labels.{LabIn, LabsIn}
use Rattle.meaning.specs.Image.{ordered}
use Rattle.theory.proofs.Minimal.{minimal_to}
use Rattle.theory.proofs.Order.{ordered_count}
use Rattle.theory.proofs.Children.{one_top}
use Rattle.theory.proofs.Weigh.{one_source, one_dest}

-- ------------------------------------------------------------------ what every removal of a tree keeps, folding keeps
-- E f g: f is left of g
record Dropping (E : Forest Tag → Forest Tag → Type 0) : Type 0 where
  same : (f : Forest Tag) → E f f
  via : (f g h : Forest Tag) → E f g → E g h → E f h
  under : (a : Tag) (k k' r r' : Forest Tag) → E k k' → E r r' → E (tree a k r) (tree a k' r')
  drop : (a : Tag) (k r : Forest Tag) → E r (tree a k r)

module _ (E : Forest Tag → Forest Tag → Type 0) (O : Dropping E) where
  sift_left : (P : Tag → Forest Tag → Type 0) (d : (a : Tag) (k : Forest Tag) → Dec (P a k)) (f : Forest Tag) → E (sift P d f) f
  unfolding sift
  sift_left P d bare = O.same bare
  sift_left P d (tree a k r) = go (d a k) (sift_left P d r)
    where
      go : (c : Dec (P a k)) → E (sift P d r) r → E (pick c (sift P d r) (tree a k (sift P d r))) (tree a k r)
      go (yes p) x = O.via (sift P d r) r (tree a k r) x (O.drop a k r)
      go (no np) x = O.under a k k (sift P d r) r (O.same k) x

  add_left : (a : Tag) (k f : Forest Tag) → E (add a k f) (tree a k f)
  unfolding add
  add_left a k f = go (dec_any (Onto a k) (dec_onto a k) f)
    where
      S : Forest Tag
      S = sift (λ b j. Onto b j a k) (λ b j. dec_onto b j a k) f

      go : (c : Dec (Any (Onto a k) f)) → E (pick c f (tree a k S)) (tree a k f)
      go (yes x) = O.drop a k f
      go (no nx) = O.under a k k S f (O.same k) (sift_left (λ b j. Onto b j a k) (λ b j. dec_onto b j a k) f)

  minimal_left : (f : Forest Tag) → E (minimal f) f
  unfolding minimal
  minimal_left bare = O.same bare
  minimal_left (tree a k r) =
      O.via (add a (minimal k) (minimal r)) (tree a (minimal k) (minimal r)) (tree a k r) (add_left a (minimal k) (minimal r))
      (O.under a (minimal k) k (minimal r) r (minimal_left k) (minimal_left r))

-- the top stays the top
pub minimal_top : (a : Tag) (k : Forest Tag) → minimal (tree a k bare) ≡ tree a (minimal k) bare
unfolding minimal add sift dec_any
minimal_top a k = refl

-- ------------------------------------------------------------------ marks
module _ (q : Tag → Bool) (mono : (a b : Tag) → TagLe a b → MarkLe (q a) (q b)) where
  mark_bit : (x y : Bool) → MarkLe x y → bit x ≤ bit y
  mark_bit false y le = omega arith
  mark_bit true false le = absurd le
  mark_bit true true le = omega arith

  any_count : (P : Tag → Forest Tag → Type 0) (g : Forest Tag) → ((b : Tag) (j : Forest Tag) → P b j → 1 ≤ bit (q b) + count q j) → Any P g
      → 1 ≤ count q g
  any_count P bare each x = absurd x
  any_count P (tree b j r) each (inl p) = let z = each b j p in omega arith
  any_count P (tree b j r) each (inr x) = let z = any_count P r each x in omega arith

  -- what folds onto a forest without the mark has none
  folds_count : (f g : Forest Tag) → Folds f g → 1 ≤ count q f → 1 ≤ count q g
  folds_count bare g x one = absurd (omega arith)
  folds_count (tree a k r) g (x, y) one = go (folds_count k) (folds_count r g y) (dec_lt 0 (count q r)) (dec_lt 0 (count q k))
    where
      go : ((j : Forest Tag) → Folds k j → 1 ≤ count q k → 1 ≤ count q j) → (1 ≤ count q r → 1 ≤ count q g) → Dec (0 < count q r)
          → Dec (0 < count q k) → 1 ≤ count q g
      go ik ir (yes lt) c = ir lt
      go ik ir (no nl) (yes lt) = any_count (Onto a k) g (λ b j o. let z = ik j o.1 lt in omega arith) x
      go ik ir (no nl) (no nl') = any_count (Onto a k) g (λ b j o. let z = mark_bit (q a) (q b) (mono a b o.0) in omega arith) x

  -- one node that bears the mark stays one
  pub minimal_count : (f : Forest Tag) → count q f ≡ 1 → count q (minimal f) ≡ 1
  minimal_count f one =
      let x = folds_count f (minimal f) (minimal_to f) (omega arith) in
      let y = minimal_left (λ g h. count q g ≤ count q h)
      (record { same = λ g. omega arith; via = λ g h i u v. omega arith; under = λ a k k' r r' u v. omega arith; drop = λ a k r. omega arith }) f in
      omega arith

pub minimal_source : (f : Forest Tag) → count src f ≡ 1 → count src (minimal f) ≡ 1
minimal_source = minimal_count src (λ a b le. le.1)

pub minimal_dest : (f : Forest Tag) → count dst f ≡ 1 → count dst (minimal f) ≡ 1
minimal_dest = minimal_count dst (λ a b le. le.2)

-- ------------------------------------------------------------------ the trees of tree queries
-- one top, one s, one d
pub record QueryTree (f : Forest Tag) : Type 0 where
  pub root : Tag
  pub below : Forest Tag
  pub top : f ≡ tree root below bare
  pub source : count src f ≡ 1
  pub dest : count dst f ≡ 1

pub query_tree : (Q : Query) → TreeQuery Q → QueryTree (tree_of Q)
query_tree Q q = let (a, k, e) = one_top Q q in record { root = a; below = k; top = e; source = one_source Q q; dest = one_dest Q q }

pub minimal_query_tree : (f : Forest Tag) → QueryTree f → QueryTree (minimal f)
minimal_query_tree f t = record {
  root = t.root;
  below = minimal t.below;
  top = ap minimal t.top ∙ minimal_top t.root t.below;
  source = minimal_source f t.source;
  dest = minimal_dest f t.dest;
}

pub ordered_query_tree : (f : Forest Tag) → QueryTree f → QueryTree (ordered f)
ordered_query_tree f t = record {
  root = t.root;
  below = ordered t.below;
  top = ap ordered t.top;
  source = ordered_count src f ∙ t.source;
  dest = ordered_count dst f ∙ t.dest;
}

-- ------------------------------------------------------------------ labels
module _ (P : ℕ → Type 0) where
  plant_labels : (tag : ℕ → Tag) (f : ℕ → Forest Tag) (js : List ℕ) → ((j : ℕ) → LabIn P (tag j).lab) → ((j : ℕ) → LabsIn P (f j))
      → LabsIn P (plant tag f js)
  plant_labels tag f [] t g = tt
  plant_labels tag f (j ∷ js) t g = (t j, g j, plant_labels tag f js t g)

  -- every label of the tree is a label of some row
  pub tree_labels : (Q : Query) → ((i : ℕ) (u : Option ℕ) (l : ℕ) → at Q.rows i ≡ some (node u (lab l)) → P l) → LabsIn P (tree_of Q)
  tree_labels Q rows = plant_labels (tag_of Q) (grow (length Q.rows) Q) (kids_from none Q.rows 0) tags (below (length Q.rows))
    where
      tags : (j : ℕ) → LabIn P (tag_of Q j).lab
      tags j = go (at Q.rows j) refl
        where
          go : (r : Option Row) → at Q.rows j ≡ r → LabIn P (lab_row r)
          go none e = tt
          go (some (node u any)) e = tt
          go (some (node u (lab l))) e = rows j u l e

      below : (n i : ℕ) → LabsIn P (grow n Q i)
      below zero i = tt
      below (suc n) i = plant_labels (tag_of Q) (grow n Q) (kids_from (some i) Q.rows 0) tags (below n)

  -- folding brings no new label
  pub minimal_labels : (f : Forest Tag) → LabsIn P f → LabsIn P (minimal f)
  minimal_labels = minimal_left (λ g h. LabsIn P h → LabsIn P g)
      (record { same = λ g x. x; via = λ g h i u v x. u (v x); under = λ a k k' r r' u v (x, y, z). (x, u y, v z); drop = λ a k r (x, y, z). z })
