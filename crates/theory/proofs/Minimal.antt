-- The minimal tree (01, Folding; meaning, `minimal`) is folded to the end: it and the tree fold onto each other, and no two brothers in it fold.
use mathlib.Core.Logic.{inl, inr}
use Prim.Native.Nat.{◌≤◌}
use native.Mathlib.Omega.{arith}
use Rattle.meaning.specs.Basics.{pick}
use Rattle.meaning.specs.Tree.{Forest, bare, tree, Tag, Any, size}
use Rattle.meaning.specs.Folding.{Folds, Onto, Reduced, dec_any, dec_onto, sift, add, minimal}
use Rattle.theory.proofs.Folding.{Equal, equal_refl, equal_trans, equal_tree, onto_equal}
use Rattle.theory.proofs.Removal.{Pruned, end, gone, kept, pruned_refl, pruned_equal, pruned_any, pruned_reduced, pruned_size}

module _ (P : Tag → Forest Tag → Type 0) (d : (a : Tag) (k : Forest Tag) → Dec (P a k)) where
  sift_pruned : (h : Forest Tag) → ((b : Tag) (j : Forest Tag) → P b j → Any (Onto b j) h) → (f : Forest Tag) → Pruned h f (sift P d f)
  unfolding sift
  sift_pruned h to bare = end
  sift_pruned h to (tree b j r) = go (d b j) (sift_pruned h to r)
    where
      go : (c : Dec (P b j)) → Pruned h r (sift P d r) → Pruned h (tree b j r) (pick c (sift P d r) (tree b j (sift P d r)))
      go (yes p) m = gone (to b j p) m
      go (no n) m = kept (pruned_refl j j) m

  sift_not : (f : Forest Tag) → ¬ Any P (sift P d f)
  unfolding sift
  sift_not bare x = x
  sift_not (tree a k r) x = go (d a k) (sift_not r) x
    where
      go : (c : Dec (P a k)) → ¬ Any P (sift P d r) → ¬ Any P (pick c (sift P d r) (tree a k (sift P d r)))
      go (yes p) rest y = rest y
      go (no np) rest (inl q) = np q
      go (no np) rest (inr y) = rest y

-- one more brother: some go, each folding onto one that stays; after it no two fold, if none did below it and among the others
add_pruned : (a : Tag) (k r : Forest Tag) → Pruned (add a k r) (tree a k r) (add a k r) × (Reduced k → Reduced r → Reduced (add a k r))
unfolding add
add_pruned a k r = go (dec_any (λ b j. Onto a k b j) (dec_onto a k) r)
  where
    S : Forest Tag
    S = sift (λ b j. Onto b j a k) (λ b j. dec_onto b j a k) r

    m : Pruned (tree a k S) r S
    m = sift_pruned (λ b j. Onto b j a k) (λ b j. dec_onto b j a k) (tree a k S) (λ b j o. inl o) r

    go : (c : Dec (Any (λ b j. Onto a k b j) r))
        → Pruned (pick c r (tree a k S)) (tree a k r) (pick c r (tree a k S)) × (Reduced k → Reduced r → Reduced (pick c r (tree a k S)))
    go (yes x) = (gone x (pruned_refl r r), λ rk rr. rr)
    go (no n) = (
      kept (pruned_refl k k) m,
      λ rk rr. (
        rk,
        pruned_reduced m rr,
        λ x. n (pruned_any (λ b j j' e. (onto_equal a b k k j j' (equal_refl k) e).1) m x),
        sift_not (λ b j. Onto b j a k) (λ b j. dec_onto b j a k) r,
      ),
    )

pub minimal_equal : (f : Forest Tag) → Equal f (minimal f)
unfolding minimal
minimal_equal bare = (tt, tt)
minimal_equal (tree a k r) =
    equal_trans (tree a k r) (tree a (minimal k) (minimal r)) (add a (minimal k) (minimal r))
    (equal_tree a k (minimal k) r (minimal r) (minimal_equal k) (minimal_equal r)) (pruned_equal (add_pruned a (minimal k) (minimal r)).0)

pub minimal_to : (f : Forest Tag) → Folds f (minimal f)
minimal_to f = (minimal_equal f).0

pub minimal_from : (f : Forest Tag) → Folds (minimal f) f
minimal_from f = (minimal_equal f).1

pub minimal_reduced : (f : Forest Tag) → Reduced (minimal f)
unfolding minimal
minimal_reduced bare = tt
minimal_reduced (tree a k r) = (add_pruned a (minimal k) (minimal r)).1 (minimal_reduced k) (minimal_reduced r)

pub minimal_size : (f : Forest Tag) → size (minimal f) ≤ size f
unfolding minimal
minimal_size bare = omega arith
minimal_size (tree a k r) =
    let p = pruned_size (add_pruned a (minimal k) (minimal r)).0 in let p' = minimal_size k in let p'' = minimal_size r in omega arith
