-- ".. the paper's minimality claims must come out for it" (01, Folding; paper, section 7): two forests that are folded to the end and fold
-- onto each other
-- are the same up to the order of brothers; so every order of folding ends in the same tree, and none of the forests that fold to and fro
-- with it is smaller.
use mathlib.Core.Path.{◌≡◌, refl, ap}
use mathlib.Core.Logic.{◌⊎◌, inl, inr}
use Prim.Native.Nat.{◌≤◌}
use native.Mathlib.Omega.{arith}
use Rattle.meaning.specs.Tree.{Forest, bare, tree, Tag, Any, size}
use Rattle.meaning.specs.Folding.{Folds, Onto, Reduced, cut, Shed, Sheds, minimal}
use Rattle.theory.proofs.Folding.{tag_anti, any_map, folds_trans, onto_trans, Equal, equal_refl, equal_trans}
use Rattle.theory.proofs.Removal.{cut_pruned, pruned_from, pruned_reduced, cut_found, shed_equal, sheds_equal, shed_less, reduced_or_sheds}
use Rattle.theory.proofs.Minimal.{minimal_equal, minimal_reduced, minimal_size}

-- the same up to the order of brothers, everywhere
abbrev pub Same : {A : Type 0} → Forest A → Forest A → Type 0
Same bare bare = Unit {0}
Same bare (tree b j s) = ⊥
Same (tree a k r) g = (x : Any (λ b j. (a ≡ b) × Same k j) g) × Same r (cut (λ b j. (a ≡ b) × Same k j) g x)

pub same_size : {A : Type 0} (f g : Forest A) → Same f g → size f ≡ size g
same_size bare bare s = refl
same_size bare (tree b j r) s = absurd s
same_size (tree a k r) g (x, s) =
    let w = cut_found (λ b j. (a ≡ b) × Same k j) g x in
    let e = w.3 in
    let ek = same_size k w.1 w.2.1 in
    let er = same_size r (cut (λ b j. (a ≡ b) × Same k j) g x) s in omega arith

-- ------------------------------------------------------------------ brothers in pairs
-- b, with j below it, is the partner of a, with k below it: each folds onto the other
abbrev Partner : Tag → Forest Tag → Tag → Forest Tag → Type 0
Partner a k b j = Onto a k b j × Onto b j a k × Reduced j

-- a tree that folds onto none of its brothers has a partner wherever the forest folds to and fro
partner : (a : Tag) (k r g : Forest Tag) → ¬ Any (Onto a k) r → Reduced g → Any (Onto a k) g → Folds g (tree a k r) → Any (Partner a k) g
partner a k r bare n rg x y = x
partner a k r (tree b j s) n rg (inl o) (inl o', y) = inl (o, o', rg.0)
partner a k r (tree b j s) n rg (inl o) (inr z, y) = absurd (n (any_map (λ c i. onto_trans a k b j c i o) r z))
partner a k r (tree b j s) n rg (inr x) (z, y) = inr (partner a k r s n rg.1 x y)

-- the others fold onto the others: first there ..
any_cut : {P Q : Tag → Forest Tag → Type 0} → ((b : Tag) (j : Forest Tag) → P b j → ¬ Q b j) → (g : Forest Tag) (x : Any P g) → Any Q g
    → Any Q (cut P g x)
any_cut n bare x y = absurd x
any_cut n (tree b j r) (inl p) (inl q) = absurd (n b j p q)
any_cut n (tree b j r) (inl p) (inr y) = y
any_cut n (tree b j r) (inr x) (inl q) = inl q
any_cut n (tree b j r) (inr x) (inr y) = inr (any_cut n r x y)

others_to : (a : Tag) (k r g : Forest Tag) (x : Any (Partner a k) g) → ¬ Any (λ c i. Onto c i a k) r → Folds r g → Folds r (cut (Partner a k) g x)
others_to a k bare g x n y = tt
others_to a k (tree c i r) g x n (y, z) =
    (any_cut (λ b j p o. n (inl (onto_trans c i b j a k o p.1))) g x y, others_to a k r g x (λ w. n (inr w)) z)

-- .. and back
cut_alone : (a : Tag) (k g : Forest Tag) (x : Any (Partner a k) g) → Reduced g → ¬ Any (λ c i. Onto c i a k) (cut (Partner a k) g x)
cut_alone a k bare x rg y = x
cut_alone a k (tree b j s) (inl p) rg y = rg.3 (any_map (λ c i o. onto_trans c i a k b j o p.0) s y)
cut_alone a k (tree b j s) (inr x) rg (inl o) = rg.2 (any_map (λ c i p. onto_trans b j a k c i o p.0) s x)
cut_alone a k (tree b j s) (inr x) rg (inr y) = cut_alone a k s x rg.1 y

others_from : (a : Tag) (k r s : Forest Tag) → ¬ Any (λ c i. Onto c i a k) s → Folds s (tree a k r) → Folds s r
others_from a k r bare n y = tt
others_from a k r (tree c i s) n (inl o, y) = absurd (n (inl o))
others_from a k r (tree c i s) n (inr x, y) = (x, others_from a k r s (λ z. n (inr z)) y)

-- ------------------------------------------------------------------ one reduced forest
cut_map : {A : Type 0} {P Q : A → Forest A → Type 0} (h : (a : A) (k : Forest A) → P a k → Q a k) (g : Forest A) (x : Any P g)
    → cut Q g (any_map h g x) ≡ cut P g x
unfolding any_map
cut_map h bare x = refl
cut_map h (tree b j r) (inl p) = refl
cut_map h (tree b j r) (inr x) = ap (tree b j) (cut_map h r x)

same_tree : (a : Tag) (k r g : Forest Tag) {P : Tag → Forest Tag → Type 0} → ((b : Tag) (j : Forest Tag) → P b j → (a ≡ b) × Same k j)
    → (x : Any P g) → Same r (cut P g x) → Same (tree a k r) g
same_tree a k r g h x s = (any_map h g x, rw (cut_map h g x) s)

pub unique : (f g : Forest Tag) → Reduced f → Reduced g → Folds f g → Folds g f → Same f g
unique bare bare rf rg x y = tt
unique bare (tree b j s) rf rg x y = absurd y.0
unique (tree a k r) g rf rg (x, x') y =
    let z = partner a k r g rf.2 rg x y in
    let m = cut_pruned (tree a k r) (Partner a k) g z (λ b j p. inl p.1) in
    let c = cut (Partner a k) g z in
    same_tree a k r g (λ b j (o, o', rj). (tag_anti a b o.0 o'.0, unique k j rf.0 rj o.1 o'.1)) z
    (unique r c rf.1 (pruned_reduced m rg) (others_to a k r g z rf.3 x')
    (others_from a k r c (cut_alone a k g z rg) (folds_trans c g (tree a k r) (pruned_from m) y)))

-- whatever is folded to the end and folds to and fro with a forest is its minimal tree
pub minimal_same : (f g : Forest Tag) → Reduced g → Equal f g → Same g (minimal f)
minimal_same f g rg (x, y) =
    let e = equal_trans g f (minimal f) (y, x) (minimal_equal f) in unique g (minimal f) rg (minimal_reduced f) e.0 e.1

-- "(if each folds onto the other, one of them)": whichever brothers go, and in whatever order, the minimal tree is left
pub sheds_to_minimal_same : (f g : Forest Tag) → Sheds f g → Reduced g → Same g (minimal f)
sheds_to_minimal_same f g s rg = minimal_same f g rg (sheds_equal f g s)

-- a forest folded to the end has the fewest nodes among those that it folds to and fro with
pub smallest : (f g : Forest Tag) → Reduced f → Folds f g → Folds g f → size f ≤ size g
smallest f g rf x y =
    let e = same_size f (minimal g) (minimal_same g f rf (y, x)) in let l = minimal_size g in omega arith

-- a forest with no more nodes than its minimal tree is that tree: could a brother go, still fewer nodes would be left
pub as_small_same : (f : Forest Tag) → size f ≤ size (minimal f) → Same f (minimal f)
as_small_same f le = go (reduced_or_sheds f)
  where
    go : Reduced f ⊎ ((g : Forest Tag) × Shed f g) → Same f (minimal f)
    go (inl rf) = minimal_same f f rf (equal_refl f)
    go (inr (g, s)) =
        let e = equal_trans g f (minimal f) ((shed_equal f g s).1, (shed_equal f g s).0) (minimal_equal f) in
        let x = smallest (minimal f) g (minimal_reduced f) e.1 e.0 in let l = shed_less f g s in absurd (omega arith)
