-- Folding and the minimal tree (01, Folding; paper, section 7, restricted to brothers).
use Rattle.std.specs.Prelude.{◌≡◌, ◌⊎◌, Bool, true, false}
use Rattle.std.proofs.Common.{inl, inr}
use Rattle.std.proofs.Math.Decide.{ℕ_discrete}
use Rattle.meaning.specs.Basics.{pick, dec_both}
use Rattle.meaning.specs.TreeQuery.{Lab, any, lab}
use Rattle.meaning.specs.Tree.{Forest, bare, tree, Tag, Any}

-- "u's label is a wildcard or equals v's"
abbrev pub LabLe : Lab → Lab → Type 0
LabLe any b = Unit {0}
LabLe (lab a) any = ⊥
LabLe (lab a) (lab b) = a ≡ b

abbrev pub MarkLe : Bool → Bool → Type 0
MarkLe false b = Unit {0}
MarkLe true false = ⊥
MarkLe true true = Unit {0}

-- ".. u's marks are among v's"
abbrev pub TagLe : Tag → Tag → Type 0
TagLe u v = LabLe u.lab v.lab × MarkLe u.src v.src × MarkLe u.dst v.dst

-- every tree of the first forest folds onto some tree of the second
abbrev pub Folds : Forest Tag → Forest Tag → Type 0
Folds bare g = Unit {0}
Folds (tree a k r) g = Any (λ b j. TagLe a b × Folds k j) g × Folds r g

-- u (a, with k below it) folds onto v (b, with j below it): ".. and every child of u folds onto some child of v"
abbrev pub Onto : Tag → Forest Tag → Tag → Forest Tag → Type 0
Onto a k b j = TagLe a b × Folds k j

-- "no two brothers anywhere in the tree are left that fold"
abbrev pub Reduced : Forest Tag → Type 0
Reduced bare = Unit {0}
Reduced (tree a k r) = Reduced k × Reduced r × (¬ Any (λ b j. Onto a k b j) r) × (¬ Any (λ b j. Onto b j a k) r)

-- the forest without one of its trees
abbrev pub cut : {A : Type 0} (P : A → Forest A → Type 0) (g : Forest A) → Any P g → Forest A
cut P bare x = bare
cut P (tree b j r) (inl p) = r
cut P (tree b j r) (inr x) = tree b j (cut P r x)

-- "Of two different brothers where one folds onto the other, the folding one goes, with all below it": g is left of f.
-- The first brother goes, or a later one that folds onto it, or one goes below the first, or among the later ones
abbrev pub Shed : Forest Tag → Forest Tag → Type 0
Shed bare g = ⊥
Shed (tree a k r) g =
    (Any (λ b j. Onto a k b j) r × (g ≡ r))
    ⊎ (((x : Any (λ b j. Onto b j a k) r) × (g ≡ tree a k (cut (λ b j. Onto b j a k) r x)))
    ⊎ (((k' : Forest Tag) × Shed k k' × (g ≡ tree a k' r))
    ⊎ ((r' : Forest Tag) × Shed r r' × (g ≡ tree a k r'))))

-- any number of brothers have gone, one after the other
pub data Sheds : Forest Tag → Forest Tag → Type 0 where
  done : {f : Forest Tag} → Sheds f f
  then : {f g h : Forest Tag} → Shed f g → Sheds g h → Sheds f h

-- ------------------------------------------------------------------ one way to fold to the end, computed
unfoldable pub dec_lab : (a b : Lab) → Dec (LabLe a b)
dec_lab any b = yes tt
dec_lab (lab a) any = no (λ z. z)
dec_lab (lab a) (lab b) = ℕ_discrete a b

unfoldable pub dec_mark : (a b : Bool) → Dec (MarkLe a b)
dec_mark false b = yes tt
dec_mark true false = no (λ z. z)
dec_mark true true = yes tt

unfoldable pub dec_tag : (u v : Tag) → Dec (TagLe u v)
dec_tag u v = go (dec_lab u.lab v.lab) (dec_mark u.src v.src) (dec_mark u.dst v.dst)
  where
    go : Dec (LabLe u.lab v.lab) → Dec (MarkLe u.src v.src) → Dec (MarkLe u.dst v.dst) → Dec (TagLe u v)
    go (yes p) (yes q) (yes r) = yes (p, q, r)
    go (yes p) (yes q) (no n) = no (λ (a, b, c). n c)
    go (yes p) (no n) r = no (λ (a, b, c). n b)
    go (no n) q r = no (λ (a, b, c). n a)

unfoldable pub dec_any : {A : Type 0} (P : A → Forest A → Type 0) → ((a : A) (k : Forest A) → Dec (P a k)) → (f : Forest A) → Dec (Any P f)
dec_any P d bare = no (λ x. x)
dec_any P d (tree a k r) = go (d a k) (dec_any P d r)
  where
    go : Dec (P a k) → Dec (Any P r) → Dec (P a k ⊎ Any P r)
    go (yes p) e = yes (inl p)
    go (no np) (yes x) = yes (inr x)
    go (no np) (no nx) = no (neither np nx)
      where
        neither : ¬ P a k → ¬ Any P r → P a k ⊎ Any P r → ⊥
        neither np' nx' (inl p) = np' p
        neither np' nx' (inr x) = nx' x

unfoldable pub dec_folds : (f g : Forest Tag) → Dec (Folds f g)
dec_folds bare g = yes tt
dec_folds (tree a k r) g = dec_both (dec_any (λ b j. Onto a k b j) (λ b j. dec_both (dec_tag a b) (dec_folds k j)) g) (dec_folds r g)

unfoldable pub dec_onto : (a : Tag) (k : Forest Tag) (b : Tag) (j : Forest Tag) → Dec (Onto a k b j)
dec_onto a k b j = dec_both (dec_tag a b) (dec_folds k j)

-- the forest without the trees that are so
unfoldable pub sift : (P : Tag → Forest Tag → Type 0) → ((a : Tag) (k : Forest Tag) → Dec (P a k)) → Forest Tag → Forest Tag
sift P d bare = bare
sift P d (tree a k r) = pick (d a k) (sift P d r) (tree a k (sift P d r))

-- one more brother beside brothers of which none folds: it goes, or those go that fold onto it
unfoldable pub add : Tag → Forest Tag → Forest Tag → Forest Tag
add a k f = pick (dec_any (λ b j. Onto a k b j) (dec_onto a k) f) f (tree a k (sift (λ b j. Onto b j a k) (λ b j. dec_onto b j a k) f))

-- the minimal tree: folded below, then among the brothers. That any other order of folding ends in the same image is proved in theory (Unique)
unfoldable pub minimal : Forest Tag → Forest Tag
minimal bare = bare
minimal (tree a k r) = add a (minimal k) (minimal r)
