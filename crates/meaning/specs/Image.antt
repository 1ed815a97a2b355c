-- Images (01, Image): records, the order of brothers, and the bytes.
use Rattle.std.specs.Prelude.{◌≡◌, ◌⊎◌, Bool, true, false, List, [], ◌∷◌, ◌++◌, ℕ, suc, ◌<◌, length}
use Rattle.std.proofs.Common.{inl, inr}
use Rattle.std.proofs.Math.Option.{Option}
use Rattle.std.proofs.Math.Decide.{ℕ_discrete, dec_lt}
use Rattle.meaning.specs.Basics.{pick}
use Rattle.meaning.specs.TreeQuery.{Lab, any, lab, Query}
use Rattle.meaning.specs.Tree.{Forest, bare, tree, Tag, size, plain_tree}
use Rattle.meaning.specs.Folding.{minimal}
use Rattle.meaning.specs.Number.{num}

-- ------------------------------------------------------------------ ascending byte order
abbrev pub LeL : List ℕ → List ℕ → Type 0
LeL [] ys = Unit {0}
LeL (x ∷ xs) [] = ⊥
LeL (x ∷ xs) (y ∷ ys) = (x < y) ⊎ ((x ≡ y) × LeL xs ys)

unfoldable pub dec_l : (xs ys : List ℕ) → Dec (LeL xs ys)
dec_l [] ys = yes tt
dec_l (x ∷ xs) [] = no (λ z. z)
dec_l (x ∷ xs) (y ∷ ys) = go (dec_lt x y) (ℕ_discrete x y) (dec_l xs ys)
  where
    go : Dec (x < y) → Dec (x ≡ y) → Dec (LeL xs ys) → Dec (LeL (x ∷ xs) (y ∷ ys))
    go (yes p) e r = yes (inl p)
    go (no n) (yes e) (yes r) = yes (inr (e, r))
    go (no n) (yes e) (no nr) = no (λ z. not1 z)
      where
        not1 : (x < y) ⊎ ((x ≡ y) × LeL xs ys) → ⊥
        not1 (inl p) = n p
        not1 (inr (e', r)) = nr r
    go (no n) (no ne) r = no (λ z. not2 z)
      where
        not2 : (x < y) ⊎ ((x ≡ y) × LeL xs ys) → ⊥
        not2 (inl p) = n p
        not2 (inr (e', r')) = ne e'

-- a record among records in ascending order
abbrev pub insert : List ℕ → List (List ℕ) → List (List ℕ)
insert x [] = x ∷ []
insert x (y ∷ ys) = pick (dec_l x y) (x ∷ (y ∷ ys)) (y ∷ insert x ys)

-- ------------------------------------------------------------------ records
-- "label code (0 wildcard, else L+1)"
abbrev pub lab_code : Lab → ℕ
lab_code any = 0
lab_code (lab l) = suc l

-- "mark (0 none, 1 s, 2 d, 3 both)"
abbrev pub mark_code : Bool → Bool → ℕ
mark_code false false = 0
mark_code true false = 1
mark_code false true = 2
mark_code true true = 3

abbrev pub flat : List (List ℕ) → List ℕ
flat [] = []
flat (x ∷ xs) = x ++ flat xs

-- label code, mark, "number of children, then the children's records"
abbrev pub record_of : Tag → List (List ℕ) → List ℕ
record_of a rs = num (lab_code a.lab) ++ (num (mark_code a.src a.dst) ++ (num (length rs) ++ flat rs))

-- ".. in ascending byte order"
abbrev pub records : Forest Tag → List (List ℕ)
records bare = []
records (tree a k r) = insert (record_of a (records k)) (records r)

-- "First the number of nodes, 0 for empty. Then the top's record."
abbrev pub image : Forest Tag → List ℕ
image f = num (size f) ++ flat (records f)

abbrev pub plain_image : Option Query → List ℕ
plain_image Q = image (plain_tree Q)

abbrev pub minimal_image : Option Query → List ℕ
minimal_image Q = image (minimal (plain_tree Q))

-- ------------------------------------------------------------------ image order
-- a tree among brothers in image order
abbrev pub place : Tag → Forest Tag → Forest Tag → Forest Tag
place a k bare = tree a k bare
place a k (tree b j r) = pick (dec_l (record_of a (records k)) (record_of b (records j))) (tree a k (tree b j r)) (tree b j (place a k r))

-- the forest with all brothers in image order
abbrev pub ordered : Forest Tag → Forest Tag
ordered bare = bare
ordered (tree a k r) = place a (ordered k) (ordered r)

-- "the minimal tree's nodes .. in image order"
abbrev pub minimal_tree : Option Query → Forest Tag
minimal_tree Q = ordered (minimal (plain_tree Q))
