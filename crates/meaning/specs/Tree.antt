-- A tree query's table read as a tree, for folding, images and normal forms, and what such a tree selects.
use Rattle.std.specs.Prelude.{◌≡◌, ◌⊎◌, Bool, true, false, List, [], ◌∷◌, ◌++◌, ℕ, zero, suc, ◌+◌, length}
use Rattle.std.proofs.Math.Option.{Option, none, some}
use Rattle.std.proofs.Math.Decide.{ℕ_discrete}
use Rattle.meaning.specs.Basics.{is}
use Rattle.meaning.specs.Document.{Doc, In, Child, label_of}
use Rattle.meaning.specs.TreeQuery.{Lab, any, Row, node, Table, at, Query, Fits}

-- brothers with all that lies below them: the first one's node, its children, the later brothers
pub data Forest (A : Type 0) : Type 0 where
  bare : Forest A
  tree : A → Forest A → Forest A → Forest A

-- what a node of a tree query bears: its label or a wildcard, and whether it is s, whether it is d
pub record Tag : Type 0 where
  pub lab : Lab
  pub src : Bool
  pub dst : Bool

-- the number of nodes
abbrev pub size : {A : Type 0} → Forest A → ℕ
size bare = 0
size (tree a k r) = suc (size k + size r)

-- some tree of the forest is so
abbrev pub Any : {A : Type 0} → (A → Forest A → Type 0) → Forest A → Type 0
Any P bare = ⊥
Any P (tree a k r) = P a k ⊎ Any P r

-- the nodes in image order, the top first, each with what lies below it
abbrev pub preorder : {A : Type 0} → Forest A → List (A × Forest A)
preorder bare = []
preorder (tree a k r) = (a, k) ∷ (preorder k ++ preorder r)

-- ------------------------------------------------------------------ reading the tree off the table
abbrev pub same_link : Option ℕ → Option ℕ → Bool
same_link none none = true
same_link none (some j) = false
same_link (some i) none = false
same_link (some i) (some j) = is (ℕ_discrete i j)

abbrev pub link_is : Option ℕ → Row → Bool
link_is u (node v l) = same_link u v

abbrev pub choose : Bool → ℕ → List ℕ → List ℕ
choose true j l = j ∷ l
choose false j l = l

-- the rows whose parent is u (none: the top), in the order of the table, numbered from j
abbrev pub kids_from : Option ℕ → Table → ℕ → List ℕ
kids_from u [] j = []
kids_from u (r ∷ T) j = choose (link_is u r) j (kids_from u T (suc j))

abbrev pub lab_row : Option Row → Lab
lab_row none = any
lab_row (some (node u l)) = l

abbrev pub tag_of : Query → ℕ → Tag
tag_of Q i = record { lab = lab_row (at Q.rows i); src = is (ℕ_discrete i Q.s); dst = is (ℕ_discrete i Q.d) }

abbrev pub plant : {A : Type 0} → (ℕ → A) → (ℕ → Forest A) → List ℕ → Forest A
plant tag f [] = bare
plant tag f (j ∷ js) = tree (tag j) (f j) (plant tag f js)

-- what lies below row i, at most n levels of it
abbrev pub grow : ℕ → Query → ℕ → Forest Tag
grow zero Q i = bare
grow (suc n) Q i = plant (tag_of Q) (grow n Q) (kids_from (some i) Q.rows 0)

-- the whole tree: no tree has more levels than rows
abbrev pub tree_of : Query → Forest Tag
tree_of Q = plant (tag_of Q) (grow (length Q.rows) Q) (kids_from none Q.rows 0)

-- empty has no node
abbrev pub plain_tree : Option Query → Forest Tag
plain_tree none = bare
plain_tree (some Q) = tree_of Q

-- ------------------------------------------------------------------ what a tree selects
-- w lies directly below v; nothing (none) stands above every node, so that a top may lie on any node
abbrev pub Under : Doc → Option ℕ → ℕ → Type 0
Under D none w = In D w
Under D (some v) w = Child D v w

-- each tree of the forest can be laid directly below v, its node on a document node that suits it
abbrev pub Lays : Doc → (Tag → ℕ → Type 0) → Forest Tag → Option ℕ → Type 0
Lays D On bare v = Unit {0}
Lays D On (tree a k r) v = ((w : ℕ) × Under D v w × On a w × Lays D On k (some w)) × Lays D On r v

-- a mark lies on its node of the pair
abbrev pub MarkOn : Bool → ℕ → ℕ → Type 0
MarkOn false w m = Unit {0}
MarkOn true w m = w ≡ m

-- the label fits, s lies on m and d on n
abbrev pub OnPair : Doc → ℕ → ℕ → Tag → ℕ → Type 0
OnPair D m n a w = Fits a.lab (label_of D w) × MarkOn a.src w m × MarkOn a.dst w n

-- the pairs that a tree selects: it can be laid with s on m and d on n. That a table selects what its tree takes is proved in theory (Bridge)
abbrev pub Takes : Forest Tag → Doc → ℕ → ℕ → Type 0
Takes bare D m n = ⊥
Takes (tree a k r) D m n = Lays D (OnPair D m n) (tree a k r) none
