-- Tree queries and the pairs that they select (paper, definitions 3.4 to 3.6).
-- "A tree query is a tree whose nodes bear a label or a wildcard, with a source s and a destination d (perhaps one node)."
use Rattle.std.specs.Prelude.{◌≡◌, List, ℕ, suc, length}
use Rattle.std.proofs.Math.Option.{Option, none, some}
use Rattle.meaning.specs.Basics.{look}
use Rattle.meaning.specs.Document.{Doc, In, Child, label_of}

-- a wildcard or a label
pub data Lab : Type 0 where
  any : Lab
  lab : ℕ → Lab

-- a node: its parent's row, none at the top, and what it bears
pub data Row : Type 0 where
  node : Option ℕ → Lab → Row

abbrev pub Table : Type 0
Table = List Row

abbrev pub at : Table → ℕ → Option Row
at T i = look T i

pub record Query : Type 0 where
  pub rows : Table
  pub s : ℕ
  pub d : ℕ

-- the number of nodes
abbrev pub nodes : Query → ℕ
nodes Q = length Q.rows

-- ------------------------------------------------------------------ when a table is a tree
-- row i is there
abbrev pub Live : Table → ℕ → Type 0
Live T i = (u : Option ℕ) × (l : Lab) × (at T i ≡ some (node u l))

-- row i has no parent
abbrev pub Root : Table → ℕ → Type 0
Root T i = (l : Lab) × (at T i ≡ some (node none l))

-- each parent is a row, one level above
abbrev pub Linked : Table → (ℕ → ℕ) → Type 0
Linked T lev = (i p : ℕ) (l : Lab) → at T i ≡ some (node (some p) l) → Live T p × (lev i ≡ suc (lev p))

-- the rows are one tree: levels say that no row lies above itself, and at most one row, at level 0, has no parent
pub record Tree (T : Table) : Type 0 where
  pub lev : ℕ → ℕ
  pub linked : Linked T lev
  pub top : ℕ
  pub top_lev : lev top ≡ 0
  pub single : (i : ℕ) → Root T i → i ≡ top

-- the tree queries among the tables with two marks: one tree, s and d among its nodes
pub record TreeQuery (Q : Query) : Type 0 where
  pub tree : Tree Q.rows
  pub s_live : Live Q.rows Q.s
  pub d_live : Live Q.rows Q.d

-- ------------------------------------------------------------------ containment mappings
-- "keeping parent edges and labels": a wildcard fits every label
abbrev pub Fits : Lab → ℕ → Type 0
Fits any x = Unit {0}
Fits (lab l) x = l ≡ x

abbrev pub EdgeKept : Doc → (ℕ → ℕ) → ℕ → Option ℕ → Type 0
EdgeKept D h i none = Unit {0}
EdgeKept D h i (some p) = Child D (h p) (h i)

abbrev pub RowKept : Doc → (ℕ → ℕ) → ℕ → Option Row → Type 0
RowKept D h i none = Unit {0}
RowKept D h i (some (node u l)) = In D (h i) × Fits l (label_of D (h i)) × EdgeKept D h i u

-- h lays every row on a node of the document, several on one if need be
abbrev pub Laying : Doc → Table → (ℕ → ℕ) → Type 0
Laying D T h = (i : ℕ) → RowKept D h i (at T i)

-- "It selects (m,n) when its nodes can be laid on document nodes .. with s on m and d on n."
abbrev pub Selects : Query → Doc → ℕ → ℕ → Type 0
Selects Q D m n = (h : ℕ → ℕ) × Laying D Q.rows h × (h Q.s ≡ m) × (h Q.d ≡ n)

-- empty, the tree query that is none, selects nothing
abbrev pub SelectsO : Option Query → Doc → ℕ → ℕ → Type 0
SelectsO none D m n = ⊥
SelectsO (some Q) D m n = Selects Q D m n
