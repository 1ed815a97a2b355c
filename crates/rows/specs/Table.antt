-- A tree as a table of parents: row i has its parent's row, no_row at the top, and bears a label code and a mark.
-- Its brothers stand in the order of the table, which is any order. "No rows" stands for empty.
use Rattle.std.specs.Prelude.{◌≡◌, Bool, true, false, cond, List, [], ◌∷◌, ℕ, zero, suc, ◌≤◌, ◌<◌, length, get_or, eqb}
use Rattle.std.proofs.Math.Option.{Option, none, some}
use Rattle.meaning.specs.Limits.{most_nodes}
use Rattle.meaning.specs.Number.{largest_label}
use Rattle.meaning.specs.TreeQuery.{Row, node, Table, Query, TreeQuery}
use Rattle.meaning.specs.Tree.{Forest, bare, Tag, plant, plain_tree}
use Rattle.meaning.specs.Folding.{minimal}
use Rattle.meaning.specs.Image.{ordered}
use Rattle.rows.specs.Rows.{lab_of, tag_at, map_t, no_row}

-- ------------------------------------------------------------------ the tree query of a table
-- the parent that a number stands for
unfoldable pub parent_of : ℕ → Option ℕ
parent_of p = cond (eqb p no_row) none (some p)

abbrev pub row_at : List ℕ → List ℕ → ℕ → Row
row_at P L i = node (parent_of (get_or P i 0)) (lab_of (get_or L i 0))

abbrev pub listed : ℕ → (ℕ → Row) → Table
listed zero f = []
listed (suc n) f = f 0 ∷ listed n (λ i. f (suc i))

-- the first n rows
unfoldable pub table : ℕ → List ℕ → List ℕ → Table
table n P L = listed n (row_at P L)

-- the query whose rows are the first n
abbrev pub query : ℕ → List ℕ → List ℕ → ℕ → ℕ → Query
query n P L s d = record { rows = table n P L; s = s; d = d }

-- no rows: empty
abbrev pub if_rows : {A : Type 0} → ℕ → A → Option A
if_rows zero a = none
if_rows (suc n) a = some a

-- the query of the first n rows, or empty
abbrev pub query_of : List ℕ → List ℕ → ℕ → ℕ → ℕ → Option Query
query_of P L n s d = if_rows n (query n P L s d)

-- the first n rows of a table are a tree query with the nodes s and d, or there are none; the table may have more
pub record QueryTable (parent code : List ℕ) (n s d : ℕ) : Type 0 where
  pub few : n ≤ most_nodes
  pub parents : n ≤ length parent
  pub codes : n ≤ length code
  pub labels : (i : ℕ) → i < n → get_or code i 0 ≤ suc largest_label
  pub valid : 0 < n → TreeQuery (query n parent code s d)

-- ------------------------------------------------------------------ the tree of a table, with marks
-- those of the k rows from j on whose parent is p, in the order of the table
unfoldable pub children_of : ℕ → List ℕ → ℕ → ℕ → List ℕ
children_of p parent zero j = []
children_of p parent (suc k) j = cond (eqb (get_or parent j 0) p) (j ∷ children_of p parent k (suc j)) (children_of p parent k (suc j))

-- what lies below p in the table of n rows, as row numbers, at most m levels of it
unfoldable pub grown : ℕ → List ℕ → ℕ → ℕ → Forest ℕ
grown zero parent n p = bare
grown (suc m) parent n p = plant (λ j. j) (grown m parent n) (children_of p parent n 0)

-- the whole tree as row numbers: no tree has more levels than rows
unfoldable pub table_shape : List ℕ → ℕ → Forest ℕ
table_shape parent n = grown (suc n) parent n no_row

-- the tree that the table is; no rows are the empty tree
unfoldable pub table_tree : List ℕ → List ℕ → List ℕ → ℕ → Forest Tag
table_tree parent code mark n = map_t (tag_at code mark) (table_shape parent n)

-- ------------------------------------------------------------------ plain or folded
-- a tree as it is, or folded to the end
abbrev pub left_of : Bool → Forest Tag → Forest Tag
left_of true T = minimal T
left_of false T = T

-- the plain tree of a query, or its minimal tree, with brothers in image order
abbrev pub image_tree : Bool → Option Query → Forest Tag
image_tree folded Q = ordered (left_of folded (plain_tree Q))

-- ------------------------------------------------------------------ when a table is a tree
-- n rows that are a tree, or no rows: levels say that no row lies above itself, and at most one row, at level 0, has no parent
pub record TreeTable (parent code mark : List ℕ) (n : ℕ) : Type 0 where
  pub few : n ≤ most_nodes
  pub parents : n ≤ length parent
  pub codes : n ≤ length code
  pub marks : n ≤ length mark
  pub labels : (i : ℕ) → i < n → get_or code i 0 ≤ suc largest_label
  pub marked : (i : ℕ) → i < n → get_or mark i 0 ≤ 3
  pub level : ℕ → ℕ
  pub linked : (i : ℕ) → i < n → (get_or parent i 0 ≡ no_row → ⊥) → (get_or parent i 0 < n) × (level i ≡ suc (level (get_or parent i 0)))
  pub top : ℕ
  pub top_level : level top ≡ 0
  pub single : (i : ℕ) → i < n → get_or parent i 0 ≡ no_row → i ≡ top

-- parents stand before their children: the top is row 0, and every other row's parent has a smaller number
pub record ParentsFirst (parent : List ℕ) (n : ℕ) : Type 0 where
  pub top_first : 0 < n → get_or parent 0 0 ≡ no_row
  pub lower : (i : ℕ) → 0 < i → i < n → get_or parent i 0 < i
