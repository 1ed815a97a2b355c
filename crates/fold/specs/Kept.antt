-- Folding all rows to the end, and the rows that are left, one after the other.
use Rattle.std.specs.Prelude.{◌≡◌, ◌⊎◌, false, cond, List, ℕ, ◌≤◌, ◌<◌, length, get_or, set, eqb}
use Rattle.meaning.specs.Limits.{most_nodes}
use Rattle.meaning.specs.Folding.{minimal}
use Rattle.meaning.specs.Image.{ordered}
use Rattle.rows.specs.Rows.{shape, tree_rows, Holds, width, no_row, Rows}
use Rattle.rows.specs.declared.TreeRows.{TreeRows}
use Rattle.onto.specs.Left.{Nodes, nodes, marked, gone_at, Gone, kept_tree}

-- ------------------------------------------------------------------ folding to the end
-- n rows that are a tree, or no rows, and none has gone
pub record Whole (mark span : List ℕ) (n : ℕ) : Type 0 where
  pub few : n ≤ most_nodes
  pub marks : n ≤ length mark
  pub there : (u : ℕ) → u < n → gone_at mark u ≡ false
  pub laid : Holds span 0 n (shape span n)
  pub single : width (shape span n) ≤ 1

-- some of n rows have gone, but not the top, and no more has changed
abbrev pub SomeGone : ℕ → List ℕ → List ℕ → Type 0
SomeGone n mark mark' = (j : ℕ) → (get_or mark' j 0 ≡ get_or mark j 0) ⊎ ((0 < j) × (j < n) × Gone (get_or mark j 0) (get_or mark' j 0))

-- the rows are folded to the end: what is left is the minimal tree up to the order of brothers, and rows below the top have gone, no more
pub record RowsFolded (t : Nodes) (n : ℕ) (mark' : List ℕ) : Type 0 where
  pub least : ordered (kept_tree (marked t mark') n) ≡ ordered (minimal (tree_rows t.code t.mark t.span n))
  pub only : SomeGone n t.mark mark'
  pub long : length mark' ≡ length t.mark

-- ------------------------------------------------------------------ the rows that are left, one after the other
-- the rows of a tree of which some have gone, but not the top
pub record Remains (code mark span up : List ℕ) (n : ℕ) : Type 0 where
  pub kids : List ℕ
  pub was : List ℕ
  pub rows : Rows code was kids span up n
  pub only : SomeGone n was mark
  pub long : length mark ≡ length was

-- the new number of row i's parent, when row p has moved to row `get_or moved p 0`
unfoldable pub parent_moved : List ℕ → List ℕ → ℕ → ℕ
parent_moved up moved i = cond (eqb (get_or up i 0) no_row) no_row (get_or moved (get_or up i 0) 0)

-- row i, whose parent is none or a row, can be put at place j
pub record Movable (up : List ℕ) (i j : ℕ) : Type 0 where
  pub front : j ≤ i
  pub few : i < most_nodes
  pub above : (get_or up i 0 ≡ no_row) ⊎ (get_or up i 0 < most_nodes)

-- row i is put at place j
pub record RowMoved (code mark up : List ℕ) (i : ℕ) (parent moved : List ℕ) (j : ℕ) (code' mark' parent' moved' : List ℕ) : Type 0 where
  pub codes : code' ≡ set code j (get_or code i 0)
  pub marks : mark' ≡ set mark j (get_or mark i 0)
  pub parents : parent' ≡ set parent j (parent_moved up moved i)
  pub moves : moved' ≡ set moved i j

-- numbers of children, spans, parents and the number of rows are what they were
pub record SameShape (t t' : TreeRows) : Type 0 where
  pub kids : t'.kids ≡ t.kids
  pub span : t'.span ≡ t.span
  pub up : t'.up ≡ t.up
  pub len : t'.len ≡ t.len

-- the first r rows are those of the tree that was left, in image order; their spans and numbers of children are written nowhere
pub record RowsKept (code mark span : List ℕ) (n : ℕ) (code' mark' parent : List ℕ) (r : ℕ) : Type 0 where
  pub kids : List ℕ
  pub spans : List ℕ
  pub rows : Rows code' mark' kids spans parent r
  pub tree : tree_rows code' mark' spans r ≡ kept_tree (nodes code mark span) n
