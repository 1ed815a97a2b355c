-- "That no second answer fits is itself a proved statement": of the rows of a table's tree.
use mathlib.Core.Path.{◌≡◌}
use Rattle.meaning.specs.Tree.{Forest, Tag}
use Rattle.theory.proofs.Once.{value_same}
use Rattle.rows.specs.declared.TreeRows.{TreeRows}
use Rattle.rows.proofs.Unique.{SameBelow, rows_unique}
use Rattle.rows.specs.Trees.{IsTree, tree_of}

-- `RowsAre` gives both halves; the length of the tables is not asked for
pub rows_are_unique : (T : Forest Tag) (t t' : TreeRows) → IsTree t × (tree_of t ≡ T) → IsTree t' × (tree_of t' ≡ T)
    → (t.len ≡ t'.len) × SameBelow t.len t.code t'.code × SameBelow t.len t.mark t'.mark × SameBelow t.len t.kids t'.kids
    × SameBelow t.len t.span t'.span × SameBelow t.len t.up t'.up
rows_are_unique T t t' (r, e) (r', e') =
    rows_unique t.code t.mark t.kids t.span t.up t'.code t'.mark t'.kids t'.span t'.up t.len t'.len r r' (value_same e e')
