-- The five numbers of each row in one value, and how many rows there are.
use Rattle.meaning.specs.Tree.{Forest, Tag}
use Rattle.rows.specs.Rows.{Rows, Room, tree_rows}
use Rattle.rows.specs.declared.TreeRows.{TreeRows}

-- the rows are a tree, or there are none
abbrev pub IsTree : TreeRows → Type 0
IsTree t = Rows t.code t.mark t.kids t.span t.up t.len

-- the tree that they are; no rows are the empty tree
abbrev pub tree_of : TreeRows → Forest Tag
tree_of t = tree_rows t.code t.mark t.span t.len

-- the tables have room for the rows of any tree query
abbrev pub HasRoom : TreeRows → Type 0
HasRoom t = Room t.code t.mark t.kids t.span t.up
