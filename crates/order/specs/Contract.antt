-- The tables that `image_rows` and `tree_rows` are given, and what their steps hand on: the lists of children, and the tags of the rows of the table.
use Rattle.std.specs.Prelude.{◌≡◌, List, ℕ, suc, ◌≤◌, ◌<◌, length, get_or}
use Rattle.meaning.specs.Limits.{most_nodes}
use Rattle.meaning.specs.Number.{largest_label}
use Rattle.meaning.specs.Tree.{Forest, Tag}
use Rattle.rows.specs.Rows.{tag_at, map_t}
use Rattle.rows.specs.Table.{TreeTable, table_tree}
use Rattle.order.specs.declared.Table.{Table}
use Rattle.order.specs.declared.children.Lists.{Lists}
use Rattle.order.specs.Links.{forest_at}

-- the table is a tree, or has no rows
abbrev pub IsTable : Table → Type 0
IsTable t = TreeTable t.parent.now t.code.now t.mark.now t.n

-- the tree that it is; no rows are the empty tree
abbrev pub tree_of_table : Table → Forest Tag
tree_of_table t = table_tree t.parent.now t.code.now t.mark.now t.n

-- what is read at the last slot of the lists, with what the table's rows bear
abbrev pub tree_of_lists : Table → Lists → Forest Tag
tree_of_lists t l = map_t (tag_at t.code.now t.mark.now) (forest_at t.n l.first l.next (get_or l.first t.n 0))

-- the lists of children: one for each node, and one for the top
pub record Lent (first next : List ℕ) : Type 0 where
  pub firsts : length first ≡ suc most_nodes
  pub nexts : length next ≡ suc most_nodes

-- n rows that bear label codes and marks
pub record Tagged (code mark : List ℕ) (n : ℕ) : Type 0 where
  pub few : n ≤ most_nodes
  pub codes : n ≤ length code
  pub labels : (i : ℕ) → i < n → get_or code i 0 ≤ suc largest_label
  pub marked : (i : ℕ) → i < n → get_or mark i 0 ≤ 3
