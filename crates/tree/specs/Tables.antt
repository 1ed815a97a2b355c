-- The tree of a table that is a tree query, as rows in image order: what is given, and what the rows then are.
use Rattle.std.specs.Prelude.{◌≡◌, List, ℕ, ◌<◌, get_or}
use Rattle.std.proofs.Math.Decide.{ℕ_discrete}
use Rattle.std.proofs.Math.Option.{Option}
use Rattle.meaning.specs.Basics.{is}
use Rattle.meaning.specs.Tree.{Forest, Tag}
use Rattle.meaning.specs.TreeQuery.{Query}
use Rattle.meaning.specs.Image.{mark_code}
use Rattle.rows.specs.Table.{QueryTable, query_of, TreeTable, ParentsFirst}
use Rattle.rows.specs.Trees.{IsTree, HasRoom, tree_of}
use Rattle.rows.specs.declared.TreeRows.{TreeRows}
use Rattle.tree.specs.declared.Query as given

-- ------------------------------------------------------------------ what is given
-- the table is a tree query, or has no rows
abbrev pub IsQuery : given.Query → Type 0
IsQuery q = QueryTable q.parent.now q.label.now q.n q.s q.d

-- the query that it is, or empty
abbrev pub query_at : given.Query → Option Query
query_at q = query_of q.parent.now q.label.now q.n q.s q.d

-- ------------------------------------------------------------------ what the rows then are
-- "mark (0 none, 1 s, 2 d, 3 both)", of the first n rows
abbrev pub Ends : List ℕ → ℕ → ℕ → ℕ → Type 0
Ends mark n s d = (i : ℕ) → i < n → get_or mark i 0 ≡ mark_code (is (ℕ_discrete i s)) (is (ℕ_discrete i d))

-- the rows are the tree T, and the tables are as long as they were
pub record RowsAre (T : Forest Tag) (t : TreeRows) : Type 0 where
  pub rows : IsTree t
  pub tree : tree_of t ≡ T
  pub room : HasRoom t

-- the first m rows of a table are a tree, parents before their children
pub record Sortable (parent code mark : List ℕ) (m : ℕ) : Type 0 where
  pub table : TreeTable parent code mark m
  pub first : ParentsFirst parent m
