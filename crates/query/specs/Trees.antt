-- A tree of an accepted word, as rows in image order.
use Rattle.std.specs.Prelude.{◌≡◌, List, ℕ}
use Rattle.meaning.specs.Expression.{Expr}
use Rattle.meaning.specs.Tree.{Forest, Tag}
use Rattle.meaning.specs.Word.{answered, read_word}
use Rattle.rows.specs.Trees.{IsTree, HasRoom, tree_of}
use Rattle.rows.specs.declared.TreeRows.{TreeRows}

-- the word is accepted
abbrev pub Accepted : List ℕ → Type 0
Accepted word = (e : Expr) × (read_word word ≡ answered e)

-- the rows are the tree that f makes of the word's expression, and the tables are as long as they were
pub record RowsOf (f : Expr → Forest Tag) (word : List ℕ) (t : TreeRows) : Type 0 where
  pub rows : IsTree t
  pub tree : (e : Expr) → read_word word ≡ answered e → tree_of t ≡ f e
  pub room : HasRoom t
