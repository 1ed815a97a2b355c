-- "That no second answer fits is itself a proved statement": of the rows of an accepted word's tree.
use mathlib.Core.Path.{◌≡◌}
use mathlib.Core.List.{List}
use Prim.Native.Nat.{ℕ}
use Rattle.meaning.specs.Expression.{Expr}
use Rattle.meaning.specs.Tree.{Forest, Tag}
use Rattle.meaning.specs.Word.{answered, read_word}
use Rattle.rows.specs.declared.TreeRows.{TreeRows}
use Rattle.rows.specs.Trees.{IsTree, tree_of}
use Rattle.rows.proofs.Unique.{SameBelow}
use Rattle.tree.proofs.Unique.{rows_are_unique}
use Rattle.query.specs.Trees.{Accepted}

-- `RowsOf` gives both halves; the length of the tables is not asked for
pub tree_unique : (f : Expr → Forest Tag) (word : List ℕ) (t t' : TreeRows) → Accepted word
    → IsTree t × ((e : Expr) → read_word word ≡ answered e → tree_of t ≡ f e)
    → IsTree t' × ((e : Expr) → read_word word ≡ answered e → tree_of t' ≡ f e)
    → (t.len ≡ t'.len) × SameBelow t.len t.code t'.code × SameBelow t.len t.mark t'.mark × SameBelow t.len t.kids t'.kids
    × SameBelow t.len t.span t'.span × SameBelow t.len t.up t'.up
tree_unique f word t t' (e, a) (r, tree) (r', tree') = rows_are_unique (f e) t t' (r, tree e a) (r', tree' e a)
