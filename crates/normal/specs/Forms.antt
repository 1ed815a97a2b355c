-- The rows of a tree query, and the factors of its normal form in their order.
use Rattle.std.specs.Prelude.{◌≡◌, List, [], ◌++◌, ℕ, ◌<◌}
use Rattle.meaning.specs.Expression.{Expr}
use Rattle.meaning.specs.Normal.{above_factor}
use Rattle.theory.proofs.Count.{count, src, dst}
use Rattle.rows.specs.Rows.{tree_rows, Rows}
use Rattle.rows.specs.declared.TreeRows.{TreeRows}
use Rattle.branches.specs.Factors.{own_at}
use Rattle.ways.specs.Ways.{ups_at, downs_at, way_at}

-- the rows of a tree query, which has "a source s and a destination d", or no rows
pub record QueryRows (code mark kids span up : List ℕ) (n : ℕ) : Type 0 where
  pub rows : Rows code mark kids span up n
  pub one_src : 0 < n → count src (tree_rows code mark span n) ≡ 1
  pub one_dst : 0 < n → count dst (tree_rows code mark span n) ≡ 1

abbrev pub IsQuery : TreeRows → Type 0
IsQuery t = QueryRows t.code t.mark t.kids t.span t.up t.len

-- n rows that are a tree, whatever their marks
pub record Unmarked (code kids span up : List ℕ) (n : ℕ) : Type 0 where
  pub mark : List ℕ
  pub rows : Rows code mark kids span up n

abbrev pub AreRows : TreeRows → Type 0
AreRows t = Unmarked t.code t.kids t.span t.up t.len

-- the factors in order: up from s, the way above, t's own factors, down to d
unfoldable pub form_at : List ℕ → List ℕ → ℕ → ℕ → ℕ → List Expr
form_at code span s d t =
    ups_at code span s t ++ (above_factor (way_at code span t 0) [] ++ (own_at code span s d t ++ downs_at code span d t))
