-- The factors of a row: the chain of a branch, and "a node's own factors".
use Rattle.std.specs.Prelude.{◌||◌, cond, List, [], ◌∷◌, ◌++◌, ℕ, ◌<◌, get_or, eqb}
use Rattle.meaning.specs.Expression.{Expr, child}
use Rattle.meaning.specs.Tree.{Forest, Tag}
use Rattle.meaning.specs.Normal.{labelled, branch, onward, chains, either_in, off}
use Rattle.rows.specs.Rows.{lab_of, covers, below, map_t, Rows}
use Rattle.rows.specs.declared.TreeRows.{TreeRows}

-- row u is one of some rows that are a tree
pub record Row (code kids span : List ℕ) (u : ℕ) : Type 0 where
  pub mark : List ℕ
  pub up : List ℕ
  pub n : ℕ
  pub rows : Rows code mark kids span up n
  pub within : u < n

abbrev pub IsRow : TreeRows → ℕ → Type 0
IsRow t u = Row t.code t.kids t.span u

-- what a row bears where s is row x and d is row y
abbrev pub tagged : List ℕ → ℕ → ℕ → ℕ → Tag
tagged code x y u = record { lab = lab_of (get_or code u 0); src = eqb u x; dst = eqb u y }

-- what lies below row u then
unfoldable pub under : List ℕ → List ℕ → ℕ → ℕ → ℕ → Forest Tag
under code span x y u = map_t (tagged code x y) (below span u)

-- the label of row u as a factor, "if any"
unfoldable pub label_at : List ℕ → ℕ → List Expr
label_at code u = labelled (lab_of (get_or code u 0)) []

-- what goes on below row u in a chain: "if it has exactly one child, the chain goes on with that child; if it has more, one first projection each".
-- Marks are no part of it
unfoldable pub onward_at : List ℕ → List ℕ → ℕ → List Expr
onward_at code span u = onward (chains (under code span u u u))

-- the chain of a branch that starts at row u: "child, the node's label, and then" what goes on below it
unfoldable pub chain_at : List ℕ → List ℕ → ℕ → List Expr
chain_at code span u = child ∷ labelled (lab_of (get_or code u 0)) (onward_at code span u)

-- the first projection for row c, if it is off the ways to row x and to row y
unfoldable pub off_at : List ℕ → List ℕ → ℕ → ℕ → ℕ → List Expr
off_at code span x y c = cond (covers span c x || covers span c y) [] (branch (chain_at code span c) ∷ [])

-- "one first projection for each child off those ways, in image order", the ways to row x and to row y
unfoldable pub branches_at : List ℕ → List ℕ → ℕ → ℕ → ℕ → List Expr
branches_at code span x y u = off either_in (under code span x y u) []

-- "A node's own factors are its label, if any, and then" those
unfoldable pub own_at : List ℕ → List ℕ → ℕ → ℕ → ℕ → List Expr
own_at code span x y u = label_at code u ++ branches_at code span x y u
