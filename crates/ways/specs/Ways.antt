-- The ways of a normal form over rows: which row is t, and the factors of each way.
use Rattle.std.specs.Prelude.{◌≡◌, ◌⊎◌, cond, List, [], ◌∷◌, ◌++◌, ℕ, ◌+◌, ◌≤◌, ◌<◌, get_or, eqb}
use Rattle.meaning.specs.Limits.{most_nodes}
use Rattle.meaning.specs.Expression.{Expr, child}
use Rattle.meaning.specs.Tree.{Forest, bare, tree, Tag}
use Rattle.meaning.specs.Normal.{labelled, dst_in, off, ups, downs}
use Rattle.rows.specs.Rows.{shape, Holds, Rows}
use Rattle.rows.specs.declared.TreeRows.{TreeRows}
use Rattle.branches.specs.Factors.{under, own_at}

-- row x lies at or below row u
pub record Covers (span : List ℕ) (u x : ℕ) : Type 0 where
  pub from : u ≤ x
  pub to : x < u + get_or span u 0

-- row u is one of some rows that are laid out as a tree
pub record Part (span : List ℕ) (u : ℕ) : Type 0 where
  pub n : ℕ
  pub laid : Holds span 0 n (shape span n)
  pub few : n ≤ most_nodes
  pub within : u < n

-- rows s and d are two of some rows that are a tree
pub record Pair (span up : List ℕ) (s d : ℕ) : Type 0 where
  pub code : List ℕ
  pub mark : List ℕ
  pub kids : List ℕ
  pub n : ℕ
  pub rows : Rows code mark kids span up n
  pub s_in : s < n
  pub d_in : d < n

-- row x lies at or below row u in some rows that are a tree
pub record Climb (code kids span up : List ℕ) (u x : ℕ) : Type 0 where
  pub mark : List ℕ
  pub n : ℕ
  pub rows : Rows code mark kids span up n
  pub within : x < n
  pub covers : Covers span u x

abbrev pub IsClimb : TreeRows → ℕ → ℕ → Type 0
IsClimb t u x = Climb t.code t.kids t.span t.up u x

-- row c is the first row of one of the trees
abbrev pub Among : ℕ → Forest ℕ → Type 0
Among c bare = ⊥
Among c (tree i k r) = (c ≡ i) ⊎ Among c r

-- "let t be the lowest node above or at both s and d"
pub record Lowest (span : List ℕ) (s d t : ℕ) : Type 0 where
  pub to_s : Covers span t s
  pub to_d : Covers span t d
  pub least : (v : ℕ) → Covers span v s → Covers span v d → v ≤ t

-- "for each node from s up to just below t, its own factors and then parent"
unfoldable pub ups_at : List ℕ → List ℕ → ℕ → ℕ → List Expr
ups_at code span s t = ups (under code span s s t)

-- "for each node below t down to d, child and its own factors"
unfoldable pub downs_at : List ℕ → List ℕ → ℕ → ℕ → List Expr
downs_at code span d t = downs (under code span d d t)

-- "the way from the top down to t (own factors of each node above t, each followed by child)"; t is the node that bears d here
unfoldable pub way_to : Forest Tag → List Expr
way_to bare = []
way_to (tree a k r) = cond (dst_in a k) (cond a.dst [] (labelled a.lab (off dst_in k (child ∷ way_to k)))) (way_to r)

-- that way from row x on
unfoldable pub way_at : List ℕ → List ℕ → ℕ → ℕ → List Expr
way_at code span t x = cond (eqb x t) [] (own_at code span t t x ++ (child ∷ way_to (under code span t t x)))
