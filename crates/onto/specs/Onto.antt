-- The folding test (01, Folding) over rows: "u folds onto v when u's label is a wildcard or equals v's, u's marks are among v's, and every child of u
-- folds onto some child of v." Children are those that are still there. Row u is one of t, row v one of t'; the two may be the same tree.
use Rattle.std.specs.Prelude.{◌≡◌, Bool, true, false, ℕ, suc, ◌+◌, ◌≤◌, get_or}
use Rattle.meaning.specs.Limits.{most_nodes}
use Rattle.meaning.specs.Tree.{Any}
use Rattle.meaning.specs.Folding.{MarkLe, TagLe, Folds, Onto}
use Rattle.bits.specs.Bits.{bit_of}
use Rattle.rows.specs.Rows.{below, Holds}
use Rattle.onto.specs.Left.{Nodes, tag_of, gone_at, left_below}

-- an answer that tells whether P is so
pub data Tells (P : Type 0) : Bool → Type 0 where
  so : P → Tells P true
  not_so : ¬ P → Tells P false

-- "u's marks are among v's", by the numbers of the marks
abbrev pub MarksLe : ℕ → ℕ → Type 0
MarksLe s t = MarkLe (bit_of s 0) (bit_of t 0) × MarkLe (bit_of s 1) (bit_of t 1)

-- row b is still there, and row a's label and marks fit it
abbrev pub FitsLeft : Nodes → ℕ → Nodes → ℕ → Type 0
FitsLeft t a t' b = (gone_at t'.mark b ≡ false) × TagLe (tag_of t a) (tag_of t' b)

-- "every child of u folds onto some child of v"
abbrev pub ChildrenFold : Nodes → ℕ → Nodes → ℕ → Type 0
ChildrenFold t u t' v = Folds (left_below t u) (left_below t' v)

-- row u folds onto row v
abbrev pub OntoRow : Nodes → ℕ → Nodes → ℕ → Type 0
OntoRow t u t' v = Onto (tag_of t u) (left_below t u) (tag_of t' v) (left_below t' v)

-- row a folds onto some child of row v
abbrev pub Lands : Nodes → ℕ → Nodes → ℕ → Type 0
Lands t a t' v = Any (Onto (tag_of t a) (left_below t a)) (left_below t' v)

-- row u and all below it are laid out in image order, and are not more than a tree query has
pub record Stands (t : Nodes) (u : ℕ) : Type 0 where
  pub some : 1 ≤ get_or t.span u 0
  pub few : u + get_or t.span u 0 ≤ most_nodes
  pub held : Holds t.span (suc u) (u + get_or t.span u 0) (below t.span u)
