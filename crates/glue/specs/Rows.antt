-- The rows of a table as two lists of numbers, parents and label codes, while one row is taken out or the links of some rows change.
use Rattle.std.specs.Prelude as code
use Rattle.std.specs.Prelude.{◌≡◌, List, ℕ, ◌+◌, ◌≤◌, ◌<◌, length, get_or, Some, None}
use Rattle.std.proofs.Math.Option.{Option, none, some}
use Rattle.meaning.specs.Basics.{mapped}
use Rattle.rows.specs.Table.{parent_of}

-- r is the link p, each row i of which is now f i
abbrev pub Relinked : (ℕ → ℕ) → ℕ → ℕ → Type 0
Relinked f p r = parent_of r ≡ mapped f (parent_of p)

-- each entry from a up to i comes by R from the old one `gap` further on, and all others are as they were; z stands behind the end
pub record Swept {A : Type 0} (z : A) (R : A → A → Type 0) (gap a i : ℕ) (old new : List A) : Type 0 where
  pub same : length new ≡ length old
  pub low : (k : ℕ) → k < a → get_or new k z ≡ get_or old k z
  pub done : (k : ℕ) → a ≤ k → k < i → R (get_or old (k + gap) z) (get_or new k z)
  pub rest : (k : ℕ) → i ≤ k → get_or new k z ≡ get_or old k z

-- the most rows that are in use at once: an operand has at most one more than it has steps, so 255 steps and 256 pending operands have 511
abbrev pub pool_rows : ℕ
pool_rows = 512

-- n rows lie in the lists, no more than the pool has
pub record RowsFit (n : ℕ) (P L : List ℕ) : Type 0 where
  pub small : n ≤ pool_rows
  pub parents : n ≤ length P
  pub labels : n ≤ length L

-- what the code may answer, as the definitions have it
abbrev pub given : {A B : Type 0} → (A → B) → code.Option A → Option B
given f None = none
given f (Some a) = some (f a)
