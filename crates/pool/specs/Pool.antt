-- The pending operands in one pool of rows: the rows of operand k start at entry k of `first` and end before entry k + 1, its marks are the
-- entries k of `s` and `d`, and its links count from its own first row. An operand without rows is empty.
use denote.Ref.{at_last}
use Rattle.pool.specs.declared.operand.Pool as lent
use Rattle.std.specs.Prelude as code
use Rattle.std.specs.Prelude.{Some, None, ◌≡◌, List, [], ◌∷◌, map, ℕ, zero, suc, ◌+◌, ◌-◌, ◌≤◌, ◌<◌, length, get_or}
use Rattle.std.proofs.Math.Option.{Option}
use Rattle.meaning.specs.Expression.{Expr}
use Rattle.meaning.specs.TreeQuery.{Query}
use Rattle.meaning.specs.Gluing.{plain}
use Rattle.meaning.specs.Limits.{most_pending, most_steps}
use Rattle.meaning.specs.Word.{Pending, takes, answered}
use Rattle.theory.proofs.Accepted.{all_steps}
use Rattle.theory.proofs.Plain.{TreeO}
use Rattle.glue.specs.declared.trees.Built.{Built}
use Rattle.glue.specs.Rows.{pool_rows}
use Rattle.glue.specs.Trees.{built_from}

pub record Pool : Type 0 where
  pub parent : List ℕ
  pub label : List ℕ
  pub first : List ℕ
  pub s : List ℕ
  pub d : List ℕ

abbrev pub pool : List ℕ → List ℕ → List ℕ → List ℕ → List ℕ → Pool
pool P L F S D = record { parent = P; label = L; first = F; s = S; d = D }

-- what a number of rows and two marks are
abbrev pub stored : ℕ → ℕ → ℕ → code.Option Built
stored zero s d = None
stored (suc n) s d = Some (record { rows = suc n; s = s; d = d })

-- what the slices of the code's pool hold
abbrev pub held : lent.Pool → Pool
held x = pool x.parent.now x.label.now x.first.now x.s.now x.d.now

-- the slices of x, which hold what p says, while n operands are pending
abbrev pub holding : lent.Pool → Pool → ℕ → lent.Pool
holding x p n = record {
  parent = at_last x.parent p.parent;
  label = at_last x.label p.label;
  first = at_last x.first p.first;
  s = at_last x.s p.s;
  d = at_last x.d p.d;
  pending = n;
}

-- y is x, but for what its slices hold and for how many operands are pending
abbrev pub SameSlices : lent.Pool → lent.Pool → Type 0
SameSlices x y = y ≡ holding x (held y) y.pending

-- y is x, but for its rows
pub record OnlyRows (x y : lent.Pool) : Type 0 where
  pub parent : List ℕ
  pub label : List ℕ
  pub same : y ≡ holding x (pool parent label x.first.now x.s.now x.d.now) x.pending
  pub parents : length parent ≡ length x.parent.now
  pub labels : length label ≡ length x.label.now

-- operand k: its rows and marks, and the query that they are
abbrev pub built : Pool → ℕ → code.Option Built
built p k = stored (get_or p.first (k + 1) 0 - get_or p.first k 0) (get_or p.s k 0) (get_or p.d k 0)

unfoldable pub operand_at : Pool → ℕ → Option Query
operand_at p k = built_from (get_or p.first k 0) (built p k) p.parent p.label

-- the n pending operands, the latest first
unfoldable pub stack : Pool → ℕ → List (Option Query)
stack p zero = []
stack p (suc n) = operand_at p n ∷ stack p n

-- the slices are as long as they must be, and the rows of the n operands follow one another from row 0 on
pub record InOrder (p : Pool) (n : ℕ) : Type 0 where
  pub parents : pool_rows ≤ length p.parent
  pub labels : pool_rows ≤ length p.label
  pub firsts : most_pending < length p.first
  pub marks_s : most_pending ≤ length p.s
  pub marks_d : most_pending ≤ length p.d
  pub few : n ≤ most_pending
  pub start : get_or p.first 0 0 ≡ 0
  pub up : (k : ℕ) → k < n → get_or p.first k 0 ≤ get_or p.first (k + 1) 0
  pub end : get_or p.first n 0 ≤ pool_rows

-- every operand is a tree query or empty
abbrev pub Trees : Pool → ℕ → Type 0
Trees p n = (k : ℕ) → k < n → TreeO (operand_at p k)

-- ------------------------------------------------------------------ the word's pending operands
-- the pool holds the plain tree queries of the operands that are pending in the word
pub record PoolFor (p : Pool) (n : ℕ) (st : Pending) : Type 0 where
  pub order : InOrder p n
  pub queries : stack p n ≡ map plain st.operands
  pub count : all_steps st.operands ≡ st.steps
  pub few : st.steps ≤ most_steps

-- a sign that the word's check lets pass
abbrev pub Passes : Pool → ℕ → ℕ → Type 0
Passes p n sign = (st : Pending) × (st' : Pending) × (at : ℕ) × PoolFor p n st × (takes sign st at ≡ answered st')

-- before the first sign, and after the last sign of an accepted word
abbrev pub PoolForNone : Pool → Type 0
PoolForNone p = PoolFor p 0 (record { operands = []; steps = 0 })

abbrev pub PoolForOnly : Pool → Expr → Type 0
PoolForOnly p e = (st : Pending) × (st.operands ≡ e ∷ []) × PoolFor p 1 st

-- one sign: the pool p, which held the pending operands before it, is p' after it
abbrev pub Applies : Pool → ℕ → ℕ → Pool → ℕ → Type 0
Applies p n sign p' n' = (st st' : Pending) (at : ℕ) → PoolFor p n st → takes sign st at ≡ answered st' → PoolFor p' n' st'
