-- What a sign makes of the latest operands: one operand, in the rows from the start of the earliest that it takes.
use Rattle.pool.specs.declared.operand.Pool as lent
use Rattle.std.specs.Prelude as code
use Rattle.std.specs.Prelude.{◌≡◌, List, [], ◌∷◌, map, ℕ, ◌+◌, ◌≤◌, ◌<◌, length, get_or, set, take, ◌%◌}
use Rattle.std.proofs.Math.Option.{Option, none, some}
use Rattle.meaning.specs.Expression.{Expr}
use Rattle.meaning.specs.TreeQuery.{any, node, Query}
use Rattle.meaning.specs.Gluing.{plain}
use Rattle.meaning.specs.Limits.{most_pending, most_steps}
use Rattle.meaning.specs.Word.{Pending, takes, answered}
use Rattle.rows.specs.Rows.{lab_of}
use Rattle.glue.specs.declared.trees.Built.{Built}
use Rattle.glue.specs.Rows.{pool_rows, given}
use Rattle.glue.specs.Trees.{kept, rows_in, built_from}
use Rattle.pool.specs.declared.operand.Latest.{Latest}
use Rattle.theory.proofs.Accepted.{all_steps}
use Rattle.pool.specs.Pool.{Pool, pool, holding, stack, InOrder, PoolFor}

-- the operand l, in the rows from a on
abbrev pub latest_at : ℕ → Latest → List ℕ → List ℕ → Option Query
latest_at a l P L = built_from a l.built P L

-- of a top with a label code and its child as many rows as o has, with the marks of o
abbrev pub topped : ℕ → code.Option Built → Option Query
topped c o = given (λ r. record { rows = take r.rows (node none (lab_of c) ∷ node (some 0) any ∷ []); s = r.s; d = r.d }) o

-- operand k is the query o, in the rows from a on, and the rows before it stay
pub record Made (k a : ℕ) (P L : List ℕ) (l : Latest) (P' L' : List ℕ) (o : Option Query) : Type 0 where
  pub place : l.at ≡ k
  pub whole : latest_at a l P' L' ≡ o
  pub parents : take a P' ≡ take a P
  pub labels : take a L' ≡ take a L

-- the operands of p below l, and l as the latest, are those that are pending
pub record Gives (p : Pool) (l : Latest) (P' L' : List ℕ) (st : Pending) : Type 0 where
  pub place : ℕ
  pub latest : Expr
  pub rest : List Expr
  pub operands : st.operands ≡ latest ∷ rest
  pub below : stack p place ≡ map plain rest
  pub order : InOrder p place
  pub room : place < most_pending
  pub made : Made place (get_or p.first place 0) p.parent p.label l P' L' (plain latest)
  pub count : all_steps st.operands ≡ st.steps
  pub few : st.steps ≤ most_steps

abbrev pub Makes : Pool → ℕ → ℕ → Latest → List ℕ → List ℕ → Type 0
Makes p n sign l P' L' = (st st' : Pending) (at : ℕ) → PoolFor p n st → takes sign st at ≡ answered st' → Gives p l P' L' st'

-- the latest operand l, of the query o, is number k of the pool x, whose rows are now those of y
abbrev pub LatestIs : lent.Pool → ℕ → Latest → lent.Pool → Option Query → Type 0
LatestIs x k l y o = Made k (get_or x.first.now k 0) x.parent.now x.label.now l y.parent.now y.label.now o

-- l put in its place: as many more are pending
abbrev pub with_latest : lent.Pool → Latest → lent.Pool
with_latest x l = holding x (pool x.parent.now x.label.now (set x.first.now (l.at + 1) (get_or x.first.now l.at 0 + rows_in l.built))
    (set x.s.now l.at ((kept l.built).s % 65536)) (set x.d.now l.at ((kept l.built).d % 65536))) (l.at + 1)

-- there is room for l in the pool
abbrev pub PutFits : Latest → List ℕ → List ℕ → List ℕ → Type 0
PutFits l F S D =
    (l.at < most_pending) × (most_pending < length F) × (most_pending ≤ length S) × (most_pending ≤ length D) × (get_or F l.at 0 + rows_in l.built ≤ pool_rows)
