-- The loop goes up edge by edge, and there are fewer edges than rows.
use mathlib.Core.Path.{◌≡◌}
use mathlib.Core.List.{List}
use Prim.Native.Nat.{ℕ, ◌≤◌, ◌<◌, ◌-◌, ◌+◌}
use Rattle.meaning.specs.Gluing.{depth}
use Rattle.rows.specs.Table.{table}
use Rattle.glue.proofs.trees.depth_of.Given as goal

abbrev pub invariant-loop-k : goal.invariant-loop-k
invariant-loop-k l = (l.k ≤ l.n) × (l.i < l.n) × ((L : List ℕ) → depth l.n (table l.n l.parent L) l.x ≡ l.k + depth (l.n - l.k) (table l.n l.parent L) l.i)

abbrev pub decreases-loop-k : goal.decreases-loop-k
decreases-loop-k l = l.n - l.k
