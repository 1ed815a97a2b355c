-- The weight so far and that of the rows that are left are the weight of all rows.
use mathlib.Core.Path.{◌≡◌}
use Prim.Native.Nat.{◌+◌, ◌-◌, ◌*◌, ◌≤◌}
use Rattle.normal.specs.Weights.{rows_weight}
use Rattle.normal.proofs.weight.rows_weight.Given as goal

abbrev pub invariant-loop-u : goal.invariant-loop-u
invariant-loop-u l = (l.weight ≤ 7 * l.u)
    × (l.weight + rows_weight l.rows.code l.rows.kids l.rows.span l.rows.up l.ends.s l.ends.d (l.rows.len - l.u) l.u
    ≡ rows_weight l.rows.code l.rows.kids l.rows.span l.rows.up l.ends.s l.ends.d l.rows.len 0)
