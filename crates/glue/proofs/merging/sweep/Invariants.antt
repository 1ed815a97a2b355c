-- The loop takes one entry after the other: `Swept`.
use Prim.Native.Nat.{◌≤◌, ◌-◌}
use Rattle.glue.specs.Rows.{Swept}
use Rattle.glue.proofs.merging.sweep.Given as goal

abbrev pub invariant-loop-i : goal.invariant-loop-i
invariant-loop-i g l = (l.from ≤ l.i) × (l.i ≤ l.end) × ((z : _) → Swept z (goal.F-post g l.rule) l.gap l.from l.i l.initial.entries l.entries)

abbrev pub decreases-loop-i : goal.decreases-loop-i
decreases-loop-i g l = l.end - l.i
