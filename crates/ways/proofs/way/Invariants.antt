-- What is left of the way belongs behind what the writer has.
use Prim.Native.Nat.{◌-◌}
use Rattle.branches.specs.Joining.{filled_by}
use Rattle.branches.specs.Factors.{IsRow}
use Rattle.branches.proofs.Joining.{Left}
use Rattle.ways.specs.Ways.{Covers, way_at}
use Rattle.ways.proofs.way.Given as goal

abbrev pub invariant-loop-x : goal.invariant-loop-x
invariant-loop-x l = IsRow l.rows l.x × Covers l.rows.span l.x l.t
    × Left (filled_by l.from l.initial.w (way_at l.rows.code l.rows.span l.t 0)) l.from l.w (way_at l.rows.code l.rows.span l.t l.x)

abbrev pub decreases-loop-x : goal.decreases-loop-x
decreases-loop-x l = l.t - l.x
