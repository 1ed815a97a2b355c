-- What is left of the way belongs behind what the writer has.
use Prim.Native.Nat.{◌-◌}
use Rattle.branches.specs.Joining.{filled_by}
use Rattle.branches.specs.Factors.{IsRow}
use Rattle.branches.proofs.Joining.{Left}
use Rattle.ways.specs.Ways.{Covers, downs_at}
use Rattle.ways.proofs.fall.Given as goal

abbrev pub invariant-loop-x : goal.invariant-loop-x
invariant-loop-x l = IsRow l.rows l.x × Covers l.rows.span l.x l.d
    × Left (filled_by l.from l.initial.w (downs_at l.rows.code l.rows.span l.d l.t)) l.from l.w (downs_at l.rows.code l.rows.span l.d l.x)

abbrev pub decreases-loop-x : goal.decreases-loop-x
decreases-loop-x l = l.d - l.x
