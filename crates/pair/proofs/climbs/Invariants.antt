-- The way from where it starts can be laid exactly if the way from the place reached can.
use Prim.Native.Nat.{◌<◌}
use lib.ListN.{length}
use Rattle.pair.proofs.Pair.{Climbed}
use Rattle.pair.proofs.climbs.Given as goal

abbrev pub invariant-loop-at : goal.invariant-loop-at
invariant-loop-at l = (l.at.node < length l.parents) × Climbed l.w l.rows.up l.parents l.fn.from.row l.fn.from.node l.at.row l.at.node

abbrev pub decreases-loop-at : goal.decreases-loop-at
decreases-loop-at l = l.at.row
