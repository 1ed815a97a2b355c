-- The ways from where they start can be laid at once exactly if those from the places reached can.
use Prim.Native.Nat.{◌+◌, ◌<◌}
use lib.ListN.{length}
use Rattle.pair.proofs.Pair.{Meeting}
use Rattle.pair.proofs.meet.Given as goal

abbrev pub invariant-loop-s : goal.invariant-loop-s
invariant-loop-s l = (l.s.node < length l.parents) × (l.d.node < length l.parents)
    × Meeting l.w l.rows.up l.parents l.fn.s.row l.fn.s.node l.fn.d.row l.fn.d.node l.s.row l.s.node l.d.row l.d.node

abbrev pub decreases-loop-s : goal.decreases-loop-s
decreases-loop-s l = l.s.row + l.d.row
