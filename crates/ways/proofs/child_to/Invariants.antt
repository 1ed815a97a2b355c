-- The children from row c on are left, and x lies at or behind row c.
use Prim.Native.Nat.{◌+◌, ◌-◌}
use lib.ListN.{get_or}
use Rattle.ways.proofs.Steps.{Children}
use Rattle.ways.proofs.child_to.Given as goal

abbrev pub invariant-loop-u : goal.invariant-loop-u
invariant-loop-u l = Children l.rows.span l.u l.x l.c

abbrev pub decreases-loop-u : goal.decreases-loop-u
decreases-loop-u l = l.u + get_or l.rows.span l.u 0 - l.c
