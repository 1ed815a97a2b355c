-- The first i bytes of row u keep the bits whose flags are 1.
use Prim.Native.Nat.{◌*◌}
use Rattle.bits.specs.Bits.{Met}
use Rattle.bits.proofs.meet.Given as goal

abbrev pub invariant-loop-i : goal.invariant-loop-i
invariant-loop-i l = Met l.initial.w l.u l.flags (8 * l.i) l.w
