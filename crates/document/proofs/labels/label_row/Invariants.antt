-- The first i bytes of row u are right, and the rest of it is clear.
use Prim.Native.Nat.{◌*◌}
use Rattle.bits.specs.Bits.{OnlyRow}
use Rattle.document.specs.Nodes.{Suits, RowUpTo}
use Rattle.document.proofs.labels.label_row.Given as goal

abbrev pub invariant-loop-i : goal.invariant-loop-i
invariant-loop-i l = OnlyRow l.initial.w l.u l.w × RowUpTo l.w l.u (Suits l.code l.labels) (8 * l.i)
