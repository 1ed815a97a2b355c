-- What is left of row u, and the children still to come, say where u can be laid.
use Prim.Native.Nat.{◌+◌}
use Rattle.bits.specs.Bits.{OnlyRow}
use Rattle.matching.specs.Table.{RowInside, RowsFrom}
use Rattle.matching.proofs.Filled.{Partly}
use Rattle.matching.proofs.filling.fill_row.Given as goal

abbrev pub invariant-loop-c : goal.invariant-loop-c
invariant-loop-c l = OnlyRow l.fn.w l.u l.w × RowsFrom l.rows l.document (l.u + 1) l.w × Partly l.rows l.document l.u l.c-iterator l.w
    × RowInside l.w l.u l.document.parents.now
