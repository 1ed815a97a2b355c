-- Row u is right below v, and clear from v on.
use Rattle.bits.specs.Bits.{OnlyRow}
use Rattle.document.specs.Nodes.{Suits, RowUpTo}
use Rattle.document.proofs.labels.label_rest.Given as goal

abbrev pub invariant-loop-v : goal.invariant-loop-v
invariant-loop-v l = OnlyRow l.initial.w l.u l.w × RowUpTo l.w l.u (Suits l.code l.labels) l.v
