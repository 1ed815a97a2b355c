-- The parents of the nodes of the first k bits are flagged.
use mathlib.Core.Path.{◌≡◌}
use mathlib.Core.Bool.{true}
use Prim.Native.Nat.{◌+◌}
use lib.ListN.{get_or}
use Rattle.bits.specs.Bits.{bit_of}
use Rattle.matching.specs.Table.{Upto, Added}
use Rattle.matching.proofs.kinship.mark_parents.Given as goal

abbrev pub invariant-loop-k : goal.invariant-loop-k
invariant-loop-k l = Added l.initial.has (Upto (λ j v. (bit_of l.byte j ≡ true) × (get_or l.document.parents.now (l.first + j) 0 ≡ v)) l.k) l.has
