-- As long as groups are left, they and the bytes counted make up the number's bytes.
use mathlib.Core.Path.{◌≡◌}
use Prim.Native.Nat.{suc, ◌+◌, ◌≤◌}
use lib.ListN.{length}
use Rattle.meaning.specs.Number.{num}
use Rattle.groups.proofs.number_length.Given as goal

abbrev pub invariant-loop-rest : goal.invariant-loop-rest
invariant-loop-rest l = (l.bytes + length (num l.rest) ≡ suc (length (num l.x))) × (l.rest + l.bytes ≤ suc l.x)

abbrev pub decreases-loop-rest : goal.decreases-loop-rest
decreases-loop-rest l = l.rest
