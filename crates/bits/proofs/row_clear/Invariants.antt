-- `clear` tells whether the first bytes are 0.
use mathlib.Core.Path.{◌≡◌}
use Prim.Native.Nat.{◌+◌, ◌*◌}
use lib.ListN.{get_or}
use lib.Dec.{eqb}
use Rattle.bits.specs.Bits.{all_to}
use Rattle.bits.proofs.row_clear.Given as goal

abbrev pub invariant-loop-b : goal.invariant-loop-b
invariant-loop-b l = l.clear ≡ all_to l.b-index (λ j. eqb (get_or l.w (128 * l.u + j) 0) 0)
