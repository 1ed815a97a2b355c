use Prim.Native.Nat.{◌+◌, ◌*◌}
use native.Mathlib.Omega.{arith}
use lib.ListN.{get_or}
use lib.Dec.{eqb}
use Rattle.std.proofs.Common.{rules}
use Rattle.bits.proofs.Bits.{met_more}
use Rattle.bits.proofs.meet.Goals as goal

pub loop-i-preserved : goal.loop-i-preserved
loop-i-preserved c =
    let s = c.sift.ensures 0 (λ k. eqb (get_or c.args.flags.now (8 * c.loop-i.i + k) 0) 1) (λ k on l e. search rules) in
    met_more _ _ _ _ c.loop-i.i _ (omega arith) c.requires.1 s.low c.loop-i.invariant
