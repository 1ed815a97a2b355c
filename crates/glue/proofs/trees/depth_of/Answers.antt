use mathlib.Core.Path.{sym}
use native.Mathlib.Omega.{arith}
use Rattle.glue.proofs.Depth.{depth_top, depth_up}
use Rattle.glue.proofs.trees.depth_of.Goals as goal

pub returns-in_default : goal.returns-in_default
returns-in_default c L = depth_top _ _ L _ _ _ (c.loop-k.invariant.2 L) (omega arith) (omega arith) c.in_default.ensures

pub loop-k-preserved : goal.loop-k-preserved
loop-k-preserved c =
    let h = c.loop-k.invariant in let e = c.in-Some.ensures in
    (omega arith, c.requires.2 _ _ h.1 (sym e), λ L. depth_up _ _ L _ _ _ (h.2 L) (omega arith) (omega arith) _ e)
