use Prim.Native.Nat.{suc, ◌-◌}
use mathlib.Core.Path.{◌≡◌, ap, ◌∙◌}
use native.Mathlib.Omega.{arith}
use Rattle.order.specs.Links.{slot_of}
use Rattle.order.proofs.Gathering.{lent_set, gathered_none, gathered_turn}
use Rattle.order.proofs.children.Lists.gather.Goals as goal

pub loop-i-init : goal.loop-i-init
loop-i-init c = (gathered_none c.requires c.clear.ensures, c.clear.ensures.1)

pub loop-i-preserved : goal.loop-i-preserved
loop-i-preserved c =
    let v = c.loop-i in let L = v.invariant.1 in let z : suc (v.i - 1) ≡ v.i = omega arith in (
      gathered_turn c.requires L (v.i - 1) (omega arith) (rw z v.invariant.0) (c.slot-p.ensures.0 ∙ ap (slot_of _) c.link.ensures.0),
      lent_set L _ _ _ _,
    )
