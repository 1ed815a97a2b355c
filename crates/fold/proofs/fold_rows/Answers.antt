use Prim.Native.Nat.{◌+◌, ◌-◌}
use mathlib.Core.Path.{◌≡◌, sym, ◌∙◌}
use native.Mathlib.Omega.{arith}
use Rattle.onto.proofs.Left.{remarked_none, remarked_more}
use Rattle.fold.proofs.Whole.{settled_none, settled_stands, settled_more, settled_all}
use Rattle.fold.proofs.fold_rows.Goals as goal

-- the check finds it alone; it stands here so that the log of must-fail/hands_back names the fact
pub loop-p-init : goal.loop-p-init
loop-p-init c = (c.told-child, remarked_none _, settled_none _ _)

pub fold_children-requires : goal.fold_children-requires
fold_children-requires c =
    let v = c.loop-p.invariant in
    rw (v.1.code, v.1.span) (settled_stands c.requires v.2 (c.loop-p.p - 1) (omega (arith, v.2.until, c.loop-p-test.true)))

pub loop-p-preserved : goal.loop-p-preserved
loop-p-preserved c =
    let v = c.loop-p.invariant in
    let e : c.loop-p.p ≡ c.loop-p.p - 1 + 1 = omega (arith, c.loop-p-test.true) in
    let f = c.fold_children.ensures in
    (c.fold_children.array_long, remarked_more v.1 f.1, settled_more c.requires (rw e at v.2) (rw (v.1.code, v.1.span) at f.0))

pub returns : goal.returns
returns c =
    let v = c.loop-p.invariant in
    let e : c.loop-p.p ≡ 0 = omega (arith, c.loop-p-test.false) in
    (settled_all c.requires (rw e at v.2), v.1, v.0 ∙ sym c.told-child)
