use mathlib.Core.Path.{refl, sym, ◌∙◌}
use Rattle.order.specs.Links.{spot_at}
use Rattle.order.proofs.Links.{opens, goes_along, spot_end, spot_here, spot_on}
use Rattle.order.proofs.children.Lists.spot.Goals as goal

pub loop-i-init : goal.loop-i-init
loop-i-init c = (c.requires.3, unfold spot_at in refl)

pub goes_first-requires : goal.goes_first-requires
goes_first-requires c =
    let p = c.requires in (p.0, p.1, c.loop-i-test.true, p.2, (opens c.loop-i.invariant.0 c.loop-i-test.true).down)

pub returns-then-goes_first : goal.returns-then-goes_first
returns-then-goes_first c =
    let v = c.loop-i.invariant in sym (v.1 ∙ spot_here _ _ _ _ _ _ _ v.0 c.loop-i-test.true c.goes_first.ensures c.if-goes_first.true)

pub loop-i-smaller : goal.loop-i-smaller
loop-i-smaller c = (goes_along c.loop-i.invariant.0 c.loop-i-test.true c.at-i.ensures.0).1

pub loop-i-preserved : goal.loop-i-preserved
loop-i-preserved c =
    let v = c.loop-i.invariant in (
      (goes_along v.0 c.loop-i-test.true c.at-i.ensures.0).0,
      v.1 ∙ spot_on _ _ _ _ _ _ _ v.0 c.loop-i-test.true c.goes_first.ensures c.if-goes_first.false c.at-i.ensures.0,
    )

pub returns : goal.returns
returns c = let v = c.loop-i.invariant in sym (v.1 ∙ spot_end _ _ _ _ _ _ _ c.loop-i-test.false)
