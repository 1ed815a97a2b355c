use mathlib.Core.Path.{sym, ◌∙◌}
use Rattle.order.proofs.Links.{pending, none_none, none_some, some_none, below_pending, by_keys, by_kids, pending_next, goes_along}
use Rattle.order.proofs.children.Lists.+compare.Goals as goal

pub loop-a-init : goal.loop-a-init
loop-a-init t c = let p = c.requires in pending _ _ _ _ _ _ p.1 p.2

pub returns-then-n-b : goal.returns-then-n-b
returns-then-n-b t c = some_none c.loop-a.invariant c.loop-a-test.true c.if-n-b.true

pub loop-a-smaller : goal.loop-a-smaller
loop-a-smaller t c = (goes_along c.loop-a.invariant.one c.loop-a-test.true c.at-a.ensures.0).1

pub returns-then-b-n : goal.returns-then-b-n
returns-then-b-n t c = none_some c.loop-a.invariant c.loop-a-test.false c.if-b-n.true

pub returns : goal.returns
returns t c = none_none c.loop-a.invariant c.loop-a-test.false c.if-b-n.false

pub returns-then-is_ne : goal.returns-then-is_ne
returns-then-is_ne t c =
    by_keys c.loop-a.invariant c.loop-a-test.true c.if-n-b.false c.cmp-o.ensures (sym c.is_ne.ensures ∙ c.if-is_ne.true)

pub compare-o-requires : goal.compare-o-requires
compare-o-requires t c =
    let h = below_pending c.loop-a.invariant c.loop-a-test.true c.if-n-b.false c.at.ensures.0 c.at-in-loop-a.ensures.0 c.decreases in
    (h.0, (c.requires.0, h.1, h.2))

pub returns-then-is_ne-2 : goal.returns-then-is_ne-2
returns-then-is_ne-2 t c =
    by_kids c.loop-a.invariant c.loop-a-test.true c.if-n-b.false c.cmp-o.ensures (sym c.is_ne.ensures ∙ c.if-is_ne.false)
    c.at.ensures.0 c.at-in-loop-a.ensures.0 c.compare-o.ensures (sym c.is_ne-in-loop-a.ensures ∙ c.if-is_ne-2.true)

pub loop-a-preserved : goal.loop-a-preserved
loop-a-preserved t c =
    pending_next c.loop-a.invariant c.loop-a-test.true c.if-n-b.false c.cmp-o.ensures (sym c.is_ne.ensures ∙ c.if-is_ne.false)
    c.at.ensures.0 c.at-in-loop-a.ensures.0 c.compare-o.ensures (sym c.is_ne-in-loop-a.ensures ∙ c.if-is_ne-2.false) c.at-a.ensures.0 c.at-b.ensures.0
