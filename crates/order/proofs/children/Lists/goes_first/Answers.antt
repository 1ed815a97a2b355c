use mathlib.Core.Path.{sym, ◌∙◌}
use Rattle.order.proofs.Links.{first_keys, first_kids}
use Rattle.order.proofs.children.Lists.goes_first.Goals as goal

pub returns-then-is_ne : goal.returns-then-is_ne
returns-then-is_ne c = c.is_lt.ensures ∙ first_keys _ _ _ _ _ _ _ c.cmp-o.ensures (sym c.is_ne.ensures ∙ c.if-is_ne.true)

pub returns : goal.returns
returns c =
    c.is_le.ensures ∙ first_kids _ _ _ _ _ _ c.cmp-o.ensures (sym c.is_ne.ensures ∙ c.if-is_ne.false) c.at.ensures.0 c.at-2.ensures.0 c.compare.ensures
