use Rattle.std.proofs.Common.{sym, ◌∙◌, arith}
use Rattle.ways.proofs.Steps.{lowest_start, lowest_done, lowest_less, lowest_next}
use Rattle.ways.proofs.lowest.Goals as goal

pub loop-t-init : goal.loop-t-init
loop-t-init c = lowest_start c.requires

pub loop-t-smaller : goal.loop-t-smaller
loop-t-smaller c = omega (arith, c.at-t.ensures.0, lowest_less c.requires c.loop-t.invariant (sym c.holds.ensures ∙ c.loop-t-test.true))

pub loop-t-preserved : goal.loop-t-preserved
loop-t-preserved c = rw c.at-t.ensures.0 (lowest_next c.requires c.loop-t.invariant (sym c.holds.ensures ∙ c.loop-t-test.true))

pub returns : goal.returns
returns c = lowest_done c.requires c.loop-t.invariant (sym c.holds.ensures ∙ c.loop-t-test.false)
