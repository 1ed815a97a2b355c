use native.Mathlib.Omega.{arith}
use Rattle.matching.proofs.Filled.{filled_none, filled_more, filled_all}
use Rattle.matching.proofs.filling.match_table.Goals as goal

pub loop-u-init : goal.loop-u-init
loop-u-init c = filled_none _ _ _ c.requires.0 _ c.clear.ensures

pub loop-u-preserved : goal.loop-u-preserved
loop-u-preserved c = filled_more _ _ _ c.requires.0 _ _ _ c.loop-u-test.true c.loop-u.auto.u c.loop-u.invariant c.match_row.ensures

pub returns : goal.returns
returns c = λ mark. filled_all _ _ _ c.requires.0 _ _ (omega arith) c.loop-u.invariant mark
