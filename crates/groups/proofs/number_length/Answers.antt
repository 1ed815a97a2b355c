use mathlib.Core.Path.{ap}
use native.Mathlib.Omega.{arith}
use lib.ListN.{length}
use Rattle.groups.proofs.Number.{num_more}
use Rattle.groups.proofs.number_length.Goals as goal

pub loop-rest-preserved : goal.loop-rest-preserved
loop-rest-preserved c = (omega (arith, ap length (num_more _ c.loop-rest-test.true)), omega arith)
