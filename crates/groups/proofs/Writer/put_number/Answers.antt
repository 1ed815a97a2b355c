use Rattle.groups.proofs.Number.{num_more}
use Rattle.groups.proofs.Filled.{owes_is, part_written}
use Rattle.groups.proofs.Writer.put_number.Goals as goal

pub loop-rest-preserved : goal.loop-rest-preserved
loop-rest-preserved c =
    part_written _ _ (owes_is (num_more c.loop-rest.rest c.loop-rest-test.true) c.loop-rest.invariant) c.put_byte.ensures
