use Rattle.std.proofs.lemmas.List.{drop_more, drop_all}
use Rattle.groups.proofs.Filled.{owes_is, part_written, none_left}
use Rattle.report.proofs.put_bytes.Goals as goal

pub loop-b-preserved : goal.loop-b-preserved
loop-b-preserved c = part_written _ _ (owes_is (drop_more _ _ 0 c.loop-b-test.true) c.loop-b.invariant) c.put_byte.ensures

pub returns : goal.returns
returns c = none_left (owes_is (drop_all _ _ c.loop-b-test.false) c.loop-b.invariant)
