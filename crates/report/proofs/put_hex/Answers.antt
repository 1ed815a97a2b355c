-- Of each byte the higher digit, and then the lower one.
use Rattle.std.proofs.lemmas.List.{at_drop_more, at_drop_all}
use Rattle.meaning.specs.Program.{hex}
use Rattle.groups.proofs.Filled.{owes_is, byte_fits, part_written, none_left}
use Rattle.report.proofs.put_hex.Goals as goal

pub put_byte-requires : goal.put_byte-requires
unfolding hex
put_byte-requires c = byte_fits (owes_is (at_drop_more hex _ _ 0 c.loop-b-test.true) c.loop-b.invariant)

pub put_byte-requires-in-loop-b : goal.put_byte-requires-in-loop-b
unfolding hex
put_byte-requires-in-loop-b c =
    byte_fits (part_written _ _ (owes_is (at_drop_more hex _ _ 0 c.loop-b-test.true) c.loop-b.invariant) (rw c.digit.ensures at c.put_byte.ensures))

pub loop-b-preserved : goal.loop-b-preserved
unfolding hex
loop-b-preserved c =
    let o = owes_is (at_drop_more hex _ _ 0 c.loop-b-test.true) c.loop-b.invariant in
    part_written _ _ (part_written _ _ o (rw c.digit.ensures at c.put_byte.ensures)) (rw c.digit-in-loop-b.ensures at c.put_byte-in-loop-b.ensures)

pub returns : goal.returns
unfolding hex
returns c = none_left (owes_is (at_drop_all hex _ _ c.loop-b-test.false) c.loop-b.invariant)
