-- A name, a blank, the digits and the line feed, one behind the other.
use Rattle.meaning.specs.Program.{line}
use Rattle.groups.proofs.Filled.{owes, byte_fits, part_fits, part_written, all_written}
use Rattle.report.proofs.put_named.Goals as goal

pub put_bytes-requires : goal.put_bytes-requires
unfolding line
put_bytes-requires c = part_fits _ _ (owes c.args.w.now _ c.requires)

pub put_byte-requires : goal.put_byte-requires
unfolding line
put_byte-requires c = byte_fits (part_written _ _ (owes c.args.w.now _ c.requires) c.put_bytes.ensures)

pub put_hex-requires : goal.put_hex-requires
unfolding line
put_hex-requires c =
    part_fits _ _ (part_written _ _ (part_written _ _ (owes c.args.w.now _ c.requires) c.put_bytes.ensures) c.put_byte.ensures)

pub put_byte-requires-2 : goal.put_byte-requires-2
unfolding line
put_byte-requires-2 c =
    let o = part_written _ _ (part_written _ _ (owes c.args.w.now _ c.requires) c.put_bytes.ensures) c.put_byte.ensures in
    byte_fits (part_written _ _ o c.put_hex.ensures)

pub returns : goal.returns
unfolding line
returns c =
    let o = part_written _ _ (part_written _ _ (owes c.args.w.now _ c.requires) c.put_bytes.ensures) c.put_byte.ensures in
    all_written (part_written _ _ o c.put_hex.ensures) c.put_byte-2.ensures
