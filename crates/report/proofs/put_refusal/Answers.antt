-- The word `refused` and a blank, the number, a blank, the place and the line feed, one behind the other.
use native.Mathlib.Omega.{arith}
use Rattle.meaning.specs.Program.{refusal_line}
use Rattle.theory.proofs.Program.{length_refusal}
use Rattle.groups.proofs.Filled.{owes, byte_fits, part_fits, part_written, all_written}
use Rattle.report.proofs.put_refusal.Goals as goal

pub put_bytes-requires : goal.put_bytes-requires
put_bytes-requires c = omega (arith, length_refusal c.args.number c.args.place)

pub put_decimal-requires : goal.put_decimal-requires
unfolding refusal_line
put_decimal-requires c = part_fits _ _ (part_written _ _ (owes c.args.w.now _ c.requires) c.put_bytes.ensures)

pub put_byte-requires : goal.put_byte-requires
unfolding refusal_line
put_byte-requires c =
    byte_fits (part_written _ _ (part_written _ _ (owes c.args.w.now _ c.requires) c.put_bytes.ensures) c.put_decimal.ensures)

pub put_decimal-requires-2 : goal.put_decimal-requires-2
unfolding refusal_line
put_decimal-requires-2 c =
    let o = part_written _ _ (part_written _ _ (owes c.args.w.now _ c.requires) c.put_bytes.ensures) c.put_decimal.ensures in
    part_fits _ _ (part_written _ _ o c.put_byte.ensures)

pub put_byte-requires-2 : goal.put_byte-requires-2
unfolding refusal_line
put_byte-requires-2 c =
    let o = part_written _ _ (part_written _ _ (owes c.args.w.now _ c.requires) c.put_bytes.ensures) c.put_decimal.ensures in
    byte_fits (part_written _ _ (part_written _ _ o c.put_byte.ensures) c.put_decimal-2.ensures)

pub returns : goal.returns
unfolding refusal_line
returns c =
    let o = part_written _ _ (part_written _ _ (owes c.args.w.now _ c.requires) c.put_bytes.ensures) c.put_decimal.ensures in
    all_written (part_written _ _ (part_written _ _ o c.put_byte.ensures) c.put_decimal-2.ensures) c.put_byte-2.ensures
