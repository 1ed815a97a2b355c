-- One line behind the other.
use Rattle.groups.proofs.Filled.{owes, owes_is, part_fits, part_written, all_written}
use Rattle.report.proofs.Forms.{three_lines_lem}
use Rattle.report.proofs.put_lines.Goals as goal

pub put_line-requires : goal.put_line-requires
put_line-requires c =
    let (e, r) = c.requires.0 in
    (c.requires.0, part_fits _ _ (owes_is (three_lines_lem _ e r) (owes c.args.w.now _ c.requires.1)))

pub put_line-requires-2 : goal.put_line-requires-2
put_line-requires-2 c =
    let (e, r) = c.requires.0 in
    let o = owes_is (three_lines_lem _ e r) (owes c.args.w.now _ c.requires.1) in
    (c.requires.0, part_fits _ _ (part_written _ _ o c.put_line.ensures))

pub put_line-requires-3 : goal.put_line-requires-3
put_line-requires-3 c =
    let (e, r) = c.requires.0 in
    let o = owes_is (three_lines_lem _ e r) (owes c.args.w.now _ c.requires.1) in
    (c.requires.0, (part_written _ _ (part_written _ _ o c.put_line.ensures) c.put_line-2.ensures).fits)

pub returns : goal.returns
returns c =
    let (e, r) = c.requires.0 in
    let o = owes_is (three_lines_lem _ e r) (owes _ _ c.requires.1) in
    all_written (part_written _ _ (part_written _ _ o c.put_line.ensures) c.put_line-2.ensures) c.put_line-3.ensures
