-- Three numbers, each behind the one before it.
use Rattle.groups.proofs.Filled.{owes, part_fits, part_written, all_written}
use Rattle.image.specs.Listing.{head}
use Rattle.image.proofs.put_head.Goals as goal

pub put_number-requires : goal.put_number-requires
unfolding head
put_number-requires c = part_fits _ _ (owes c.args.w.now _ c.requires)

pub put_number-requires-2 : goal.put_number-requires-2
unfolding head
put_number-requires-2 c = part_fits _ _ (part_written _ _ (owes _ _ c.requires) c.put_number.ensures)

pub put_number-requires-3 : goal.put_number-requires-3
unfolding head
put_number-requires-3 c =
    (part_written _ _ (part_written _ _ (owes _ _ c.requires) c.put_number.ensures) c.put_number-2.ensures).fits

pub returns : goal.returns
unfolding head
returns c =
    all_written (part_written _ _ (part_written _ _ (owes _ _ c.requires) c.put_number.ensures) c.put_number-2.ensures) c.put_number-3.ensures
