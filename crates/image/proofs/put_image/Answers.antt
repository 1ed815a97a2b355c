use native.Mathlib.Omega.{arith}
use Rattle.groups.proofs.Filled.{owes, owes_is, part_fits, part_written, none_left}
use Rattle.image.proofs.Listing.{left_next, left_none, listing_left}
use Rattle.image.proofs.put_image.Goals as goal

pub put_number-requires : goal.put_number-requires
put_number-requires c =
    let r = c.args.rows.now in
    part_fits _ _ (owes_is (listing_left r.code r.mark r.kids r.len) (owes c.args.w.now _ c.requires.1))

pub loop-u-init : goal.loop-u-init
loop-u-init c =
    let r = c.args.rows.now in
    (omega arith, part_written _ _ (owes_is (listing_left r.code r.mark r.kids r.len) (owes _ _ c.requires.1)) c.put_number.ensures)

pub put_head-requires : goal.put_head-requires
put_head-requires c =
    let r = c.args.rows.now in
    part_fits _ _ (owes_is (left_next r.code r.mark r.kids r.len _ c.loop-u-test.true) c.loop-u.invariant.1)

pub loop-u-preserved : goal.loop-u-preserved
loop-u-preserved c =
    let r = c.args.rows.now in
    (omega arith, part_written _ _ (owes_is (left_next r.code r.mark r.kids r.len _ c.loop-u-test.true) c.loop-u.invariant.1) c.put_head.ensures)

pub returns : goal.returns
returns c =
    let r = c.args.rows.now in
    none_left (owes_is (left_none r.code r.mark r.kids r.len _ c.loop-u-test.false) c.loop-u.invariant.1)
