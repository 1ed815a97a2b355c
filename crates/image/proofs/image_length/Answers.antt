use mathlib.Core.Path.{ap}
use native.Mathlib.Omega.{arith}
use lib.ListN.{length, length-append}
use Rattle.image.proofs.Listing.{num_five, left_next, left_none, listing_left}
use Rattle.image.proofs.image_length.Goals as goal

pub loop-u-init : goal.loop-u-init
loop-u-init c =
    let r = c.args.rows.now in (
      omega arith,
      omega (arith, num_five r.len),
      omega (arith, simp length-append at (ap length (listing_left r.code r.mark r.kids r.len))),
    )

pub loop-u-preserved : goal.loop-u-preserved
loop-u-preserved c =
    let r = c.args.rows.now in (
      omega arith,
      omega arith,
      omega (arith, simp length-append at (ap length (left_next r.code r.mark r.kids r.len _ c.loop-u-test.true))),
    )

pub returns : goal.returns
returns c =
    let r = c.args.rows.now in
    omega (arith, ap length (left_none r.code r.mark r.kids r.len _ c.loop-u-test.false))
