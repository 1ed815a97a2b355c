use native.Mathlib.Omega.{arith}
use Rattle.branches.proofs.Joining.{left_start, left_is, left_end, left_fits, left_step, child_fits, child_step}
use Rattle.ways.proofs.Writing.{child_row, child_behind, way_start, top_row, top_covers, way_nil}
use Rattle.ways.proofs.way.Goals as goal

pub loop-x-init : goal.loop-x-init
loop-x-init c = let (R, f) = c.requires in (top_row R, top_covers R, left_start (omega arith) f)

pub own-requires : goal.own-requires
own-requires c =
    let (R, v, L) = c.loop-x.invariant in
    let (a, w) = c.child_to-c.ensures in
    (R, L.reached, left_fits _ _ (way_start R a w v c.loop-x-test.true L))

pub put_sign-requires : goal.put_sign-requires
put_sign-requires c =
    let (R, v, L) = c.loop-x.invariant in
    let (a, w) = c.child_to-c.ensures in
    (omega arith, child_fits (left_step _ _ (way_start R a w v c.loop-x-test.true L) c.own.ensures))

pub loop-x-smaller : goal.loop-x-smaller
loop-x-smaller c = let (R, v, L) = c.loop-x.invariant in let (a, w) = c.child_to-c.ensures in omega (arith, child_behind R a w v, w.from)

pub loop-x-preserved : goal.loop-x-preserved
loop-x-preserved c =
    let (R, v, L) = c.loop-x.invariant in
    let (a, w) = c.child_to-c.ensures in
    (child_row R a w v, w, child_step (left_step _ _ (way_start R a w v c.loop-x-test.true L) c.own.ensures) c.put_sign.ensures)

pub returns : goal.returns
returns c = let (R, v, L) = c.loop-x.invariant in left_end (left_is (way_nil R c.loop-x-test.false) L)
