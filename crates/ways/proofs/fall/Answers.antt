use native.Mathlib.Omega.{arith}
use Rattle.branches.proofs.Joining.{left_is, left_end, left_fits, child_fits}
use Rattle.ways.proofs.Writing.{child_row, child_behind, down_start, down_own, down_done, downs_nil}
use Rattle.ways.proofs.fall.Goals as goal

pub put_sign-requires : goal.put_sign-requires
put_sign-requires c =
    let (R, v, L) = c.loop-x.invariant in
    let (a, w) = c.child_to-x.ensures in
    (omega arith, child_fits (down_start R a w v L))

pub own-requires : goal.own-requires
own-requires c =
    let (R, v, L) = c.loop-x.invariant in
    let (a, w) = c.child_to-x.ensures in
    let M = down_own R a w v L c.put_sign.ensures in
    (child_row R a w v, M.reached, left_fits _ _ M)

pub loop-x-smaller : goal.loop-x-smaller
loop-x-smaller c = let (R, v, L) = c.loop-x.invariant in let (a, w) = c.child_to-x.ensures in omega (arith, child_behind R a w v, w.from)

pub loop-x-preserved : goal.loop-x-preserved
loop-x-preserved c =
    let (R, v, L) = c.loop-x.invariant in
    let (a, w) = c.child_to-x.ensures in
    (child_row R a w v, w, down_done R a w v L c.put_sign.ensures c.own.ensures)

pub returns : goal.returns
returns c = let (R, v, L) = c.loop-x.invariant in left_end (left_is (downs_nil R c.loop-x-test.false) L)
