use native.Mathlib.Omega.{arith}
use Rattle.ways.proofs.Writing.{climb_row, rise_start, rise_less, rise_covers, rise_from, rise_own, rise_parent, rise_next}
use Rattle.ways.proofs.rise.Goals as goal

pub loop-x-init : goal.loop-x-init
loop-x-init c = rise_start c.requires.0 c.args.w.now

pub own-requires : goal.own-requires
own-requires c =
    let (tx, v, w) = c.loop-x.invariant in
    let (C, f) = c.requires in
    (climb_row C c.loop-x.x v, rw w (omega arith), rise_own C c.loop-x.x tx v c.loop-x-test.true c.args.w.now w f)

pub put_sign-requires : goal.put_sign-requires
put_sign-requires c =
    let (tx, v, w) = c.loop-x.invariant in
    let (C, f) = c.requires in
    (omega arith, rise_parent C c.loop-x.x tx v c.loop-x-test.true c.args.w.now w f c.own.ensures)

pub loop-x-smaller : goal.loop-x-smaller
loop-x-smaller c =
    let (tx, v, w) = c.loop-x.invariant in
    omega (arith, rise_less c.requires.0 c.loop-x.x tx v c.loop-x-test.true, c.at-x.ensures.0)

pub loop-x-preserved : goal.loop-x-preserved
loop-x-preserved c =
    let (tx, v, w) = c.loop-x.invariant in
    let C = c.requires.0 in
    let ne = c.loop-x-test.true in
    rw c.at-x.ensures.0 (
      rise_from C c.loop-x.x tx v ne,
      rise_covers C c.loop-x.x tx v ne,
      rise_next C c.loop-x.x tx v ne c.args.w.now w c.own.ensures c.put_sign.ensures,
    )
