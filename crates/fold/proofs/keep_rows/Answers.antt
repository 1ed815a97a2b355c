use mathlib.Core.Path.{refl, sym, ◌∙◌}
use native.Mathlib.Omega.{arith}
use lib.ListN.{length-set}
use Rattle.fold.proofs.Moved.{moving_none, moving_step, moving_skip, moving_fits, moving_take, moving_all, same_shape, same_shapes}
use Rattle.fold.proofs.keep_rows.Goals as goal

pub loop-i-init : goal.loop-i-init
loop-i-init c = (moving_none c.requires.0 _ _, same_shape _, c.told-parent, refl)

pub loop-i-smaller-then-is_gone : goal.loop-i-smaller-then-is_gone
loop-i-smaller-then-is_gone c =
    let v = c.loop-i.invariant in
    omega (arith, moving_step c.requires.0 v.0 (rw v.1.len at c.loop-i-test.true) (rw v.1.span at c.at-i.ensures.0))

pub loop-i-preserved-then-is_gone : goal.loop-i-preserved-then-is_gone
loop-i-preserved-then-is_gone c =
    let v = c.loop-i.invariant in (
      moving_skip c.requires.0 v.0 (rw v.1.len at c.loop-i-test.true) (sym c.is_gone.ensures ∙ c.if-is_gone.true) (rw v.1.span at c.at-i.ensures.0),
      v.1,
      v.2,
      v.3,
    )

pub move_row-requires : goal.move_row-requires
move_row-requires c = let v = c.loop-i.invariant in (rw v.1.up (moving_fits c.requires.0 v.0 (rw v.1.len at c.loop-i-test.true)), omega (arith, v.3, c.requires.1))

pub loop-i-preserved : goal.loop-i-preserved
loop-i-preserved c =
    let v = c.loop-i.invariant in let m = c.move_row.ensures in (
      moving_take c.requires.0 v.0 (rw v.1.len at c.loop-i-test.true) (sym c.is_gone.ensures ∙ c.if-is_gone.false)
          (omega (arith, v.2, c.requires.0.rows.few)) (omega (arith, v.3, c.requires.1, c.requires.0.rows.few)) (rw v.1.up at m.0),
      same_shapes v.1 m.1,
      c.move_row.array_long,
      rw m.0.moves (simp length-set v.3),
    )

pub returns : goal.returns
returns c =
    let v = c.loop-i.invariant in (moving_all c.requires.0 v.0 (rw v.1.len at c.loop-i-test.false) (omega (arith, v.2, c.requires.0.rows.few)), v.1, v.3)
