use native.Mathlib.Omega.{arith}
use Rattle.glue.proofs.Climb.{climb_row, climb_asks, climb_same}
use Rattle.glue.proofs.levels.glue_rows.Goals as goal

pub glue_level-requires : goal.glue_level-requires
glue_level-requires c = climb_asks _ _ _ _ _ _ c.loop-x.invariant c.requires.0 c.loop-x-test.true

pub renumbered-r-requires : goal.renumbered-r-requires
renumbered-r-requires c = let lt = climb_row _ _ _ _ _ _ c.loop-x.invariant in omega (arith, lt)

pub loop-x-smaller : goal.loop-x-smaller
loop-x-smaller c = let lt = climb_row _ _ _ _ _ _ c.loop-x.invariant in rw c.renumbered-r.ensures (omega (arith, lt))

pub returns : goal.returns
returns c = climb_same _ _ _ _ _ _ c.loop-x.invariant c.loop-x-test.false
