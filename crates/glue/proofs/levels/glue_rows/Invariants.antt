-- The loop climbs level by level: `Climb`. Each level takes a row out, so the number of rows falls.
use Rattle.glue.proofs.Climb.{Climb}
use Rattle.glue.proofs.levels.glue_rows.Given as goal

abbrev pub invariant-loop-x : goal.invariant-loop-x
invariant-loop-x l = Climb l.initial.parent l.initial.label l.from l.initial.r l.a l.b l.parent l.label l.r l.x l.y

abbrev pub decreases-loop-x : goal.decreases-loop-x
decreases-loop-x l = l.r.rows
