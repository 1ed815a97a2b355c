-- Two labels that clash end it; else y goes into x, and the parents tell what is next.
use Rattle.glue.proofs.Climb.{first_rows, level_fails, level_next}
use Rattle.glue.proofs.levels.glue_level.Goals as goal

pub returns-in_err-m : goal.returns-in_err-m
returns-in_err-m c =
    let p = c.requires in rw c.from_residual.ensures (level_fails _ _ _ _ _ _ p.3 p.4 c.in_err-m.ensures _)

pub merge_rows-requires-clause-low_links : goal.merge_rows-requires-clause-low_links
merge_rows-requires-clause-low_links c = first_rows _ _ _ _ _ _ c.requires.4

pub returns : goal.returns
returns c =
    let p = c.requires in let w = c.or_else.result in level_next _ _ _ _ _ _ p.3 p.4 c.in_ok-m.m w c.in_ok-m.ensures c.or_else.ensures _
    c.merge_rows.ensures _ c.next_level.ensures
