-- A child that lies nowhere leaves the row clear.
use Rattle.matching.proofs.Filled.{row_nowhere}
use Rattle.matching.proofs.filling.match_row.Goals as goal

pub returns-then-child_nowhere : goal.returns-then-child_nowhere
returns-then-child_nowhere c =
    let h = c.child_nowhere.ensures c.if-child_nowhere.true in row_nowhere _ _ _ _ _ c.requires h.1 h.2 h.3 h.4
