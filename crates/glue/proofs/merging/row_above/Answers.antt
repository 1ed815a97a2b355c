-- One law for each way out.
use mathlib.Core.Path.{sym}
use Rattle.rows.proofs.Table.{parent_none, parent_some}
use Rattle.glue.proofs.merging.row_above.Goals as goal

pub returns-then-p-eq-NO_ROW : goal.returns-then-p-eq-NO_ROW
returns-then-p-eq-NO_ROW c = sym (parent_none _ c.if-p-eq-NO_ROW.true)

pub returns : goal.returns
returns c = let e = c.wide.ensures.0 in rw (e, parent_some _ c.if-p-eq-NO_ROW.false)
