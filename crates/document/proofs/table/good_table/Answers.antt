use native.Mathlib.Omega.{arith}
use Rattle.document.proofs.Tables.{table_none, table_many, table_uneven, sofar_none, sofar_more, sofar_all}
use Rattle.document.proofs.table.good_table.Goals as goal
use Rattle.document.proofs.table.good_table.Goals.{then-n-eq0-via-then-n-eq0 as none, then-n-eq0-via-else-n-eq0+then-n-gt-MOST_ROWS as many, then-n-eq0-via-else-n-eq0+else-n-gt-MOST_ROWS+then-labels-n as uneven}

pub returns-then-n-eq0 : goal.returns-then-n-eq0
returns-then-n-eq0 c = elim c.then-n-eq0.branch [
  | none w ↦ table_none _ _ w.if-n-eq0.true
  | many w ↦ table_many _ _ w.if-n-gt-MOST_ROWS.true
  | uneven w ↦ table_uneven _ _ w.if-labels-n.true
]

pub loop-x-init : goal.loop-x-init
loop-x-init c = sofar_none _ _ c.if-n-eq0.false c.if-n-gt-MOST_ROWS.false

pub loop-x-preserved : goal.loop-x-preserved
loop-x-preserved c = sofar_more _ _ c.loop-x.good _ c.loop-x.x (omega arith) (omega arith) c.loop-x.invariant (rw c.good_row-good.ensures)

pub returns : goal.returns
returns c = sofar_all _ _ c.loop-x.good c.loop-x.x (omega arith) (omega arith) c.loop-x.invariant
