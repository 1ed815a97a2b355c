-- While the rows are good what is left to check from node x on decides, once the lengths are right.
use Rattle.document.proofs.Tables.{SoFar}
use Rattle.document.proofs.table.good_table.Given as goal

abbrev pub invariant-loop-x : goal.invariant-loop-x
invariant-loop-x l = SoFar l.parents l.labels l.good l.x
