-- The rows from u on are filled, all other bits are clear.
use Rattle.matching.specs.Table.{Filled}
use Rattle.matching.proofs.filling.match_table.Given as goal

abbrev pub invariant-loop-u : goal.invariant-loop-u
invariant-loop-u l = Filled l.fn.workspace l.rows l.document l.u l.workspace
