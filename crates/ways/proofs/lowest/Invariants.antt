-- Row t is above or at s, and no row that holds s and d is below it.
use Rattle.ways.proofs.Steps.{Above-s}
use Rattle.ways.proofs.lowest.Given as goal

abbrev pub invariant-loop-t : goal.invariant-loop-t
invariant-loop-t l = Above-s l.rows.span l.s l.d l.t

abbrev pub decreases-loop-t : goal.decreases-loop-t
decreases-loop-t l = l.t
