-- What is left of the number is owed.
use Rattle.meaning.specs.Number.{num}
use Rattle.groups.specs.Filled.{filled}
use Rattle.groups.proofs.Filled.{Owes}
use Rattle.groups.proofs.Writer.put_number.Given as goal

abbrev pub invariant-loop-rest : goal.invariant-loop-rest
invariant-loop-rest l = Owes (filled l.initial.self (num l.x)) l.self (num l.rest)

abbrev pub decreases-loop-rest : goal.decreases-loop-rest
decreases-loop-rest l = l.rest
