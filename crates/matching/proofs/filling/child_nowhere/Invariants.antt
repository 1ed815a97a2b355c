-- Row u is needed by its children from the next one on.
use Rattle.matching.proofs.Filled.{Children}
use Rattle.matching.proofs.filling.child_nowhere.Given as goal

abbrev pub invariant-loop-c : goal.invariant-loop-c
invariant-loop-c l = Children l.rows l.u l.c-iterator
