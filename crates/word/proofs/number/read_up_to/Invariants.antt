-- The loop reads group after group; `Reading` says what the groups so far and the bytes to come give together.
use Rattle.word.proofs.Reading.{Reading}
use Rattle.word.proofs.number.read_up_to.Given as goal

abbrev pub invariant-loop-i : goal.invariant-loop-i
invariant-loop-i l = Reading l.bytes l.at l.value l.weight l.i
