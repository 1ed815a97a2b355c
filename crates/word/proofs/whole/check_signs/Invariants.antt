-- The loop reads sign after sign; `Checking` says what is left to check, at the place of the one cursor.
use Rattle.std.proofs.Common.{◌-◌, length}
use Rattle.word.proofs.Checking.{Checking}
use Rattle.word.proofs.whole.check_signs.Given as goal

abbrev pub invariant-loop-cursor : goal.invariant-loop-cursor
invariant-loop-cursor l = Checking l.word l.counts l.cursor.at

abbrev pub decreases-loop-cursor : goal.decreases-loop-cursor
decreases-loop-cursor l = length l.word - l.cursor.at
