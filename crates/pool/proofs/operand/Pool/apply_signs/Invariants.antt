-- One cursor goes through the word, as in `check_signs` (crate word). Before each sign the pool holds what is pending there, and how far the word is read: `Reading`.
use Rattle.std.proofs.Common.{◌-◌, length}
use Rattle.pool.specs.Pool.{held, SameSlices}
use Rattle.pool.proofs.Reading.{Reading}
use Rattle.pool.proofs.operand.Pool.apply_signs.Given as goal

abbrev pub invariant-loop-cursor : goal.invariant-loop-cursor
invariant-loop-cursor l = SameSlices l.initial.self l.self × Reading l.word (held l.self) l.self.pending l.cursor.at

abbrev pub decreases-loop-cursor : goal.decreases-loop-cursor
decreases-loop-cursor l = length l.word - l.cursor.at
