-- No row before u bears the mark, so row u is there.
use Prim.Native.Nat.{◌-◌, ◌<◌}
use Rattle.meaning.specs.Limits.{most_nodes}
use Rattle.rows.proofs.Marks.{Passed}
use Rattle.rows.proofs.row_of.Given as goal

abbrev pub invariant-loop-u : goal.invariant-loop-u
invariant-loop-u l = (l.u < most_nodes) × Passed l.mark l.bit l.u

abbrev pub decreases-loop-u : goal.decreases-loop-u
decreases-loop-u l = most_nodes - l.u
