-- A case has at most four calls.
use Rattle.std.proofs.Common.{◌*◌, ◌≤◌}
use Rattle.vectors.proofs.walk.Given as goal

abbrev pub invariant-loop-i : goal.invariant-loop-i
invariant-loop-i g l = l.calls ≤ 4 * l.i-counter
