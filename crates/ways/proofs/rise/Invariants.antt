-- The writer has the factors of the way from s up to row x.
use Rattle.std.proofs.Common.{◌≤◌, ◌≡◌}
use Rattle.branches.specs.Joining.{filled_by}
use Rattle.ways.specs.Ways.{Covers, ups_at}
use Rattle.ways.proofs.rise.Given as goal

abbrev pub invariant-loop-x : goal.invariant-loop-x
invariant-loop-x l = (l.t ≤ l.x) × Covers l.rows.span l.x l.s × (l.w ≡ filled_by l.from l.initial.w (ups_at l.rows.code l.rows.span l.s l.x))

abbrev pub decreases-loop-x : goal.decreases-loop-x
decreases-loop-x l = l.x
