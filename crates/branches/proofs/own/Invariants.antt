-- The label is written; then, child by child, those to come are left.
use Rattle.branches.specs.Joining.{filled_by}
use Rattle.branches.specs.Factors.{own_at}
use Rattle.branches.proofs.Chains.{OffBy}
use Rattle.branches.proofs.own.Given as goal

abbrev pub invariant-loop-c : goal.invariant-loop-c
invariant-loop-c l = OffBy l.rows l.x l.y l.c-iterator (filled_by l.from l.fn.w (own_at l.rows.code l.rows.span l.x l.y l.u)) l.from l.w
