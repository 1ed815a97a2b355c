-- The branch writer and the chain writer call each other; the number of rows below falls. While the children are written, those to come are left.
use Rattle.std.proofs.Common.{◌+◌, ◌<◌, get_or, ◌≡◌, ◌*◌}
use Rattle.branches.specs.Joining.{filled_by}
use Rattle.branches.specs.Factors.{chain_at}
use Rattle.branches.proofs.Chains.{OffBy}
use Rattle.branches.proofs.+branch_chain.Given as goal

abbrev pub decreases-branch : goal.decreases-branch
decreases-branch l = 2 * get_or l.rows.now.span l.u 0 + 1

abbrev pub decreases-chain : goal.decreases-chain
decreases-chain l = 2 * get_or l.rows.now.span l.u 0

abbrev pub invariant-chain-loop-c : goal.invariant-chain-loop-c
invariant-chain-loop-c l = (l.u < l.c-iterator.next) × (l.c-iterator.end ≡ l.u + get_or l.rows.span l.u 0)
    × OffBy l.rows l.u l.u l.c-iterator (filled_by l.from l.fn.w (chain_at l.rows.code l.rows.span l.u)) l.from l.w
