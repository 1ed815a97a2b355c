use mathlib.Core.Path.{◌≡◌}
use native.Mathlib.Omega.{arith}
use Rattle.document.proofs.Nodes.{iff_same}
use Rattle.pair.proofs.Climbing.{up_less}
use Rattle.pair.proofs.Pair.{in_table, parent_node, climbed_more, climbed_not, climbed_all}
use Rattle.pair.proofs.climbs.Goals as goal

-- the check finds it alone; it stands here so that the log of must-fail/top_only names the fact
pub loop-at-init : goal.loop-at-init
loop-at-init c = (c.requires.3, λ mark q l. (l, (λ a. a, λ a. a)))

pub climb-requires : goal.climb-requires
climb-requires c =
    let (i, k) = c.loop-at.invariant in let (mark, q, lu, _) = c.requires in
    let b = in_table q c.loop-at.at.row c.loop-at.at.node (k mark q lu).0 i in (b.0, b.1, b.2, i)

pub returns-in_default : goal.returns-in_default
returns-in_default c =
    let (i, k) = c.loop-at.invariant in climbed_not _ _ _ _ _ _ _ k i c.loop-at-test.true c.in_default.ensures

pub loop-at-smaller : goal.loop-at-smaller
loop-at-smaller c =
    let (mark, q, lu, _) = c.requires in
    omega (arith, c.in-Some.ensures.1, up_less q c.loop-at.at.row c.loop-at-test.true (c.loop-at.invariant.1 mark q lu).0)

pub loop-at-preserved : goal.loop-at-preserved
loop-at-preserved c =
    let (i, k) = c.loop-at.invariant in let (s, r, p) = c.in-Some.ensures in let q = c.requires.1 in
    rw (r, p) (parent_node q c.loop-at.at.node i, climbed_more _ _ _ _ _ _ _ k i c.loop-at-test.true s)

pub test_bit-requires : goal.test_bit-requires
test_bit-requires c =
    let (i, k) = c.loop-at.invariant in let (mark, q, lu, _) = c.requires in
    let b = in_table q c.loop-at.at.row c.loop-at.at.node (k mark q lu).0 i in
    (omega arith, b.1, omega (arith, b.2))

pub returns : goal.returns
returns c =
    let (i, k) = c.loop-at.invariant in let top : c.loop-at.at.row ≡ 0 = omega (arith, c.loop-at-test.false) in
    λ mark q lu. iff_same c.test_bit.ensures (climbed_all _ _ _ _ _ _ _ k i top mark q lu)
