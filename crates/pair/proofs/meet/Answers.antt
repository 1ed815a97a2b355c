use native.Mathlib.Omega.{arith}
use Rattle.pair.proofs.Climbing.{up_less}
use Rattle.pair.proofs.Pair.{in_table, parent_node, meeting_more, meeting_not, meeting_more_d, meeting_not_d, meeting_apart, meeting_all}
use Rattle.pair.proofs.meet.Goals as goal

pub climb-requires : goal.climb-requires
climb-requires c =
    let (i, _, k) = c.loop-s.invariant in let (mark, q, ls, ld, _, _) = c.requires in
    let b = in_table q c.loop-s.s.row c.loop-s.s.node (k mark q ls ld).0 i in (b.0, b.1, b.2, i)

pub returns-in_err-s : goal.returns-in_err-s
returns-in_err-s c =
    let (i, _, k) = c.loop-s.invariant in
    rw c.from_residual.ensures (meeting_not _ _ _ _ _ _ _ _ _ _ _ k c.if-d-s.true i c.in_err-s.ensures)

pub loop-s-smaller-then-d-s : goal.loop-s-smaller-then-d-s
loop-s-smaller-then-d-s c =
    let (mark, q, ls, ld, _, _) = c.requires in
    omega (arith, c.in_ok-s.ensures.1, up_less q c.loop-s.s.row (omega (arith, c.if-d-s.true)) (c.loop-s.invariant.2 mark q ls ld).0)

pub loop-s-preserved-then-d-s : goal.loop-s-preserved-then-d-s
loop-s-preserved-then-d-s c =
    let (i, j, k) = c.loop-s.invariant in let (s, r, p) = c.in_ok-s.ensures in let q = c.requires.1 in
    rw (r, p) (parent_node q c.loop-s.s.node i, j, meeting_more _ _ _ _ _ _ _ _ _ _ _ k c.if-d-s.true i s)

pub climb-requires-else-d-s : goal.climb-requires-else-d-s
climb-requires-else-d-s c =
    let (_, j, k) = c.loop-s.invariant in let (mark, q, ls, ld, _, _) = c.requires in
    let b = in_table q c.loop-s.d.row c.loop-s.d.node (k mark q ls ld).1 j in (b.0, b.1, b.2, j)

pub returns-in_err-d : goal.returns-in_err-d
returns-in_err-d c =
    let (_, j, k) = c.loop-s.invariant in
    rw c.from_residual-in_err-d.ensures
    (meeting_not_d _ _ _ _ _ _ _ _ _ _ _ k (omega (arith, c.if-d-s.false, c.loop-s-test.true)) j c.in_err-d.ensures)

pub loop-s-smaller : goal.loop-s-smaller
loop-s-smaller c =
    let (mark, q, ls, ld, _, _) = c.requires in
    omega (
      arith,
      c.in_ok-d.ensures.1,
      up_less q c.loop-s.d.row (omega (arith, c.if-d-s.false, c.loop-s-test.true)) (c.loop-s.invariant.2 mark q ls ld).1,
    )

pub loop-s-preserved : goal.loop-s-preserved
loop-s-preserved c =
    let (i, j, k) = c.loop-s.invariant in let (s, r, p) = c.in_ok-d.ensures in let q = c.requires.1 in
    rw (r, p) (
      i,
      parent_node q c.loop-s.d.node j,
      meeting_more_d _ _ _ _ _ _ _ _ _ _ _ k (omega (arith, c.if-d-s.false, c.loop-s-test.true)) j s,
    )

pub returns-then-s-d : goal.returns-then-s-d
returns-then-s-d c = meeting_apart _ _ _ _ _ _ _ _ _ _ _ c.loop-s.invariant.2 c.loop-s-test.false c.if-s-d.true

pub returns : goal.returns
returns c =
    let (i, _, k) = c.loop-s.invariant in λ mark q ls ld.
    let (l, o) = meeting_all _ _ _ _ _ _ _ _ _ _ _ k c.loop-s-test.false c.if-s-d.false mark q ls ld in (l, i, o)
