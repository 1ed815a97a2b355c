use Rattle.order.proofs.LaidOut.{Laying, to_go}
use Rattle.order.proofs.laying.lay.Given as goal

abbrev pub invariant-loop-x : goal.invariant-loop-x
invariant-loop-x l =
    let t = l.table in let r = l.rows in
    Laying t.code.now t.mark.now l.n l.lists.first l.lists.next (record { code = r.code; mark = r.mark; kids = r.kids; span = r.span; up = r.up }) l.v l.u l.x l.k

abbrev pub decreases-loop-x : goal.decreases-loop-x
decreases-loop-x l = to_go l.n l.v l.u
