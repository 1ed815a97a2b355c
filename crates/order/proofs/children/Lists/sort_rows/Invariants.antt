use Rattle.order.specs.Sorting.{Sortable, Sorting}
use Rattle.order.proofs.children.Lists.sort_rows.Given as goal

abbrev pub invariant-loop-i : goal.invariant-loop-i
invariant-loop-i l =
    let t = l.table in let s = l.self in
    Sortable t.parent.now t.code.now t.mark.now l.n s.first s.next l.key × Sorting t.parent.now t.code.now t.mark.now l.n l.i s.first s.next l.key
