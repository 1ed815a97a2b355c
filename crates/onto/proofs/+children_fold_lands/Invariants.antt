-- "every child of u folds onto some child of v", "the height of u falling": children_fold has found that every child of u before the next one lands on
-- some child of v, lands that a misses every child of v before the next one.
use Rattle.std.proofs.Common.{◌+◌, ◌*◌}
use Rattle.rows.specs.Rows.{below}
use Rattle.theory.proofs.Canon.{height}
use Rattle.onto.specs.Left.{nodes_of}
use Rattle.onto.proofs.Brothers.{Over}
use Rattle.onto.proofs.Onto.{Misses, Landed}
use Rattle.onto.proofs.+children_fold_lands.Given as goal

abbrev pub decreases-children_fold : goal.decreases-children_fold
decreases-children_fold l = 2 * height (below l.t.now.span l.u)

abbrev pub decreases-lands : goal.decreases-lands
decreases-lands l = 2 * height (below l.t.now.span l.a) + 1

abbrev pub invariant-children_fold-loop-a : goal.invariant-children_fold-loop-a
invariant-children_fold-loop-a l = Over l.t.span l.u (Landed (nodes_of l.t) (nodes_of l.other) l.v) l.a-iterator

abbrev pub invariant-lands-loop-b : goal.invariant-lands-loop-b
invariant-lands-loop-b l = Over l.other.span l.v (Misses (nodes_of l.t) l.a (nodes_of l.other)) l.b-iterator
