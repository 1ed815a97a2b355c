-- The children of p are folded to the end. Those that are left are listed, and none of them before the i-th folds onto another one. Whatever has gone
-- folded onto a child that stayed.
use Prim.Native.Nat.{suc}
use mathlib.Core.Path.{◌≡◌}
use lib.ListN.{length}
use Rattle.meaning.specs.Limits.{most_nodes}
use Rattle.onto.specs.Left.{nodes_of, marked, Remarked}
use Rattle.brothers.specs.Brothers.{Listed}
use Rattle.brothers.proofs.Children.{Searched, Clear}
use Rattle.brothers.proofs.fold_children.Given as goal

abbrev pub invariant-loop-next : goal.invariant-loop-next
invariant-loop-next l = (length l.child ≡ suc most_nodes) × Remarked l.initial.t l.t × Searched (nodes_of l.initial.t) l.p l.t.mark
    × Listed l.t.mark l.initial.t.span l.p l.child l.k × Clear (marked (nodes_of l.initial.t) l.t.mark) l.child l.k l.i

abbrev pub decreases-loop-next : goal.decreases-loop-next
decreases-loop-next l = l.k
