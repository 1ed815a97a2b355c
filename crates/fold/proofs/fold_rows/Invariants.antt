-- From the last row to the first: below each row that was passed, what is left is folded to the end.
use Prim.Native.Nat.{suc}
use mathlib.Core.Path.{◌≡◌}
use lib.ListN.{length}
use Rattle.meaning.specs.Limits.{most_nodes}
use Rattle.onto.specs.Left.{nodes_of, Remarked}
use Rattle.fold.proofs.Whole.{Settled}
use Rattle.fold.proofs.fold_rows.Given as goal

abbrev pub invariant-loop-p : goal.invariant-loop-p
invariant-loop-p l = (length l.child ≡ suc most_nodes) × Remarked l.initial.t l.t × Settled (nodes_of l.initial.t) l.initial.t.len l.p l.t.mark
