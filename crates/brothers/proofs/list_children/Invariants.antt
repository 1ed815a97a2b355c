-- The children before the next one that are still there are listed, and they are fewer than the rows behind p that were passed.
use Prim.Native.Nat.{suc, ◌+◌, ◌≤◌}
use mathlib.Core.Path.{◌≡◌}
use lib.ListN.{length}
use Rattle.meaning.specs.Limits.{most_nodes}
use Rattle.brothers.specs.Brothers.{Lists}
use Rattle.onto.proofs.Brothers.{Over}
use Rattle.brothers.proofs.Listing.{Before}
use Rattle.brothers.proofs.list_children.Given as goal

abbrev pub invariant-loop-c : goal.invariant-loop-c
invariant-loop-c l = (length l.child ≡ suc most_nodes) × (l.p + 1 + l.k ≤ l.c-iterator.next)
    × Over l.t.span l.p (λ x. Unit {0}) l.c-iterator × Lists (Before l.t.mark l.t.span l.p l.c-iterator.next) l.child l.k
