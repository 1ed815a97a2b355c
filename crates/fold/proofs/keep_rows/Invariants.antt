-- The walk meets the nodes of the tree that is left, in image order, and each goes to the next place.
use Prim.Native.Nat.{◌-◌}
use mathlib.Core.Path.{◌≡◌}
use lib.ListN.{length}
use Rattle.meaning.specs.Limits.{most_nodes}
use Rattle.fold.specs.Kept.{SameShape}
use Rattle.fold.proofs.Moved.{Moving}
use Rattle.fold.proofs.keep_rows.Given as goal

abbrev pub invariant-loop-i : goal.invariant-loop-i
invariant-loop-i l = Moving l.initial.t.code l.initial.t.mark l.initial.t.span l.initial.t.up l.initial.t.len l.t.code l.t.mark l.parent l.moved l.i l.j
    × SameShape l.initial.t l.t × (length l.parent ≡ most_nodes) × (length l.moved ≡ length l.initial.moved)

abbrev pub decreases-loop-i : goal.decreases-loop-i
decreases-loop-i l = l.initial.t.len - l.i
