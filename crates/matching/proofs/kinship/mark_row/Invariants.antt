-- The parents of the nodes below 8i are flagged.
use mathlib.Core.List.{List}
use Prim.Native.Nat.{ℕ, ◌*◌}
use Rattle.matching.specs.Table.{ParentOf, Added}
use Rattle.matching.proofs.kinship.mark_row.Given as goal

abbrev pub invariant-loop-i : goal.invariant-loop-i
invariant-loop-i l =
    (h : List ℕ) → Added h (ParentOf l.w l.c l.document.parents.now (8 * 1)) l.initial.has → Added h (ParentOf l.w l.c l.document.parents.now (8 * l.i)) l.has
