-- The first foldable pair: of the listed children from `from` up to i none folds onto another one; the inner loop has shown that the i-th, row u, folds
-- onto none that is listed before place j.
use Prim.Native.Nat.{ℕ, ◌<◌}
use mathlib.Core.Path.{◌≡◌}
use lib.ListN.{get_or}
use Rattle.onto.specs.Left.{nodes_of}
use Rattle.onto.specs.Onto.{OntoRow}
use Rattle.brothers.specs.Brothers.{NoneFrom}
use Rattle.brothers.proofs.first_foldable.Given as goal

abbrev pub invariant-loop-j : goal.invariant-loop-j
invariant-loop-j l = (y : ℕ) → y < l.j → ¬ (l.i ≡ y) → ¬ OntoRow (nodes_of l.t) l.u (nodes_of l.t) (get_or l.child y 0)

abbrev pub invariant-loop-i : goal.invariant-loop-i
invariant-loop-i l = NoneFrom (nodes_of l.t) l.child l.from l.k l.i
