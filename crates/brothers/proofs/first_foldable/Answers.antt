use native.Mathlib.Omega.{arith}
use borrow.Author.Count.{below_more}
use Rattle.onto.proofs.Onto.{yes_told, no_told}
use Rattle.brothers.proofs.first_foldable.Goals.{else-i-j-via-then-i-j+else-folds_onto, else-i-j-via-else-i-j}
use Rattle.brothers.proofs.first_foldable.Goals as goal

pub loop-j-preserved : goal.loop-j-preserved
loop-j-preserved c =
    below_more _ _ c.loop-j.invariant (elim c.else-i-j.branch [
      | else-i-j-via-then-i-j+else-folds_onto w ↦ λ n. rw w.wide.ensures.0 at (no_told w.folds_onto.ensures w.if-folds_onto.false)
      | else-i-j-via-else-i-j w ↦ λ n. absurd (n w.if-i-j.false)
    ])

pub loop-i-preserved : goal.loop-i-preserved
loop-i-preserved c =
    let w = c.loop-j.invariant in
    below_more _ _ c.loop-i.invariant (λ l f. w f.0 (omega (arith, f.1)) f.2 (rw c.wide-u.ensures.0 f.3))

pub returns-after-loop-i : goal.returns-after-loop-i
returns-after-loop-i c x l m = c.loop-i.invariant x (omega (arith, c.loop-i-test.false)) m

pub returns-then-folds_onto : goal.returns-then-folds_onto
returns-then-folds_onto c = (
  c.loop-i.auto.i,
  c.loop-i-test.true,
  c.loop-i.invariant,
  (_, c.loop-j-test.true, c.if-i-j.true, rw (c.wide-u.ensures.0, c.wide.ensures.0) at (yes_told c.folds_onto.ensures c.if-folds_onto.true)),
)
