-- The children of u are gone through by `children_fold`, those of v by `lands`: what a loop has shown of every child before the row that comes next
-- holds of all of them at its end.
use mathlib.Core.Path.{sym, ◌∙◌}
use Rattle.std.proofs.Common.{arith}
use borrow.Author.Tests.{eq-eqb}
use Rattle.onto.specs.Onto.{so, not_so}
use Rattle.onto.proofs.Brothers.{over_start, over_next}
use Rattle.onto.proofs.Left.{not_both}
use Rattle.onto.proofs.Onto.{yes_told, no_told, stands_reaches, stands_child, height_falls, lands_here, lands_nowhere}
use Rattle.onto.proofs.Onto.{all_landed, none_landed, lone_folds}
use Rattle.onto.proofs.+children_fold_lands.Goals.{children_fold-else-not-is_gone-via-then-not-is_gone+else-not-lands, children_fold-else-not-is_gone-via-else-not-is_gone}
use Rattle.onto.proofs.+children_fold_lands.Goals.{lands-then-at-eq1, lands-else-at-eq1}
use Rattle.onto.proofs.+children_fold_lands.Goals.{lands-else-fits_left-via-then-fits_left+else-children_fold, lands-else-fits_left-via-else-fits_left}
use Rattle.onto.proofs.+children_fold_lands.Goals as goal

-- the children of u
pub children_fold-children-a-items-requires : goal.children_fold-children-a-items-requires
children_fold-children-a-items-requires t c = stands_reaches c.requires.0

pub children_fold-loop-a-init : goal.children_fold-loop-a-init
children_fold-loop-a-init t c = over_start c.requires.0.held (rw c.into_iter-a-iterator.ensures.into_iter_gives c.children-a-items.ensures)

pub children_fold-lands-requires : goal.children_fold-lands-requires
children_fold-lands-requires t c =
    let O = c.loop-a.invariant in let G = c.in-Some.ensures.steps in (
      omega (arith, c.decreases, height_falls c.requires.0 O c.next.new.self G),
      (stands_child c.requires.0 O c.next.new.self G, c.requires.1),
    )

pub children_fold-returns-then-not-lands : goal.children_fold-returns-then-not-lands
children_fold-returns-then-not-lands t c =
    not_so (none_landed _ _ _ _ c.loop-a.invariant c.next.new.self c.in-Some.ensures.steps
    (sym c.is_gone.ensures ∙ c.if-not-is_gone.true)
    (no_told c.lands.ensures c.if-not-lands.true))

pub children_fold-loop-a-preserved : goal.children_fold-loop-a-preserved
children_fold-loop-a-preserved t c =
    over_next c.loop-a.invariant c.next.new.self c.in-Some.ensures.steps
    (λ q. elim c.else-not-is_gone.branch [
      | children_fold-else-not-is_gone-via-then-not-is_gone+else-not-lands w ↦ yes_told w.lands.ensures w.if-not-lands.false
      | children_fold-else-not-is_gone-via-else-not-is_gone w ↦ not_both (sym c.is_gone.ensures ∙ w.if-not-is_gone.false) q
    ])

pub children_fold-returns : goal.children_fold-returns
children_fold-returns t c = so (all_landed _ _ _ _ c.loop-a.invariant c.in-None.ensures.steps.0)

-- the children of v
pub lands-children-b-items-requires : goal.lands-children-b-items-requires
lands-children-b-items-requires t c = stands_reaches c.requires.1

pub lands-loop-b-init : goal.lands-loop-b-init
lands-loop-b-init t c = over_start c.requires.1.held (rw c.into_iter-b-iterator.ensures.into_iter_gives c.children-b-items.ensures)

pub lands-children_fold-requires : goal.lands-children_fold-requires
lands-children_fold-requires t c =
    (omega (arith, c.decreases), (c.requires.0, stands_child c.requires.1 c.loop-b.invariant c.next.new.self c.in-Some.ensures.steps))

pub lands-returns-then-children_fold : goal.lands-returns-then-children_fold
lands-returns-then-children_fold t c =
    so (lands_here _ _ _ _ c.loop-b.invariant c.next.new.self c.in-Some.ensures.steps (yes_told c.fits_left.ensures c.if-fits_left.true)
    (elim c.if-at-eq1.branch [
      | lands-then-at-eq1 w ↦ lone_folds _ _ _ _ c.requires.0 (sym c.at.ensures.0 ∙ w.if-at-eq1.true)
      | lands-else-at-eq1 w ↦ yes_told w.children_fold.ensures (sym w.value-is ∙ c.if-children_fold.true)
    ]))

pub lands-loop-b-preserved : goal.lands-loop-b-preserved
lands-loop-b-preserved t c =
    over_next c.loop-b.invariant c.next.new.self c.in-Some.ensures.steps
    (λ q o. elim c.else-fits_left.branch [
      | lands-else-fits_left-via-then-fits_left+else-children_fold w ↦ elim w.if-at-eq1.branch [
        | lands-then-at-eq1 v ↦ not_both (v.value-is ∙ eq-eqb _ _ v.if-at-eq1.true) w.if-children_fold.false
        | lands-else-at-eq1 v ↦ no_told v.children_fold.ensures (sym v.value-is ∙ w.if-children_fold.false) o.1
      ]
      | lands-else-fits_left-via-else-fits_left w ↦ no_told c.fits_left.ensures w.if-fits_left.false (q, o.0)
    ])

pub lands-returns : goal.lands-returns
lands-returns t c = not_so (lands_nowhere _ _ _ _ c.loop-b.invariant c.in-None.ensures.steps.0)
