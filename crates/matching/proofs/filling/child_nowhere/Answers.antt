use mathlib.Core.Path.{sym, ◌∙◌}
use Rattle.bits.proofs.Bits.{row_clear_lem}
use Rattle.rows.proofs.Rows.{holds_reaches}
use Rattle.matching.proofs.Filled.{come_row, children_start, child_next, child_needed}
use Rattle.matching.proofs.filling.child_nowhere.Goals as goal

pub children-c-items-requires : goal.children-c-items-requires
children-c-items-requires c = let (_, q, l) = c.requires in holds_reaches _ _ _ q.laid q.few _ l

pub loop-c-init : goal.loop-c-init
loop-c-init c =
    let (_, q, l) = c.requires in rw c.into_iter-c-iterator.ensures.into_iter_gives (children_start _ _ q l c.children-c-items.ensures)

pub returns-then-row_clear : goal.returns-then-row_clear
returns-then-row_clear c =
    let g = c.in-Some.ensures.steps in let p = c.loop-c.invariant in let (a, b) = come_row _ _ c.next.new.self g p.come in
    λ _. (_, a, b, child_needed _ _ c.next.new.self g p, row_clear_lem _ _ (sym c.row_clear.ensures ∙ c.if-row_clear.true))

pub loop-c-preserved : goal.loop-c-preserved
loop-c-preserved c = child_next _ _ c.next.new.self c.in-Some.ensures.steps c.loop-c.invariant
