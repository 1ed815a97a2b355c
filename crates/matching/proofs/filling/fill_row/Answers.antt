use mathlib.Core.Path.{sym, ◌∙◌}
use native.Mathlib.Omega.{arith}
use Rattle.bits.proofs.Bits.{only_then, row_clear_lem}
use Rattle.rows.proofs.Rows.{holds_reaches}
use Rattle.document.proofs.Tables.{good_table_lem}
use Rattle.matching.proofs.Filled.{come_row, partly_start, partly_turn, partly_all, partly_clear, rows_kept, rows_inside}
use Rattle.matching.proofs.filling.fill_row.Goals as goal

pub label_row-requires : goal.label_row-requires
label_row-requires c =
    let p = c.requires in let G = good_table_lem _ _ c.args.document.now.good in
    (omega (arith, p.query.few, p.row), omega (arith, p.query.few, p.row, p.room), omega (arith, G.few, G.labels), p.clear)

pub children-c-items-requires : goal.children-c-items-requires
children-c-items-requires c = let p = c.requires in holds_reaches _ _ _ p.query.laid p.query.few _ p.row

pub loop-c-init : goal.loop-c-init
loop-c-init c =
    let p = c.requires in let r = c.label_row.ensures in
    rw c.into_iter-c-iterator.ensures.into_iter_gives (
      r.only,
      rows_kept c.args.rows.now c.args.document.now _ _ _ r.only p.behind,
      partly_start c.args.rows.now c.args.document.now _ p.query p.row _ _ r c.children-c-items.ensures,
      λ x l t. let G = good_table_lem _ _ c.args.document.now.good in let s = (r.bits x l).0 t in omega (arith, s.0, G.labels),
    )

pub returns-then-row_clear : goal.returns-then-row_clear
returns-then-row_clear c =
    let (o, _, p, _) = c.loop-c.invariant in
    record { only = o; bits = partly_clear _ _ _ _ (row_clear_lem _ _ (sym c.row_clear.ensures ∙ c.if-row_clear.true)) p }

pub keep_parents-requires : goal.keep_parents-requires
keep_parents-requires c =
    let q = c.requires in
    let (o, f, p, i) = c.loop-c.invariant in
    let (a, b) = come_row _ _ c.next.new.self c.in-Some.ensures.steps p.come in (
      omega (arith, q.query.few, q.row),
      omega (arith, q.query.few, b),
      omega (arith, q.room, o.same),
      rows_inside c.args.rows.now c.args.document.now _ _ f c.in-Some.c (omega (arith, a)) b,
      i,
    )

pub loop-c-preserved : goal.loop-c-preserved
loop-c-preserved c =
    let (o, f, p, i) = c.loop-c.invariant in
    let g = c.in-Some.ensures.steps in
    let (a, b) = come_row _ _ c.next.new.self g p.come in
    let k = c.keep_parents.ensures in (
      only_then _ _ _ _ o k.only,
      rows_kept c.args.rows.now c.args.document.now _ _ _ k.only f,
      partly_turn _ _ _ _ c.next.new.self g _ _ (λ x lx. f c.in-Some.c x (omega (arith, a)) b lx) k p,
      λ x l t. i x l ((k.bits x l).0 t).0,
    )

pub returns : goal.returns
returns c = let (o, _, p, _) = c.loop-c.invariant in record { only = o; bits = partly_all _ _ _ c.in-None.ensures.steps.0 _ p }
