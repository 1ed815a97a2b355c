use Rattle.std.proofs.Common.{arith, ap, sym, ◌∙◌}
use native.Mathlib.Decide.{dec_lt}
use Rattle.groups.specs.Filled.{filled}
use Rattle.branches.proofs.Joining.{fits_first, fits_rest, filled_both, child_fits}
use Rattle.branches.proofs.Covers.{covers_before}
use Rattle.branches.proofs.Chains.{row_few, row_reaches, row_next, off_start, off_opens, off_requires, off_branched, off_end}
use Rattle.branches.proofs.Chains.{branch_parts, chain_start, label_fits, left_one, left_more}
use Rattle.branches.proofs.+branch_chain.Goals as goal

pub branch-chain-requires : goal.branch-chain-requires
branch-chain-requires t c =
    let (R, le, f) = c.requires in
    let e = branch_parts c.args.rows.now.code c.args.rows.now.span c.args.from c.args.w.now.length c.args.u in
    (omega arith, (R, omega arith, fits_first _ _ c.args.w.now (rw e at f)))

pub branch-project-requires : goal.branch-project-requires
unfolding dec_lt
branch-project-requires t c =
    let e = branch_parts c.args.rows.now.code c.args.rows.now.span c.args.from c.args.w.now.length c.args.u in
    (omega arith, fits_rest _ _ c.args.w.now (rw e at c.requires.2) c.chain.ensures)

pub branch-returns : goal.branch-returns
unfolding dec_lt
branch-returns t c =
    let e = branch_parts c.args.rows.now.code c.args.rows.now.span c.args.from c.args.w.now.length c.args.u in
    filled_both _ _ c.args.w.now c.chain.ensures c.project.ensures ∙ ap (filled c.args.w.now) (sym e)

pub chain-put_sign-requires : goal.chain-put_sign-requires
chain-put_sign-requires t c = let (R, le, f) = c.requires in (omega arith, child_fits (chain_start c.args.rows.now _ _ c.args.w.now R le f))

pub chain-put_label-requires : goal.chain-put_label-requires
chain-put_label-requires t c =
    let (R, le, f) = c.requires in
    (row_few R, R.rows.labels c.args.u R.within, label_fits c.args.rows.now _ _ c.args.w.now R le f c.put_sign.ensures)

pub chain-chain-requires : goal.chain-chain-requires
chain-chain-requires t c =
    let (R, le, f) = c.requires in
    let L = left_one c.args.rows.now _ _ c.args.w.now R le f c.put_sign.ensures c.put_label.ensures c.if-rows-u-eq1.true in
    let (N, b) = row_next R c.if-rows-u-eq1.true in
    (omega arith, (N, L.reached, L.fits))

pub chain-returns-then-rows-u-eq1 : goal.chain-returns-then-rows-u-eq1
chain-returns-then-rows-u-eq1 t c =
    let (R, le, f) = c.requires in
    c.chain.ensures
    ∙ (left_one c.args.rows.now _ _ c.args.w.now R le f c.put_sign.ensures c.put_label.ensures c.if-rows-u-eq1.true).same

pub chain-children-c-items-requires : goal.chain-children-c-items-requires
chain-children-c-items-requires t c = row_reaches c.requires.0

pub chain-loop-c-init : goal.chain-loop-c-init
chain-loop-c-init t c =
    let (R, le, f) = c.requires in
    let L = left_more c.args.rows.now _ _ c.args.w.now R le f c.put_sign.ensures c.put_label.ensures c.if-rows-u-eq1.false in
    let (n, e, s) = c.children-c-items.ensures in
    rw c.into_iter-c-iterator.ensures.into_iter_gives (omega arith, e, off_start R (n, e, s) L)

pub chain-branch-w-requires : goal.chain-branch-w-requires
chain-branch-w-requires t c =
    let (b, e, O) = c.loop-c.invariant in
    let g = c.in-Some.ensures.steps in
    let n = covers_before c.args.rows.now.span c.in-Some.c c.args.u (omega arith) in
    (omega (arith, (off_opens c.next.new.self _ O g).inside), off_requires c.next.new.self _ O g (rw n))

pub chain-loop-c-preserved : goal.chain-loop-c-preserved
chain-loop-c-preserved t c =
    let (b, e, O) = c.loop-c.invariant in
    let g = c.in-Some.ensures.steps in
    let o = off_opens c.next.new.self _ O g in
    let n = covers_before c.args.rows.now.span c.in-Some.c c.args.u (omega arith) in
    (omega (arith, o.some), g.4 ∙ e, off_branched c.next.new.self _ O g (rw n) c.branch-w.ensures)

pub chain-returns : goal.chain-returns
chain-returns t c = off_end c.loop-c.invariant.2 c.in-None.ensures.steps.0
