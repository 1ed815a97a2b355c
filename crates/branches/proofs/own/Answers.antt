use Rattle.std.proofs.Common.{sym, ◌∙◌}
use Rattle.branches.proofs.Chains.{row_few, row_reaches, off_start, off_few, off_passed, off_requires, off_branched, off_end, own_fits, own_done}
use Rattle.branches.proofs.own.Goals as goal

pub put_label-requires : goal.put_label-requires
put_label-requires c =
    let (R, le, f) = c.requires in (row_few R, R.rows.labels c.args.u R.within, own_fits _ _ c.args.x c.args.y _ _ c.args.w.now le f)

pub children-c-items-requires : goal.children-c-items-requires
children-c-items-requires c = row_reaches c.requires.0

pub loop-c-init : goal.loop-c-init
loop-c-init c =
    let (R, le, f) = c.requires in
    rw c.into_iter-c-iterator.ensures.into_iter_gives (off_start R c.children-c-items.ensures (own_done _ _ _ _ _ _ c.args.w.now le f c.put_label.ensures))

pub branch-w-requires : goal.branch-w-requires
branch-w-requires c = off_requires c.next.new.self _ c.loop-c.invariant c.in-Some.ensures.steps (sym c.on_way.ensures ∙ c.if-not-on_way.true)

pub loop-c-preserved-then-not-on_way : goal.loop-c-preserved-then-not-on_way
loop-c-preserved-then-not-on_way c =
    off_branched c.next.new.self _ c.loop-c.invariant c.in-Some.ensures.steps (sym c.on_way.ensures ∙ c.if-not-on_way.true) c.branch-w.ensures

pub loop-c-preserved : goal.loop-c-preserved
loop-c-preserved c = off_passed c.next.new.self _ c.loop-c.invariant c.in-Some.ensures.steps (sym c.on_way.ensures ∙ c.if-not-on_way.false)

pub returns : goal.returns
returns c = off_end c.loop-c.invariant c.in-None.ensures.steps.0
