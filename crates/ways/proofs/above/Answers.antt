-- t is the top and nothing is written; or the way, and its projection.
use Rattle.std.proofs.Common.{ap, sym, ◌∙◌, arith}
use native.Mathlib.Decide.{dec_lt}
use Rattle.groups.specs.Filled.{filled}
use Rattle.branches.proofs.Joining.{filled_by_nil, fits_first, fits_rest, filled_both}
use Rattle.ways.proofs.Writing.{above_none, above_parts}
use Rattle.ways.proofs.above.Goals as goal

pub returns-then-t-eq0 : goal.returns-then-t-eq0
returns-then-t-eq0 c =
    rw (above_none c.args.rows.now.code c.args.rows.now.span c.args.t (omega (arith, c.if-t-eq0.true))) (sym (filled_by_nil c.args.from c.args.w.now))

pub way-requires : goal.way-requires
way-requires c =
    (c.requires.0, fits_first _ _ c.args.w.now (rw (above_parts _ _ c.args.from c.args.w.now.length c.args.t c.if-t-eq0.false) at c.requires.1))

pub project-requires : goal.project-requires
unfolding dec_lt
project-requires c =
    let f = rw (above_parts _ _ c.args.from c.args.w.now.length c.args.t c.if-t-eq0.false) at c.requires.1 in
    (omega arith, fits_rest _ _ c.args.w.now f c.way.ensures)

pub returns : goal.returns
unfolding dec_lt
returns c =
    filled_both _ _ c.args.w.now c.way.ensures c.project.ensures ∙ ap (filled c.args.w.now) (sym (above_parts _ _ c.args.from _ c.args.t c.if-t-eq0.false))
