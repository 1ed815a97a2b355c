-- No rows; no factor at all; or the factors.
use Rattle.std.proofs.Common.{ap, arith, length}
use native.Mathlib.Decide.{dec_lt}
use Rattle.normal.proofs.Forms.{form_fits, form_some, form_none}
use Rattle.normal.proofs.Marks.{src_in_lem}
use Rattle.normal.proofs.form.put_form.Goals as goal

pub factors-requires : goal.factors-requires
factors-requires c =
    let (Q, f) = c.requires in
    let E = c.of.ensures in
    let ne = c.if-rows-eq0.false in (
      record { mark = _; n = _; rows = Q.rows; within = src_in_lem Q ne E.source; covers = E.lowest.to_s },
      E.lowest.to_d,
      form_fits Q ne E.source E.destination E.lowest c.args.w.now f,
    )

pub put_number-requires-then-w-from : goal.put_number-requires-then-w-from
unfolding dec_lt
put_number-requires-then-w-from c =
    let (Q, f) = c.requires in
    let E = c.of.ensures in
    let (e, z) = form_none Q c.if-rows-eq0.false E.source E.destination E.lowest c.args.w.now c.factors.ensures c.if-w-from.true in
    rw (z, c.number-then-w-from.ensures) (omega (arith, ap length e))

pub returns-then-w-from : goal.returns-then-w-from
unfolding dec_lt
returns-then-w-from c =
    let (Q, f) = c.requires in
    let E = c.of.ensures in
    let (e, z) = form_none Q c.if-rows-eq0.false E.source E.destination E.lowest c.args.w.now c.factors.ensures c.if-w-from.true in
    rw e (rw (z, c.number-then-w-from.ensures) at c.put_number-then-w-from.ensures)

pub returns-else-w-from : goal.returns-else-w-from
returns-else-w-from c =
    let E = c.of.ensures in form_some c.requires.0 c.if-rows-eq0.false E.source E.destination E.lowest c.args.w.now c.factors.ensures c.if-w-from.false
