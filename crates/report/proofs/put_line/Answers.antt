-- The answer is never a refusal, and the bytes that it counts are the form.
use native.Mathlib.Omega.{arith}
use Rattle.report.proofs.Forms.{form_not_refused, form_answered}
use Rattle.report.proofs.put_line.Goals as goal

pub unwrap-length-requires : goal.unwrap-length-requires
unwrap-length-requires c =
    let (e, r) = c.requires.0 in
    form_not_refused _ e r c.args.form (omega arith) c.written.result c.written.ensures

pub put_named-requires : goal.put_named-requires
put_named-requires c =
    let (e, r) = c.requires.0 in
    let a = form_answered _ e r c.args.form (omega arith) (rw c.unwrap-length.ensures at c.written.ensures) in
    rw a.1 c.requires.1

pub returns : goal.returns
returns c =
    let (e, r) = c.requires.0 in
    let a = form_answered _ e r c.args.form (omega arith) (rw c.unwrap-length.ensures at c.written.ensures) in
    rw a.1 at c.put_named.ensures
