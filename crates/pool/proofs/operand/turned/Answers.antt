-- One law for each way out.
use Rattle.std.proofs.Common.{ap}
use Rattle.word.specs.Sign.{number_of}
use Rattle.word.specs.declared.sign.Sign.TheVariants.{FirstProjection, SecondProjection}
use Rattle.word.proofs.Signs.{number_unique}
use Rattle.pool.proofs.Laying.{moved_none, moved_first, moved_second, moved_both}
use Rattle.pool.proofs.operand.turned.Goals as goal

pub returns-in_err-rows : goal.returns-in_err-rows
returns-in_err-rows c = rw (c.from_residual.ensures, c.in_err-rows.was) (moved_none (number_of c.args.sign))

pub returns-in-FirstProjection : goal.returns-in-FirstProjection
returns-in-FirstProjection c = rw c.in_ok-rows.was (moved_first _ c.in_ok-rows.field-0 (ap number_of c.in-FirstProjection.is))

pub returns-in-SecondProjection : goal.returns-in-SecondProjection
returns-in-SecondProjection c = rw c.in_ok-rows.was (moved_second _ c.in_ok-rows.field-0 (ap number_of c.in-SecondProjection.is))

pub returns-in_default : goal.returns-in_default
returns-in_default c =
    let s = number_unique c.args.sign in
    let k = c.in_default in
    rw c.in_ok-rows.was
    (moved_both _ c.in_ok-rows.field-0 (λ e. k.not-FirstProjection (s FirstProjection e)) (λ e. k.not-SecondProjection (s SecondProjection e)))
