-- What does not fit is refused with the length that was counted; what fits is written.
use native.Mathlib.Omega.{arith}
use Rattle.forms.proofs.Fitting.{fitted_done}
use Rattle.forms.proofs.fit.Goals as goal

pub returns : goal.returns
returns c = fitted_done (omega arith) c.write.ensures
