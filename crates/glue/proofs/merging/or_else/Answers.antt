-- One law for each way out.
use native.Mathlib.Omega.{arith}
use Rattle.glue.proofs.Codes.{or_else_none, or_else_some}
use Rattle.glue.proofs.merging.or_else.Goals as goal

pub returns-then-u-eq-NO_ROW : goal.returns-then-u-eq-NO_ROW
returns-then-u-eq-NO_ROW c = or_else_none c.args.u _ (omega arith)

pub returns : goal.returns
returns c = or_else_some c.args.u _ (λ e. omega arith)
