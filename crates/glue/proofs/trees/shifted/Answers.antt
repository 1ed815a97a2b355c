-- A top has no link; any other link stays below 65,535.
use mathlib.Core.Path.{refl}
use native.Mathlib.Omega.{arith}
use Rattle.glue.proofs.Codes.{relinked_none, relinked_some}
use Rattle.glue.proofs.Shift.{shifted_small}
use Rattle.glue.proofs.trees.shifted.Goals as goal

pub returns-then-p-eq-NO_ROW : goal.returns-then-p-eq-NO_ROW
returns-then-p-eq-NO_ROW c = relinked_none _ c.args.p (omega arith)

pub overflow_add-result : goal.overflow_add-result
overflow_add-result c = let h = shifted_small c.args.p (λ e. omega arith) c.requires.1 in omega arith

pub returns : goal.returns
returns c = relinked_some _ c.args.p _ (λ e. omega arith) (λ e. let h = shifted_small c.args.p (λ z. omega arith) c.requires.1 in omega arith) refl
