-- A top has no link; any other link stays below 65,535, since x does. One law for each way out.
use native.Mathlib.Omega.{arith}
use Rattle.glue.proofs.Codes.{relinked_none}
use Rattle.glue.proofs.Merged.{hit_high, hit_low, miss_high, miss_low, moved_link}
use Rattle.glue.proofs.merging.relinked.Goals as goal

pub returns-then-y-x : goal.returns-then-y-x
returns-then-y-x c =
    moved_link c.args.x c.args.y c.args.p _ (λ e. omega arith) (omega arith) (omega arith) (hit_high _ _ _ (omega arith) (omega arith))

pub returns-then-p-y : goal.returns-then-p-y
returns-then-p-y c =
    moved_link c.args.x c.args.y c.args.p _ (λ e. omega arith) (omega arith) (omega arith) (hit_low _ _ _ (omega arith) (omega arith))

pub returns-then-p-eq-NO_ROW : goal.returns-then-p-eq-NO_ROW
returns-then-p-eq-NO_ROW c = relinked_none _ c.args.p (omega arith)

pub returns-then-y-p : goal.returns-then-y-p
returns-then-y-p c =
    moved_link c.args.x c.args.y c.args.p _ (λ e. omega arith) (omega arith) (omega arith) (miss_high _ _ _ (omega arith))

pub returns : goal.returns
returns c =
    moved_link c.args.x c.args.y c.args.p _ (λ e. omega arith) (omega arith) (omega arith) (miss_low _ _ _ (λ e. omega arith) (omega arith))
