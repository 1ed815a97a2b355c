use native.Mathlib.Omega.{arith}
use Rattle.std.proofs.Common.{rules}
use Rattle.glue.proofs.Sweeping.{swept_by}
use Rattle.glue.proofs.Shift.{shift_small, shift_end}
use Rattle.glue.proofs.trees.shift_rows.Goals as goal

pub sweep-requires-clause-callable : goal.sweep-requires-clause-callable
sweep-requires-clause-callable c z i ge lt = let s = shift_small _ _ _ (omega arith) c.requires.low_links z i ge lt in search (rules, arith, s)

pub returns : goal.returns
returns c L = shift_end _ L _ _ _ (swept_by (λ p r e. search rules) (c.sweep.ensures 0))
