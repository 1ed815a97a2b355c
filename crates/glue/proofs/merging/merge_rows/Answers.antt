-- The loops take row y out. Then the row of x is written, wherever it stands now.
use mathlib.Core.Path.{refl}
use native.Mathlib.Omega.{arith}
use Rattle.std.proofs.Common.{rules}
use Rattle.glue.proofs.Merged.{merged_end}
use Rattle.glue.proofs.Sweeping.{swept_by}
use Rattle.glue.proofs.merging.merge_rows.Goals as goal

pub returns : goal.returns
returns c =
    merged_end _ _ _ _ _ _ _ _ _ c.requires.low_links (swept_by (λ p r e. search rules) (c.sweep.ensures 0)) (swept_by (λ p r e. search rules) (c.sweep-2.ensures 0)) (swept_by (λ p r e. search rules) (c.sweep-3.ensures 0)) _ _ _ _ _ refl c.requires.sizes.0 c.requires.sizes.3 (omega arith) (omega arith) (omega arith) (omega arith) c.renumber-z.ensures (search rules)
