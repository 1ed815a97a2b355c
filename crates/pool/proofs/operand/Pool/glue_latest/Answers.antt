-- The two latest are lent from the first row of the earlier on.
use Rattle.std.proofs.Common.{rules}
use Rattle.pool.proofs.Signs.{binary_means, glues_both}
use Rattle.pool.proofs.Parts.{lent_fits, lent_trees, lent_made}
use Rattle.pool.proofs.operand.Pool.glue_latest.Goals as goal

pub glue_two-built-requires : goal.glue_two-built-requires
glue_two-built-requires c =
    let p = c.requires in let x = c.operand-p.ensures in let y = c.operand-q.ensures in
    let a = c.start-a.ensures.0 in record { rows_fit = (lent_fits _ _ p.0 p.1.0 _ a _ _ x y).2; trees = lent_trees _ _ p.0 p.1.0 _ a _ _ x y p.1.1 }

pub returns-clause-latest : goal.returns-clause-latest
returns-clause-latest c f e g q o₁ o₂ =
    let p = c.requires in let r = c.glue_two-built in
    let b = glues_both c.args.sign c.eq.result (search rules) (search rules) in
    lent_made _ _ p.0 p.1.0 _ c.start-a.ensures.0 _ _ c.operand-p.ensures c.operand-q.ensures c.eq.result r.result r.new.parent r.new.label r.ensures e g (f e g)
    (rw b (binary_means _ q e g).1) o₁ o₂
