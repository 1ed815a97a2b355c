-- No rows in one of the two give empty; two trees are glued, for intersection twice.
use native.Mathlib.Omega.{arith}
use Rattle.glue.proofs.TwoTrees.{across_few, across_tree}
use Rattle.glue.proofs.trees.glue_two.Goals as goal

pub glue_within-requires : goal.glue_within-requires
glue_within-requires c =
    let fit = rw (c.in_ok-p.was, c.in_ok-q.was) at c.requires.rows_fit in
    let (vp, vq) = rw (c.in_ok-p.was, c.in_ok-q.was) at c.requires.trees in
    let g = c.glue_across in
    let t = c.in_ok-t in
    let few = across_few _ _ _ _ vp vq c.args.both t.t g.new.parent g.new.label t.ensures in
    let kp = g.auto.parent in let kl = g.auto.label in (
      record { small = omega (arith, few, fit.small); parents = omega (arith, few, kp, fit.parents); labels = omega (arith, few, kl, fit.labels) },
      across_tree _ _ _ _ vp vq c.args.both t.t g.new.parent g.new.label t.ensures,
    )
