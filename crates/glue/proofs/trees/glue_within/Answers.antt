-- Different depths give empty; equal depths are glued.
use Rattle.std.specs.Prelude.{Some, None}
use Rattle.glue.proofs.Shift.{links_in}
use Rattle.glue.proofs.TwoTrees.{in_tree, within_safe, within_none, within_end}
use Rattle.glue.proofs.trees.glue_within.Goals as goal

pub depth_of-a-requires : goal.depth_of-a-requires
depth_of-a-requires c =
    let w = in_tree c.args.t _ _ c.requires.1 in
    (c.requires.0.parents, w.1, links_in _ _ _ w.0)

pub depth_of-b-requires : goal.depth_of-b-requires
depth_of-b-requires c =
    let w = in_tree c.args.t _ _ c.requires.1 in
    (c.requires.0.parents, w.2, links_in _ _ _ w.0)

pub returns-then-a-b : goal.returns-then-a-b
returns-then-a-b c = within_none c.args.t _ _ c.requires.1 _ _ (c.depth_of-a.ensures _) (c.depth_of-b.ensures _) c.if-a-b.true

pub glue_rows-requires : goal.glue_rows-requires
glue_rows-requires c = (c.requires.0, within_safe c.args.t _ _ c.requires.1 _ _ (c.depth_of-a.ensures _) (c.depth_of-b.ensures _) c.if-a-b.false)

pub returns-in_err-r : goal.returns-in_err-r
returns-in_err-r c =
    let g = c.glue_rows in rw c.from_residual.ensures
    (within_end c.args.t _ _ c.requires.1 _ _ (c.depth_of-a.ensures _) (c.depth_of-b.ensures _) c.if-a-b.false None g.new.parent g.new.label c.in_err-r.ensures)

pub returns : goal.returns
returns c =
    let g = c.glue_rows in
    within_end c.args.t _ _ c.requires.1 _ _ (c.depth_of-a.ensures _) (c.depth_of-b.ensures _) c.if-a-b.false (Some c.in_ok-r.r) g.new.parent g.new.label c.in_ok-r.ensures
