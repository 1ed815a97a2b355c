-- The tables lie side by side, and then one node of each is glued.
use native.Mathlib.Omega.{arith}
use Rattle.rows.proofs.Table.{live_below}
use Rattle.glue.proofs.Shift.{links_small}
use Rattle.glue.proofs.TwoTrees.{across_safe, across_end}
use Rattle.glue.proofs.trees.glue_across.Goals as goal

pub shift_rows-requires-clause-low_links : goal.shift_rows-requires-clause-low_links
shift_rows-requires-clause-low_links c = links_small _ _ _ c.requires.tree_queries.1.tree (let s = c.requires.rows_fit.small in omega arith)

pub overflow_add-t-2 : goal.overflow_add-t-2
overflow_add-t-2 c =
    let r = c.requires.rows_fit.small in let m = live_below _ _ _ _ c.requires.tree_queries.1.d_live in omega arith

pub overflow_add-na : goal.overflow_add-na
overflow_add-na c =
    let r = c.requires.rows_fit.small in let m = live_below _ _ _ _ c.requires.tree_queries.1.s_live in omega arith

pub glue_rows-requires : goal.glue_rows-requires
glue_rows-requires c =
    let f = c.requires.rows_fit in let s = c.shift_rows in let k = s.auto.parent in (
      record { small = f.small; parents = omega arith; labels = f.labels },
      across_safe _ _ _ _ c.requires.tree_queries.0 c.requires.tree_queries.1 s.new.parent (s.ensures c.args.label.now) c.args.both _ c.meeting.ensures,
    )

pub returns : goal.returns
returns c =
    let s = c.shift_rows in let g = c.glue_rows in let v = c.requires.tree_queries in across_end _ _ _ _ v.0 v.1 s.new.parent (s.ensures c.args.label.now) c.args.both _ c.meeting.ensures
    g.result g.new.parent g.new.label g.ensures
