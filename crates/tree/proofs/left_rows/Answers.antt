use Rattle.fold.proofs.Whole.{rows_whole}
use Rattle.tree.proofs.Laws.{rows_sortable, whole_tree, folded_tree}
use Rattle.tree.proofs.left_rows.Goals as goal

pub returns-then-not-folded : goal.returns-then-not-folded
returns-then-not-folded c = (rows_sortable _ _ _ _ _ _ c.requires, whole_tree c.requires c.args.folded c.if-not-folded.true)

pub fold_rows-requires : goal.fold_rows-requires
fold_rows-requires c = rows_whole c.requires

pub returns : goal.returns
returns c =
    let e = c.fold_rows.ensures.1 in let k = c.keep_rows-rows.ensures in (
      rows_sortable _ _ _ _ _ _ k.0.rows,
      folded_tree c.requires c.fold_rows.ensures.0 c.args.folded c.if-not-folded.false (rw (e.code, e.span, e.len) at k.0),
    )
