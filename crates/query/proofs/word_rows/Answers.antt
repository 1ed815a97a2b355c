use native.Mathlib.Omega.{arith}
use Rattle.rows.specs.Table.{image_tree}
use Rattle.query.proofs.Laws.{built_table, built_rows}
use Rattle.query.proofs.word_rows.Goals as goal

pub query_rows-requires : goal.query_rows-requires
query_rows-requires c =
    let b = c.build in let t = b.new in let r = c.kept-built in let k = b.auto in
    built_table _ t.parent t.label b.result r.result r.ensures b.ensures c.requires (omega (arith, k.parent)) (omega (arith, k.label))

pub returns : goal.returns
returns c =
    let b = c.build in let t = b.new in let r = c.kept-built in
    built_rows _ t.parent t.label b.result r.result r.ensures b.ensures (image_tree c.args.folded) c.query_rows.ensures
