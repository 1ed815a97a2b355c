use mathlib.Core.Path.{◌∙◌}
use native.Mathlib.Omega.{arith}
use lib.ListN.{get_or-replicate}
use Rattle.tree.proofs.Laws.{ends_inside, marked_table, marked_tree}
use Rattle.tree.proofs.laid_rows.Goals as goal

pub mark_ends-requires : goal.mark_ends-requires
mark_ends-requires c = let q = c.requires in (q.few, ends_inside _ _ _ _ _ q, λ i l. get_or-replicate 256 i 0 0 (omega (arith, q.few)))

pub tree_rows-requires : goal.tree_rows-requires
tree_rows-requires c = let q = c.requires in let m = c.mark_ends in marked_table _ _ _ _ _ q _ (omega (arith, m.array_long, q.few)) m.ensures

pub returns : goal.returns
returns c =
    let q = c.requires in let m = c.mark_ends in let t = c.tree_rows.ensures in
    record { rows = t.0; tree = t.1 ∙ marked_tree _ _ _ _ _ q _ (omega (arith, m.array_long, q.few)) m.ensures; room = t.3 }
