use borrow.Author.Rules.{rules}
use mathlib.Core.Path.{◌∙◌}
use Rattle.order.proofs.Gathering.{tree_read, listed_table}
use Rattle.order.proofs.tree_rows.Goals as goal

pub lay-requires : goal.lay-requires
lay-requires c = (search rules, listed_table c.requires _ _ c.gather.ensures.0)

pub returns : goal.returns
returns c = let e = c.lay.ensures in (e.0, e.1 ∙ tree_read c.requires _ _ c.gather.ensures.0, e.2, e.3, c.gather.ensures.1)
