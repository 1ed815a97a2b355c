use mathlib.Core.Path.{sym, ◌∙◌}
use Rattle.document.proofs.table.Document.checked.Goals as goal

-- the check finds it alone; it stands here so that the log of must-fail/labels_unread names the fact
pub returns-then-not-good_table : goal.returns-then-not-good_table
returns-then-not-good_table c = sym c.good_table.ensures ∙ c.if-not-good_table.true
