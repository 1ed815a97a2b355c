-- Each refusal in its order.
use mathlib.Core.Path.{◌≡◌}
use mathlib.Core.Bool.{true}
use native.Mathlib.Omega.{arith}
use Rattle.meaning.specs.Matching.{good_table}
use Rattle.pathplus.proofs.Asking.{selects_table, selects_no_node, selects_short}
use Rattle.pathplus.proofs.question.ask.Goals as goal
use Rattle.pathplus.proofs.question.ask.Goals.{In-Some}

-- the document is the table
good : (c : In-Some) → good_table c.args.parents.now c.args.labels.now ≡ true
good c = let (p, l) = c.in-Some.ensures in rw (← p, ← l) c.in-Some.document.good

pub returns-in_default : goal.returns-in_default
returns-in_default c = rw c.at.ensures (selects_table _ c.requires.1 c.in_default.ensures)

pub returns-then-nodes-m : goal.returns-then-nodes-m
returns-then-nodes-m c =
    rw c.at-then-nodes-m.ensures (selects_no_node _ c.requires.1 (good (goal.at.returns-then-nodes-m c).In-Some) c.then-nodes-m.either)

pub returns-then-workspace-lt-TABLE_BYTES : goal.returns-then-workspace-lt-TABLE_BYTES
returns-then-workspace-lt-TABLE_BYTES c =
    rw c.at-then-workspace-lt-TABLE_BYTES.ensures
    (selects_short _ c.requires.1 (good (goal.at.returns-then-workspace-lt-TABLE_BYTES c).In-Some) (omega arith) (omega arith) (omega arith))
