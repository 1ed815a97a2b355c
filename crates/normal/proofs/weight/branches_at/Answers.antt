-- The check finds both alone; they stand here so that the log of must-fail/length names the fact.
use Rattle.normal.specs.Weights.{branching, on_way}
use Rattle.normal.proofs.weight.branches_at.Goals as goal

pub returns-then-on_way : goal.returns-then-on_way
returns-then-on_way c = unfold branching on_way in rw (← c.on_way.ensures, c.if-on_way.true)

pub returns-else-on_way : goal.returns-else-on_way
returns-else-on_way c = unfold branching on_way in rw (← c.on_way.ensures, c.if-on_way.false)
