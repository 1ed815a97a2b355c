-- The check finds both alone; they stand here so that the log of must-fail/one_way_alone names the fact.
use Rattle.branches.proofs.on_way.Goals as goal

pub returns-then-holds : goal.returns-then-holds
returns-then-holds c = rw (← c.holds.ensures, c.if-holds.true)

pub returns-else-holds : goal.returns-else-holds
returns-else-holds c = rw (← c.holds.ensures, c.if-holds.false) c.holds-else-holds.ensures
