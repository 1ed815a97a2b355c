use Rattle.order.specs.Contract.{Lent}
use Rattle.order.specs.Gathering.{Gathered}
use Rattle.order.proofs.children.Lists.gather.Given as goal

abbrev pub invariant-loop-i : goal.invariant-loop-i
invariant-loop-i l = Gathered l.parent l.n l.i l.self.first l.self.next × Lent l.self.first l.self.next
