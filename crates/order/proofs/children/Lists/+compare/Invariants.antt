use Rattle.meaning.specs.Tree.{size}
use Rattle.theory.proofs.Canon.{height}
use Rattle.order.specs.Links.{forest_at}
use Rattle.order.proofs.Links.{Pending}
use Rattle.order.proofs.children.Lists.+compare.Given as goal

abbrev pub decreases-compare : goal.decreases-compare
decreases-compare l = height (forest_at l.n l.self.now.first l.self.now.next l.x)

abbrev pub invariant-loop-a : goal.invariant-loop-a
invariant-loop-a l = Pending l.n l.self.first l.self.next l.key l.x l.y l.a l.b

abbrev pub decreases-loop-a : goal.decreases-loop-a
decreases-loop-a l = size (forest_at l.n l.self.first l.self.next l.a)
