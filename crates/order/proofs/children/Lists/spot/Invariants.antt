use mathlib.Core.Path.{◌≡◌}
use lib.ListN.{get_or}
use Rattle.meaning.specs.Tree.{size}
use Rattle.order.specs.Links.{Finite, forest_at, spot_of, spot_at}
use Rattle.order.proofs.children.Lists.spot.Given as goal

abbrev pub invariant-loop-i : goal.invariant-loop-i
invariant-loop-i l = Finite l.n l.self.first l.self.next l.i × (spot_at l.n l.self.first l.self.next l.key l.c l.q ≡ spot_of l.key l.c (forest_at l.n l.self.first l.self.next (get_or l.self.first l.c 0)) l.p (forest_at l.n l.self.first l.self.next l.i))

abbrev pub decreases-loop-i : goal.decreases-loop-i
decreases-loop-i l = size (forest_at l.n l.self.first l.self.next l.i)
