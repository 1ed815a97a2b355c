use mathlib.Core.Path.{refl}
use native.Mathlib.Omega.{arith}
use Rattle.order.proofs.Inserting.{spot_inside, placed_front, placed_after}
use Rattle.order.proofs.children.Lists.place.Goals as goal

pub returns-in-None : goal.returns-in-None
returns-in-None c = (refl, placed_front c.requires _ c.spot.ensures c.in-None.is)

pub offset_bounds-self-p : goal.offset_bounds-self-p
offset_bounds-self-p c = record { fits = omega (arith, spot_inside c.requires _ c.spot.ensures c.in-Some.is, c.requires.few) }

pub bounds-self-p : goal.bounds-self-p
bounds-self-p c = omega (arith, spot_inside c.requires _ c.spot.ensures c.in-Some.is, c.requires.few)

pub offset_bounds-self-p-in-Some : goal.offset_bounds-self-p-in-Some
offset_bounds-self-p-in-Some c = record { fits = omega (arith, spot_inside c.requires _ c.spot.ensures c.in-Some.is, c.requires.few) }

pub bounds-self-p-in-Some : goal.bounds-self-p-in-Some
bounds-self-p-in-Some c = omega (arith, spot_inside c.requires _ c.spot.ensures c.in-Some.is, c.requires.few)

pub returns-in-Some : goal.returns-in-Some
returns-in-Some c = (refl, placed_after c.requires _ c.spot.ensures c.in-Some.is)
