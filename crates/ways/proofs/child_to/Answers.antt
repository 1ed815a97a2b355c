use native.Mathlib.Omega.{arith}
use Rattle.ways.proofs.Steps.{children_here}
use Rattle.ways.proofs.child_to.Goals as goal

pub returns-then-x-next : goal.returns-then-x-next
returns-then-x-next c =
    let h = children_here c.loop-u.invariant c.requires.2.to in
    (h.among, record { from = c.loop-u.invariant.low; to = omega (arith, c.if-x-next.true, c.at.ensures.0) })

pub loop-u-smaller : goal.loop-u-smaller
loop-u-smaller c =
    let h = children_here c.loop-u.invariant c.requires.2.to in
    omega (arith, h.some, h.ends, c.at.ensures.0)
