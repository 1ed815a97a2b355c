-- The top and the child are written, and the sign tells how many there are.
use mathlib.Core.Path.{refl}
use native.Mathlib.Omega.{arith}
use Rattle.pool.proofs.Laying.{laid_made}
use Rattle.pool.proofs.operand.Pool.lay.Goals as goal

pub returns-clause-latest : goal.returns-clause-latest
returns-clause-latest c e q =
    let u = c.start-u.ensures.0 in let p = c.requires.room in let s = c.shape.ensures in rw (← u) (laid_made _ _ c.start-u.result _ _ refl (omega (arith, u)) (omega (arith, u)) _ _ refl s.0 e (rw c.code_of.ensures (s.1 e q)))
