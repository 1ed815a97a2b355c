-- The latest operand as it stands, and its marks moved.
use mathlib.Core.Path.{refl}
use Rattle.pool.specs.Pool.{held}
use Rattle.pool.proofs.Laying.{turn_made}
use Rattle.pool.proofs.operand.Pool.turn.Goals as goal

pub returns : goal.returns
returns c f e q h =
    turn_made (held c.args.self.now) _ _ c.operand.ensures _ refl _ _ (λ z. c.turned.ensures f e z c.args.self.now.parent.now c.args.self.now.label.now q) h
