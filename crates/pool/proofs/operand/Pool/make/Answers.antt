-- By its kind a sign makes the latest operand of none, one or two.
use mathlib.Core.Path.{refl}
use Rattle.pool.proofs.Signs.{of_kind, operand_kind}
use Rattle.pool.proofs.Taking.{operand_asks, operand_gives, unary_asks, unary_gives, binary_asks, binary_gives}
use Rattle.pool.proofs.operand.Pool.make.Goals as goal

pub turn-requires : goal.turn-requires
turn-requires c =
    let (f, q) = of_kind _ _ c.in-Unary.ensures in
    unary_asks _ _ _ f q c.requires

pub glue_latest-requires : goal.glue_latest-requires
glue_latest-requires c =
    let (f, q) = of_kind _ _ c.in-Binary.ensures in
    binary_asks _ _ _ f q c.requires

pub lay-requires-clause-room : goal.lay-requires-clause-room
lay-requires-clause-room c =
    let (e, q) = operand_kind _ _ c.kind_of.ensures c.in_default.not-Unary c.in_default.not-Binary in
    operand_asks _ _ _ e q c.requires

pub returns-in-Unary : goal.returns-in-Unary
returns-in-Unary c =
    let (f, q) = of_kind _ _ c.in-Unary.ensures in record {
      rows = record { parent = _; label = _; same = refl; parents = refl; labels = refl };
      latest = unary_gives _ _ _ f q _ (λ e. c.turn.ensures f e (rw c.from-sign.ensures q));
    }

pub returns-in-Binary : goal.returns-in-Binary
returns-in-Binary c =
    let (f, q) = of_kind _ _ c.in-Binary.ensures in record {
      rows = c.glue_latest.ensures.rows;
      latest = binary_gives _ _ _ f q _ _ _ (λ e g. c.glue_latest.ensures.latest f e g (rw c.from-sign.ensures q));
    }

pub returns-in_default : goal.returns-in_default
returns-in_default c =
    let (e, q) = operand_kind _ _ c.kind_of.ensures c.in_default.not-Unary c.in_default.not-Binary in record {
      rows = c.lay.ensures.rows;
      latest = operand_gives _ _ _ e q _ _ _ (c.lay.ensures.latest e (rw c.from-sign.ensures q));
    }
