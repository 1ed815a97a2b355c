-- The parent stands before the row.
use native.Mathlib.Omega.{arith}
use Rattle.rows.proofs.Rows.{row_up}
use Rattle.normal.proofs.weight.row_weight.Goals as goal

pub branches_at-requires : goal.branches_at-requires
branches_at-requires c =
    let up = (row_up _ _ _ _ _ _ c.requires.rows c.args.u (omega (arith, c.if-u-eq0.false)) c.requires.within).0 in
    omega (arith, c.at.ensures.0, c.requires.within, c.requires.rows.few)
