-- A sign makes the latest operand; that is put in its place.
use Rattle.pool.proofs.Slices.{latest_slices, latest_fits, latest_applies}
use Rattle.pool.proofs.operand.Pool.apply_sign.Goals as goal

pub put_latest-requires : goal.put_latest-requires
put_latest-requires c =
    let m = c.make-latest.ensures in let (st, st', at, h, t) = c.requires in
    latest_fits _ _ m.rows _ c.args.number st' (m.latest st st' at h t)

pub returns-clause-slices : goal.returns-clause-slices
returns-clause-slices c = rw c.put_latest.ensures (latest_slices _ _ c.make-latest.ensures.rows c.make-latest.result c.args.number)

pub returns-clause-sign : goal.returns-clause-sign
returns-clause-sign c =
    let m = c.make-latest.ensures in
    rw c.put_latest.ensures (latest_applies _ _ m.rows _ _ m.latest)
