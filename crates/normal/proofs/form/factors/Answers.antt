-- The four parts of the factors, one after the other.
use Rattle.std.proofs.Common.{◌∙◌}
use Rattle.branches.proofs.Joining.{left_fits}
use Rattle.ways.proofs.Writing.{climb_row}
use Rattle.normal.proofs.Writing.{form_start, risen, met, owned}
use Rattle.normal.proofs.form.factors.Goals as goal

pub rise-requires : goal.rise-requires
rise-requires c = (c.requires.0, left_fits _ _ (form_start _ _ _ c.args.ends.now.d _ c.args.w.now c.requires.2))

pub above-requires : goal.above-requires
above-requires c =
    let (C, v, f) = c.requires in
    (climb_row C _ C.covers, left_fits _ _ (risen _ _ _ c.args.ends.now.d _ c.args.w.now f c.rise.ensures))

pub own-requires : goal.own-requires
own-requires c =
    let (C, v, f) = c.requires in
    let L = met _ _ _ c.args.ends.now.d _ c.args.w.now f c.rise.ensures c.above.ensures in
    (climb_row C _ C.covers, L.reached, left_fits _ _ L)

pub fall-requires : goal.fall-requires
fall-requires c =
    let (C, v, f) = c.requires in
    let L = owned _ _ _ _ _ c.args.w.now f c.rise.ensures c.above.ensures c.own.ensures in
    (climb_row C _ C.covers, v, L.reached, L.fits)

pub returns : goal.returns
returns c =
    let (C, v, f) = c.requires in
    let L = owned _ _ _ _ _ c.args.w.now f c.rise.ensures c.above.ensures c.own.ensures in
    c.fall.ensures ∙ L.same
