use Rattle.pair.proofs.Pair.{ends_inside, pair_stopped, pair_met}
use Rattle.pair.proofs.pair_selected.Goals as goal

pub meet-requires : goal.meet-requires
meet-requires c =
    let (q, m, n) = c.requires in let (s, d) = ends_inside c.row_of.ensures c.row_of-2.ensures q in (_, q, s, d, m, n)

pub returns-in_default : goal.returns-in_default
returns-in_default c = λ q.
    let a = c.row_of.ensures in let b = c.row_of-2.ensures in let (s, d) = ends_inside a b q in
    pair_stopped a b q _ _ (c.in_default.ensures _ q s d)

pub climbs-requires : goal.climbs-requires
climbs-requires c =
    let q = c.requires.0 in let (s, d) = ends_inside c.row_of.ensures c.row_of-2.ensures q in
    let (l, i, _) = c.in-Some.ensures _ q s d in (_, q, l, i)

pub returns : goal.returns
returns c = λ q.
    let a = c.row_of.ensures in let b = c.row_of-2.ensures in let (s, d) = ends_inside a b q in
    let (l, _, o) = c.in-Some.ensures _ q s d in pair_met a b q _ _ _ _ o _ (c.climbs.ensures _ q l)
