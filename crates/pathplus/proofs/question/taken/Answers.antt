-- No rows select nothing; else the climb tells.
use Rattle.pathplus.proofs.Pairs.{none_taken, may_ask, pair_taken}
use Rattle.pathplus.proofs.question.taken.Goals as goal

pub returns-then-rows-eq0 : goal.returns-then-rows-eq0
returns-then-rows-eq0 c = none_taken c.args.rows.now c.if-rows-eq0.true (c.match_table.ensures _)

pub pair_selected-requires : goal.pair_selected-requires
pair_selected-requires c =
    let (R, N) = c.requires in
    (may_ask R c.if-rows-eq0.false N (c.match_table.ensures _), N.first, N.second)

pub returns : goal.returns
returns c =
    let (R, N) = c.requires in
    pair_taken R c.if-rows-eq0.false N (c.match_table.ensures _) c.pair_selected.ensures
