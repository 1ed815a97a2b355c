-- A writer's answers fit into the number.
use Rattle.pathplus.proofs.Numbers.{short_writes}
use Rattle.pathplus.proofs.entries.form_number.Goals as goal

pub answer_number-requires : goal.answer_number-requires
answer_number-requires c = short_writes c.args.form c.written.ensures

pub returns : goal.returns
returns c =
    let w = c.written.ensures in (_, c.answer_number.ensures, short_writes c.args.form w, w)
