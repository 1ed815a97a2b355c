-- The pair question's answers fit into the number.
use mathlib.Core.Path.{ap, ◌∙◌}
use Rattle.pathplus.specs.Answer.{number_of}
use Rattle.pathplus.proofs.Numbers.{short_selects, yes_counted}
use Rattle.pathplus.proofs.entries.pathplus_selects.Goals as goal

pub answer_number-requires : goal.answer_number-requires
answer_number-requires c = rw (yes_counted c.selects-answer.result c.map.result c.map.ensures.cases) (short_selects _ _ _ c.selects-answer.ensures)

pub returns : goal.returns
returns c =
    let counted = yes_counted c.selects-answer.result c.map.result c.map.ensures.cases in
    let s = c.selects-answer.ensures in (_, c.answer_number.ensures ∙ ap number_of counted, short_selects _ _ _ s, s)
