-- What the rows take is what the word selects.
use Rattle.forms.specs.declared.Form.TheVariants.{Minimal}
use Rattle.pathplus.proofs.Asking.{selects_told}
use Rattle.pathplus.proofs.OfRows.{query_rows}
use Rattle.pathplus.proofs.question.tell.Goals as goal

pub taken-requires : goal.taken-requires
taken-requires c =
    let ((e, a), N) = c.requires in
    let of = c.word_rows.ensures in (query_rows Minimal e of.rows (of.tree e a), N)

pub returns : goal.returns
returns c =
    let ((e, a), N) = c.requires in
    selects_told _ a N (c.word_rows.ensures.tree e a) c.taken.ensures
