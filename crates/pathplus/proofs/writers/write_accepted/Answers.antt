-- The rows are a tree query's, and their bytes are the form.
use Rattle.forms.specs.Form.{form_of}
use Rattle.pathplus.proofs.Writing.{writes_fitted}
use Rattle.pathplus.proofs.OfRows.{rows_form, form_written, query_rows}
use Rattle.pathplus.proofs.writers.write_accepted.Goals as goal

pub fit-requires : goal.fit-requires
fit-requires c =
    let (e, a) = c.requires in
    let of = rows_form c.args.form c.is_folded.ensures c.word_rows.ensures in
    query_rows c.args.form e of.rows (of.tree e a)

pub returns : goal.returns
returns c =
    let (e, a) = c.requires in
    let of = rows_form c.args.form c.is_folded.ensures c.word_rows.ensures in
    let bytes = form_written c.args.form e of.rows (of.tree e a) in
    writes_fitted (form_of c.args.form) a (rw bytes at c.fit.ensures)
