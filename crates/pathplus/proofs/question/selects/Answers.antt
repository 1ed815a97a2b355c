-- The word's own refusals, or the question.
use Rattle.std.proofs.lemmas.Result.{err_from_is_err_and}
use Rattle.pathplus.proofs.Asking.{selects_refused}
use Rattle.pathplus.proofs.OfRows.{word_refused}
use Rattle.pathplus.proofs.question.selects.Goals as goal

pub returns-in_err-check_word : goal.returns-in_err-check_word
returns-in_err-check_word c =
    let p = err_from_is_err_and c.from_residual.result c.from_residual.ensures.1 in
    rw (p.1, p.2) (selects_refused _ (word_refused _ c.in_err-check_word.ensures))
