-- Refusal 1, and then what the signs left: `Checking` says that this is the word.
use Rattle.std.proofs.lemmas.Result.{err_from_is_err_and}
use Rattle.word.proofs.Checking.{checking_long, checking_one, checking_other, checking_stop}
use Rattle.word.proofs.whole.check_word.Goals as goal

-- refusal 1
pub returns-then-word-gt-LONGEST_WORD : goal.returns-then-word-gt-LONGEST_WORD
returns-then-word-gt-LONGEST_WORD c = rw c.at.ensures (checking_long _ c.if-word-gt-LONGEST_WORD.true)

-- refusals 2 to 5
pub returns-in_err-counts : goal.returns-in_err-counts
returns-in_err-counts c =
    let p = err_from_is_err_and c.from_residual.result c.from_residual.ensures.1 in
    rw (p.1, p.2) (checking_stop _ c.if-word-gt-LONGEST_WORD.false c.in_err-counts.ensures)

-- accepted
pub returns-then-counts-eq1 : goal.returns-then-counts-eq1
returns-then-counts-eq1 c = checking_one _ c.if-word-gt-LONGEST_WORD.false c.in_ok-counts.counts c.in_ok-counts.ensures c.if-counts-eq1.true

-- refusal 6
pub returns : goal.returns
returns c = rw c.at-2.ensures (checking_other _ c.if-word-gt-LONGEST_WORD.false c.in_ok-counts.counts c.in_ok-counts.ensures c.if-counts-eq1.false)
