-- Sign after sign: each turn is one sign of the word, and the last leaves what all the signs of the word make.
use Rattle.std.proofs.Common.{arith}
use Rattle.std.proofs.lemmas.Result.{err_from_is_err_and}
use Rattle.word.proofs.Checking.{checking_start, checking_broken, checking_refused, checking_next, checking_moves, checking_last}
use Rattle.word.proofs.whole.check_signs.Goals as goal

pub loop-cursor-init : goal.loop-cursor-init
loop-cursor-init c = checking_start c.args.word.now

-- a number that cannot be read: refusal 2
pub returns-in_default : goal.returns-in_default
returns-in_default c = rw c.at.ensures (checking_broken c.loop-cursor.invariant c.loop-cursor-test.true c.in_default.ensures.0)

-- a sign that is refused: refusals 3, 4 and 5
pub returns-in_err-counts : goal.returns-in_err-counts
returns-in_err-counts c =
    let p = err_from_is_err_and c.from_residual.result c.from_residual.ensures.1 in
    rw (p.1, p.2) (checking_refused c.loop-cursor.invariant c.loop-cursor-test.true _ c.in-Some.ensures.0 c.in_err-counts.ensures)

pub loop-cursor-smaller : goal.loop-cursor-smaller
loop-cursor-smaller c =
    let (got, past) = c.in-Some.ensures in
    omega (arith, past, checking_moves c.loop-cursor.invariant c.loop-cursor-test.true _ got)

pub loop-cursor-preserved : goal.loop-cursor-preserved
loop-cursor-preserved c =
    let (got, past) = c.in-Some.ensures in
    rw past (checking_next c.loop-cursor.invariant c.loop-cursor-test.true _ got c.in_ok-counts.ensures)

pub returns : goal.returns
returns c = checking_last c.loop-cursor.invariant c.loop-cursor-test.false
