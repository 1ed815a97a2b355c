-- The nine signs by their numbers, and the labels behind them.
use Rattle.std.proofs.Common.{refl, arith}
use Rattle.meaning.specs.Word.{sign_of, is_step}
use Rattle.word.specs.Sign.{kind_of}
use Rattle.word.proofs.Signs.{one_of_two, kind_of_two, kind_label}
use Rattle.word.proofs.sign.kind_of.Goals as goal

-- 4 and 7
pub returns-in-4 : goal.returns-in-4
unfolding kind_of sign_of is_step
returns-in-4 c = kind_of_two 4 7 _ refl refl c.in-4.is

-- 0 and 1
pub returns-in-0 : goal.returns-in-0
unfolding kind_of sign_of is_step
returns-in-0 c = kind_of_two 0 1 _ refl refl (one_of_two 0 c.args.sign (omega arith) (omega arith))

-- 2 and 3
pub returns-in-2 : goal.returns-in-2
unfolding kind_of sign_of is_step
returns-in-2 c = kind_of_two 2 3 _ refl refl (one_of_two 2 c.args.sign (omega arith) (omega arith))

-- 9 and above: the labels
pub returns-in_default : goal.returns-in_default
returns-in_default c = kind_label c.args.sign (grind arith)

-- 8
pub returns-in-5 : goal.returns-in-5
unfolding kind_of sign_of is_step
returns-in-5 c = rw c.in-5.is

-- 5 and 6
pub returns-in-5-2 : goal.returns-in-5-2
unfolding kind_of sign_of is_step
returns-in-5-2 c = kind_of_two 5 6 _ refl refl (one_of_two 5 c.args.sign (grind arith) (grind arith))
