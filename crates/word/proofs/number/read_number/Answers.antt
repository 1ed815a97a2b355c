-- The signs are the numbers up to the largest sign.
use Rattle.meaning.specs.Number.{read_number}
use Rattle.word.proofs.number.read_number.Goals as goal

pub returns : goal.returns
unfolding read_number
returns c = c.read_up_to.ensures
