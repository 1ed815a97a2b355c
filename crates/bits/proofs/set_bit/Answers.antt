-- One byte of row u changes, by one bit.
use Rattle.bits.proofs.Bits.{bit_set}
use Rattle.bits.proofs.set_bit.Goals as goal

pub returns : goal.returns
returns c = bit_set _ _ _ c.requires.1 c.requires.2
