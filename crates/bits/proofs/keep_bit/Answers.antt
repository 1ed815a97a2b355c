-- A mask clears the bit.
use Rattle.bits.proofs.Bits.{keep_off}
use Rattle.bits.proofs.keep_bit.Goals as goal

pub returns : goal.returns
returns c = keep_off _ _ _ c.requires c.if-on.false
