-- A shift and a mask read the bit.
use Rattle.bits.specs.Bits.{bit_of}
use Rattle.bits.proofs.Bits.{and_one}
use Rattle.bits.proofs.bit_of.Goals as goal

pub returns : goal.returns
returns c = unfold bit_of in rw (and_one _)
