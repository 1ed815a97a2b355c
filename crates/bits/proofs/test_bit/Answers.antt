-- Bit v of the row is a bit of one of its bytes.
use mathlib.Core.Path.{sym, ◌∙◌}
use Rattle.bits.proofs.Bits.{bit_byte}
use Rattle.bits.proofs.test_bit.Goals as goal

pub returns : goal.returns
returns c = c.bit_of.ensures ∙ sym (bit_byte _ _ _)
