-- The first bytes are filled with zeros, and the later ones stay.
use Rattle.std.proofs.Common.{length-take-le}
use Rattle.bits.proofs.Bits.{front_clear}
use Rattle.bits.proofs.clear.Goals as goal

pub returns : goal.returns
returns c = front_clear _ _ _ _ c.requires (length-take-le 32768 c.args.w.now c.requires) (c.fill.ensures.after (λ y e. e))
