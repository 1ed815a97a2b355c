-- "That no second answer fits is itself a proved statement": the mark of a row that goes.
use mathlib.Core.Path.{◌≡◌}
use Prim.Native.Nat.{ℕ, ◌<◌}
use native.Mathlib.Decide.{dec_lt}
use native.Mathlib.Omega.{arith}
use Rattle.theory.proofs.Once.{value_same, bits_same}
use Rattle.bits.specs.Bits.{bit_of}
use Rattle.onto.specs.Left.{gone_bit, Gone}

pub gone_unique : (m r r' : ℕ) → r < 256 → r' < 256 → Gone m r → Gone m r' → r ≡ r'
unfolding bit_of
gone_unique m r r' l l' g g' = bits_same 8 r r' l l' (λ j b. bit j b (dec_lt j gone_bit))
  where
    bit : (j : ℕ) → j < 8 → Dec (j < gone_bit) → bit_of r j ≡ bit_of r' j
    bit j b (yes d) = value_same (g.other j d) (g'.other j d)
    bit j b (no d) = let e : j ≡ gone_bit = omega arith in rw e (value_same g.away g'.away)
