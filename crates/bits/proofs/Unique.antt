-- "That no second answer fits is itself a proved statement": bits that are told one by one determine a byte, a row, and the bytes around it.
use mathlib.Core.Path.{◌≡◌}
use mathlib.Core.Logic.{◌⊎◌, inl, inr}
use mathlib.Core.Bool.{Bool}
use mathlib.Core.List.{List}
use Prim.Native.Nat.{ℕ, ◌/◌, ◌<◌}
use native.Mathlib.Decide.{ℕ_discrete, dec_lt}
use native.Mathlib.Omega.{arith}
use lib.ListN.{get_or}
use lib.Seq.{ext_get_or}
use Rattle.meaning.specs.Matching.{bit_at}
use Rattle.theory.proofs.Once.{value_same, bits_same, Bytes, bytes_same}
use Rattle.bits.specs.Bits.{bit_of, BitKept, OnlyRow, BitSet, Sifted, Met, Cleared}

pub keep_bit_unique : (b k : ℕ) (on : Bool) (r r' : ℕ) → r < 256 → r' < 256 → BitKept b k on r → BitKept b k on r' → r ≡ r'
unfolding bit_of
keep_bit_unique b k on r r' l l' p p' = bits_same 8 r r' l l' (λ j m. bit j m (ℕ_discrete j k))
  where
    bit : (j : ℕ) → j < 8 → Dec (j ≡ k) → bit_of r j ≡ bit_of r' j
    bit j m (yes e) = rw e (value_same p.here p'.here)
    bit j m (no e) = value_same (p.other j m e) (p'.other j m e)

-- a test whose answers a function gives leaves one byte
pub sift_unique : (b : ℕ) (g : ℕ → Bool) (r r' : ℕ) → r < 256 → r' < 256 → Sifted b g 8 r → Sifted b g 8 r' → r ≡ r'
unfolding bit_of
sift_unique b g r r' l l' s s' = bits_same 8 r r' l l' (λ j m. value_same (s.low j m) (s'.low j m))

-- the bits of one row are told, and nothing else changes
pub row_unique : (w : List ℕ) (u : ℕ) (a a' : List ℕ) → Bytes a → Bytes a' → OnlyRow w u a → OnlyRow w u a'
    → ((v : ℕ) → v < 1024 → bit_at a u v ≡ bit_at a' u v) → a ≡ a'
row_unique w u a a' b b' o o' h = bytes_same a a' b b' (value_same o.same o'.same) (λ i. told i (ℕ_discrete (i / 128) u))
  where
    told : (i : ℕ) → Dec (i / 128 ≡ u) → (get_or a i 0 ≡ get_or a' i 0) ⊎ ((v : ℕ) → v < 1024 → bit_at a (i / 128) v ≡ bit_at a' (i / 128) v)
    told i (yes e) = inr (rw e h)
    told i (no e) = inl (value_same (o.elsewhere i e) (o'.elsewhere i e))

pub set_bit_unique : (w : List ℕ) (u v : ℕ) (a a' : List ℕ) → Bytes a → Bytes a' → BitSet w u v a → BitSet w u v a' → a ≡ a'
set_bit_unique w u v a a' b b' s s' = row_unique w u a a' b b' s.only s'.only (λ x l. bit x l (ℕ_discrete x v))
  where
    bit : (x : ℕ) → x < 1024 → Dec (x ≡ v) → bit_at a u x ≡ bit_at a' u x
    bit x l (yes e) = rw e (value_same s.here s'.here)
    bit x l (no e) = value_same (s.other x l e) (s'.other x l e)

pub meet_unique : (w : List ℕ) (u : ℕ) (flags : List ℕ) (e : ℕ) (a a' : List ℕ) → Bytes a → Bytes a' → Met w u flags e a → Met w u flags e a' → a ≡ a'
meet_unique w u flags e a a' b b' m m' = row_unique w u a a' b b' m.only m'.only (λ x l. bit x l (dec_lt x e))
  where
    bit : (x : ℕ) → x < 1024 → Dec (x < e) → bit_at a u x ≡ bit_at a' u x
    bit x l (yes d) = value_same (m.both x d) (m'.both x d)
    bit x l (no d) = value_same (m.behind x (omega arith) l) (m'.behind x (omega arith) l)

pub clear_unique : (w : List ℕ) (e : ℕ) (a a' : List ℕ) → Cleared w e a → Cleared w e a' → a ≡ a'
clear_unique w e a a' c c' = ext_get_or 0 a a' (value_same c.same c'.same) (λ i l. byte i (dec_lt i e))
  where
    byte : (i : ℕ) → Dec (i < e) → get_or a i 0 ≡ get_or a' i 0
    byte i (yes d) = value_same (c.clear i d) (c'.clear i d)
    byte i (no d) = value_same (c.later i (omega arith)) (c'.later i (omega arith))
