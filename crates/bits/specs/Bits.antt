-- Rows of bits in lent bytes: row u is the 128 bytes from byte 128u on, and its bit v is bit v mod 8 of its byte v div 8 (01, Documents).
-- `bit_at` of meaning reads them; here is what the functions on rows leave behind.
use Rattle.std.specs.Prelude.{◌≡◌, List, Bool, true, ◌&&◌, ℕ, zero, suc, ◌+◌, ◌*◌, ◌/◌, ◌%◌, ◌^◌, ◌≤◌, ◌<◌, length, get_or, eqb}
use Rattle.meaning.specs.Matching.{bit_at}

-- bit k of a byte, the lowest being 0
unfoldable pub bit_of : ℕ → ℕ → Bool
bit_of b k = eqb (b / 2 ^ k % 2) 1

-- each of the numbers below n is so
unfoldable pub all_to : ℕ → (ℕ → Bool) → Bool
all_to zero f = true
all_to (suc n) f = all_to n f && f n

-- row u has no bit set: its 128 bytes are 0
unfoldable pub row_clear : List ℕ → ℕ → Bool
row_clear w u = all_to 128 (λ i. eqb (get_or w (128 * u + i) 0) 0)

-- r is b, with bit k cleared unless `on` says so
pub record BitKept (b k : ℕ) (on : Bool) (r : ℕ) : Type 0 where
  pub here : bit_of r k ≡ (bit_of b k && on)
  pub other : (j : ℕ) → j < 8 → (j ≡ k → ⊥) → bit_of r j ≡ bit_of b j

-- no byte outside row u changed
pub record OnlyRow (w : List ℕ) (u : ℕ) (b : List ℕ) : Type 0 where
  pub same : length b ≡ length w
  pub elsewhere : (i : ℕ) → (i / 128 ≡ u → ⊥) → get_or b i 0 ≡ get_or w i 0

-- b is w with bit v of row u set
pub record BitSet (w : List ℕ) (u v : ℕ) (b : List ℕ) : Type 0 where
  pub only : OnlyRow w u b
  pub here : bit_at b u v ≡ true
  pub other : (x : ℕ) → x < 1024 → (x ≡ v → ⊥) → bit_at b u x ≡ bit_at w u x

-- up to bit k the byte r has the bits of b that g keeps, from there on those of b
pub record Sifted (b : ℕ) (g : ℕ → Bool) (k r : ℕ) : Type 0 where
  pub low : (j : ℕ) → j < k → bit_of r j ≡ (bit_of b j && g j)
  pub high : (j : ℕ) → k ≤ j → j < 8 → bit_of r j ≡ bit_of b j

-- row u of b has the bits of row u of w whose flags are 1, up to bit e; behind it row u is as it was
pub record Met (w : List ℕ) (u : ℕ) (flags : List ℕ) (e : ℕ) (b : List ℕ) : Type 0 where
  pub only : OnlyRow w u b
  pub both : (v : ℕ) → v < e → bit_at b u v ≡ (bit_at w u v && eqb (get_or flags v 0) 1)
  pub behind : (v : ℕ) → e ≤ v → v < 1024 → bit_at b u v ≡ bit_at w u v

-- the first e bytes are clear, the later ones are as they were
pub record Cleared (w : List ℕ) (e : ℕ) (b : List ℕ) : Type 0 where
  pub same : length b ≡ length w
  pub clear : (i : ℕ) → i < e → get_or b i 0 ≡ 0
  pub later : (i : ℕ) → e ≤ i → get_or b i 0 ≡ get_or w i 0
