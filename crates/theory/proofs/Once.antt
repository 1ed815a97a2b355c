-- Promises that determine what they speak of, by their kind: an equation, a yes or no told by ↔, a number by its bits, a byte by the bits of its row.
-- What a function promises is one of these, or is made of them; the crates' own kinds stand in their `Unique`.
use mathlib.Core.Path.{◌≡◌, refl, sym, ap, ◌∙◌}
use mathlib.Core.Logic.{◌↔◌, ◌⊎◌, inl, inr}
use mathlib.Core.Bool.{Bool, true, false}
use mathlib.Core.List.{List}
use Prim.Native.Nat.{ℕ, zero, suc, ◌+◌, ◌*◌, ◌/◌, ◌%◌, ◌^◌, ◌<◌}
use native.Mathlib.Omega.{arith}
use lib.ListN.{length, get_or}
use lib.Seq.{ext_get_or}
use lib.Dec.{eqb}
use lib.Pow.{shr-shr}
use Rattle.meaning.specs.Matching.{bit_at}
use Rattle.theory.proofs.Look.{never}

-- "r is f of the inputs"
pub value_same : {A : Type 0} {x a b : A} → a ≡ x → b ≡ x → a ≡ b
value_same p q = p ∙ sym q

-- "r is true exactly if"
pub bool_same : (C : Type 0) (a b : Bool) → (a ≡ true) ↔ C → (b ≡ true) ↔ C → a ≡ b
bool_same C true true p q = refl
bool_same C false false p q = refl
bool_same C true false p q = sym (q.1 (p.0 refl))
bool_same C false true p q = p.1 (q.0 refl)

-- ------------------------------------------------------------------ bits and bytes
low_bit : (x y : ℕ) → eqb (x % 2) 1 ≡ eqb (y % 2) 1 → x % 2 ≡ y % 2
low_bit x y e = go (x % 2) (y % 2) (omega arith) (omega arith) e
  where
    go : (a b : ℕ) → a < 2 → b < 2 → eqb a 1 ≡ eqb b 1 → a ≡ b
    go zero zero p q f = refl
    go zero (suc zero) p q f = never cc
    go zero (suc (suc b)) p q f = absurd (omega arith)
    go (suc zero) zero p q f = never cc
    go (suc zero) (suc zero) p q f = refl
    go (suc zero) (suc (suc b)) p q f = absurd (omega arith)
    go (suc (suc a)) b p q f = absurd (omega arith)

shr_zero : (x : ℕ) → x / 2 ^ 0 ≡ x
shr_zero x = omega arith

shr_suc : (x i : ℕ) → x / 2 ^ suc i ≡ x / 2 / 2 ^ i
shr_suc x i = ap (λ z. x / 2 ^ z) (let z : suc i ≡ 1 + i = omega arith in z) ∙ sym (shr-shr x 1 i)

-- numbers of k bits are equal where their bits are
pub bits_same : (k x y : ℕ) → x < 2 ^ k → y < 2 ^ k → ((i : ℕ) → i < k → eqb (x / 2 ^ i % 2) 1 ≡ eqb (y / 2 ^ i % 2) 1) → x ≡ y
bits_same zero x y p q h = omega arith
bits_same (suc k) x y p q h =
    let low : x % 2 ≡ y % 2 = low_bit x y (rw (shr_zero x, shr_zero y) at (h 0 (omega arith))) in
    let high : x / 2 ≡ y / 2 = bits_same k (x / 2) (y / 2) (omega arith) (omega arith) (λ i l. rw (shr_suc x i, shr_suc y i) at (h (suc i) (omega arith))) in
    omega arith

-- every entry is a byte
abbrev pub Bytes : List ℕ → Type 0
Bytes w = (i : ℕ) → i < length w → get_or w i 0 < 256

-- a byte is eight bits of its row
abbrev RowSame : List ℕ → List ℕ → ℕ → Type 0
RowSame w w' u = (v : ℕ) → v < 1024 → bit_at w u v ≡ bit_at w' u v

byte_same : (w w' : List ℕ) (i : ℕ) → get_or w i 0 < 256 → get_or w' i 0 < 256 → RowSame w w' (i / 128) → get_or w i 0 ≡ get_or w' i 0
unfolding bit_at
byte_same w w' i p q h = bits_same 8 (get_or w i 0) (get_or w' i 0) p q (λ k l. bit k l)
  where
    bit : (k : ℕ) → k < 8 → eqb (get_or w i 0 / 2 ^ k % 2) 1 ≡ eqb (get_or w' i 0 / 2 ^ k % 2) 1
    bit k l =
        let place : 128 * (i / 128) + (8 * (i % 128) + k) / 8 ≡ i = omega arith in
        let bitk : (8 * (i % 128) + k) % 8 ≡ k = omega arith in
        rw (place, bitk) at (h (8 * (i % 128) + k) (omega arith))

-- bytes of which each is told, by itself or by the bits of its row
pub bytes_same : (w w' : List ℕ) → Bytes w → Bytes w' → length w ≡ length w' → ((i : ℕ) → (get_or w i 0 ≡ get_or w' i 0) ⊎ RowSame w w' (i / 128))
    → w ≡ w'
bytes_same w w' b b' e told = ext_get_or 0 w w' e (λ i l. entry i l (told i))
  where
    entry : (i : ℕ) → i < length w → (get_or w i 0 ≡ get_or w' i 0) ⊎ RowSame w w' (i / 128) → get_or w i 0 ≡ get_or w' i 0
    entry i l (inl x) = x
    entry i l (inr h) = byte_same w w' i (b i l) (b' i (omega arith)) h
