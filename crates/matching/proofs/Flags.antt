-- Laws of the step from a child's row to its parent's: the parents of the nodes whose bits are set, byte by byte.
use mathlib.Core.Path.{◌≡◌, refl, sym, ◌∙◌}
use mathlib.Core.Logic.{◌↔◌, ◌⊎◌, inl, inr}
use mathlib.Core.List.{List}
use mathlib.Core.Bool.{Bool, true, false, ◌&&◌}
use Prim.Native.Nat.{ℕ, zero, suc, ◌+◌, ◌-◌, ◌*◌, ◌/◌, ◌≤◌, ◌<◌}
use native.Mathlib.Omega.{arith}
use native.Mathlib.Nat.{div-eq_of_lt, lt_of_lt_of_le}
use native.Mathlib.Decide.{dec_lt}
use lib.ListN.{length, get_or}
use lib.Dec.{eqb}
use lib.Pow.{pow_mono}
use borrow.Author.Tests.{eqb-true, eq-eqb}
use Rattle.std.proofs.Math.Logic.{⊎_map}
use Rattle.meaning.specs.Limits.{most_rows}
use Rattle.meaning.specs.Matching.{bit_at}
use Rattle.bits.specs.Bits.{bit_of, Met}
use Rattle.bits.proofs.Bits.{zero_bit, half_bit, byte_bit}
use Rattle.document.specs.Nodes.{RowIs}
use Rattle.matching.specs.Table.{FromByte, Upto, ParentOf, Added, RowInside}
use Rattle.document.proofs.Nodes.{true_false, iff_same}

-- ------------------------------------------------------------------ flags
-- what is added, said otherwise
added_same : (h h' : List ℕ) (P Q : ℕ → Type 0) → ((v : ℕ) → P v ↔ Q v) → Added h P h' → Added h Q h'
added_same h h' P Q f a = record {
  same = a.same;
  flags = λ v l.
      (λ t. ⊎_map (λ y. y) (f v).0 ((a.flags v l).0 t), λ y. (a.flags v l).1 (⊎_map (λ y. y) (f v).1 y));
}

-- first these, then those
added_then : (h₀ h h' : List ℕ) (P Q : ℕ → Type 0) → Added h₀ P h → Added h Q h' → Added h₀ (λ v. P v ⊎ Q v) h'
added_then h₀ h h' P Q a b = record { same = b.same ∙ a.same; flags = λ v l. (λ t. to v l ((b.flags v l).0 t), λ y. (b.flags v l).1 (from v l y)) }
  where
    to : (v : ℕ) → v < most_rows → (get_or h v 0 ≡ 1) ⊎ Q v → (get_or h₀ v 0 ≡ 1) ⊎ (P v ⊎ Q v)
    to v l (inl t) = ⊎_map (λ y. y) (λ y. inl y) ((a.flags v l).0 t)
    to v l (inr y) = inr (inr y)

    from : (v : ℕ) → v < most_rows → (get_or h₀ v 0 ≡ 1) ⊎ (P v ⊎ Q v) → (get_or h v 0 ≡ 1) ⊎ Q v
    from v l (inl t) = inl ((a.flags v l).1 (inl t))
    from v l (inr (inl y)) = inl ((a.flags v l).1 (inr y))
    from v l (inr (inr y)) = inr y

-- nothing is added
added_none : (h : List ℕ) (Q : ℕ → Type 0) → ((v : ℕ) → Q v → ⊥) → Added h Q h
added_none h Q f = record { same = refl; flags = λ v l. (λ t. inl t, was v) }
  where
    was : (v : ℕ) → (get_or h v 0 ≡ 1) ⊎ Q v → get_or h v 0 ≡ 1
    was v (inl t) = t
    was v (inr y) = absurd (f v y)

-- ------------------------------------------------------------------ one byte
-- a byte has eight bits
byte_bits : (b k : ℕ) → b < 256 → bit_of b k ≡ true → k < 8
byte_bits b k l e = go (dec_lt k 8)
  where
    go : Dec (k < 8) → k < 8
    go (yes d) = d
    go (no d) = true_false (sym e ∙ none)
      where
        none : bit_of b k ≡ false
        none = unfold bit_of in rw (div-eq_of_lt (lt_of_lt_of_le l (let z : 8 ≤ k = omega arith in pow_mono z)))

pub whole_byte : (P h h' : List ℕ) (b x : ℕ) → b < 256 → Added h (Upto (λ k v. (bit_of b k ≡ true) × (get_or P (x + k) 0 ≡ v)) 8) h'
    → Added h (FromByte P b x) h'
whole_byte P h h' b x l a =
    added_same h h' (Upto (λ k v. (bit_of b k ≡ true) × (get_or P (x + k) 0 ≡ v)) 8) (FromByte P b x)
    (λ v. (λ (k, _, y). (k, y.0, y.1), λ (k, t, z). (k, byte_bits b k l t, (t, z)))) a

pub empty_byte : (P h : List ℕ) (b x : ℕ) → b ≡ 0 → Added h (FromByte P b x) h
empty_byte P h b x e = rw e (added_none h (FromByte P 0 x) (λ v (k, t, _). true_false (sym t ∙ zero_bit k)))

-- ------------------------------------------------------------------ one row
module _ (w : List ℕ) (c : ℕ) (P : List ℕ) (inside : RowInside w c P) where
  -- the bits of byte i
  pub byte_inside : (i : ℕ) → i < 128 → get_or w (128 * c + i) 0 < 256 → (k : ℕ) → bit_of (get_or w (128 * c + i) 0) k ≡ true → 8 * i + k < length P
  byte_inside i li lb k e =
      let lk = byte_bits (get_or w (128 * c + i) 0) k lb e in inside (8 * i + k) (omega arith) (byte_bit w c i k lk ∙ e)

  -- of the first byte without its lowest bit
  pub first_inside : get_or w (128 * c) 0 < 256 → (k : ℕ) → bit_of (get_or w (128 * c) 0 / 2) k ≡ true → 1 + k < length P
  first_inside lb k e =
      let q : 128 * c + 0 ≡ 128 * c = omega arith in
      let z = byte_inside 0 (omega arith) (rw q lb) (suc k) (rw q (sym (half_bit (get_or w (128 * c) 0) k) ∙ e)) in
      omega arith

  pub added_first : (h₀ h : List ℕ) → get_or w (128 * c) 0 < 256 → Added h₀ (FromByte P (get_or w (128 * c) 0 / 2) 1) h
      → Added h₀ (ParentOf w c P (8 * 1)) h
  added_first h₀ h lb a = added_same h₀ h (FromByte P (get_or w (128 * c) 0 / 2) 1) (ParentOf w c P (8 * 1)) (λ v. (to v, from v)) a
    where
      at0 : 128 * c + 0 ≡ 128 * c
      at0 = omega arith

      to : (v : ℕ) → FromByte P (get_or w (128 * c) 0 / 2) 1 v → ParentOf w c P (8 * 1) v
      to v (k, e, p) =
          let s = sym (half_bit (get_or w (128 * c) 0) k) ∙ e in
          let lk = byte_bits (get_or w (128 * c) 0) (suc k) lb s in
          let q : 8 * 0 + suc k ≡ 1 + k = omega arith in
          let y : bit_of (get_or w (128 * c + 0) 0) (suc k) ≡ true = rw at0 s in
          (1 + k, omega arith, omega arith, rw q at (byte_bit w c 0 (suc k) lk ∙ y), p)

      from : (v : ℕ) → ParentOf w c P (8 * 1) v → FromByte P (get_or w (128 * c) 0 / 2) 1 v
      from v (zero, z, l, e, p) = absurd (omega arith)
      from v (suc k, z, l, e, p) =
          let q : 8 * 0 + suc k ≡ suc k = omega arith in
          let r : 1 + k ≡ suc k = omega arith in
          let lk : suc k < 8 = omega arith in
          let y : bit_at w c (8 * 0 + suc k) ≡ true = rw q e in
          (k, half_bit (get_or w (128 * c) 0) k ∙ (rw at0 at (sym (byte_bit w c 0 (suc k) lk) ∙ y)), rw r p)

  pub added_byte : (h₀ h h' : List ℕ) (i : ℕ) → 1 ≤ i → get_or w (128 * c + i) 0 < 256 → Added h₀ (ParentOf w c P (8 * i)) h
      → Added h (FromByte P (get_or w (128 * c + i) 0) (8 * i)) h' → Added h₀ (ParentOf w c P (8 * (i + 1))) h'
  added_byte h₀ h h' i li lb a b =
      added_same h₀ h' (λ v. Before v ⊎ Here v) (ParentOf w c P (8 * (i + 1))) (λ v. (to v, from v)) (added_then h₀ h h' Before Here a b)
    where
      Before : ℕ → Type 0
      Before = ParentOf w c P (8 * i)

      Here : ℕ → Type 0
      Here = FromByte P (get_or w (128 * c + i) 0) (8 * i)

      to : (v : ℕ) → Before v ⊎ Here v → ParentOf w c P (8 * (i + 1)) v
      to v (inl (x, z, m, y, p)) = (x, z, omega arith, y, p)
      to v (inr (k, e, p)) =
          let lk = byte_bits (get_or w (128 * c + i) 0) k lb e in (8 * i + k, omega arith, omega arith, byte_bit w c i k lk ∙ e, p)

      from : (v : ℕ) → ParentOf w c P (8 * (i + 1)) v → Before v ⊎ Here v
      from v (x, z, m, e, p) = go (dec_lt x (8 * i))
        where
          go : Dec (x < 8 * i) → Before v ⊎ Here v
          go (yes d) = inl (x, z, d, e, p)
          go (no d) =
              let q : 8 * i + (x - 8 * i) ≡ x = omega arith in
              let lk : x - 8 * i < 8 = omega arith in
              inr (x - 8 * i, sym (byte_bit w c i (x - 8 * i) lk) ∙ rw q e, rw q p)

  pub added_row : (h₀ h : List ℕ) (i : ℕ) → length P ≤ 8 * i → i ≤ 128 → Added h₀ (ParentOf w c P (8 * i)) h → Added h₀ (ParentOf w c P (length P)) h
  added_row h₀ h i l m a =
      added_same h₀ h (ParentOf w c P (8 * i)) (ParentOf w c P (length P))
      (λ v. (λ (x, z, n, e, p). (x, z, inside x (omega arith) e, e, p), λ (x, z, n, e, p). (x, z, omega arith, e, p))) a

-- what row u keeps
pub kept : (w b h₀ h : List ℕ) (u e : ℕ) (Q : ℕ → Type 0) → ((i : ℕ) → i < most_rows → get_or h₀ i 0 ≡ 0)
    → ((v : ℕ) → v < most_rows → bit_at w u v ≡ true → v < e) → Added h₀ Q h → Met w u h e b
    → RowIs w u (λ v. (bit_at w u v ≡ true) × Q v) b
kept w b h₀ h u e Q z inside a m = record { only = m.only; bits = λ v l. go v l (dec_lt v e) }
  where
    added : (v : ℕ) → v < most_rows → (get_or h₀ v 0 ≡ 1) ⊎ Q v → Q v
    added v l (inl y) = let x = z v l in absurd (omega arith)
    added v l (inr y) = y

    low : (v : ℕ) → v < most_rows → (x : Bool) → ((x && eqb (get_or h v 0) 1) ≡ true) ↔ ((x ≡ true) × Q v)
    low v l true = (λ t. (refl, added v l ((a.flags v l).0 (eqb-true (get_or h v 0) 1 t))), λ (_, y). eq-eqb (get_or h v 0) 1 ((a.flags v l).1 (inr y)))
    low v l false = (λ t. true_false (sym t), λ (t, _). t)

    go : (v : ℕ) → v < most_rows → Dec (v < e) → (bit_at b u v ≡ true) ↔ ((bit_at w u v ≡ true) × Q v)
    go v l (yes d) = iff_same (m.both v d) (low v l (bit_at w u v))
    go v l (no d) = (λ t. absurd (d (inside v l (sym (m.behind v (omega arith) l) ∙ t))), λ (t, _). absurd (d (inside v l t)))
