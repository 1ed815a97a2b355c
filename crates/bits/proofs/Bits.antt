-- Laws of bits: what an or, an and, a shift and a store do to the bits of a byte and of a row.
use mathlib.Core.Path.{◌≡◌, refl, sym, ap, ◌∙◌}
use mathlib.Core.Logic.{by_cases}
use mathlib.Core.List.{List, ◌++◌}
use mathlib.Core.Bool.{Bool, true, false, not, cond, ◌&&◌, and-true}
use Prim.Native.Nat.{ℕ, zero, suc, ◌+◌, ◌-◌, ◌*◌, ◌/◌, ◌%◌, ◌^◌, ◌≤◌, ◌<◌}
use native.Mathlib.Omega.{arith}
use native.Mathlib.Numerals.{add-one}
use native.Mathlib.Nat.{div-eq_of_lt, one-mul, zero-div}
use native.Mathlib.Decide.{ℕ_discrete, dec_lt}
use lib.ListN.{length, get_or, set, length-set, drop, replicate}
use lib.Seq.{get_or-set_same, get_or-set_other}
use lib.Dec.{eqb, lit<}
use lib.Pow.{pow-lt, pow-add, shl-shr, shl_exact, shr-shr}
use lib.Bits.{bit_and, bit_or, and_mask, and_shr, and_mod, or_shr, or_mod, or_zero_r}
use borrow.Author.Tests.{eq-eqb, ne_eqb, eqb-true, not-true}
use Rattle.std.proofs.lemmas.List.{length-append, length-replicate, length-drop, get_or_append_left, get_or-append_right, get_or-drop, get_or-replicate}
use Rattle.std.proofs.lemmas.List.Edits.{get_or-between}
use Rattle.std.specs.List.{between}
use Rattle.meaning.specs.Matching.{bit_at}
use Rattle.theory.proofs.Look.{never}
use Rattle.bits.specs.Bits.{bit_of, all_to, row_clear, BitKept, OnlyRow, BitSet, Sifted, Met, Cleared}

-- ------------------------------------------------------------------ bits of a byte
-- (n >> ..) & 1
pub and_one : (n : ℕ) → bit_and n 1 ≡ n % 2
and_one n = and_mask n 1

-- 1 << k in a byte
one_shl : (k : ℕ) → k < 8 → 1 * 2 ^ k % 256 ≡ 2 ^ k
one_shl k h = shl_exact 1 k 8 (lit< tt) (omega arith) ∙ one-mul (2 ^ k)

pow_same : (k : ℕ) → 2 ^ k / 2 ^ k % 2 ≡ 1
pow_same k = ap (λ (n : ℕ). n / 2 ^ k % 2) (sym (one-mul (2 ^ k))) ∙ ap (λ (n : ℕ). n % 2) (shl-shr 1 k)

pow_other : (k j : ℕ) → (j ≡ k → ⊥) → 2 ^ k / 2 ^ j % 2 ≡ 0
pow_other k j ne = go (dec_lt k j)
  where
    even : (m : ℕ) → 2 ^ (m + 1) % 2 ≡ 0
    even m = rw (pow-add 2 m 1) (let z : 2 ^ m * 2 % 2 ≡ 0 = omega arith in z)

    go : Dec (k < j) → 2 ^ k / 2 ^ j % 2 ≡ 0
    go (yes l) = rw (div-eq_of_lt (pow-lt l))
    go (no l) =
        let m = k - j - 1 in
        let q : k ≡ m + 1 + j = omega arith in
        ap (λ (n : ℕ). 2 ^ n / 2 ^ j % 2) q
        ∙ ap (λ (n : ℕ). n / 2 ^ j % 2) (pow-add 2 (m + 1) j)
        ∙ ap (λ (n : ℕ). n % 2) (shl-shr (2 ^ (m + 1)) j)
        ∙ even m

or_bit : (x y j : ℕ) → bit_or x y / 2 ^ j % 2 ≡ bit_or (x / 2 ^ j % 2) (y / 2 ^ j % 2)
or_bit x y j = ap (λ (n : ℕ). n % 2) (or_shr x y j) ∙ or_mod (x / 2 ^ j) (y / 2 ^ j) 1

and_bit : (x y j : ℕ) → bit_and x y / 2 ^ j % 2 ≡ bit_and (x / 2 ^ j % 2) (y / 2 ^ j % 2)
and_bit x y j = ap (λ (n : ℕ). n % 2) (and_shr x y j) ∙ and_mod (x / 2 ^ j) (y / 2 ^ j) 1

or_one : (y : ℕ) → y < 2 → bit_or y 1 ≡ 1
or_one zero h = refl
or_one (suc zero) h = refl
or_one (suc (suc y)) h = absurd (omega arith)

-- b | (1 << k): bit k is set, and every other bit is as it was
set_here : (b k : ℕ) → bit_of (bit_or b (2 ^ k)) k ≡ true
unfolding bit_of
set_here b k =
    ap (λ (n : ℕ). eqb n 1) (or_bit b (2 ^ k) k ∙ ap (bit_or (b / 2 ^ k % 2)) (pow_same k) ∙ or_one (b / 2 ^ k % 2) (omega arith))

set_other : (b k j : ℕ) → (j ≡ k → ⊥) → bit_of (bit_or b (2 ^ k)) j ≡ bit_of b j
unfolding bit_of
set_other b k j ne =
    ap (λ (n : ℕ). eqb n 1) (or_bit b (2 ^ k) j ∙ ap (bit_or (b / 2 ^ j % 2)) (pow_other k j ne) ∙ or_zero_r (b / 2 ^ j % 2))

-- a & b has the bits that both have
and_of : (a b k : ℕ) → bit_of (bit_and a b) k ≡ (bit_of a k && bit_of b k)
unfolding bit_of
and_of a b k = ap (λ (n : ℕ). eqb n 1) (and_bit a b k) ∙ go (a / 2 ^ k % 2) (b / 2 ^ k % 2) (omega arith) (omega arith)
  where
    go : (x y : ℕ) → x < 2 → y < 2 → eqb (bit_and x y) 1 ≡ (eqb x 1 && eqb y 1)
    go zero zero l m = refl
    go zero (suc zero) l m = refl
    go zero (suc (suc y)) l m = absurd (omega arith)
    go (suc zero) zero l m = refl
    go (suc zero) (suc zero) l m = refl
    go (suc zero) (suc (suc y)) l m = absurd (omega arith)
    go (suc (suc x)) y l m = absurd (omega arith)

-- a byte without bits
pub zero_bit : (k : ℕ) → bit_of 0 k ≡ false
unfolding bit_of
zero_bit k = rw (zero-div (2 ^ k))

-- ------------------------------------------------------------------ a byte with one bit cleared
pub both : (x y : Bool) → (x && y) ≡ true → (x ≡ true) × (y ≡ true)
both true y e = (refl, e)
both false y e = never cc

pub all_to_lem : (n : ℕ) (f : ℕ → Bool) → all_to n f ≡ true → (k : ℕ) → k < n → f k ≡ true
unfolding all_to
all_to_lem zero f e k l = absurd (omega arith)
all_to_lem (suc n) f e k l = go (ℕ_discrete k n) (λ lower. all_to_lem n f (both (all_to n f) (f n) e).0 k lower)
  where
    go : Dec (k ≡ n) → (k < n → f k ≡ true) → f k ≡ true
    go (yes q) rest = rw q (both (all_to n f) (f n) e).1
    go (no q) rest = rest (omega arith)

-- bit j of the byte in which bit k alone is clear, for all of them at once
abbrev masked : ℕ → ℕ → Bool
masked k j = cond (eqb j k) (not (bit_of (255 - 2 ^ k) j)) (bit_of (255 - 2 ^ k) j)

all_masked : all_to 8 (λ k. all_to 8 (masked k)) ≡ true
unfolding all_to bit_of
all_masked = refl

mask_at : (k j : ℕ) → k < 8 → j < 8 → masked k j ≡ true
mask_at k j lk lj = all_to_lem 8 (masked k) (all_to_lem 8 (λ i. all_to 8 (masked i)) all_masked k lk) j lj

mask_here : (k : ℕ) → k < 8 → bit_of (255 - 2 ^ k) k ≡ false
mask_here k l = not-true (bit_of (255 - 2 ^ k) k) (rw (eq-eqb k k refl) at (mask_at k k l l))

mask_other : (k j : ℕ) → k < 8 → j < 8 → (j ≡ k → ⊥) → bit_of (255 - 2 ^ k) j ≡ true
mask_other k j lk lj ne = rw (ne_eqb j k ne) at (mask_at k j lk lj)

-- b & (255 - (1 << k)): bit k is cleared, and every other bit is as it was
pub keep_off : (b k : ℕ) (on : Bool) → k < 8 → on ≡ false → BitKept b k on (bit_and b (255 - 1 * 2 ^ k % 256))
keep_off b k on l e =
    rw (one_shl k l, e)
    (record {
      here = rw (and_of b (255 - 2 ^ k) k, mask_here k l);
      other = λ j lj ne. rw (and_of b (255 - 2 ^ k) j, mask_other k j l lj ne) (and-true (bit_of b j));
    })

-- the byte in which all eight bits are set
pub all_bits : (k : ℕ) → k < 8 → bit_of 255 k ≡ true
unfolding all_to bit_of
all_bits = all_to_lem 8 (bit_of 255) refl

-- the bits of a byte but the lowest, one place lower after a shift
pub half_bit : (b k : ℕ) → bit_of (b / 2) k ≡ bit_of b (suc k)
unfolding bit_of
half_bit b k = let z : 1 + k ≡ suc k = omega arith in ap (λ (n : ℕ). eqb (n % 2) 1) (shr-shr b 1 k ∙ ap (λ (n : ℕ). b / 2 ^ n) z)

-- ------------------------------------------------------------------ bits of a row
-- bit v of a row is a bit of one of its bytes
pub bit_byte : (w : List ℕ) (u v : ℕ) → bit_at w u v ≡ bit_of (get_or w (128 * u + v / 8) 0) (v % 8)
unfolding bit_at bit_of
bit_byte w u v = refl

pub byte_bit : (w : List ℕ) (u i k : ℕ) → k < 8 → bit_at w u (8 * i + k) ≡ bit_of (get_or w (128 * u + i) 0) k
byte_bit w u i k l =
    let a : (8 * i + k) / 8 ≡ i = omega arith in let b : (8 * i + k) % 8 ≡ k = omega arith in rw (bit_byte w u (8 * i + k), a, b)

-- a row whose bytes are those of another row has its bits
pub same_bits : (w b : List ℕ) (u v : ℕ) → get_or b (128 * u + v / 8) 0 ≡ get_or w (128 * u + v / 8) 0 → bit_at b u v ≡ bit_at w u v
same_bits w b u v e = bit_byte b u v ∙ ap (λ (n : ℕ). bit_of n (v % 8)) e ∙ sym (bit_byte w u v)

-- what changes only row u changes no bit of another row
pub other_row : (w b : List ℕ) (u y x : ℕ) → OnlyRow w u b → x < 1024 → (y ≡ u → ⊥) → bit_at b y x ≡ bit_at w y x
other_row w b u y x o l ne = same_bits w b y x (o.elsewhere (128 * y + x / 8) (λ e. ne (omega arith)))

pub only_refl : (w : List ℕ) (u : ℕ) → OnlyRow w u w
only_refl w u = record { same = refl; elsewhere = λ i ne. refl }

pub only_then : (w b d : List ℕ) (u : ℕ) → OnlyRow w u b → OnlyRow b u d → OnlyRow w u d
only_then w b d u x y = record { same = y.same ∙ x.same; elsewhere = λ i ne. y.elsewhere i ne ∙ x.elsewhere i ne }

-- a byte stored in row u
module _ (w : List ℕ) (u i o : ℕ) (li : i < 128) (lw : 128 * u + 128 ≤ length w) where
  pub store_only : OnlyRow w u (set w (128 * u + i) o)
  store_only =
      record { same = length-set w (128 * u + i) o; elsewhere = λ j ne. get_or-set_other w (128 * u + i) j o 0 (λ e. ne (omega arith)) }

  pub store_here : (v : ℕ) → v / 8 ≡ i → bit_at (set w (128 * u + i) o) u v ≡ bit_of o (v % 8)
  store_here v e = rw (bit_byte (set w (128 * u + i) o) u v, e, get_or-set_same w (128 * u + i) o 0 (omega arith))

  pub store_other : (v : ℕ) → (v / 8 ≡ i → ⊥) → bit_at (set w (128 * u + i) o) u v ≡ bit_at w u v
  store_other v ne = same_bits w (set w (128 * u + i) o) u v (get_or-set_other w (128 * u + i) (128 * u + v / 8) o 0 (λ e. ne (omega arith)))

pub bit_set : (w : List ℕ) (u v : ℕ) → v < 1024 → 128 * u + 128 ≤ length w
    → BitSet w u v (set w (128 * u + v / 8) (bit_or (get_or w (128 * u + v / 8) 0) (1 * 2 ^ (v % 8) % 256)))
bit_set w u v lv lw = rw (one_shl (v % 8) (omega arith)) (go (bit_or (get_or w (128 * u + v / 8) 0) (2 ^ (v % 8))) refl)
  where
    go : (o : ℕ) → o ≡ bit_or (get_or w (128 * u + v / 8) 0) (2 ^ (v % 8)) → BitSet w u v (set w (128 * u + v / 8) o)
    go o e =
        record {
          only = store_only w u (v / 8) o (omega arith) lw;
          here = store_here w u (v / 8) o (omega arith) lw v refl ∙ rw e (set_here (get_or w (128 * u + v / 8) 0) (v % 8));
          other = λ x lx ne. other x ne (ℕ_discrete (x / 8) (v / 8));
        }
      where
        other : (x : ℕ) → (x ≡ v → ⊥) → Dec (x / 8 ≡ v / 8) → bit_at (set w (128 * u + v / 8) o) u x ≡ bit_at w u x
        other x ne (yes q) =
            rw (store_here w u (v / 8) o (omega arith) lw x q, bit_byte w u x, q, e)
            (set_other (get_or w (128 * u + v / 8) 0) (v % 8) (x % 8) (λ r. ne (omega arith)))
        other x ne (no q) = store_other w u (v / 8) o (omega arith) lw x q

-- ------------------------------------------------------------------ whole rows
pub met_more : (w : List ℕ) (u : ℕ) (h b : List ℕ) (i o : ℕ) → i < 128 → 128 * u + 128 ≤ length w
    → ((k : ℕ) → k < 8 → bit_of o k ≡ (bit_of (get_or b (128 * u + i) 0) k && eqb (get_or h (8 * i + k) 0) 1)) → Met w u h (8 * i) b
    → Met w u h (8 * (i + 1)) (set b (128 * u + i) o)
met_more w u h b i o l lw f m = go (rw m.only.same lw)
  where
    go : 128 * u + 128 ≤ length b → Met w u h (8 * (i + 1)) (set b (128 * u + i) o)
    go lb =
        record {
          only = only_then w b (set b (128 * u + i) o) u m.only (store_only b u i o l lb);
          both = λ v lv. both v lv (ℕ_discrete (v / 8) i);
          behind = λ v lv lv'. store_other b u i o l lb v (λ q. omega arith) ∙ m.behind v (omega arith) lv';
        }
      where
        both : (v : ℕ) → v < 8 * (i + 1) → Dec (v / 8 ≡ i) → bit_at (set b (128 * u + i) o) u v ≡ (bit_at w u v && eqb (get_or h v 0) 1)
        both v lv (no q) = store_other b u i o l lb v q ∙ m.both v (omega arith)
        both v lv (yes q) =
            let z : 8 * i + v % 8 ≡ v = omega arith in
            let bv : bit_at w u v ≡ bit_of (get_or b (128 * u + i) 0) (v % 8) = sym (m.behind v (omega arith) (omega arith)) ∙ rw (bit_byte b u v, q) in
            store_here b u i o l lb v q ∙ rw bv (rw z at (f (v % 8) (omega arith)))

-- ------------------------------------------------------------------ a byte sifted
-- a byte without bits keeps none
pub sift_none : (b : ℕ) (g : ℕ → Bool) (k : ℕ) → b ≡ 0 → Sifted b g k 0
sift_none b g k e = record { low = λ j l. rw (e, zero_bit j); high = λ j l m. rw e }

-- one bit more
pub sift_more : {b k r r' : ℕ} {on : Bool} {g : ℕ → Bool} → Sifted b g k r → k < 8 → BitKept r k on r' → on ≡ g k → Sifted b g (k + 1) r'
sift_more {b = b} {k = k} {r = r} {r' = r'} {g = g} s l p e = record {
  low = λ j m. by_cases (ℕ_discrete j k) (λ q. rw (q, p.here, s.high k (omega arith) l, e))
      (λ ne. p.other j (omega arith) ne ∙ s.low j (omega arith));
  high = λ j m n. p.other j n (λ q. omega arith) ∙ s.high j (omega arith) n;
}

-- the first bytes of row u are 0, or not, and one more
pub more_clear : (w : List ℕ) (u e : ℕ) → e < 128
    → (all_to e (λ i. eqb (get_or w (128 * u + i) 0) 0) && eqb (get_or (between (128 * u) (128 * u + 128) w) e 0) 0)
    ≡ all_to (e + 1) (λ i. eqb (get_or w (128 * u + i) 0) 0)
unfolding all_to
more_clear w u e l = rw (add-one e, get_or-between w (128 * u) (128 * u + 128) e 0 (omega arith))

-- bytes that are 0 have no bits
pub no_bits : (w : List ℕ) (u e : ℕ) → ((i : ℕ) → i < e → get_or w (128 * u + i) 0 ≡ 0) → (v : ℕ) → v < 8 * e → bit_at w u v ≡ false
no_bits w u e h v l = rw (bit_byte w u v, h (v / 8) (omega arith)) (zero_bit (v % 8))

-- a clear row has none
pub row_clear_lem : (w : List ℕ) (u : ℕ) → row_clear w u ≡ true → (v : ℕ) → v < 1024 → bit_at w u v ≡ false
unfolding row_clear
row_clear_lem w u e v l =
    no_bits w u 128 (λ i m. eqb-true (get_or w (128 * u + i) 0) 0 (all_to_lem 128 (λ j. eqb (get_or w (128 * u + j) 0) 0) e i m)) v (omega arith)

-- a front of zeros, and the rest
pub front_clear : (w z : List ℕ) (e k : ℕ) → e ≤ length w → k ≡ e → z ≡ replicate k 0 → Cleared w e (z ++ drop e w)
front_clear w z e k h d q =
    rw (q, d)
    (record {
      same = omega (arith, length-append zeros (drop e w), n, length-drop e w);
      clear = λ i m. rw (get_or_append_left zeros (drop e w) 0 i (omega (arith, n))) (get_or-replicate e i 0 0 m);
      later = λ i m.
          let z : e + (i - e) ≡ i = omega arith in
          rw (get_or-append_right zeros (drop e w) e i 0 n m, get_or-drop e w (i - e) 0, z);
    })
  where
    zeros : List ℕ
    zeros = replicate e 0

    n : length zeros ≡ e
    n = length-replicate {A = ℕ} e 0
