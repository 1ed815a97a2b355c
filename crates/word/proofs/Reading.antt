-- Reading a number group by group, low group first: what the groups so far and the bytes still to come give together.
use mathlib.Core.Path.{◌≡◌, refl, sym, ap, ◌∙◌}
use mathlib.Core.Logic.{◌⊎◌, ⊎_elim}
use mathlib.Core.Bool.{Bool, true, false}
use mathlib.Core.List.{List}
use Prim.Native.Nat.{ℕ, ◌+◌, ◌-◌, ◌*◌, ◌^◌, ◌<◌, ◌≤◌}
use native.Mathlib.Nat.{sub_self, add-mul, mul_assoc, mul_comm, mul-le-mul_right}
use native.Mathlib.Numerals.{add-one}
use native.Mathlib.Omega.{arith}
use lib.ListN.{length, get_or, drop, drop_of_length-le}
use lib.Seq.{drop-cons}
use lib.Dec.{eqb}
use borrow.Author.Tests.{le-ltb, lt-ltb, le-leb, lt-leb, ne_eqb, eqb-false}
use Rattle.meaning.specs.Number.{Got, got, broken, more, lone, groups, not_above, read_up_to}
use Rattle.theory.proofs.Numbers.{groups_got}

-- ------------------------------------------------------------------ one group
module _ (w : List ℕ) (next : ℕ) where
  groups_end : (f : Bool) → length w ≤ next → groups f (drop next w) ≡ broken
  unfolding groups
  groups_end f h = rw (drop_of_length-le w h)

  module _ (f : Bool) (b : ℕ) (e : b ≡ get_or w next 0) (h : next < length w) where
    groups_more : 128 ≤ b → groups f (drop next w) ≡ more b (groups false (drop (next + 1) w))
    unfolding groups
    groups_more l = rw (add-one, drop-cons w next 0, ← e, le-ltb b 128 l)

    groups_last : b < 128 → groups f (drop next w) ≡ lone f b
    unfolding groups
    groups_last l = rw (drop-cons w next 0, ← e, lt-ltb b 128 l)

-- a last group that may stand there: 0 only as the first
lone_fits : (f : Bool) (b : ℕ) → (f ≡ false → b ≡ 0 → ⊥) → lone f b ≡ got b 1
lone_fits true b k = refl
lone_fits false b k = rw (ne_eqb b 0 (k refl))

-- ------------------------------------------------------------------ the groups so far
-- what the groups so far stand for, the weight of the next one and the bytes they took, with what the bytes to come give
abbrev after : (value weight taken : ℕ) → Got → Got
after value weight taken (got x n) = got (value + x * weight) (taken + n)
after value weight taken broken = broken

after_more : (value weight taken b : ℕ) (g : Got)
    → after value weight taken (more b g) ≡ after (value + (b - 128) * weight) (weight * 128) (taken + 1) g
after_more value weight taken b (got x n) =
    let e : (b - 128 + 128 * x) * weight ≡ (b - 128) * weight + x * (weight * 128) = rw (add-mul, mul_comm 128 x, mul_assoc, mul_comm 128 weight) in
    let p : value + (b - 128 + 128 * x) * weight ≡ value + (b - 128) * weight + x * (weight * 128) = omega arith in
    let q : taken + (n + 1) ≡ taken + 1 + n = omega arith in
    cc
after_more value weight taken b broken = refl

-- the groups before `next`, when the number that starts at `at` goes on there. The weight is one of a number of 32 bits
pub record Reading (w : List ℕ) (at value weight next : ℕ) : Type 0 where
  pub moved : at ≤ next
  pub some : 0 < weight
  pub small : value < weight
  pub fits : weight < 2 ^ 32
  pub whole : groups true (drop at w) ≡ after value weight (next - at) (groups (eqb weight 1) (drop next w))

after_start : (g : Got) → g ≡ after 0 1 0 g
after_start (got x n) = let e : 0 + x * 1 ≡ x = omega arith in let q : 0 + n ≡ n = omega arith in cc
after_start broken = refl

pub reading_start : (w : List ℕ) (at : ℕ) → Reading w at 0 1 at
reading_start w at =
    record {
      moved = omega arith;
      some = omega arith;
      small = omega arith;
      fits = omega arith;
      whole = rw (sub_self at) (after_start (groups true (drop at w)));
    }

module _ (top : ℕ) (w : List ℕ) (at value weight next : ℕ) (r : Reading w at value weight next) where
  -- "cut off"
  pub reading_cut : length w ≤ next → broken ≡ read_up_to top w at
  reading_cut h = rw (r.whole, groups_end w next (eqb weight 1) h)

  module _ (b : ℕ) (e : b ≡ get_or w next 0) (h : next < length w) where
    -- "not shortest"
    pub reading_zero : b ≡ 0 → 1 < weight → broken ≡ read_up_to top w at
    reading_zero z l = rw (r.whole, groups_last w next (eqb weight 1) b e h (omega arith), ne_eqb weight 1 (λ q. omega arith), z)

    module _ (l : b < 128) (k : ((b ≡ 0) × (weight ≤ 1)) ⊎ (b ≡ 0 → ⊥)) where
      whole_last : read_up_to top w at ≡ not_above top (got (value + b * weight) (next - at + 1))
      whole_last =
          rw (
            r.whole,
            groups_last w next (eqb weight 1) b e h l,
            lone_fits (eqb weight 1) b (λ f. ⊎_elim (λ q z. eqb-false weight 1 f (omega (arith, q.1))) (λ q. q) k),
          )

      pub reading_last : value + b * weight ≤ top → got (value + b * weight) (next + 1 - at) ≡ read_up_to top w at
      reading_last q = let m : next + 1 - at ≡ next - at + 1 = omega arith in rw (whole_last, le-leb (value + b * weight) top q, m)

      -- above the top
      pub reading_above : top < value + b * weight → broken ≡ read_up_to top w at
      reading_above q = rw (whole_last, lt-leb (value + b * weight) top q)

    module _ (l : 128 ≤ b) where
      whole_more : groups true (drop at w) ≡ after (value + (b - 128) * weight) (weight * 128) (next + 1 - at) (groups false (drop (next + 1) w))
      whole_more =
          let m : next + 1 - at ≡ next - at + 1 = omega arith in
          rw (r.whole, groups_more w next (eqb weight 1) b e h l, after_more value weight (next - at) b (groups false (drop (next + 1) w)), m)

      -- a number that goes on is at least the weight of its next group
      pub reading_far : top < weight * 128 → broken ≡ read_up_to top w at
      reading_far q = sym (ap (not_above top) whole_more ∙ go (groups false (drop (next + 1) w)) refl)
        where
          go : (x : Got) → groups false (drop (next + 1) w) ≡ x
              → not_above top (after (value + (b - 128) * weight) (weight * 128) (next + 1 - at) x) ≡ broken
          go (got x n) p =
              let s = mul-le-mul_right {m = 1} {n = x} (weight * 128) (groups_got false _ x n p).2 in
              rw (lt-leb (value + (b - 128) * weight + x * (weight * 128)) top (omega arith))
          go broken p = refl

      pub reading_more : b < 256 → weight * 128 ≤ top → top < 2 ^ 32 → Reading w at (value + (b - 128) * weight) (weight * 128) (next + 1)
      reading_more p q f =
          record {
            moved = omega arith;
            some = omega arith;
            small = omega (arith, mul-le-mul_right {m = b - 128} {n = 127} weight (omega arith));
            fits = omega arith;
            whole = rw (ne_eqb (weight * 128) 1 (λ z. omega arith)) whole_more;
          }
