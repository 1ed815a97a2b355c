-- Laws of the listing for one pass over the rows: how long the head of a record is, and what is left at the start, at a row and at the end.
use mathlib.Core.Path.{◌≡◌}
use mathlib.Core.List.{List, [], ◌++◌}
use Prim.Native.Nat.{ℕ, suc, ◌+◌, ◌-◌, ◌<◌, ◌≤◌}
use native.Mathlib.Omega.{arith}
use lib.ListN.{length, get_or, length-append}
use Rattle.meaning.specs.Number.{num}
use Rattle.theory.proofs.Numbers.{num_short}
use Rattle.image.specs.Listing.{head, rows_from, listing}

-- ------------------------------------------------------------------ the head of a record
-- a number below 2^32 takes at most five bytes
pub num_five : (n : ℕ) → n < 4294967296 → length (num n) ≤ 5
num_five n l = num_short 4 n (omega arith)

pub length_head : (l m k : ℕ) → length (head l m k) ≡ length (num l) + length (num m) + length (num k)
unfolding head
length_head l m k = omega (arith, length-append (num l) (num m ++ num k), length-append (num m) (num k))

-- ------------------------------------------------------------------ the rows
module _ (code mark kids : List ℕ) (n : ℕ) where
  -- what is left from row u on
  abbrev pub left : ℕ → List ℕ
  left u = rows_from code mark kids (n - u) u

  pub left_next : (u : ℕ) → u < n → left u ≡ head (get_or code u 0) (get_or mark u 0) (get_or kids u 0) ++ left (u + 1)
  unfolding rows_from
  left_next u l = let z : n - u ≡ suc (n - suc u) = omega arith in let y : u + 1 ≡ suc u = omega arith in rw (z, y)

  pub left_none : (u : ℕ) → n ≤ u → left u ≡ []
  unfolding rows_from
  left_none u l = let z : n - u ≡ 0 = omega arith in rw z

  -- "First the number of nodes"
  pub listing_left : listing code mark kids n ≡ num n ++ left 0
  unfolding listing
  listing_left = let z : n - 0 ≡ n = omega arith in rw z
