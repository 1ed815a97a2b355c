-- Numbers that were read: each takes a byte or more, and the reader's answer names the place behind them.
use mathlib.Core.Path.{◌≡◌, sym}
use mathlib.Core.List.{List}
use Prim.Native.Nat.{ℕ, ◌+◌, ◌-◌, ◌<◌}
use native.Mathlib.Omega.{arith}
use Rattle.std.specs.Prelude.{Some}
use Rattle.meaning.specs.Number.{got, largest_sign, read_up_to, read_number}
use Rattle.theory.proofs.Reread.{read_back}
use Rattle.word.specs.Answer.{got_of}
use Rattle.word.specs.declared.number.Read.{Read}

-- a number that was read moves the place, whatever the largest number is
pub read_moves : (top : ℕ) (w : List ℕ) (at v next : ℕ) → got v (next - at) ≡ read_up_to top w at → at < next
read_moves top w at v next e = let l = (read_back top w at v (next - at) (sym e)).1 in omega arith

-- a number stands at `at`, and `next` is the place behind its bytes
pub record NumberAt (w : List ℕ) (at v next : ℕ) : Type 0 where
  pub bytes : ℕ
  pub read : read_number w at ≡ got v bytes
  pub behind : next ≡ at + bytes
  pub moved : at < next

-- what the reader's answer tells its caller
pub number_at : (w : List ℕ) (at : ℕ) {read : Read} → got_of at (Some read) ≡ read_number w at → NumberAt w at read.value read.next
unfolding read_number
number_at w at {read} e =
    let l = read_moves largest_sign w at read.value read.next e in
    record { bytes = read.next - at; read = sym e; behind = omega arith; moved = l }
