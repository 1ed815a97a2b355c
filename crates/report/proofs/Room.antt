-- The text lies in the front of its buffer.
use mathlib.Core.Path.{◌≡◌, sym}
use mathlib.Core.List.{List}
use Prim.Native.Nat.{ℕ, ◌≤◌}
use native.Mathlib.Omega.{arith}
use lib.ListN.{length, take}
use lib.Seq.{length-take-le}
use Rattle.meaning.specs.Program.{program_text}
use Rattle.theory.proofs.Index.{program_text_short}
use Rattle.groups.specs.Put.{Written}
use Rattle.groups.proofs.Put.{written_length}

pub text_in_front : (word : List ℕ) {before after : List ℕ} {n : ℕ} → Written before 0 (program_text word) after n → 10272 ≤ length before
    → (n ≤ length after) × (n ≡ length (take n after))
text_in_front word {after = after} {n = n} w le =
    let fits : n ≤ length after = omega (arith, w.place, written_length w, program_text_short word) in
    (fits, sym (length-take-le n after fits))
