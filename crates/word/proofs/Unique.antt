-- "That no second answer fits is itself a proved statement": of the reader and of the check.
use mathlib.Core.Path.{◌≡◌, refl, sym, ap, ◌∙◌}
use mathlib.Core.List.{List}
use Prim.Native.Nat.{ℕ, ◌-◌}
use native.Mathlib.Omega.{arith}
use Rattle.std.specs.Prelude.{Option, Some, None, Result}
use Rattle.meaning.specs.Number.{got, largest_sign, read_up_to, read_number}
use Rattle.meaning.specs.Word.{read_word}
use Rattle.theory.proofs.Look.{never}
use Rattle.limits.specs.declared.refusal.Refused.{Refused}
use Rattle.limits.specs.Refusal.{outcome_of}
use Rattle.limits.proofs.Unique.{outcome_same}
use Rattle.word.specs.Answer.{got_of, verdict}
use Rattle.word.specs.Cursor.{place_past}
use Rattle.word.specs.declared.number.Read.{Read}
use Rattle.word.proofs.Numbers.{read_moves}

pub read_unique : (top : ℕ) (w : List ℕ) (at : ℕ) (r r' : Option Read) → got_of at r ≡ read_up_to top w at → got_of at r' ≡ read_up_to top w at → r ≡ r'
read_unique top w at (Some r) (Some r') p q =
    let y : got r.value (r.next - at) ≡ got r'.value (r'.next - at) = p ∙ sym q in
    let e : r.value ≡ r'.value = cc in
    let d : r.next - at ≡ r'.next - at = cc in
    let f : r.next ≡ r'.next = omega (arith, read_moves top w at r.value r.next p, read_moves top w at r'.value r'.next q) in
    λ i. Some (record { value = e i; next = f i })
read_unique top w at (Some r) None p q = never cc
read_unique top w at None (Some r) p q = never cc
read_unique top w at None None p q = refl

-- and a cursor is left at one place
pub moved_unique : (w : List ℕ) (at : ℕ) (r r' : Option Read) (m m' : ℕ) → (got_of at r ≡ read_number w at) × (m ≡ place_past at r)
    → (got_of at r' ≡ read_number w at) × (m' ≡ place_past at r') → (r ≡ r') × (m ≡ m')
unfolding read_number
moved_unique w at r r' m m' (p, e) (q, d) =
    let same = read_unique largest_sign w at r r' p q in (same, e ∙ ap (place_past at) same ∙ sym d)

pub checked_unique : (w : List ℕ) (r r' : Result (Unit {0}) Refused) → outcome_of r ≡ verdict (read_word w) → outcome_of r' ≡ verdict (read_word w) → r ≡ r'
checked_unique w r r' p q = outcome_same r r' (p ∙ sym q)
