-- Laws of writing into a room: its length stays, two writings one after the other are one, what is written from place 0 on stands in front, and no
-- second room or place fits.
use mathlib.Core.Path.{◌≡◌, refl, sym, ap, ◌∙◌}
use mathlib.Core.List.{List, [], ◌∷◌, ◌++◌}
use Prim.Native.Nat.{ℕ, suc, ◌+◌, ◌≤◌}
use native.Mathlib.Omega.{arith}
use lib.ListN.{length, set, drop}
use lib.Seq.{length-sets, sets-eq}
use Rattle.groups.specs.Put.{put, Written}

pub length_put : (d : List ℕ) (at : ℕ) (bs : List ℕ) → length (put d at bs) ≡ length d
unfolding put
length_put d at bs = length-sets d at bs

pub put_nil : (d : List ℕ) (at : ℕ) → put d at [] ≡ d
unfolding put
put_nil d at = refl

pub put_append : (d : List ℕ) (at : ℕ) (xs ys : List ℕ) → put d at (xs ++ ys) ≡ put (put d at xs) (at + length xs) ys
unfolding put
put_append d at [] ys = let z : at + 0 ≡ at = omega arith in rw z
put_append d at (x ∷ xs) ys =
    let z : at + suc (length xs) ≡ suc at + length xs = omega arith in rw z (put_append (set d at x) (suc at) xs ys)

-- "the first n bytes of the room are the answer and the later ones keep their values"
pub put_front : (d bs : List ℕ) → length bs ≤ length d → put d 0 bs ≡ bs ++ drop (length bs) d
unfolding put
put_front d bs le = let z : 0 + length bs ≡ length bs = omega arith in rw z at (sets-eq bs d 0 (omega arith))

-- ------------------------------------------------------------------ a writing and the place behind it
pub written_length : {d bs e : List ℕ} {at r : ℕ} → Written d at bs e r → length e ≡ length d
written_length {d} {bs} {e} {at} w = ap length w.bytes ∙ length_put d at bs

-- "no second answer fits"
pub written_unique : {d bs e e' : List ℕ} {at r r' : ℕ} → Written d at bs e r → Written d at bs e' r' → (r ≡ r') × (e ≡ e')
written_unique w w' = (w.place ∙ sym w'.place, w.bytes ∙ sym w'.bytes)
