-- Laws of a writer: two writings one after the other are one, the room's length stays, and what a writer still owes is written part by part.
use mathlib.Core.Path.{◌≡◌, refl, sym, ap, ◌∙◌}
use mathlib.Core.List.{List, [], ◌∷◌, ◌++◌}
use Prim.Native.Nat.{ℕ, ◌+◌, ◌<◌}
use native.Mathlib.Omega.{arith}
use lib.ListN.{length, length-append}
use Rattle.groups.specs.declared.Writer.{Writer}
use Rattle.groups.specs.Filled.{filled, Fits}
use Rattle.groups.proofs.Put.{put_nil, put_append, length_put}

-- ys written behind xs
pub filled_then : (w : Writer) (xs ys : List ℕ) → filled (filled w xs) ys ≡ filled w (xs ++ ys)
filled_then w xs ys =
    let p = put_append w.room.now w.length xs ys in
    let l : w.length + length xs + length ys ≡ w.length + length (xs ++ ys) = omega (arith, length-append xs ys) in
    rw (p, l) refl

-- nothing written
pub filled_nil : (w : Writer) → filled w [] ≡ w
filled_nil w = let l : w.length + 0 ≡ w.length = omega arith in rw (put_nil w.room.now w.length, l) refl

-- the room's length stays
pub filled_room : (w : Writer) (bs : List ℕ) {w' : Writer} → w' ≡ filled w bs → length w'.room.now ≡ length w.room.now
filled_room w bs e = ap (λ x. length x.room.now) e ∙ length_put w.room.now w.length bs

-- ------------------------------------------------------------------ part by part
-- the writer w owes the bytes bs: it has room for them, and with them it is the writer `whole`
pub record Owes (whole w : Writer) (bs : List ℕ) : Type 0 where
  pub fits : Fits w bs
  pub rest : filled w bs ≡ whole

pub owes : (w : Writer) (bs : List ℕ) → Fits w bs → Owes (filled w bs) w bs
owes w bs f = record { fits = f; rest = refl }

pub owes_is : {whole w : Writer} {bs bs' : List ℕ} → bs ≡ bs' → Owes whole w bs → Owes whole w bs'
owes_is e o = rw e at o

module _ {whole w : Writer} (xs ys : List ℕ) (o : Owes whole w (xs ++ ys)) where
  pub part_fits : Fits w xs
  part_fits = omega (arith, o.fits, length-append xs ys)

  pub part_written : {w' : Writer} → w' ≡ filled w xs → Owes whole w' ys
  part_written e = record {
    fits = omega (arith, o.fits, length-append xs ys, ap (λ x. x.length) e, filled_room w xs e);
    rest = ap (λ x. filled x ys) e ∙ filled_then w xs ys ∙ o.rest;
  }

-- a part of one byte
pub byte_fits : {whole w : Writer} {x : ℕ} {ys : List ℕ} → Owes whole w (x ∷ ys) → w.length < length w.room.now
byte_fits o = omega (arith, o.fits)

-- the last part
pub all_written : {whole w w' : Writer} {bs : List ℕ} → Owes whole w bs → w' ≡ filled w bs → w' ≡ whole
all_written o e = e ∙ o.rest

pub none_left : {whole w : Writer} → Owes whole w [] → w ≡ whole
none_left {w = w} o = sym (filled_nil w) ∙ o.rest
