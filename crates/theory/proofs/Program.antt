-- The text of the program is short: two digits a byte of two images and a normal form, or the few digits of a refusal.
use mathlib.Core.Path.{◌≡◌, refl}
use mathlib.Core.Bool.{Bool, true, false, cond}
use mathlib.Core.List.{List, [], ◌∷◌, ◌++◌}
use Prim.Native.Nat.{ℕ, zero, suc, ◌+◌, ◌*◌, ◌/◌, ◌%◌, ◌≤◌}
use native.Mathlib.Omega.{arith}
use lib.ListN.{length, length-append}
use lib.Dec.{ltb}
use Rattle.meaning.specs.Expression.{Expr}
use Rattle.meaning.specs.Gluing.{plain}
use Rattle.meaning.specs.Image.{plain_image, minimal_image}
use Rattle.meaning.specs.Normal.{normal_form}
use Rattle.meaning.specs.Word.{Outcome, refused, answered, read_word}
use Rattle.meaning.specs.Program.{hex, decimal_f, decimal, line, plain_name, minimal_name, normal_name, refusal_line, reported, program_text}
use Rattle.theory.proofs.Refused.{Small, small_word}
use Rattle.theory.proofs.Again.{images_short, form_accepted}

-- ------------------------------------------------------------------ lines
pub length_hex : (bytes : List ℕ) → length (hex bytes) ≡ 2 * length bytes
unfolding hex
length_hex [] = refl
length_hex (b ∷ bs) = omega (arith, length_hex bs)

pub length_line : (name bytes : List ℕ) → length (line name bytes) ≡ length name + 2 * length bytes + 2
unfolding line
length_line name bytes = omega (arith, length-append name (32 ∷ (hex bytes ++ (10 ∷ []))), length-append (hex bytes) (10 ∷ []), length_hex bytes)

-- no more digits than are asked for
decimal_short : (f n : ℕ) → length (decimal_f f n) ≤ f
unfolding decimal_f
decimal_short zero n = omega arith
decimal_short (suc f) n = go (ltb n 10) (decimal_short f (n / 10))
  where
    go : (b : Bool) → length (decimal_f f (n / 10)) ≤ f → length (cond b ((48 + n) ∷ []) (decimal_f f (n / 10) ++ ((48 + n % 10) ∷ []))) ≤ suc f
    go true ih = omega arith
    go false ih = omega (arith, length-append (decimal_f f (n / 10)) ((48 + n % 10) ∷ []))

pub length_refusal : (n p : ℕ) → length (refusal_line n p) ≡ length (decimal n) + length (decimal p) + 10
unfolding refusal_line
length_refusal n p = omega (arith, length-append (decimal n) (32 ∷ (decimal p ++ (10 ∷ []))), length-append (decimal p) (10 ∷ []))

-- ------------------------------------------------------------------ the whole text
pub program_text_short : (word : List ℕ) → length (program_text word) ≤ 10272
unfolding program_text
program_text_short word = go (read_word word) refl (small_word word)
  where
    go : (o : Outcome Expr) → read_word word ≡ o → Small 6 4096 o → length (reported o) ≤ 10272
    go (refused n p) r (ln, lp) = omega (arith, length_refusal n p, decimal_short (suc n) n, decimal_short (suc p) p)
    go (answered e) r s =
        let (lp, lm) = images_short word e r in
        let Q = plain e in
        omega (
          arith,
          length-append (line plain_name (plain_image Q)) (line minimal_name (minimal_image Q) ++ line normal_name (normal_form Q)),
          length-append (line minimal_name (minimal_image Q)) (line normal_name (normal_form Q)),
          length_line plain_name (plain_image Q),
          length_line minimal_name (minimal_image Q),
          length_line normal_name (normal_form Q),
          (form_accepted word e r).0,
        )
