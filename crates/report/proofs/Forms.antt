-- The text of a refused word is one line. Of an accepted word no form is refused into 2,048 bytes, and the text is their three lines.
use mathlib.Core.Path.{◌≡◌, refl, sym, ap, ◌∙◌}
use mathlib.Core.List.{List, ◌++◌}
use Prim.Native.Nat.{ℕ, ◌≤◌}
use native.Mathlib.Omega.{arith}
use lib.ListN.{length, take, drop}
use lib.Seq.{take_at}
use borrow.Author.Tests.{le-ltb}
use Rattle.std.specs.Prelude.{Result, Ok, Err, IsOk}
use Rattle.meaning.specs.Expression.{Expr}
use Rattle.meaning.specs.Gluing.{plain}
use Rattle.meaning.specs.Word.{refused, answered, read_word}
use Rattle.meaning.specs.Promise.{written, length_of, room_after, Writes}
use Rattle.meaning.specs.Program.{line, plain_name, minimal_name, normal_name, refusal_line, reported, program_text}
use Rattle.limits.specs.declared.refusal.Refused.{Refused}
use Rattle.limits.specs.Refusal.{outcome_of}
use Rattle.word.specs.Answer.{verdict}
use Rattle.forms.specs.declared.Form.{Form}
use Rattle.forms.specs.declared.Form.TheVariants.{Plain, Minimal, Normal}
use Rattle.forms.specs.Form.{form_of}
use Rattle.forms.proofs.Forms.{form_short}
use Rattle.pathplus.proofs.OfRows.{word_refused}
use Rattle.theory.proofs.Look.{never}
use Rattle.report.specs.Form.{of_read, form_bytes}

-- "A refusal is one line"
pub refused_text : (word : List ℕ) {n p : ℕ} → refused n p ≡ verdict (read_word word) → program_text word ≡ refusal_line n p
unfolding program_text
refused_text word v = ap reported (word_refused word v)

-- an accepted word
module _ (word : List ℕ) (e : Expr) (r : read_word word ≡ answered e) where
  form_bytes_lem : (form : Form) → form_bytes form word ≡ form_of form (plain e)
  unfolding form_bytes
  form_bytes_lem form = ap (of_read form) r

  -- "plain image, minimal image, normal form"
  pub three_lines_lem : program_text word
      ≡ line plain_name (form_bytes Plain word) ++ (line minimal_name (form_bytes Minimal word) ++ line normal_name (form_bytes Normal word))
  unfolding program_text
  three_lines_lem = ap reported r ∙ rw (form_bytes_lem Plain, form_bytes_lem Minimal, form_bytes_lem Normal)

  -- a room of 2,048 bytes is enough
  form_fits : (form : Form) (room : List ℕ) → 2048 ≤ length room → written (form_of form) word room ≡ answered (form_of form (plain e))
  unfolding written
  form_fits form room le = rw (r, le-ltb (length room) (length (form_of form (plain e))) (omega (arith, form_short form word e r)))

  module _ (form : Form) {room after : List ℕ} (le : 2048 ≤ length room) where
    pub form_not_refused : (r : Result ℕ Refused) → Writes (form_of form) word room (outcome_of r) after → IsOk r
    form_not_refused (Ok k) W = refl
    form_not_refused (Err refusal) W = never (cc (W.returned, ap length_of (form_fits form room le)))

    -- the first k bytes of the room are the form
    pub form_answered : {k : ℕ} → Writes (form_of form) word room (answered k) after → (k ≤ 2048) × (take k after ≡ form_bytes form word)
    form_answered {k} W =
        let bytes = form_of form (plain e) in
        let f = form_fits form room le in
        let z : k ≡ length bytes = cc (W.returned, ap length_of f) in (
          omega (arith, form_short form word e r),
          ap (take k) (W.left ∙ ap (room_after room) f) ∙ take_at bytes (drop (length bytes) room) k (sym z) ∙ sym (form_bytes_lem form),
        )
