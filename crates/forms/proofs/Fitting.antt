-- The two ways out of a writer whose bytes are known: the room is too short, or the bytes are written into its front.
use mathlib.Core.Path.{◌≡◌, sym, ap, ◌∙◌}
use mathlib.Core.Bool.{Bool, false, cond}
use mathlib.Core.List.{List}
use Prim.Native.Nat.{ℕ, ◌≤◌}
use native.Mathlib.Omega.{arith}
use lib.ListN.{length}
use lib.Dec.{ltb}
use borrow.Author.Tests.{le-ltb}
use Rattle.meaning.specs.Limits.{room_too_short}
use Rattle.meaning.specs.Word.{refused, answered}
use Rattle.meaning.specs.Promise.{fitting, length_of, room_after}
use Rattle.groups.specs.Put.{Written}
use Rattle.groups.proofs.Put.{put_front}
use Rattle.forms.specs.Form.{Fitted}

fitting_is : (bytes room : List ℕ) (b : Bool) → ltb (length room) (length bytes) ≡ b
    → fitting room bytes ≡ cond b (refused room_too_short (length bytes)) (answered bytes)
fitting_is bytes room b e = ap (λ x. cond x (refused room_too_short (length bytes)) (answered bytes)) e

module _ {bytes room : List ℕ} where
  -- the answer
  pub fitted_done : {k : ℕ} {after : List ℕ} → length bytes ≤ length room → Written room 0 bytes after k → Fitted bytes room (answered k) after
  fitted_done {k} l w =
      let s = fitting_is bytes room false (le-ltb (length room) (length bytes) l) in
      let e : k ≡ length bytes = omega (arith, w.place) in
      record { returned = ap answered e ∙ sym (ap length_of s); left = w.bytes ∙ put_front room bytes l ∙ sym (ap (room_after room) s) }
