-- "These idle versions have to be refused by the promise" (01, How tight each promise is): what they return and leave in the room breaks `Writes`.
use mathlib.Core.Path.{◌≡◌, refl, sym, ap, ◌∙◌}
use mathlib.Core.Bool.{Bool, true, false, cond}
use mathlib.Core.Option.{Option}
use mathlib.Core.List.{List, [], ◌∷◌, ◌++◌}
use Prim.Native.Nat.{ℕ, ◌≤◌}
use native.Mathlib.Decide.{ℕ_discrete, dec_lt, dec_le}
use native.Mathlib.Omega.{arith}
use lib.ListN.{length, drop}
use lib.Dec.{ltb}
use borrow.Author.Tests.{le-ltb}
use Rattle.meaning.specs.Expression.{Expr, self}
use Rattle.meaning.specs.TreeQuery.{Query}
use Rattle.meaning.specs.Gluing.{plain}
use Rattle.meaning.specs.Folding.{dec_lab, dec_mark, dec_tag, dec_any, dec_folds, dec_onto, sift, add, minimal}
use Rattle.meaning.specs.Number.{groups, read_number}
use Rattle.meaning.specs.Image.{dec_l, plain_image, minimal_image}
use Rattle.meaning.specs.Normal.{normal_form}
use Rattle.meaning.specs.Word.{Outcome, refused, answered, sign_of, is_step, takes, at_end, run, read_word}
use Rattle.meaning.specs.Promise.{written, length_of, room_after, Writes}
use Rattle.theory.proofs.Look.{never}

-- "one that returns a length other than its answer's": a length that is returned is that of the bytes owed, and those stand at the front of the room
pub own_length : (form : Option Query → List ℕ) (word room : List ℕ) (n : ℕ) (after : List ℕ) → Writes form word room (answered n) after
    → (bytes : List ℕ) × (written form word room ≡ answered bytes) × (n ≡ length bytes) × (after ≡ bytes ++ drop n room)
own_length form word room n after w = go (written form word room) refl w.returned w.left
  where
    go : (o : Outcome (List ℕ)) → written form word room ≡ o → answered n ≡ length_of o → after ≡ room_after room o
        → (bytes : List ℕ) × (written form word room ≡ answered bytes) × (n ≡ length bytes) × (after ≡ bytes ++ drop n room)
    go (refused k p) e r l = never cc
    go (answered bytes) e r l = let z : n ≡ length bytes = cc in (bytes, e, z, l ∙ ap (λ k. bytes ++ drop k room) (sym z))

-- "one that refuses all words": an accepted word is answered, if the room is long enough
owed : (form : Option Query → List ℕ) (word room : List ℕ) (e : Expr) → read_word word ≡ answered e → length (form (plain e)) ≤ length room
    → written form word room ≡ answered (form (plain e))
unfolding written
owed form word room e r le = rw (r, le-ltb (length room) (length (form (plain e))) le)

pub refuses_words : (form : Option Query → List ℕ) (word room : List ℕ) (e : Expr) → read_word word ≡ answered e
    → length (form (plain e)) ≤ length room
    → (number place : ℕ) (after : List ℕ) → ¬ Writes form word room (refused number place) after
refuses_words form word room e r le number place after w = let z = w.returned ∙ ap length_of (owed form word room e r le) in never cc

-- "one fixed answer, such as empty": the byte 00, for P1
begins : (form : Option Query → List ℕ) {bytes room : List ℕ} {r : Outcome ℕ} → form (plain self) ≡ 0x01 ∷ bytes
    → read_word (0x01 ∷ []) ≡ answered self
    → length (form (plain self)) ≤ length room → ¬ Writes form (0x01 ∷ []) room r (0x00 ∷ drop 1 room)
begins form {room = room} e p le w = let l = rw e at (w.left ∙ ap (room_after room) (owed form (0x01 ∷ []) room self p le)) in never cc

pub always_empty : (room : List ℕ) (r : Outcome ℕ) → 4 ≤ length room → (¬ Writes plain_image (0x01 ∷ []) room r (0x00 ∷ drop 1 room))
    × (¬ Writes minimal_image (0x01 ∷ []) room r (0x00 ∷ drop 1 room)) × (¬ Writes normal_form (0x01 ∷ []) room r (0x00 ∷ drop 1 room))
unfolding ℕ_discrete dec_lt dec_le groups read_number sign_of is_step takes at_end run read_word dec_lab dec_mark dec_tag dec_any dec_folds dec_onto sift add minimal dec_l
always_empty room r le = (begins plain_image refl refl le, begins minimal_image refl refl le, begins normal_form refl refl (omega arith))

-- "one that hands the word back as normal form (.. P8)": its length is that of the word
pub hands_back : (room after : List ℕ) → ¬ Writes normal_form (0x02 ∷ 0x0A ∷ 0x04 ∷ 0x05 ∷ 0x02 ∷ 0x05 ∷ 0x04 ∷ []) room (answered 7) after
unfolding ℕ_discrete dec_lt dec_le groups read_number sign_of is_step takes at_end run read_word dec_lab dec_mark dec_tag dec_any dec_folds dec_onto sift add minimal dec_l written
hands_back room after w = go (ltb (length room) 4) w.returned
  where
    go : (t : Bool) → answered 7 ≡ length_of (cond t (refused 7 4) (answered (0x02 ∷ 0x0A ∷ 0x04 ∷ 0x05 ∷ []))) → ⊥
    go true e = never cc
    go false e = let z : ◌≡◌ {A = ℕ} 7 4 = cc in omega arith
