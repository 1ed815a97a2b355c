-- The ways out of a writer: the word is refused, or its form fits into the room, or not.
use mathlib.Core.Path.{◌≡◌}
use mathlib.Core.Option.{Option}
use mathlib.Core.List.{List}
use Prim.Native.Nat.{ℕ}
use Rattle.meaning.specs.Expression.{Expr}
use Rattle.meaning.specs.TreeQuery.{Query}
use Rattle.meaning.specs.Gluing.{plain}
use Rattle.meaning.specs.Word.{Outcome, refused, answered, read_word}
use Rattle.meaning.specs.Promise.{written, Writes}
use Rattle.forms.specs.Form.{Fitted}

module _ (form : Option Query → List ℕ) {word room : List ℕ} where
  -- refusals 1 to 6
  pub writes_refused : {n p : ℕ} → read_word word ≡ refused n p → Writes form word room (refused n p) room
  unfolding written
  writes_refused r = record { returned = rw r; left = rw r }

  -- what fits into the room, or not, is what the writer owes
  pub writes_fitted : {e : Expr} {result : Outcome ℕ} {after : List ℕ} → read_word word ≡ answered e → Fitted (form (plain e)) room result after
      → Writes form word room result after
  unfolding written
  writes_fitted r F = record { returned = rw r F.returned; left = rw r F.left }
