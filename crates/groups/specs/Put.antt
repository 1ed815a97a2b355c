-- What is left in a room by writing: the bytes from a place on, and all others as they were.
use Rattle.std.specs.Prelude.{◌≡◌, List, ℕ, ◌+◌, length}
use Rattle.std.proofs.lemmas.List.Edits.{sets}

-- the room d with the bytes bs written from place `at` on
unfoldable pub put : List ℕ → ℕ → List ℕ → List ℕ
put d at bs = sets d at bs

-- bs were written into the room d from place `at` on: e is the room afterwards, r the place behind them
pub record Written (d : List ℕ) (at : ℕ) (bs e : List ℕ) (r : ℕ) : Type 0 where
  pub place : r ≡ at + length bs
  pub bytes : e ≡ put d at bs
