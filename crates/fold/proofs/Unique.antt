-- "That no second answer fits is itself a proved statement": the rows that are left.
use mathlib.Core.Path.{◌≡◌}
use mathlib.Core.List.{List}
use Prim.Native.Nat.{ℕ}
use Rattle.theory.proofs.Once.{value_same}
use Rattle.rows.proofs.Unique.{SameBelow, rows_unique}
use Rattle.fold.specs.Kept.{RowsKept}

pub kept_unique : (code mark span : List ℕ) (n : ℕ) (a b c a' b' c' : List ℕ) (r r' : ℕ) → RowsKept code mark span n a b c r
    → RowsKept code mark span n a' b' c' r' → (r ≡ r') × SameBelow r a a' × SameBelow r b b' × SameBelow r c c'
kept_unique code mark span n a b c a' b' c' r r' k k' =
    let u = rows_unique a b k.kids k.spans c a' b' k'.kids k'.spans c' r r' k.rows k'.rows (value_same k.tree k'.tree) in
    (u.0, u.1, u.2, u.5)
