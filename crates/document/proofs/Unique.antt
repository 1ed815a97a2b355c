-- "That no second answer fits is itself a proved statement": a row of which each node is told, and the bytes around it.
use mathlib.Core.Path.{◌≡◌}
use mathlib.Core.List.{List}
use Prim.Native.Nat.{ℕ}
use Rattle.theory.proofs.Once.{bool_same, Bytes}
use Rattle.bits.proofs.Unique.{row_unique}
use Rattle.document.specs.Nodes.{RowIs}

pub row_is_unique : (w : List ℕ) (u : ℕ) (P : ℕ → Type 0) (a a' : List ℕ) → Bytes a → Bytes a' → RowIs w u P a → RowIs w u P a' → a ≡ a'
row_is_unique w u P a a' b b' r r' = row_unique w u a a' b b' r.only r'.only (λ v l. bool_same (P v) _ _ (r.bits v l) (r'.bits v l))
