-- What the numbers of one row stand for, one law for each way out of the code.
use mathlib.Core.Path.{◌≡◌, refl, ap, ◌∙◌}
use mathlib.Core.Logic.{◌≢◌}
use mathlib.Core.Option.{some}
use Prim.Native.Nat.{ℕ}
use Rattle.meaning.specs.Gluing.{or_else}
use Rattle.rows.specs.Rows.{no_row}
use Rattle.rows.specs.Table.{parent_of}
use Rattle.rows.proofs.Table.{parent_none, parent_some}
use Rattle.glue.specs.Rows.{Relinked}

-- ------------------------------------------------------------------ parents
pub relinked_none : (f : ℕ → ℕ) (p : ℕ) → p ≡ no_row → Relinked f p no_row
relinked_none f p e = rw (parent_none p e) (parent_none no_row refl)

pub relinked_some : (f : ℕ → ℕ) (p j : ℕ) → p ≢ no_row → j ≢ no_row → j ≡ f p → Relinked f p j
relinked_some f p j ne nj e = rw (parent_some p ne) (parent_some j nj ∙ ap some e)

pub or_else_none : (u v : ℕ) → u ≡ no_row → parent_of v ≡ or_else (parent_of u) (parent_of v)
or_else_none u v e = rw (parent_none u e)

pub or_else_some : (u v : ℕ) → u ≢ no_row → parent_of u ≡ or_else (parent_of u) (parent_of v)
or_else_some u v ne = rw (parent_some u ne)
