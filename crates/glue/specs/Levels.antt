-- One level of gluing, and a table with three of its nodes.
use Rattle.std.specs.Prelude as code
use Rattle.std.specs.Prelude.{◌≡◌, List, ℕ, ◌-◌, Some, None}
use Rattle.std.proofs.Math.Option.{Option, none, some}
use Rattle.meaning.specs.TreeQuery.{Table}
use Rattle.meaning.specs.Gluing.{moved, Glued, after, glue}
use Rattle.theory.proofs.Apart.{Safe}
use Rattle.rows.specs.Table.{table}
use Rattle.glue.specs.declared.levels.Joined.{Joined}
use Rattle.glue.specs.Rows.{given}

-- ------------------------------------------------------------------ one level
-- none fails; else the rows of the two parents that are next, if there are two
abbrev pub Level : Type 0
Level = code.Option (code.Option (ℕ × ℕ))

-- the parents of two rows that became one, unless one has none; f tells where each row went
abbrev pub next_of : (ℕ → ℕ) → Option ℕ → Option ℕ → code.Option (ℕ × ℕ)
next_of f (some p) (some q) = Some (f p, f q)
next_of f (some p) none = None
next_of f none v = None

-- what comes of a level that left the table T
abbrev pub follows : (Table → ℕ → ℕ → Option Glued) → (ℕ → ℕ) → Level → Table → Option Glued
follows rec f None T = none
follows rec f (Some None) T = some (record { rows = T; to = f })
follows rec f (Some (Some (p, q))) T = after f (rec T p q)

-- the gluing of rows x and y of T leads to r, and to the table T'
pub record Leads (from n x y : ℕ) (T : Table) (r : Level) (T' : Table) : Type 0 where
  pub whole : glue n T x y ≡ follows (glue (n - 1)) (moved x y) r T'
  pub next : (p q : ℕ) → r ≡ Some (Some (p, q)) → Safe from T' p q

-- ------------------------------------------------------------------ a glued table with three of its nodes
pub record Marked : Type 0 where
  pub rows : Table
  pub s : ℕ
  pub d : ℕ
  pub d2 : ℕ

abbrev pub marked : Option Glued → ℕ → ℕ → ℕ → Option Marked
marked none s d d2 = none
marked (some g) s d d2 = some (record { rows = g.rows; s = g.to s; d = g.to d; d2 = g.to d2 })

abbrev pub marked_at : Joined → List ℕ → List ℕ → Marked
marked_at t P L = record { rows = table t.rows P L; s = t.s; d = t.d; d2 = t.d2 }

abbrev pub joined_of : code.Option Joined → List ℕ → List ℕ → Option Marked
joined_of t P L = given (λ j. marked_at j P L) t

-- one row less, and where the three nodes went
abbrev pub onward : (ℕ → ℕ) → Joined → Joined
onward f t = record { rows = t.rows - 1; s = f t.s; d = f t.d; d2 = f t.d2 }
