-- The nodes in a row of bits: those that a query row's label fits, all of them or those up to one.
use Rattle.std.specs.Prelude.{◌≡◌, ◌↔◌, List, true, false, ℕ, ◌≤◌, ◌<◌, length, get_or}
use Rattle.meaning.specs.Limits.{most_rows}
use Rattle.meaning.specs.TreeQuery.{Fits}
use Rattle.meaning.specs.Matching.{bit_at}
use Rattle.bits.specs.Bits.{OnlyRow}
use Rattle.rows.specs.Rows.{lab_of}

-- node x is in the document, and what stands in a query row fits its label
abbrev pub Suits : ℕ → List ℕ → ℕ → Type 0
Suits code labels x = (x < length labels) × Fits (lab_of code) (get_or labels x 0)

-- the nodes of row u below e are those that are so, and it has no others
pub record RowUpTo (w : List ℕ) (u : ℕ) (P : ℕ → Type 0) (e : ℕ) : Type 0 where
  pub low : (v : ℕ) → v < e → (bit_at w u v ≡ true) ↔ P v
  pub high : (v : ℕ) → e ≤ v → v < most_rows → bit_at w u v ≡ false

-- the nodes of row u are those that are so
pub record RowIs (before : List ℕ) (u : ℕ) (P : ℕ → Type 0) (after : List ℕ) : Type 0 where
  pub only : OnlyRow before u after
  pub bits : (v : ℕ) → v < most_rows → (bit_at after u v ≡ true) ↔ P v

-- a row in which no bit is set
abbrev pub RowClear : List ℕ → ℕ → Type 0
RowClear w u = (v : ℕ) → v < most_rows → bit_at w u v ≡ false
