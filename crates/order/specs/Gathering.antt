-- Lists of children from a table of parents: `first` has for each parent its first child, `next` for each child its next brother.
use Rattle.std.specs.Prelude.{◌≡◌, List, [], ◌∷◌, ℕ, ◌-◌, ◌≤◌, ◌<◌, length, get_or}
use Rattle.meaning.specs.Limits.{most_nodes}
use Rattle.rows.specs.Rows.{no_row}
use Rattle.rows.specs.Table.{children_of}
use Rattle.order.specs.Links.{slot_of, Known}

-- slots before i lead nowhere and count nothing
abbrev pub Cleared : ℕ → List ℕ → List ℕ → Type 0
Cleared i fs ns = (p : ℕ) → p < i → (get_or fs p 0 ≡ no_row) × (get_or ns p 0 ≡ 0)

-- each of n rows hangs from one of them, or from none
pub record Hangs (parent : List ℕ) (n : ℕ) : Type 0 where
  pub few : n ≤ most_nodes
  pub parents : n ≤ length parent
  pub known : (i : ℕ) → i < n → Known n (get_or parent i 0)

-- from c on the links lead through exactly these rows, none before row b
abbrev pub Run : ℕ → List ℕ → ℕ → ℕ → List ℕ → Type 0
Run n ns b c [] = n ≤ c
Run n ns b c (j ∷ js) = (c ≡ j) × (b ≤ j) × (j < n) × Run n ns b (get_or ns j 0) js

-- each parent has the list of its children from row b on
abbrev pub Gathered : List ℕ → ℕ → ℕ → List ℕ → List ℕ → Type 0
Gathered parent n b fs ns = (p : ℕ) → Known n p → Run n ns b (get_or fs (slot_of n p) 0) (children_of p parent (n - b) b)
