-- Documents (paper, definition 3.1): "A document is a finite unordered tree with at least one node, each labelled with a whole number."
-- It is a table with one row for each node: row 0 is the root, and every other row's parent number is smaller than its own.
-- That each finite labelled tree has such a table, with the same labels and the same children, and each such table is such a tree, is
-- proved in theory (Document).
use Rattle.std.specs.Prelude.{◌≡◌, List, ℕ, ◌<◌, length, get_or}

-- a node: the number of its parent (not read at the root) and its label
pub record DocRow : Type 0 where
  pub parent : ℕ
  pub label : ℕ

-- the nodes are numbered by their rows
abbrev pub Doc : Type 0
Doc = List DocRow

abbrev pub doc_row : Doc → ℕ → DocRow
doc_row D n = get_or D n (record { parent = 0; label = 0 })

abbrev pub label_of : Doc → ℕ → ℕ
label_of D n = (doc_row D n).label

-- n is a node
abbrev pub In : Doc → ℕ → Type 0
In D n = n < length D

-- n is a child of m; `lower` leaves out the root, which is nobody's child
pub record Child (D : Doc) (m n : ℕ) : Type 0 where
  pub inside : n < length D
  pub lower : m < n
  pub above : (doc_row D n).parent ≡ m

-- the table is a document: there is a root, and each other node has a parent with a smaller number
abbrev pub Document : Doc → Type 0
Document D = (0 < length D) × ((n : ℕ) → 0 < n → n < length D → (doc_row D n).parent < n)
