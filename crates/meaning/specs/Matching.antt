-- Document tables, and the bits of the match table (01, Documents).
use Rattle.std.specs.Prelude.{◌≡◌, Bool, true, false, ◌&&◌, ◌↔◌, List, [], ◌∷◌, ℕ, zero, suc, ◌+◌, ◌*◌, ◌/◌, ◌%◌, ◌^◌, ◌≤◌, ◌<◌, length, get_or, leb, eqb}
use Rattle.std.proofs.Math.Option.{some}
use Rattle.meaning.specs.Basics.{look}
use Rattle.meaning.specs.Document.{Doc, In, label_of}
use Rattle.meaning.specs.TreeQuery.{Fits}
use Rattle.meaning.specs.Number.{largest_label}
use Rattle.meaning.specs.Limits.{most_nodes, most_rows}
use Rattle.meaning.specs.Tree.{Forest, Tag, Lays, preorder}

-- ------------------------------------------------------------------ tables
-- "Node 0 has parent 0; every other parent number is smaller than the node's own."
abbrev pub parent_ok : ℕ → ℕ → Bool
parent_ok zero p = eqb p 0
parent_ok (suc n) p = leb p n

-- the rows from node n on
unfoldable pub rows_ok : ℕ → List ℕ → List ℕ → Bool
rows_ok n [] [] = true
rows_ok n [] (l ∷ ls) = false
rows_ok n (p ∷ ps) [] = false
rows_ok n (p ∷ ps) (l ∷ ls) = (parent_ok n p && leb l largest_label) && rows_ok (suc n) ps ls

-- "A table is two lists of equal length, 1 to 1,024: parent numbers and labels."
unfoldable pub good_table : List ℕ → List ℕ → Bool
good_table parents labels = (leb 1 (length parents) && leb (length parents) most_rows) && rows_ok 0 parents labels

-- the document of a table
unfoldable pub doc_of : List ℕ → List ℕ → Doc
doc_of [] ls = []
doc_of (p ∷ ps) [] = []
doc_of (p ∷ ps) (l ∷ ls) = record { parent = p; label = l } ∷ doc_of ps ls

-- ------------------------------------------------------------------ the match table
-- "bit v mod 8 of byte 128u + v div 8 (lowest bit is 0)"
unfoldable pub bit_at : List ℕ → ℕ → ℕ → Bool
bit_at w u v = eqb (get_or w (128 * u + v / 8) 0 / 2 ^ (v % 8) % 2) 1

-- the label fits, "marks ignored"
abbrev pub OnLabel : Doc → Tag → ℕ → Type 0
OnLabel D a w = Fits a.lab (label_of D w)

-- a node, with k below it, can be laid on v
abbrev pub LaysAt : Doc → Tag → Forest Tag → ℕ → Type 0
LaysAt D a k v = In D v × OnLabel D a v × Lays D (OnLabel D) k (some v)

-- "query node u with all below it can be laid with u on document node v"
abbrev pub CanLie : Forest Tag → ℕ → Doc → ℕ → Type 0
CanLie F u D v = (x : Tag × Forest Tag) × (look (preorder F) u ≡ some x) × LaysAt D x.0 x.1 v

-- the bytes of the match table: 256 rows of 128 bytes
abbrev pub table_bytes : ℕ
table_bytes = 32768

-- the workspace afterwards: each bit "is set exactly if ..", all others of the first 32,768 bytes are clear, "later bytes keep their values"
pub record MatchTable (F : Forest Tag) (D : Doc) (before after : List ℕ) : Type 0 where
  pub same : length after ≡ length before
  pub bits : (u v : ℕ) → u < most_nodes → v < most_rows → (bit_at after u v ≡ true) ↔ CanLie F u D v
  pub later : (i : ℕ) → table_bytes ≤ i → get_or after i 0 ≡ get_or before i 0
