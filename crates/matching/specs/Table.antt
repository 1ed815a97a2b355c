-- What the functions that fill the match table owe: "bit v .. is set exactly if query node u with all below it can be laid with u on document
-- node v, marks ignored. Other bits of the first 32,768 bytes are clear (all, for empty); later bytes keep their values."
use Rattle.std.specs.Prelude.{◌≡◌, ◌↔◌, ◌⊎◌, List, [], true, ℕ, ◌+◌, ◌≤◌, ◌<◌, length, get_or}
use Rattle.meaning.specs.Limits.{most_nodes, most_rows}
use Rattle.meaning.specs.Matching.{doc_of, bit_at, LaysAt, table_bytes}
use Rattle.bits.specs.Bits.{bit_of}
use Rattle.rows.specs.Rows.{tag_at, shape, below, map_t, Holds}
use Rattle.rows.specs.declared.TreeRows.{TreeRows}
use Rattle.document.specs.Nodes.{RowClear}
use Rattle.document.specs.declared.table.Document.{Document}

-- ------------------------------------------------------------------ one row
-- a set bit k of the byte stands for node x + k, whose parent is v
abbrev pub FromByte : List ℕ → ℕ → ℕ → ℕ → Type 0
FromByte parents b x v = (k : ℕ) × (bit_of b k ≡ true) × (get_or parents (x + k) 0 ≡ v)

-- one of the first e numbers is so, for v
abbrev pub Upto : (ℕ → ℕ → Type 0) → ℕ → ℕ → Type 0
Upto Q e v = (k : ℕ) × (k < e) × Q k v

-- v is the parent of a node in row c, of a node with a number below e
abbrev pub ParentOf : List ℕ → ℕ → List ℕ → ℕ → ℕ → Type 0
ParentOf w c parents e v = (x : ℕ) × (0 < x) × (x < e) × (bit_at w c x ≡ true) × (get_or parents x 0 ≡ v)

-- the flags `after` are `before` with the nodes added that are so
pub record Added (before : List ℕ) (P : ℕ → Type 0) (after : List ℕ) : Type 0 where
  pub same : length after ≡ length before
  pub flags : (v : ℕ) → v < most_rows → (get_or after v 0 ≡ 1) ↔ ((get_or before v 0 ≡ 1) ⊎ P v)

-- a row whose bits stand for nodes of the document
abbrev pub RowInside : List ℕ → ℕ → List ℕ → Type 0
RowInside w u parents = (v : ℕ) → v < most_rows → bit_at w u v ≡ true → v < length parents

-- ------------------------------------------------------------------ the whole table
-- what is asked of the query: rows that are laid out as a tree
pub record Query (t : TreeRows) : Type 0 where
  pub few : t.len ≤ most_nodes
  pub laid : Holds t.span 0 t.len (shape t.span t.len)

-- "query node u with all below it can be laid with u on document node v, marks ignored": the marks are left out
abbrev pub Lies : List ℕ → List ℕ → List ℕ → List ℕ → ℕ → ℕ → Type 0
Lies code span parents labels u v = LaysAt (doc_of parents labels) (tag_at code [] u) (map_t (tag_at code []) (below span u)) v

-- query node u lies nowhere where node c lies nowhere: whatever the codes and the document are, where u lies c does too
abbrev pub Needs : List ℕ → ℕ → ℕ → Type 0
Needs span u c = (code parents labels : List ℕ) (v : ℕ) → Lies code span parents labels u v → (x : ℕ) × Lies code span parents labels c x

-- .. of the rows on a document
abbrev pub LiesOn : TreeRows → Document → ℕ → ℕ → Type 0
LiesOn t d = Lies t.code t.span d.parents.now d.labels.now

-- the rows from u on have their bits
abbrev pub RowsFrom : TreeRows → Document → ℕ → List ℕ → Type 0
RowsFrom t d u w = (c v : ℕ) → u ≤ c → c < t.len → v < most_rows → (bit_at w c v ≡ true) ↔ LiesOn t d c v

-- what is known before row u is filled
pub record Ready (w : List ℕ) (t : TreeRows) (d : Document) (u : ℕ) : Type 0 where
  pub room : table_bytes ≤ length w
  pub query : Query t
  pub row : u < t.len
  pub behind : RowsFrom t d (u + 1) w
  pub clear : RowClear w u

-- the table from row u on; all other bits are clear, later bytes are as they were
pub record Filled (before : List ℕ) (t : TreeRows) (d : Document) (u : ℕ) (after : List ℕ) : Type 0 where
  pub same : length after ≡ length before
  pub behind : RowsFrom t d u after
  pub clear : (y : ℕ) → y < most_nodes → (y < u) ⊎ (t.len ≤ y) → RowClear after y
  pub later : (i : ℕ) → table_bytes ≤ i → get_or after i 0 ≡ get_or before i 0
