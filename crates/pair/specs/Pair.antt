-- What the pair question asks of a match table: the ways from s and from d up to the top, laid row by row.
-- Document parents are unique, so once s lies on m each node above s has one possible place, and its bit says whether it may lie there.
use Rattle.std.specs.Prelude.{◌≡◌, ◌↔◌, List, true, ℕ, ◌+◌, ◌≤◌, ◌<◌, length, get_or}
use Rattle.meaning.specs.Limits.{most_nodes, most_rows}
use Rattle.meaning.specs.Document.{Doc}
use Rattle.meaning.specs.Tree.{Forest, Tag}
use Rattle.meaning.specs.Matching.{good_table, doc_of, bit_at, CanLie, table_bytes}
use Rattle.rows.specs.Rows.{tag_at, Single, tree_rows, Rows}

-- ------------------------------------------------------------------ what is asked
-- w is the match table of a query on a document: the field `bits` of MatchTable
abbrev pub Bits : Forest Tag → Doc → List ℕ → Type 0
Bits F D w = (u v : ℕ) → u < most_nodes → v < most_rows → (bit_at w u v ≡ true) ↔ CanLie F u D v

-- the query and the document that the table w, the marks, the parents' rows and the parents' numbers belong to:
-- a tree with one s and one d, and a good table
pub record Asked (w mark up parents : List ℕ) : Type 0 where
  pub rows : ℕ
  pub code : List ℕ
  pub kids : List ℕ
  pub span : List ℕ
  pub labels : List ℕ
  pub tree : Rows code mark kids span up rows
  pub s : Single (λ u. (tag_at code mark u).src) rows
  pub d : Single (λ u. (tag_at code mark u).dst) rows
  pub table : good_table parents labels ≡ true
  pub room : table_bytes ≤ length w
  pub bits : Bits (tree_rows code mark span rows) (doc_of parents labels) w

-- ------------------------------------------------------------------ the ways
-- row u may lie on node x and the row above it on x's parent: u's bit is set there, and x is not the root
abbrev pub Step : List ℕ → ℕ → ℕ → Type 0
Step w u x = (0 < x) × (bit_at w u x ≡ true)

module _ (w up parents : List ℕ) where
  -- h puts row c on a node where its bit is set, and, below the top, on a child of its parent's place
  pub record OnNode (h : ℕ → ℕ) (c : ℕ) : Type 0 where
    pub inside : h c < length parents
    pub bit : bit_at w c (h c) ≡ true
    pub edge : 0 < c → (0 < h c) × (get_or parents (h c) 0 ≡ h (get_or up c 0))

  -- .. every row from u up to the top: those that start at u or before it and do not end before it
  abbrev pub WayLaid : List ℕ → (ℕ → ℕ) → ℕ → Type 0
  WayLaid span h u = (c : ℕ) → c ≤ u → u < c + get_or span c 0 → OnNode h c

  -- the way up from row u can be laid with u on x
  abbrev pub OneWay : List ℕ → ℕ → ℕ → Type 0
  OneWay span u x = (h : ℕ → ℕ) × (h u ≡ x) × WayLaid span h u

  -- the ways up from rows u and v can be laid at once, u on x and v on y
  abbrev pub TwoWays : List ℕ → ℕ → ℕ → ℕ → ℕ → Type 0
  TwoWays span u x v y = (h : ℕ → ℕ) × (h u ≡ x) × (h v ≡ y) × WayLaid span h u × WayLaid span h v
