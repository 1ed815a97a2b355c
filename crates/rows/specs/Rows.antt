-- A tree as rows in image order: the top first, each node followed by all that lies below it.
-- For each row there are five numbers: the label code and the mark of its record, the number of its children, its span (the rows that it and
-- all below it take) and the row of its parent. The first child of row u is row u + 1, the next brother of row c is row c + span c.
use Rattle.std.specs.Prelude.{◌≡◌, Bool, true, false, ◌&&◌, cond, List, ℕ, zero, suc, ◌+◌, ◌≤◌, ◌<◌, length, get_or, ltb, leb, eqb}
use Rattle.meaning.specs.Limits.{most_nodes}
use Rattle.meaning.specs.Number.{largest_label}
use Rattle.meaning.specs.TreeQuery.{Lab, any, lab}
use Rattle.meaning.specs.Tree.{Forest, bare, tree, Tag, size}
use Rattle.bits.specs.Bits.{bit_of}

-- ------------------------------------------------------------------ reading the rows
-- what a label code stands for: "0 wildcard, else L+1"
abbrev pub lab_of : ℕ → Lab
lab_of zero = any
lab_of (suc l) = lab l

-- what row u bears: "mark (0 none, 1 s, 2 d, 3 both)", so s is bit 0 and d is bit 1
abbrev pub tag_at : List ℕ → List ℕ → ℕ → Tag
tag_at code mark u = record { lab = lab_of (get_or code u 0); src = bit_of (get_or mark u 0) 0; dst = bit_of (get_or mark u 0) 1 }

-- some row bears the mark of this bit
abbrev pub Borne : List ℕ → ℕ → Type 0
Borne mark bit = (u : ℕ) × (u < most_nodes) × (bit_of (get_or mark u 0) bit ≡ true)

-- the first row that does
pub record FirstRow (mark : List ℕ) (bit r : ℕ) : Type 0 where
  pub inside : r < most_nodes
  pub here : bit_of (get_or mark r 0) bit ≡ true
  pub before : (u : ℕ) → u < r → bit_of (get_or mark u 0) bit ≡ false

-- exactly one of the n rows is so
pub record Single (p : ℕ → Bool) (n : ℕ) : Type 0 where
  pub row : ℕ
  pub inside : row < n
  pub is : (u : ℕ) → u < n → p u ≡ eqb u row

-- row x lies at or below row c
unfoldable pub covers : List ℕ → ℕ → ℕ → Bool
covers span c x = leb c x && ltb x (c + get_or span c 0)

-- the brothers in the rows from u up to e, each with all below it, as row numbers. Every row moves u on, so e - u is enough fuel
unfoldable pub brothers : ℕ → List ℕ → ℕ → ℕ → Forest ℕ
brothers zero span u e = bare
brothers (suc k) span u e =
    cond (ltb u e) (tree u (brothers k span (suc u) (u + get_or span u 0)) (brothers k span (u + get_or span u 0) e)) bare

-- what lies below row u
unfoldable pub below : List ℕ → ℕ → Forest ℕ
below span u = brothers (get_or span u 0) span (suc u) (u + get_or span u 0)

-- the n rows as a tree of row numbers
unfoldable pub shape : List ℕ → ℕ → Forest ℕ
shape span n = brothers n span 0 n

-- a forest with its nodes renamed
unfoldable pub map_t : {A B : Type 0} → (A → B) → Forest A → Forest B
map_t f bare = bare
map_t f (tree a k r) = tree (f a) (map_t f k) (map_t f r)

-- the tree that the n rows are; no rows are the empty tree
unfoldable pub tree_rows : List ℕ → List ℕ → List ℕ → ℕ → Forest Tag
tree_rows code mark span n = map_t (tag_at code mark) (shape span n)

-- row u and all that lies below it have their place in a table, and each of these rows takes itself
pub record Reaches (span : List ℕ) (u : ℕ) : Type 0 where
  pub within : u < most_nodes
  pub inside : u + get_or span u 0 ≤ most_nodes
  pub onward : (c : ℕ) → u < c → c < u + get_or span u 0 → 0 < get_or span c 0

-- ------------------------------------------------------------------ when rows are a tree
-- the rows from u up to e are laid out as the forest is
abbrev pub Holds : List ℕ → ℕ → ℕ → Forest ℕ → Type 0
Holds span u e bare = u ≡ e
Holds span u e (tree i k r) = (u ≡ i) × (get_or span i 0 ≡ suc (size k)) × Holds span (suc i) (suc i + size k) k × Holds span (suc i + size k) e r

-- how many trees the forest has
abbrev pub width : {A : Type 0} → Forest A → ℕ
width bare = 0
width (tree a k r) = suc (width r)

-- each row's number of children
abbrev pub Counted : List ℕ → Forest ℕ → Type 0
Counted kids bare = Unit {0}
Counted kids (tree i k r) = (get_or kids i 0 ≡ width k) × Counted kids k × Counted kids r

-- each row's parent; p is that of the brothers
abbrev pub Hung : List ℕ → ℕ → Forest ℕ → Type 0
Hung up p bare = Unit {0}
Hung up p (tree i k r) = (get_or up i 0 ≡ p) × Hung up i k × Hung up p r

-- the number that stands for no parent
abbrev pub no_row : ℕ
no_row = 65535

-- n rows that are a tree, or no rows
pub record Rows (code mark kids span up : List ℕ) (n : ℕ) : Type 0 where
  pub few : n ≤ most_nodes
  pub codes : n ≤ length code
  pub marks : n ≤ length mark
  pub counts : n ≤ length kids
  pub spans : n ≤ length span
  pub ups : n ≤ length up
  pub labels : (u : ℕ) → u < n → get_or code u 0 ≤ suc largest_label
  pub marked : (u : ℕ) → u < n → get_or mark u 0 ≤ 3
  pub laid : Holds span 0 n (shape span n)
  pub counted : Counted kids (shape span n)
  pub hung : Hung up no_row (shape span n)
  pub single : width (shape span n) ≤ 1

-- tables that have room for the rows of any tree query
pub record Room (code mark kids span up : List ℕ) : Type 0 where
  pub codes : length code ≡ most_nodes
  pub marks : length mark ≡ most_nodes
  pub counts : length kids ≡ most_nodes
  pub spans : length span ≡ most_nodes
  pub ups : length up ≡ most_nodes
