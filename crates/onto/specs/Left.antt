-- Which rows of a tree in image order are still there. A row goes, with all below it, by one store: a bit of its mark says so. Rows below it are never
-- reached again.
use Rattle.std.specs.Prelude.{◌≡◌, ◌⊎◌, Bool, true, cond, List, ℕ, ◌<◌, get_or}
use Rattle.meaning.specs.Tree.{Forest, bare, tree, Tag}
use Rattle.bits.specs.Bits.{bit_of}
use Rattle.rows.specs.Rows.{tag_at, below, shape, map_t}
use Rattle.rows.specs.declared.TreeRows.{TreeRows}

-- the rows of a tree as far as folding reads them: label codes, marks and spans
pub record Nodes : Type 0 where
  pub code : List ℕ
  pub mark : List ℕ
  pub span : List ℕ

abbrev pub nodes : List ℕ → List ℕ → List ℕ → Nodes
nodes code mark span = record { code = code; mark = mark; span = span }

-- those of rows that stand in one value
abbrev pub nodes_of : TreeRows → Nodes
nodes_of t = nodes t.code t.mark t.span

-- the same with other marks
abbrev pub marked : Nodes → List ℕ → Nodes
marked t mark = nodes t.code mark t.span

-- nothing but marks has changed
pub record Remarked (t t' : TreeRows) : Type 0 where
  pub code : t'.code ≡ t.code
  pub kids : t'.kids ≡ t.kids
  pub span : t'.span ≡ t.span
  pub up : t'.up ≡ t.up
  pub len : t'.len ≡ t.len

-- what row u bears
abbrev pub tag_of : Nodes → ℕ → Tag
tag_of t u = tag_at t.code t.mark u

-- the bit of a mark that says that the row has gone: s is bit 0 and d is bit 1
abbrev pub gone_bit : ℕ
gone_bit = 7

-- row u has gone
abbrev pub gone_at : List ℕ → ℕ → Bool
gone_at mark u = bit_of (get_or mark u 0) gone_bit

-- the mark m of a row that goes becomes r: the bit is set, and no other changes
pub record Gone (m r : ℕ) : Type 0 where
  pub away : bit_of r gone_bit ≡ true
  pub other : (k : ℕ) → k < gone_bit → bit_of r k ≡ bit_of m k

-- row j is one of the brothers
abbrev pub Brother : ℕ → Forest ℕ → Type 0
Brother j bare = ⊥
Brother j (tree i k r) = (j ≡ i) ⊎ Brother j r

-- those of the brothers that are still there, each with what is left below it
unfoldable pub kept : List ℕ → Forest ℕ → Forest ℕ
kept mark bare = bare
kept mark (tree i k r) = cond (gone_at mark i) (kept mark r) (tree i (kept mark k) (kept mark r))

-- the same as a forest of what the rows bear
unfoldable pub left : Nodes → Forest ℕ → Forest Tag
left t F = map_t (tag_of t) (kept t.mark F)

-- what is left below row u
abbrev pub left_below : Nodes → ℕ → Forest Tag
left_below t u = left t (below t.span u)

-- the tree that is left of n rows
abbrev pub kept_tree : Nodes → ℕ → Forest Tag
kept_tree t n = left t (shape t.span n)
