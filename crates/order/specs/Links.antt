-- Forests as links: `first` (fs) has for each row its first child, `next` (ns) its next brother, and behind the n rows there is one more slot in
-- `first`, for the top, which has no parent. A link that is not below n leads nowhere. Rows are compared by their keys, and brothers put in order by
-- insertion, as `place` and `ordered` of Image do it by records.
use Rattle.std.specs.Prelude.{◌≡◌, ◌⊎◌, Option, None, Some, List, Bool, cond, ℕ, zero, suc, ◌<◌, ◌≤◌, length, get_or, ltb}
use Rattle.std.specs.Ordering.{ordering_then, is_le, nat_cmp}
use Rattle.std.specs.declared.cmp.Ordering.{Ordering}
use Rattle.std.specs.declared.cmp.Ordering.TheVariants.{Less, Equal, Greater}
use Rattle.meaning.specs.Limits.{most_nodes}
use Rattle.meaning.specs.Tree.{Forest, bare, tree, size}
use Rattle.rows.specs.Rows.{width, no_row}

-- where the list of p's children starts
abbrev pub slot_of : ℕ → ℕ → ℕ
slot_of n p = cond (ltb p n) p n

-- p is a row before row b, or stands for no parent
abbrev pub Known : ℕ → ℕ → Type 0
Known b p = (p < b) ⊎ (p ≡ no_row)

-- the forest whose first tree stands at row c, at most m links deep
unfoldable pub forest_from : ℕ → ℕ → List ℕ → List ℕ → ℕ → Forest ℕ
forest_from zero n fs ns c = bare
forest_from (suc m) n fs ns c = cond (ltb c n) (tree c (forest_from m n fs ns (get_or fs c 0)) (forest_from m n fs ns (get_or ns c 0))) bare

-- no forest has more links than rows
unfoldable pub forest_at : ℕ → List ℕ → List ℕ → ℕ → Forest ℕ
forest_at n fs ns c = forest_from n n fs ns c

-- the links at c and below are exactly those of the forest
abbrev pub Linked : ℕ → List ℕ → List ℕ → ℕ → Forest ℕ → Type 0
Linked n fs ns c bare = n ≤ c
Linked n fs ns c (tree i k r) = (c ≡ i) × (i < n) × Linked n fs ns (get_or fs i 0) k × Linked n fs ns (get_or ns i 0) r

-- row j is one of the forest's
abbrev pub In : ℕ → Forest ℕ → Type 0
In j bare = ⊥
In j (tree i k r) = (j ≡ i) ⊎ In j k ⊎ In j r

-- no row stands in the forest twice
abbrev pub Apart : Forest ℕ → Type 0
Apart bare = Unit {0}
Apart (tree i k r) = (In i k → ⊥) × (In i r → ⊥) × ((j : ℕ) → In j k → In j r → ⊥) × Apart k × Apart r

-- c is the start of a finite forest
pub record Finite (n : ℕ) (fs ns : List ℕ) (c : ℕ) : Type 0 where
  pub holds : Linked n fs ns c (forest_at n fs ns c)
  pub small : size (forest_at n fs ns c) ≤ n

-- at the last slot a tree of n rows is read; no rows are the empty tree
pub record Listed (n : ℕ) (fs ns : List ℕ) : Type 0 where
  pub finite : Finite n fs ns (get_or fs n 0)
  pub all : size (forest_at n fs ns (get_or fs n 0)) ≡ n
  pub single : width (forest_at n fs ns (get_or fs n 0)) ≤ 1

-- ------------------------------------------------------------------ comparing and ordering by keys
-- two lists of brothers: the first two keys, then what lies below the first two rows, then their later brothers
unfoldable pub cmp_f : List ℕ → Forest ℕ → Forest ℕ → Ordering
cmp_f key bare bare = Equal
cmp_f key bare (tree b j s) = Less
cmp_f key (tree a k r) bare = Greater
cmp_f key (tree a k r) (tree b j s) = ordering_then (nat_cmp (get_or key a 0) (get_or key b 0)) (ordering_then (cmp_f key k j) (cmp_f key r s))

-- the tree at a with the forest k below it against the tree at b with j below it
abbrev pub cmp_t : List ℕ → ℕ → Forest ℕ → ℕ → Forest ℕ → Ordering
cmp_t key a k b j = ordering_then (nat_cmp (get_or key a 0) (get_or key b 0)) (cmp_f key k j)

-- a tree among brothers that are in order
unfoldable pub place_by : List ℕ → ℕ → Forest ℕ → Forest ℕ → Forest ℕ
place_by key i k bare = tree i k bare
place_by key i k (tree j l r) = cond (is_le (cmp_t key i k j l)) (tree i k (tree j l r)) (tree j l (place_by key i k r))

-- the forest with all brothers in order
unfoldable pub ordered_by : List ℕ → Forest ℕ → Forest ℕ
ordered_by key bare = bare
ordered_by key (tree i k r) = place_by key i (ordered_by key k) (ordered_by key r)

-- ------------------------------------------------------------------ what the functions owe
-- the brothers from x on against those from y on
unfoldable pub compared_at : ℕ → List ℕ → List ℕ → List ℕ → ℕ → ℕ → Ordering
compared_at n fs ns key x y = cmp_f key (forest_at n fs ns x) (forest_at n fs ns y)

-- the tree at c goes before the tree at q or is equal to it
unfoldable pub goes_first : ℕ → List ℕ → List ℕ → List ℕ → ℕ → ℕ → Bool
goes_first n fs ns key c q = is_le (cmp_t key c (forest_at n fs ns (get_or fs c 0)) q (forest_at n fs ns (get_or fs q 0)))

-- the last tree of a list that goes before the tree at c with k below it; p where there is none
unfoldable pub spot_of : List ℕ → ℕ → Forest ℕ → Option ℕ → Forest ℕ → Option ℕ
spot_of key c k p bare = p
spot_of key c k p (tree j l r) = cond (is_le (cmp_t key c k j l)) p (spot_of key c k (Some j) r)

-- the same of the list at q
unfoldable pub spot_at : ℕ → List ℕ → List ℕ → List ℕ → ℕ → ℕ → Option ℕ
spot_at n fs ns key c q = spot_of key c (forest_at n fs ns (get_or fs c 0)) None (forest_at n fs ns q)

-- the tree at c may be put into the list at q
pub record Ready (n : ℕ) (fs ns : List ℕ) (c q : ℕ) : Type 0 where
  pub few : n ≤ most_nodes
  pub nexts : n ≤ length ns
  pub inside : c < n
  pub low : q < 65536
  pub kids : Finite n fs ns (get_or fs c 0)
  pub list : Finite n fs ns q
  pub apart : Apart (tree c (forest_at n fs ns (get_or fs c 0)) (forest_at n fs ns q))
  pub room : size (tree c (forest_at n fs ns (get_or fs c 0)) (forest_at n fs ns q)) ≤ n

-- it was put there, r is the first tree, and no other row was linked anew
pub record PutAmong (n : ℕ) (fs ns key : List ℕ) (c q : ℕ) (ns' : List ℕ) (r : ℕ) : Type 0 where
  pub linked : Linked n fs ns' r (place_by key c (forest_at n fs ns (get_or fs c 0)) (forest_at n fs ns q))
  pub low : r < 65536
  pub long : length ns' ≡ length ns
  pub rest : (j : ℕ) → (j ≡ c → ⊥) → (In j (forest_at n fs ns q) → ⊥) → get_or ns' j 0 ≡ get_or ns j 0
