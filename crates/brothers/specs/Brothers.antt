-- The children of one row folded to the end (01, Folding): the list of those that are there, the search for the first that folds onto another
-- one, and what is left.
use Rattle.std.specs.Prelude.{◌≡◌, ◌⊎◌, false, Option, None, Some, List, ℕ, ◌≤◌, ◌<◌, length, get_or, set}
use Rattle.meaning.specs.Limits.{most_nodes}
use Rattle.meaning.specs.Tree.{Forest, bare, tree, Tag, Any}
use Rattle.meaning.specs.Folding.{Folds, Onto}
use Rattle.rows.specs.Rows.{below}
use Rattle.onto.specs.Left.{Nodes, marked, gone_at, Gone, Brother, left_below}
use Rattle.onto.specs.Onto.{OntoRow, Stands}

-- ------------------------------------------------------------------ the search for foldable brothers
-- row x is a child of row p that is still there
pub record Child (mark span : List ℕ) (p x : ℕ) : Type 0 where
  pub brother : Brother x (below span p)
  pub there : gone_at mark x ≡ false

-- the first k of the list are the rows that are P, each once
pub record Lists (P : ℕ → Type 0) (child : List ℕ) (k : ℕ) : Type 0 where
  pub few : k ≤ most_nodes
  pub each : (i : ℕ) → i < k → P (get_or child i 0)
  pub all : (x : ℕ) → P x → (i : ℕ) × (i < k) × (get_or child i 0 ≡ x)
  pub once : (i j : ℕ) → i < k → j < k → get_or child i 0 ≡ get_or child j 0 → i ≡ j

-- the first k of the list are the children of row p that are still there
abbrev pub Listed : List ℕ → List ℕ → ℕ → List ℕ → ℕ → Type 0
Listed mark span p child k = Lists (Child mark span p) child k

-- of k listed rows, the i-th folds onto another one
abbrev pub Foldable : Nodes → List ℕ → ℕ → ℕ → Type 0
Foldable t child k i = (j : ℕ) × (j < k) × (¬ (i ≡ j)) × OntoRow t (get_or child i 0) t (get_or child j 0)

-- k listed rows, to be searched
pub record Searchable (t : Nodes) (child : List ℕ) (k : ℕ) : Type 0 where
  pub few : k ≤ most_nodes
  pub stand : (i : ℕ) → i < k → Stands t (get_or child i 0)

-- of the places from `from` up to r none has a foldable row
abbrev pub NoneFrom : Nodes → List ℕ → ℕ → ℕ → ℕ → Type 0
NoneFrom t child from k r = (i : ℕ) → i < r → from ≤ i → ¬ Foldable t child k i

-- the first place from `from` on at which a foldable row is listed, or there is none
abbrev pub FirstFoldable : Nodes → List ℕ → ℕ → ℕ → Option ℕ → Type 0
FirstFoldable t child from k None = NoneFrom t child from k k
FirstFoldable t child from k (Some r) = (from ≤ r) × (r < k) × NoneFrom t child from k r × Foldable t child k r

-- row a goes, and no more changes
pub record Loses (mark : List ℕ) (a : ℕ) (mark' : List ℕ) : Type 0 where
  pub long : length mark' ≡ length mark
  pub gone : Gone (get_or mark a 0) (get_or mark' a 0)
  pub other : (j : ℕ) → ¬ (j ≡ a) → get_or mark' j 0 ≡ get_or mark j 0

-- the i-th listed row goes, and what is listed at k takes its place in the list
pub record TakenOut (mark child : List ℕ) (i k : ℕ) (mark' child' : List ℕ) : Type 0 where
  pub marks : Loses mark (get_or child i 0) mark'
  pub list : child' ≡ set child i (get_or child k 0)

-- ------------------------------------------------------------------ folding to the end
-- no two of these brothers fold
abbrev pub NoneFold : Forest Tag → Type 0
NoneFold bare = Unit {0}
NoneFold (tree a k r) = NoneFold r × (¬ Any (λ b j. Onto a k b j) r) × (¬ Any (λ b j. Onto b j a k) r)

-- row j, a child of row p, goes
pub record Goes (mark span : List ℕ) (p : ℕ) (mark' : List ℕ) (j : ℕ) : Type 0 where
  pub child : Brother j (below span p)
  pub gone : Gone (get_or mark j 0) (get_or mark' j 0)

-- nothing has changed but that some children of row p have gone
abbrev pub Only : List ℕ → List ℕ → ℕ → List ℕ → Type 0
Only mark span p mark' = (j : ℕ) → (get_or mark' j 0 ≡ get_or mark j 0) ⊎ Goes mark span p mark' j

-- the children of row p are folded to the end: what is left below p folds onto what was there and back, no two children are left that fold,
-- and nothing has changed but that some children of p have gone
pub record ChildrenFolded (t : Nodes) (p : ℕ) (mark' : List ℕ) : Type 0 where
  pub to : Folds (left_below t p) (left_below (marked t mark') p)
  pub from : Folds (left_below (marked t mark') p) (left_below t p)
  pub apart : NoneFold (left_below (marked t mark') p)
  pub only : Only t.mark t.span p mark'
  pub long : length mark' ≡ length t.mark
