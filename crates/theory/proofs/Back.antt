-- What the tree takes, the rows of the tree query select: the document nodes on which the tree lies are a forest of the tree's shape,
-- and each row finds its own node there, level by level from the top.
use mathlib.Core.Path.{◌≡◌, refl, sym, subst}
use mathlib.Core.Logic.{◌⊎◌, inl, inr}
use mathlib.Core.Option.{Option, none, some}
use mathlib.Core.Bool.{Bool, true, false}
use mathlib.Core.List.{List, [], ◌∷◌}
use Prim.Native.Nat.{ℕ, zero, suc, ◌-◌, ◌<◌}
use native.Mathlib.Decide.{ℕ_discrete}
use native.Mathlib.Omega.{arith}
use lib.ListN.{length}
use Rattle.meaning.specs.Basics.{pick, is}
use Rattle.meaning.specs.Document.{Doc, In, Child, label_of}
use Rattle.meaning.specs.TreeQuery.{Lab, Row, node, Table, at, Query, Live, TreeQuery, Fits, RowKept, Laying, Selects}
use Rattle.meaning.specs.Tree.{Forest, bare, tree, Tag, kids_from, lab_row, tag_of, plant, grow, tree_of, Under, Lays, MarkOn, OnPair}
use Rattle.theory.proofs.Look.{never}
use Rattle.theory.proofs.Levels.{root_level, level_bound}
use Rattle.theory.proofs.Children.{Among, true_is, kid_of_row}

-- ------------------------------------------------------------------ where a forest lies
-- the place of number i on the list, and the places below it
abbrev seek : List ℕ → Forest ℕ → ℕ → ℕ × Forest ℕ
seek [] places i = (0, bare)
seek (j ∷ js) bare i = (0, bare)
seek (j ∷ js) (tree w below later) i = pick (ℕ_discrete j i) (w, below) (seek js later i)

module _ (D : Doc) (On : Tag → ℕ → Type 0) where
  -- the forest lies below v, node for node on the places
  abbrev LiesOn : Forest Tag → Forest ℕ → Option ℕ → Type 0
  LiesOn bare places v = Unit {0}
  LiesOn (tree a k r) bare v = ⊥
  LiesOn (tree a k r) (tree w below later) v = Under D v w × On a w × LiesOn k below (some w) × LiesOn r later v

  places_of : (f : Forest Tag) (v : Option ℕ) → Lays D On f v → (places : Forest ℕ) × LiesOn f places v
  places_of bare v x = (bare, tt)
  places_of (tree a k r) v ((w, u, o, x), y) =
      let below = places_of k (some w) x in let later = places_of r v y in
      (tree w below.0 later.0, (u, o, below.1, later.1))

  abbrev LiesAt : Option ℕ → Tag → Forest Tag → ℕ × Forest ℕ → Type 0
  LiesAt v a k x = Under D v x.0 × On a x.0 × LiesOn k x.1 (some x.0)

  seek_lies : (tag : ℕ → Tag) (f : ℕ → Forest Tag) (js : List ℕ) (places : Forest ℕ) (v : Option ℕ) (i : ℕ)
      → LiesOn (plant tag f js) places v → Among i js → LiesAt v (tag i) (f i) (seek js places i)
  seek_lies tag f [] places v i x c = absurd c
  seek_lies tag f (j ∷ js) bare v i x c = absurd x
  seek_lies tag f (j ∷ js) (tree w below later) v i (u, o, x, y) c = go (seek_lies tag f js later v i y) (ℕ_discrete j i) c
    where
      go : (Among i js → LiesAt v (tag i) (f i) (seek js later i)) → (d : Dec (j ≡ i)) → (j ≡ i) ⊎ Among i js
          → LiesAt v (tag i) (f i) (pick d (w, below) (seek js later i))
      go ih (yes e) c' = subst (λ z. LiesAt v (tag z) (f z) (w, below)) e (u, o, x)
      go ih (no ne) (inl e) = absurd (ne e)
      go ih (no ne) (inr c') = ih c'

-- ------------------------------------------------------------------ the laying of the rows
abbrev parent_of : Option Row → ℕ
parent_of none = 0
parent_of (some (node none l)) = 0
parent_of (some (node (some p) l)) = p

module _ (D : Doc) (m n : ℕ) (Q : Query) (q : TreeQuery Q) (places : Forest ℕ) (lies : LiesOn D (OnPair D m n) (tree_of Q) places none) where
  abbrev T : Table
  T = Q.rows

  abbrev N : ℕ
  N = length Q.rows

  abbrev lev : ℕ → ℕ
  lev = q.tree.lev

  -- the place of a row of level k, and the places below it
  abbrev found : ℕ → ℕ → ℕ × Forest ℕ
  found zero i = seek (kids_from none Q.rows 0) places i
  found (suc k) i = seek (kids_from (some (parent_of (at Q.rows i))) Q.rows 0) (found k (parent_of (at Q.rows i))).1 i

  abbrev Found : Option ℕ → ℕ → ℕ → Type 0
  Found v k i = LiesAt D (OnPair D m n) v (tag_of Q i) (grow (N - k) Q i) (found k i)

  root_found : (i : ℕ) (l : Lab) → at T i ≡ some (node none l) → Found none 0 i
  root_found i l e =
      let z : N - 0 ≡ N = omega arith in
      rw z (seek_lies D (OnPair D m n) (tag_of Q) (grow N Q) (kids_from none T 0) places none i lies (kid_of_row none T i l e))

  kid_found : (k i p : ℕ) (l : Lab) → at T i ≡ some (node (some p) l) → k < N
      → LiesOn D (OnPair D m n) (grow (N - k) Q p) (found k p).1 (some (found k p).0)
      → Found (some (found k p).0) (suc k) i
  kid_found k i p l e lt x =
      let z : N - k ≡ suc (N - suc k) = omega arith in
      subst (λ r. LiesAt D (OnPair D m n) (some (found k p).0) (tag_of Q i) (grow (N - suc k) Q i) (seek (kids_from (some (parent_of r)) T 0) (found k (parent_of r)).1 i)) (sym e)
      (seek_lies D (OnPair D m n) (tag_of Q) (grow (N - suc k) Q) (kids_from (some p) T 0) (found k p).1 (some (found k p).0) i (rw z at x) (kid_of_row (some p) T i l e))

  -- every row of level k has found its place, below its parent's
  abbrev FoundRow : ℕ → ℕ → Option ℕ → Type 0
  FoundRow k i none = Found none k i
  FoundRow k i (some p) = Found (some (found (k - 1) p).0) k i

  row_found : (k i : ℕ) (u : Option ℕ) (l : Lab) → at T i ≡ some (node u l) → lev i ≡ k → FoundRow k i u
  row_found zero i none l e ek = root_found i l e
  row_found zero i (some p) l e ek = let z : lev i ≡ suc (lev p) = (q.tree.linked i p l e).1 in absurd (omega arith)
  row_found (suc k) i none l e ek = let z = root_level q.tree i (l, e) in absurd (omega arith)
  row_found (suc k) i (some p) l e ek = go (q.tree.linked i p l e) (λ v l' e' z. row_found k p v l' e' z)
    where
      below : (v : Option ℕ) → FoundRow k p v → LiesOn D (OnPair D m n) (grow (N - k) Q p) (found k p).1 (some (found k p).0)
      below none x = x.2
      below (some p') x = x.2

      go : Live T p × (lev i ≡ suc (lev p)) → ((v : Option ℕ) (l' : Lab) → at T p ≡ some (node v l') → lev p ≡ k → FoundRow k p v)
          → FoundRow (suc k) i (some p)
      go ((v, l', e'), o) ih =
          let lt = level_bound q.tree i (some p, l, e) in
          let z : suc k - 1 ≡ k = omega arith in
          rw z (kid_found k i p l e (omega arith) (below v (ih v l' e' (omega arith))))

  abbrev h : ℕ → ℕ
  h i = (found (lev i) i).0

  found_on : (i : ℕ) (u : Option ℕ) (l : Lab) → at T i ≡ some (node u l) → In D (h i) × OnPair D m n (tag_of Q i) (h i)
  found_on i none l e = let w = row_found (lev i) i none l e refl in (w.0, w.1)
  found_on i (some p) l e = let w = row_found (lev i) i (some p) l e refl in (w.0.inside, w.1)

  h_lays : Laying D T h
  h_lays i = go (at T i) refl
    where
      fits : (u : Option ℕ) (l : Lab) → at T i ≡ some (node u l) → In D (h i) × Fits l (label_of D (h i))
      fits u l e = let w = found_on i u l e in (w.0, subst (λ r. Fits (lab_row r) (label_of D (h i))) e w.1.0)

      edge : (p : ℕ) (l : Lab) → at T i ≡ some (node (some p) l) → Child D (h p) (h i)
      edge p l e =
          let o : lev i ≡ suc (lev p) = (q.tree.linked i p l e).1 in
          let z : lev i - 1 ≡ lev p = omega arith in
          subst (λ k. Child D (found k p).0 (h i)) z (row_found (lev i) i (some p) l e refl).0

      go : (r : Option Row) → at T i ≡ r → RowKept D h i r
      go none e = tt
      go (some (node none l)) e = let w = fits none l e in (w.0, w.1, tt)
      go (some (node (some p) l)) e = let w = fits (some p) l e in (w.0, w.1, edge p l e)

  -- a marked node lies on its node of the pair
  mark_of : (i m' : ℕ) (t : Bool) → t ≡ true → MarkOn t (h i) m' → h i ≡ m'
  mark_of i m' true e x = x
  mark_of i m' false e x = never cc

  found_selects : Selects Q D m n
  found_selects = go q.s_live q.d_live
    where
      go : Live T Q.s → Live T Q.d → Selects Q D m n
      go (u, l, e) (u', l', e') = (
        h,
        h_lays,
        mark_of Q.s m (is (ℕ_discrete Q.s Q.s)) (true_is (ℕ_discrete Q.s Q.s) refl) (found_on Q.s u l e).1.1,
        mark_of Q.d n (is (ℕ_discrete Q.d Q.d)) (true_is (ℕ_discrete Q.d Q.d) refl) (found_on Q.d u' l' e').1.2,
      )

-- a tree that can be laid with s on m and d on n: the rows can be laid so
pub rows_select : (D : Doc) (m n : ℕ) (Q : Query) → TreeQuery Q → Lays D (OnPair D m n) (tree_of Q) none → Selects Q D m n
rows_select D m n Q q x = let (places, lies) = places_of D (OnPair D m n) (tree_of Q) none x in found_selects D m n Q q places lies
