-- Laws of rows in image order: what is read from them does not depend on the fuel, each row opens into itself, what lies below it and its later
-- brothers, row u is the u-th node of the tree, and each row below the top has its parent before it.
use mathlib.Core.Path.{◌≡◌, refl, ap, ◌∙◌}
use mathlib.Core.Logic.{◌⊎◌, inl, inr}
use mathlib.Core.Option.{none, some}
use mathlib.Core.List.{List, [], ◌∷◌, ◌++◌}
use Prim.Native.Nat.{ℕ, zero, suc, ◌+◌, ◌-◌, ◌<◌, ◌≤◌}
use native.Mathlib.Omega.{arith}
use native.Mathlib.Decide.{ℕ_discrete, dec_lt}
use lib.ListN.{length, get_or, length-append}
use borrow.Author.Tests.{lt-ltb, le-ltb}
use Rattle.meaning.specs.Basics.{look}
use Rattle.meaning.specs.Limits.{most_nodes}
use Rattle.meaning.specs.Tree.{Forest, bare, tree, size, preorder}
use Rattle.meaning.specs.Image.{lab_code, mark_code}
use Rattle.theory.proofs.Look.{look_left, look_right}
use Rattle.bits.specs.Bits.{bit_of}
use Rattle.rows.specs.Rows.{lab_of, tag_at, brothers, below, shape, map_t, tree_rows, Holds, width, Counted, Hung, no_row, Reaches, Rows}

-- ------------------------------------------------------------------ what a code and a mark stand for
pub lab_code_lem : (c : ℕ) → lab_code (lab_of c) ≡ c
lab_code_lem zero = refl
lab_code_lem (suc l) = refl

pub mark_code_lem : (m : ℕ) → m ≤ 3 → mark_code (bit_of m 0) (bit_of m 1) ≡ m
unfolding bit_of
mark_code_lem zero h = refl
mark_code_lem (suc zero) h = refl
mark_code_lem (suc (suc zero)) h = refl
mark_code_lem (suc (suc (suc zero))) h = refl
mark_code_lem (suc (suc (suc (suc m)))) h = absurd (omega arith)

-- ------------------------------------------------------------------ renaming
pub size_map_t : {A B : Type 0} (f : A → B) (F : Forest A) → size (map_t f F) ≡ size F
unfolding map_t
size_map_t f bare = refl
size_map_t f (tree a k r) = rw (size_map_t f k, size_map_t f r)

pub width_map_t : {A B : Type 0} (f : A → B) (F : Forest A) → width (map_t f F) ≡ width F
unfolding map_t
width_map_t f bare = refl
width_map_t f (tree a k r) = rw (width_map_t f r)

-- ------------------------------------------------------------------ rows that are laid out as a forest
pub size_holds : (span : List ℕ) (u e : ℕ) (F : Forest ℕ) → Holds span u e F → u + size F ≡ e
size_holds span u e bare h = omega arith
size_holds span u e (tree i k r) (a, b, c, d) = let z = size_holds span (suc i + size k) e r d in omega arith

-- any fuel that reaches the end reads the same forest
pub holds_is : (k : ℕ) (span : List ℕ) (u e : ℕ) (F : Forest ℕ) → Holds span u e F → e ≤ u + k → brothers k span u e ≡ F
unfolding brothers
holds_is zero span u e bare h l = refl
holds_is zero span u e (tree i k r) h l = let z = size_holds span u e (tree i k r) h in absurd (omega arith)
holds_is (suc j) span u e bare h l = let z : e ≤ u = omega arith in rw (le-ltb u e z)
holds_is (suc j) span u e (tree i k r) (a, b, c, d) l =
    let s = size_holds span (suc i + size k) e r d in
    let y : u < e = omega arith in
    let z : i + get_or span i 0 ≡ suc i + size k = omega arith in
    rw (lt-ltb u e y, a, z, holds_is j span (suc i) (suc i + size k) k c (omega arith), holds_is j span (suc i + size k) e r d (omega arith))

-- row u among rows that end at e: it and all below it take `span` rows, the first child is row u + 1
pub record Opens (span : List ℕ) (u e : ℕ) : Type 0 where
  pub some : 1 ≤ get_or span u 0
  pub inside : u + get_or span u 0 ≤ e
  pub held : Holds span (suc u) (u + get_or span u 0) (below span u)

-- the first of some brothers opens, and its later brothers start behind all that lies below it
pub holds_first : (span : List ℕ) (u e i : ℕ) (k r : Forest ℕ) → Holds span u e (tree i k r)
    → (below span u ≡ k) × Opens span u e × Holds span (u + get_or span u 0) e r
unfolding below
holds_first span u e i k r (a, b, c, d) =
    let s = size_holds span (suc i + size k) e r d in
    let z : i + get_or span i 0 ≡ suc i + size k = omega arith in
    let h : Holds span (suc i) (i + get_or span i 0) k = rw z c in
    let q : brothers (get_or span i 0) span (suc i) (i + get_or span i 0) ≡ k = holds_is (get_or span i 0) span (suc i) (i + get_or span i 0) k h (omega arith) in
    rw a (q, record { some = omega arith; inside = omega arith; held = rw q h }, rw z d)

-- every row opens
pub holds_opens : (span : List ℕ) (u e : ℕ) (F : Forest ℕ) → Holds span u e F → (c : ℕ) → u ≤ c → c < e → Opens span c e
holds_opens span u e bare h c l m = absurd (omega arith)
holds_opens span u e (tree i k r) h c l m = go h.0 (ℕ_discrete c u) (dec_lt c (suc i + size k))
    (λ a b. holds_opens span (suc i) (suc i + size k) k h.2 c a b) (λ a. holds_opens span (suc i + size k) e r h.3 c a m)
  where
    go : u ≡ i → Dec (c ≡ u) → Dec (c < suc i + size k) → (suc i ≤ c → c < suc i + size k → Opens span c (suc i + size k))
        → (suc i + size k ≤ c → Opens span c e) → Opens span c e
    go ui (yes q) d f g = rw q (holds_first span u e i k r h).1
    go ui (no q) (no d) f g = g (omega arith)
    go ui (no q) (yes d) f g =
        let o = f (omega arith) d in
        let s = size_holds span (suc i + size k) e r h.3 in
        record { some = o.some; inside = omega (arith, o.inside); held = o.held }

-- every row among those of a tree reaches as far as its span says, and so do all below it
pub holds_reaches : (span : List ℕ) (n : ℕ) (F : Forest ℕ) → Holds span 0 n F → n ≤ most_nodes → (u : ℕ) → u < n → Reaches span u
holds_reaches span n F h few u l =
    let o = holds_opens span 0 n F h u (omega arith) l in
    record {
      within = omega arith;
      inside = omega (arith, o.inside);
      onward = λ c a b. (holds_opens span 0 n F h c (omega arith) (omega (arith, o.inside))).some;
    }

-- ------------------------------------------------------------------ row u is node u in image order
look_beyond : {A : Type 0} (xs : List A) (i : ℕ) → length xs ≤ i → look xs i ≡ none
look_beyond [] i l = refl
look_beyond (x ∷ xs) zero l = absurd (omega arith)
look_beyond (x ∷ xs) (suc i) l = look_beyond xs i (omega arith)

pub length_preorder : {A : Type 0} (F : Forest A) → length (preorder F) ≡ size F
length_preorder bare = refl
length_preorder (tree a k r) = let x = length_preorder k in let y = length_preorder r in omega (arith, length-append (preorder k) (preorder r))

look_holds : {A : Type 0} (f : ℕ → A) (span : List ℕ) (u e : ℕ) (F : Forest ℕ) → Holds span u e F → (j : ℕ) → u + j < e
    → look (preorder (map_t f F)) j ≡ some (f (u + j), map_t f (below span (u + j)))
unfolding map_t
look_holds f span u e bare h j l = absurd (omega arith)
look_holds f span u e (tree i k r) h zero l =
    let z : u + 0 ≡ i = omega (arith, h.0) in let y : u ≡ i = h.0 in rw (z, ← (holds_first span u e i k r h).0, y)
look_holds f span u e (tree i k r) h (suc j) l = go (dec_lt j (size k)) (λ m. look_holds f span (suc i) (suc i + size k) k h.2 j (omega (arith, m)))
    (λ j' m. look_holds f span (suc i + size k) e r h.3 j' m)
  where
    go : Dec (j < size k) → (j < size k → look (preorder (map_t f k)) j ≡ some (f (suc i + j), map_t f (below span (suc i + j))))
        → ((j' : ℕ) → suc i + size k + j' < e → look (preorder (map_t f r)) j' ≡ some (f (suc i + size k + j'), map_t f (below span (suc i + size k + j'))))
        → look (preorder (map_t f k) ++ preorder (map_t f r)) j ≡ some (f (u + suc j), map_t f (below span (u + suc j)))
    go (yes d) x y =
        let z : u + suc j ≡ suc i + j = omega (arith, h.0) in
        let s = length_preorder (map_t f k) in let t = size_map_t f k in
        look_left (preorder (map_t f k)) (preorder (map_t f r)) j (omega arith) ∙ rw z (x d)
    go (no d) x y =
        let z : u + suc j ≡ suc i + size k + (j - size k) = omega (arith, h.0) in
        let s : length (preorder (map_t f k)) ≡ size k = length_preorder (map_t f k) ∙ size_map_t f k in
        let q : j ≡ length (preorder (map_t f k)) + (j - size k) = omega arith in
        ap (look (preorder (map_t f k) ++ preorder (map_t f r))) q ∙ look_right (preorder (map_t f k)) (preorder (map_t f r)) (j - size k) ∙ rw z (y (j - size k) (omega arith))

-- ------------------------------------------------------------------ parents
-- The brothers from row c up to row e, below row p, with all that lies below them. A loop over the children of a row keeps this.
pub record Rest (kids span up : List ℕ) (p c e : ℕ) : Type 0 where
  pub forest : Forest ℕ
  pub held : Holds span c e forest
  pub counted : Counted kids forest
  pub hung : Hung up p forest

-- the first of them: its parent, its own children, and its later brothers
pub record Step (kids span up : List ℕ) (p c e : ℕ) : Type 0 where
  pub parent : get_or up c 0 ≡ p
  pub opens : Opens span c e
  pub count : get_or kids c 0 ≡ width (below span c)
  pub children : Rest kids span up c (suc c) (c + get_or span c 0)
  pub brothers : Rest kids span up p (c + get_or span c 0) e

pub rest_step : (kids span up : List ℕ) (p c e : ℕ) → Rest kids span up p c e → c < e → Step kids span up p c e
rest_step kids span up p c e R l = go R.forest R.held R.counted R.hung
  where
    go : (F : Forest ℕ) → Holds span c e F → Counted kids F → Hung up p F → Step kids span up p c e
    go bare h n u = absurd (omega arith)
    go (tree i k r) h n u =
        let z = holds_first span c e i k r h in
        let y : c ≡ i = h.0 in
        record {
          parent = rw y u.0;
          opens = z.1;
          count = rw (y, ← y, z.0) (rw y n.0);
          children = record { forest = k; held = rw z.0 at z.1.held; counted = n.1; hung = rw y u.1 };
          brothers = record { forest = r; held = z.2; counted = n.2; hung = u.2 };
        }

-- row v stands before row c, and all of row c's part lies in row v's
abbrev pub Within : List ℕ → ℕ → ℕ → Type 0
Within span c v = (v < c) × (c + get_or span c 0 ≤ v + get_or span v 0)

-- row c among the rows from u up to e, whose brothers lie below row p: its parent stands before it and reaches as far, its children are counted
pub record Placed (kids span up : List ℕ) (p u e c : ℕ) : Type 0 where
  pub parent : (get_or up c 0 ≡ p) ⊎ ((u ≤ get_or up c 0) × Within span c (get_or up c 0))
  pub opens : Opens span c e
  pub count : get_or kids c 0 ≡ width (below span c)
  pub children : Rest kids span up c (suc c) (c + get_or span c 0)

rest_placed : (kids span up : List ℕ) (p u e : ℕ) (F : Forest ℕ) → Holds span u e F → Counted kids F → Hung up p F → (c : ℕ) → u ≤ c → c < e
    → Placed kids span up p u e c
rest_placed kids span up p u e bare h n g c l m = absurd (omega arith)
rest_placed kids span up p u e (tree i k r) h n g c l m = go h.0 (ℕ_discrete c u) (dec_lt c (suc i + size k))
    (λ a b. rest_placed kids span up i (suc i) (suc i + size k) k h.2 n.1 g.1 c a b)
    (λ a. rest_placed kids span up p (suc i + size k) e r h.3 n.2 g.2 c a m)
  where
    go : u ≡ i → Dec (c ≡ u) → Dec (c < suc i + size k) → (suc i ≤ c → c < suc i + size k → Placed kids span up i (suc i) (suc i + size k) c)
        → (suc i + size k ≤ c → Placed kids span up p (suc i + size k) e c) → Placed kids span up p u e c
    go ui (yes q) d f b =
        let s = rest_step kids span up p u e (record { forest = tree i k r; held = h; counted = n; hung = g }) (omega arith) in
        rw q (record { parent = inl s.parent; opens = s.opens; count = s.count; children = s.children })
    go ui (no q) (yes d) f b =
        let o = f (omega arith) d in
        let s = size_holds span (suc i + size k) e r h.3 in
        record {
          parent = below_i (get_or up c 0) o.parent o.opens.inside;
          opens = record { some = o.opens.some; inside = omega (arith, o.opens.inside); held = o.opens.held };
          count = o.count;
          children = o.children;
        }
      where
        below_i : (v : ℕ) → (v ≡ i) ⊎ ((suc i ≤ v) × Within span c v) → c + get_or span c 0 ≤ suc i + size k → (v ≡ p) ⊎ ((u ≤ v) × Within span c v)
        below_i v (inl a) x = let y : get_or span v 0 ≡ suc (size k) = rw a h.1 in inr (omega arith, (omega arith, omega arith))
        below_i v (inr (a, w)) x = inr (omega arith, w)
    go ui (no q) (no d) f b =
        let o = b (omega arith) in
        record { parent = behind_i (get_or up c 0) o.parent; opens = o.opens; count = o.count; children = o.children }
      where
        behind_i : (v : ℕ) → (v ≡ p) ⊎ ((suc i + size k ≤ v) × Within span c v) → (v ≡ p) ⊎ ((u ≤ v) × Within span c v)
        behind_i v (inl a) = inl a
        behind_i v (inr (a, w)) = inr (omega arith, w)

-- ------------------------------------------------------------------ rows that are laid out as the tree that is read from them
module _ (span : List ℕ) (n : ℕ) (laid : Holds span 0 n (shape span n)) where
  -- row u: it takes at least one row, its part ends with the rows, and below it its part is laid out too
  pub row_opens : (u : ℕ) → u < n → Opens span u n
  row_opens u l = holds_opens span 0 n (shape span n) laid u (omega arith) l

  pub size_rows : (code mark : List ℕ) → size (tree_rows code mark span n) ≡ n
  unfolding tree_rows
  size_rows code mark = let z = size_holds span 0 n (shape span n) laid in size_map_t (tag_at code mark) (shape span n) ∙ omega arith

  -- row u is node u in image order, with what lies below it
  pub row_node : (code mark : List ℕ) (u : ℕ) → u < n → look (preorder (tree_rows code mark span n)) u ≡ some (tag_at code mark u, map_t (tag_at code mark) (below span u))
  unfolding tree_rows
  row_node code mark u l =
      let z : 0 + u ≡ u = omega arith in rw z at (look_holds (tag_at code mark) span 0 n (shape span n) laid u (omega arith))

  pub row_beyond : (code mark : List ℕ) (u : ℕ) → n ≤ u → look (preorder (tree_rows code mark span n)) u ≡ none
  row_beyond code mark u l =
      let z = length_preorder (tree_rows code mark span n) in let y = size_rows code mark in look_beyond (preorder (tree_rows code mark span n)) u (omega arith)

-- ------------------------------------------------------------------ rows that are a tree
module _ (code mark kids span up : List ℕ) (n : ℕ) (R : Rows code mark kids span up n) where
  whole : Rest kids span up no_row 0 n
  whole = record { forest = shape span n; held = R.laid; counted = R.counted; hung = R.hung }

  -- the top is row 0: it takes all rows, has no brother and no parent
  pub record Top : Type 0 where
    pub span_all : get_or span 0 0 ≡ n
    pub up_none : get_or up 0 0 ≡ no_row
    pub shape_is : shape span n ≡ tree 0 (below span 0) bare
    pub tree_is : tree_rows code mark span n ≡ tree (tag_at code mark 0) (map_t (tag_at code mark) (below span 0)) bare

  pub rows_top : 0 < n → Top
  unfolding tree_rows map_t
  rows_top l = go (shape span n) refl R.laid R.single
    where
      go : (F : Forest ℕ) → shape span n ≡ F → Holds span 0 n F → width F ≤ 1 → Top
      go bare e h w = absurd (omega arith)
      go (tree i k (tree j k' r)) e h w = absurd (omega arith)
      go (tree i k bare) e h w =
          let z = holds_first span 0 n i k bare h in
          let s : shape span n ≡ tree 0 (below span 0) bare = e ∙ rw (z.0, h.0) in
          record {
            span_all = let y = z.2 in omega arith;
            up_none = (rest_step kids span up no_row 0 n whole l).parent;
            shape_is = s;
            tree_is = ap (map_t (tag_at code mark)) s;
          }

  -- every row: its number of children, and its children as a run of brothers
  pub row_kids : (u : ℕ) → u < n → (get_or kids u 0 ≡ width (below span u)) × Rest kids span up u (suc u) (u + get_or span u 0)
  row_kids u l = let o = rest_placed kids span up no_row 0 n (shape span n) R.laid R.counted R.hung u (omega arith) l in (o.count, o.children)

  -- every row below the top stands behind its parent and ends with it or before
  pub row_up : (c : ℕ) → 0 < c → c < n → Within span c (get_or up c 0)
  row_up c l m =
      let e = (rows_top (omega arith)).span_all in
      let q = (row_kids 0 (omega arith)).1 in
      let o = rest_placed kids span up 0 1 (0 + get_or span 0 0) q.forest q.held q.counted q.hung c l (omega arith) in
      go (get_or up c 0) e o.opens.inside o.parent
    where
      go : (v : ℕ) → get_or span 0 0 ≡ n → c + get_or span c 0 ≤ 0 + get_or span 0 0 → (v ≡ 0) ⊎ ((1 ≤ v) × Within span c v) → Within span c v
      go v e i (inl a) = let y : get_or span v 0 ≡ n = rw a e in (omega arith, omega arith)
      go v e i (inr (a, w)) = w

module _ {code mark kids span up : List ℕ} {n : ℕ} (R : Rows code mark kids span up n) where
  -- a row at or below row c ends with it or before
  pub row_inside : (c t : ℕ) → c < n → c ≤ t → t < c + get_or span c 0 → t + get_or span t 0 ≤ c + get_or span c 0
  row_inside c t l a b = go (ℕ_discrete c t)
    where
      go : Dec (c ≡ t) → t + get_or span t 0 ≤ c + get_or span c 0
      go (yes q) = rw q (omega arith)
      go (no q) = (holds_opens span (suc c) (c + get_or span c 0) (below span c) (row_opens span n R.laid c l).held t (omega arith) b).inside

  -- a row above row c, and not c itself, is at or above c's parent
  pub row_least : (v c : ℕ) → v < n → v < c → c < v + get_or span v 0 → v ≤ get_or up c 0
  row_least v c b l m =
      let K = (row_kids code mark kids span up n R v b).1 in
      go (rest_placed kids span up v (suc v) (v + get_or span v 0) K.forest K.held K.counted K.hung c l m).parent
    where
      go : (get_or up c 0 ≡ v) ⊎ ((suc v ≤ get_or up c 0) × Within span c (get_or up c 0)) → v ≤ get_or up c 0
      go (inl a) = omega arith
      go (inr (a, w)) = omega arith
