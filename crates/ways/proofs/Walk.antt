-- Walking the ways row by row: the child that holds the row at a way's end, and what each way is one row further.
use mathlib.Core.Path.{◌≡◌, refl, sym, ap, ◌∙◌}
use mathlib.Core.Logic.{◌⊎◌, inl, inr}
use mathlib.Core.Bool.{Bool, true, false, ◌&&◌, ◌||◌, cond}
use mathlib.Core.List.{List, [], ◌∷◌, ◌++◌, append_assoc}
use Prim.Native.Nat.{ℕ, suc, ◌+◌, ◌≤◌, ◌<◌}
use native.Mathlib.Decide.{ℕ_discrete, dec_lt}
use native.Mathlib.Omega.{arith}
use lib.ListN.{get_or}
use lib.Dec.{leb, ltb, eqb}
use borrow.Author.Tests.{leb-true, ltb-true, eq-eqb, ne_eqb}
use Rattle.meaning.specs.Expression.{Expr, child, parent}
use Rattle.meaning.specs.Tree.{Forest, bare, tree, Tag, size}
use Rattle.meaning.specs.Normal.{labelled, branch, onward, chains, in_tree, src_in, dst_in, either_in, off, ups, downs}
use Rattle.theory.proofs.Look.{never}
use Rattle.rows.specs.Rows.{lab_of, covers, below, shape, map_t, Holds, Hung, no_row, Rows}
use Rattle.rows.proofs.Rows.{size_holds, holds_first, Opens, row_opens, rows_top}
use Rattle.branches.specs.Factors.{tagged, under, label_at, branches_at, own_at}
use Rattle.branches.proofs.Covers.{in_covers, src_covers, dst_covers, either_covers, covers_in, covers_before, covers_behind}
use Rattle.branches.proofs.Chains.{labelled_append, chains_same}
use Rattle.ways.specs.Ways.{Covers, Among, ups_at, downs_at, way_to, way_at}

-- ------------------------------------------------------------------ who covers whom
pub covers_true : (span : List ℕ) (c x : ℕ) → covers span c x ≡ true → Covers span c x
unfolding covers
covers_true span c x = go (leb c x) refl (ltb x (c + get_or span c 0)) refl
  where
    go : (a : Bool) → leb c x ≡ a → (b : Bool) → ltb x (c + get_or span c 0) ≡ b → (a && b) ≡ true → Covers span c x
    go true p true q e = record { from = leb-true c x p; to = ltb-true x (c + get_or span c 0) q }
    go true p false q e = never cc
    go false p b q e = never cc

-- ------------------------------------------------------------------ children
pub among_from : (span : List ℕ) (u e : ℕ) (F : Forest ℕ) → Holds span u e F → (c : ℕ) → Among c F → u ≤ c
among_from span u e bare h c a = absurd a
among_from span u e (tree i k r) h c (inl q) = omega (arith, h.0)
among_from span u e (tree i k r) h c (inr a) = omega (arith, h.0, among_from span (suc i + size k) e r h.3 c a)

-- among rows from u up to e, whose brothers lie below row p: a row is one of the brothers, or a child of one of these rows
among_up : (span up : List ℕ) (p u e : ℕ) (F : Forest ℕ) → Holds span u e F → Hung up p F → (c : ℕ) → u ≤ c → c < e
    → ((get_or up c 0 ≡ p) × Among c F) ⊎ ((u ≤ get_or up c 0) × Among c (below span (get_or up c 0)))
among_up span up p u e bare h g c l m = absurd (omega arith)
among_up span up p u e (tree i k r) h g c l m = go (ℕ_discrete c i) (dec_lt c (suc i + size k))
    (λ a b. among_up span up i (suc i) (suc i + size k) k h.2 g.1 c a b) (λ a. among_up span up p (suc i + size k) e r h.3 g.2 c a m)
  where
    Up : ℕ → ℕ → Forest ℕ → Type 0
    Up q v G = ((get_or up c 0 ≡ q) × Among c G) ⊎ ((v ≤ get_or up c 0) × Among c (below span (get_or up c 0)))

    in_k : Up i (suc i) k → Up p u (tree i k r)
    in_k (inl (q, a)) =
        let z = (holds_first span u e i k r h).0 in
        let y : u ≡ i = h.0 in
        inr (omega arith, rw (q, ← y, z) a)
    in_k (inr (q, a)) = inr (omega (arith, h.0), a)

    in_r : Up p (suc i + size k) r → Up p u (tree i k r)
    in_r (inl (q, a)) = inl (q, inr a)
    in_r (inr (q, a)) = inr (omega (arith, h.0), a)

    go : Dec (c ≡ i) → Dec (c < suc i + size k) → (suc i ≤ c → c < suc i + size k → Up i (suc i) k)
        → (suc i + size k ≤ c → Up p (suc i + size k) r) → Up p u (tree i k r)
    go (yes q) d f b = inl (rw q g.0, inl q)
    go (no q) (yes d) f b = in_k (f (omega (arith, h.0)) d)
    go (no q) (no d) f b = in_r (b (omega arith))

-- what follows a node's own factors stands behind them
off_append : (p : Tag → Forest Tag → Bool) (k : Forest Tag) (l : List Expr) → off p k l ≡ off p k [] ++ l
off_append p bare l = refl
off_append p (tree b j r) l = go (p b j) (off_append p r l)
  where
    E : Expr
    E = branch (child ∷ labelled b.lab (onward (chains j)))

    go : (x : Bool) → off p r l ≡ off p r [] ++ l → cond x (off p r l) (E ∷ off p r l) ≡ cond x (off p r []) (E ∷ off p r []) ++ l
    go true ih = ih
    go false ih = ap (λ (z : List Expr). E ∷ z) ih

-- ------------------------------------------------------------------ walking a way
-- W are the factors of the way to the one row that is so, row x
module _ (q : Tag → Bool) (W : Forest Tag → List Expr) (next : Tag → Forest Tag → List Expr)
    (way-tree : (b : Tag) (j r : Forest Tag) → W (tree b j r) ≡ cond (in_tree q b j) (next b j) (W r))
    (f : ℕ → Tag) (x : ℕ) (only : (i : ℕ) → q (f i) ≡ eqb i x) (span : List ℕ) where
  skips : (b : Bool) (u e i : ℕ) (k r : Forest ℕ) → Holds span u e (tree i k r) → covers span u x ≡ b
      → W (map_t f (tree i k r)) ≡ cond b (next (f u) (map_t f (below span u))) (W (map_t f r))
  unfolding map_t
  skips b u e i k r h t =
      let z = holds_first span u e i k r h in
      rw (← h.0, ← z.0, way-tree (f u) (map_t f (below span u)) (map_t f r), in_covers q f x only span u e z.1, t)

  -- from a row on to its child that holds x
  pub walk_among : (u e : ℕ) (F : Forest ℕ) → Holds span u e F → (c : ℕ) → Among c F → Covers span c x
      → W (map_t f F) ≡ next (f c) (map_t f (below span c))
  walk_among u e bare h c a v = absurd a
  walk_among u e (tree i k r) h c (inl y) v =
      let y' : u ≡ c = h.0 ∙ sym y in
      skips true u e i k r h (rw y' (covers_in span c x v.from v.to)) ∙ ap (λ (w : ℕ). next (f w) (map_t f (below span w))) y'
  walk_among u e (tree i k r) h c (inr a) v =
      let z = (holds_first span u e i k r h).2 in
      let l = among_from span (u + get_or span u 0) e r z c a in
      let m = v.from in
      skips false u e i k r h (covers_behind span u x (omega arith)) ∙ walk_among (u + get_or span u 0) e r z c a v

  -- x is above them
  pub walk_none : (u e : ℕ) (F : Forest ℕ) → Holds span u e F → x < u → W (map_t f F) ≡ W bare
  unfolding map_t
  walk_none u e bare h l = refl
  walk_none u e (tree i k r) h l =
      let z = (holds_first span u e i k r h).2 in
      skips false u e i k r h (covers_before span u x l) ∙ walk_none (u + get_or span u 0) e r z (omega arith)

-- ------------------------------------------------------------------ rows that are a tree
pub or_same : (b : Bool) → b ≡ (b || b)
or_same true = refl
or_same false = refl

module _ {code mark kids span up : List ℕ} {n : ℕ} (R : Rows code mark kids span up n) where
  pub row_open : (u : ℕ) → u < n → Opens span u n
  row_open u l = row_opens span n R.laid u l

  -- every row below the top is a child of its parent
  pub up_among : (c : ℕ) → 0 < c → c < n → Among c (below span (get_or up c 0))
  up_among c l m = go (among_up span up no_row 0 n (shape span n) R.laid R.hung c (omega arith) m)
    where
      top : Among c (tree 0 (below span 0) bare) → Among c (below span (get_or up c 0))
      top (inl q) = absurd (omega arith)
      top (inr a) = absurd a

      go : ((get_or up c 0 ≡ no_row) × Among c (shape span n)) ⊎ ((0 ≤ get_or up c 0) × Among c (below span (get_or up c 0)))
          → Among c (below span (get_or up c 0))
      go (inl (q, a)) = top (rw (rows_top code mark kids span up n R (omega arith)).shape_is at a)
      go (inr (q, a)) = a

  -- ------------------------------------------------------------------ a node's own factors, by any way of telling who is on the way
  module _ (p : Tag → Forest Tag → Bool) (s d x y : ℕ)
      (same : (c : ℕ) → c < n → p (tagged code s d c) (under code span s d c) ≡ (covers span c x || covers span c y)) where
    off_same : (u e : ℕ) (F : Forest ℕ) → Holds span u e F → e ≤ n → off p (map_t (tagged code s d) F) [] ≡ off either_in (map_t (tagged code x y) F) []
    unfolding map_t under
    off_same u e bare h l = refl
    off_same u e (tree i k r) h l =
        let z = holds_first span u e i k r h in
        let w = size_holds span u e (tree i k r) h in
        rw (
          ← h.0,
          ← z.0,
          same u (omega arith),
          either_covers code span x y u e z.1,
          chains_same (tagged code s d) (tagged code x y) (λ j. refl) (below span u),
          off_same (u + get_or span u 0) e r z.2 l,
        )

    pub own_is : (c : ℕ) → c < n → (l : List Expr) → labelled (lab_of (get_or code c 0)) (off p (under code span s d c) l) ≡ own_at code span x y c ++ l
    unfolding under own_at label_at branches_at
    own_is c m l =
        let o = row_open c m in
        rw (
          off_append p (map_t (tagged code s d) (below span c)) l,
          off_same (suc c) (c + get_or span c 0) (below span c) o.held o.inside,
          labelled_append (lab_of (get_or code c 0)) (off either_in (map_t (tagged code x y) (below span c)) [] ++ l),
        )
        (sym (append_assoc (labelled (lab_of (get_or code c 0)) []) (off either_in (map_t (tagged code x y) (below span c)) []) l))

  pub src_same : (s d c : ℕ) → c < n → src_in (tagged code s d c) (under code span s d c) ≡ (covers span c s || covers span c s)
  src_same s d c l = src_covers code span s d c n (row_open c l) ∙ or_same (covers span c s)

  pub dst_same : (s d c : ℕ) → c < n → dst_in (tagged code s d c) (under code span s d c) ≡ (covers span c d || covers span c d)
  dst_same s d c l = dst_covers code span s d c n (row_open c l) ∙ or_same (covers span c d)

  -- ------------------------------------------------------------------ the three ways
  module _ (x c : ℕ) (lx : x < n) (lc : c < n) (a : Among c (below span x)) where
    pub ups_step : (s : ℕ) → Covers span c s → ups_at code span s x ≡ ups_at code span s c ++ (own_at code span s s c ++ (parent ∷ []))
    unfolding ups_at under
    ups_step s v =
        walk_among (λ t. t.src) ups (λ b j. ups j ++ labelled b.lab (off src_in j (parent ∷ []))) (λ b j r. refl) (tagged code s s) s
        (λ i. refl) span
        (suc x) (x + get_or span x 0) (below span x) (row_open x lx).held c a v
        ∙ ap (λ (l : List Expr). ups (under code span s s c) ++ l) (own_is src_in s s s s (src_same s s) c lc (parent ∷ []))

    pub downs_step : (d : ℕ) → Covers span c d → downs_at code span d x ≡ (child ∷ []) ++ (own_at code span d d c ++ downs_at code span d c)
    unfolding downs_at under
    downs_step d v =
        walk_among (λ t. t.dst) downs (λ b j. child ∷ labelled b.lab (off dst_in j (downs j))) (λ b j r. refl) (tagged code d d) d (λ i. refl) span
        (suc x) (x + get_or span x 0) (below span x) (row_open x lx).held c a v
        ∙ ap (λ (l : List Expr). child ∷ l) (own_is dst_in d d d d (dst_same d d) c lc (downs (under code span d d c)))

    pub way_step : (t : ℕ) → Covers span c t → (x ≡ t → ⊥) → way_at code span t x ≡ own_at code span t t x ++ ((child ∷ []) ++ way_at code span t c)
    unfolding way_at way_to under
    way_step t v z =
        rw (ne_eqb x t z) (ap (λ (l : List Expr). own_at code span t t x ++ (child ∷ l))
        (walk_among (λ t. t.dst) way_to (λ b j. cond b.dst [] (labelled b.lab (off dst_in j (child ∷ way_to j)))) (λ b j r. refl)
        (tagged code t t) t (λ i. refl) span
        (suc x) (x + get_or span x 0) (below span x) (row_open x lx).held c a v
        ∙ ap (cond (eqb c t) []) (own_is dst_in t t t t (dst_same t t) c lc (child ∷ way_to (under code span t t c)))))

  pub ups_end : (s : ℕ) → s < n → ups_at code span s s ≡ []
  unfolding ups_at under
  ups_end s l =
      walk_none (λ t. t.src) ups (λ b j. ups j ++ labelled b.lab (off src_in j (parent ∷ []))) (λ b j r. refl) (tagged code s s) s (λ i. refl) span
      (suc s) (s + get_or span s 0) (below span s) (row_open s l).held (omega arith)

  pub downs_end : (d : ℕ) → d < n → downs_at code span d d ≡ []
  unfolding downs_at under
  downs_end d l =
      walk_none (λ t. t.dst) downs (λ b j. child ∷ labelled b.lab (off dst_in j (downs j))) (λ b j r. refl) (tagged code d d) d (λ i. refl) span
      (suc d) (d + get_or span d 0) (below span d) (row_open d l).held (omega arith)

  pub way_end : (t : ℕ) → way_at code span t t ≡ []
  unfolding way_at
  way_end t = rw (eq-eqb t t refl)
