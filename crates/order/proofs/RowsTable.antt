-- Rows in image order are a table of parents themselves, and its tree is the rows' tree: rows from which something was taken out can be put in order
-- again by the same call.
use mathlib.Core.Path.{◌≡◌, refl, sym, ap, ◌∙◌}
use mathlib.Core.Logic.{◌⊎◌, inl, inr}
use mathlib.Core.List.{List, [], ◌∷◌, ◌++◌, append-nil}
use mathlib.Core.Bool.{Bool, true, false, cond}
use Prim.Native.Nat.{ℕ, zero, suc, ◌+◌, ◌<◌, ◌≤◌}
use native.Mathlib.Omega.{arith}
use native.Mathlib.Decide.{ℕ_discrete, dec_lt}
use lib.ListN.{get_or}
use lib.Dec.{eqb}
use borrow.Author.Tests.{eq-eqb, ne_eqb}
use Rattle.meaning.specs.Tree.{Forest, bare, tree, size, plant}
use Rattle.rows.specs.Rows.{tag_at, below, shape, map_t, tree_rows, Holds, Hung, no_row, Rows}
use Rattle.rows.proofs.Rows.{size_holds, holds_first, row_opens, rows_top, row_up}
use Rattle.rows.specs.Table.{children_of, grown, table_shape, table_tree, TreeTable, ParentsFirst}

-- ------------------------------------------------------------------ children in rows
-- the first nodes of the trees of a forest
abbrev tops : Forest ℕ → List ℕ
tops bare = []
tops (tree i k r) = i ∷ tops r

children_append : (p : ℕ) (up : List ℕ) (a b j : ℕ) → children_of p up (a + b) j ≡ children_of p up a j ++ children_of p up b (j + a)
unfolding children_of
children_append p up zero b j = let z : 0 + b ≡ b = omega arith in let y : j + 0 ≡ j = omega arith in rw (z, y)
children_append p up (suc a) b j =
    let z : suc a + b ≡ suc (a + b) = omega arith in
    let y : j + suc a ≡ suc j + a = omega arith in
    rw (z, y, children_append p up a b (suc j)) (go (eqb (get_or up j 0) p))
  where
    go : (t : Bool) → cond t (j ∷ (children_of p up a (suc j) ++ children_of p up b (suc j + a))) (children_of p up a (suc j) ++ children_of p up b (suc j + a))
        ≡ cond t (j ∷ children_of p up a (suc j)) (children_of p up a (suc j)) ++ children_of p up b (suc j + a)
    go true = refl
    go false = refl

-- p is none of the rows from u up to e
abbrev Out : ℕ → ℕ → ℕ → Type 0
Out u e p = (p < u) ⊎ (e ≤ p)

module _ (span up : List ℕ) where
  -- a first brother, whose parent is q, with all below it and its later brothers: who is out of all is out of each
  module _ (u e i : ℕ) (k r : Forest ℕ) (h : Holds span u e (tree i k r)) where
    out_first : (p : ℕ) → Out u e p → i ≡ p → ⊥
    out_first p (inl x) y = omega (arith, h.0)
    out_first p (inr x) y = omega (arith, size_holds span (suc i + size k) e r h.3)

    out_kids : (p : ℕ) → Out u e p → Out (suc i) (suc i + size k) p
    out_kids p (inl x) = inl (omega (arith, h.0))
    out_kids p (inr x) = inr (omega (arith, size_holds span (suc i + size k) e r h.3))

    out_rest : (p : ℕ) → Out u e p → Out (suc i + size k) e p
    out_rest p (inl x) = inl (omega (arith, h.0))
    out_rest p (inr x) = inr x

    children_tree : (p q : ℕ) → get_or up i 0 ≡ q → (t : Bool) → eqb q p ≡ t → (xs ys : List ℕ)
        → children_of p up (size k) (suc i) ≡ xs → children_of p up (size r) (suc i + size k) ≡ ys
        → children_of p up (suc (size k + size r)) u ≡ cond t (i ∷ (xs ++ ys)) (xs ++ ys)
    unfolding children_of
    children_tree p q g t x xs ys ex ey =
        let z : eqb (get_or up u 0) p ≡ t = rw (h.0, g) x in
        rw (z, children_append p up (size k) (size r) (suc u), h.0, ex, ey)

  -- no row's parent is p
  children_none : (p q u e : ℕ) (F : Forest ℕ) → Holds span u e F → Hung up q F → (q ≡ p → ⊥) → Out u e p → children_of p up (size F) u ≡ []
  children_none p q u e bare h g d o = unfold children_of in refl
  children_none p q u e (tree i k r) h g d o =
      children_tree u e i k r h p q g.0 false (ne_eqb q p d) [] []
      (children_none p i (suc i) (suc i + size k) k h.2 g.1 (out_first u e i k r h p o) (out_kids u e i k r h p o))
      (children_none p q (suc i + size k) e r h.3 g.2 d (out_rest u e i k r h p o))

  -- the children of p are brothers
  children_tops : (p u e : ℕ) (F : Forest ℕ) → Holds span u e F → Hung up p F → Out u e p → children_of p up (size F) u ≡ tops F
  children_tops p u e bare h g o = unfold children_of in refl
  children_tops p u e (tree i k r) h g o =
      children_tree u e i k r h p p g.0 true (eq-eqb p p refl) [] (tops r)
      (children_none p i (suc i) (suc i + size k) k h.2 g.1 (out_first u e i k r h p o) (out_kids u e i k r h p o))
      (children_tops p (suc i + size k) e r h.3 g.2 (out_rest u e i k r h p o))

  -- the children of a row lie directly below it
  children_below : (p q u e : ℕ) (F : Forest ℕ) → Holds span u e F → Hung up q F → Out u e q → u ≤ p → p < e → children_of p up (size F) u ≡ tops (below span p)
  children_below p q u e bare h g o l m = absurd (omega arith)
  children_below p q u e (tree i k r) h g o l m =
      go (ℕ_discrete p i) (dec_lt p (suc i + size k)) (λ x y. children_below p i (suc i) (suc i + size k) k h.2 g.1 (inl (omega arith)) x y)
      (λ x. children_below p q (suc i + size k) e r h.3 g.2 (out_rest u e i k r h q o) x m)
    where
      q_p : Out u e q → q ≡ p → ⊥
      q_p (inl x) y = omega arith
      q_p (inr x) y = omega arith

      go : Dec (p ≡ i) → Dec (p < suc i + size k) → (suc i ≤ p → p < suc i + size k → children_of p up (size k) (suc i) ≡ tops (below span p))
          → (suc i + size k ≤ p → children_of p up (size r) (suc i + size k) ≡ tops (below span p)) → children_of p up (suc (size k + size r)) u ≡ tops (below span p)
      go (yes a) d f b =
          children_tree u e i k r h p q g.0 false (ne_eqb q p (q_p o)) (tops k) []
          (rw a (children_tops i (suc i) (suc i + size k) k h.2 g.1 (inl (omega arith))))
          (children_none p q (suc i + size k) e r h.3 g.2 (q_p o) (inl (omega arith)))
          ∙ append-nil (tops k) ∙ rw (a, ← h.0, (holds_first span u e i k r h).0)
      go (no a) (yes d) f b =
          children_tree u e i k r h p q g.0 false (ne_eqb q p (q_p o)) (tops (below span p)) []
          (f (omega (arith, h.0)) d)
          (children_none p q (suc i + size k) e r h.3 g.2 (q_p o) (inl d))
          ∙ append-nil (tops (below span p))
      go (no a) (no d) f b =
          children_tree u e i k r h p q g.0 false (ne_eqb q p (q_p o)) [] (tops (below span p))
          (children_none p i (suc i) (suc i + size k) k h.2 g.1 (λ x. a (sym x)) (inr (omega arith)))
          (b (omega arith))

  -- what is planted over brothers is what the rows hold
  plant_tops : (u e : ℕ) (F : Forest ℕ) (f : ℕ → Forest ℕ) → Holds span u e F → ((c : ℕ) → u ≤ c → c < e → f c ≡ below span c) → plant (λ j. j) f (tops F) ≡ F
  plant_tops u e bare f h g = refl
  plant_tops u e (tree i k r) f h g =
      let s = size_holds span (suc i + size k) e r h.3 in
      let a : f i ≡ k = g i (omega (arith, h.0)) (omega arith) ∙ rw (← h.0, (holds_first span u e i k r h).0) in
      let b = plant_tops (suc i + size k) e r f h.3 (λ c l m. g c (omega (arith, h.0)) m) in
      λ v. tree i (a v) (b v)

-- ------------------------------------------------------------------ rows as a table
module _ (code mark kids span up : List ℕ) (n : ℕ) (R : Rows code mark kids span up n) where
  all_children_below : (p : ℕ) → p < n → children_of p up n 0 ≡ tops (below span p)
  all_children_below p l =
      let z = size_holds span 0 n (shape span n) R.laid in
      let y : size (shape span n) ≡ n = omega arith in
      rw y at (children_below span up p no_row 0 n (shape span n) R.laid R.hung (inr (omega (arith, R.few))) (omega arith) l)

  grown_below : (m p : ℕ) → p < n → n ≤ p + m → grown m up n p ≡ below span p
  unfolding grown
  grown_below zero p l h = absurd (omega arith)
  grown_below (suc m) p l h =
      let o = row_opens span n R.laid p l in
      ap (plant (λ j. j) (grown m up n)) (all_children_below p l)
      ∙ plant_tops span up (suc p) (p + get_or span p 0) (below span p) (grown m up n) o.held (λ c a b. grown_below m c (omega (arith, o.inside)) (omega arith))

  -- the table's tree is the rows' tree
  pub rows_tree : table_tree up code mark n ≡ tree_rows code mark span n
  unfolding table_tree table_shape grown tree_rows
  rows_tree =
      let z = size_holds span 0 n (shape span n) R.laid in
      let y : size (shape span n) ≡ n = omega arith in
      let a : children_of no_row up n 0 ≡ tops (shape span n) = rw y at (children_tops span up no_row 0 n (shape span n) R.laid R.hung (inr (omega (arith, R.few)))) in
      ap (map_t (tag_at code mark)) (ap (plant (λ j. j) (grown n up n)) a
      ∙ plant_tops span up 0 n (shape span n) (grown n up n) R.laid (λ c l m. grown_below n c m (omega arith)))

  -- ---------------------------------------------------------------- levels
  -- how many rows lie above row c, at most m
  abbrev depth : ℕ → ℕ → ℕ
  depth zero c = 0
  depth (suc m) c = cond (eqb c 0) 0 (suc (depth m (get_or up c 0)))

  depth_zero : (m : ℕ) → depth m 0 ≡ 0
  depth_zero zero = refl
  depth_zero (suc m) = refl

  depth_enough : (m j c : ℕ) → c < n → c ≤ m → c ≤ j → depth m c ≡ depth j c
  depth_enough zero j c l a b = let z : c ≡ 0 = omega arith in rw z (sym (depth_zero j))
  depth_enough (suc m) zero c l a b = let z : c ≡ 0 = omega arith in rw z refl
  depth_enough (suc m) (suc j) c l a b = go (ℕ_discrete c 0) (λ q. let u = row_up code mark kids span up n R c q l in depth_enough m j (get_or up c 0) (omega (arith, u.0)) (omega (arith, u.0)) (omega (arith, u.0)))
    where
      go : Dec (c ≡ 0) → (0 < c → depth m (get_or up c 0) ≡ depth j (get_or up c 0)) → cond (eqb c 0) 0 (suc (depth m (get_or up c 0))) ≡ cond (eqb c 0) 0 (suc (depth j (get_or up c 0)))
      go (yes q) ih = rw (eq-eqb c 0 q)
      go (no q) ih = rw (ne_eqb c 0 q, ih (omega arith))

  -- every row below the top has its parent before it
  up_row : (c : ℕ) → c < n → (get_or up c 0 ≡ no_row → ⊥) → 0 < c
  up_row c l d = go (ℕ_discrete c 0)
    where
      go : Dec (c ≡ 0) → 0 < c
      go (yes q) = absurd (d (rw q (rows_top code mark kids span up n R (omega arith)).up_none))
      go (no q) = omega arith

  top_row : (c : ℕ) → c < n → get_or up c 0 ≡ no_row → c ≡ 0
  top_row c l e = go (ℕ_discrete c 0)
    where
      go : Dec (c ≡ 0) → c ≡ 0
      go (yes q) = q
      go (no q) = absurd (omega (arith, (row_up code mark kids span up n R c (omega arith) l).0, R.few))

  pub rows_table : TreeTable up code mark n
  rows_table = record {
    few = R.few;
    parents = R.ups;
    codes = R.codes;
    marks = R.marks;
    labels = R.labels;
    marked = R.marked;
    level = depth n;
    linked = λ c l d. let u = row_up code mark kids span up n R c (up_row c l d) l in (omega (arith, u.0), deeper c l (up_row c l d) u.0);
    top = 0;
    top_level = depth_zero n;
    single = top_row;
  }
    where
      deeper : (c : ℕ) → c < n → 0 < c → get_or up c 0 < c → depth n c ≡ suc (depth n (get_or up c 0))
      deeper c l p u = depth_enough n (suc n) c l (omega arith) (omega arith) ∙ rw (ne_eqb c 0 (λ e. omega arith))

  pub rows_first : ParentsFirst up n
  rows_first = record { top_first = λ l. (rows_top code mark kids span up n R l).up_none; lower = λ c p l. (row_up code mark kids span up n R c p l).0 }
