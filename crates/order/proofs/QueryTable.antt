-- The tree of a table of parents is the tree of the tree query whose rows the table has, a tree query's table fulfils what `TreeTable` asks, and a table
-- that does so is a tree query's: its tree has a node for each row, and one top.
use mathlib.Core.Path.{◌≡◌, refl, sym, ap, ◌∙◌}
use mathlib.Core.Option.{Option, none, some}
use mathlib.Core.List.{List, [], ◌∷◌}
use mathlib.Core.Bool.{Bool, true, false, cond}
use Prim.Native.Nat.{ℕ, zero, suc, ◌+◌, ◌<◌, ◌≤◌}
use native.Mathlib.Omega.{arith}
use native.Mathlib.Decide.{ℕ_discrete}
use lib.ListN.{length, get_or}
use lib.Dec.{eqb}
use borrow.Author.Tests.{eqb-true, eq-eqb, ne_eqb}
use Rattle.meaning.specs.Basics.{is, look}
use Rattle.meaning.specs.Limits.{most_nodes}
use Rattle.meaning.specs.Number.{largest_label}
use Rattle.meaning.specs.TreeQuery.{Lab, Row, node, at, Query, Tree, TreeQuery}
use Rattle.meaning.specs.Tree.{tree, Tag, size, same_link, choose, kids_from, lab_row, tag_of, plant, grow, tree_of}
use Rattle.meaning.specs.Image.{mark_code}
use Rattle.theory.proofs.Look.{never}
use Rattle.theory.proofs.Levels.{level_bound}
use Rattle.theory.proofs.Weigh.{size_tree}
use Rattle.theory.proofs.Children.{one_top}
use Rattle.bits.specs.Bits.{bit_of}
use Rattle.rows.specs.Rows.{lab_of, tag_at, map_t, width, no_row}
use Rattle.rows.specs.Table.{parent_of, row_at, listed, table, children_of, grown, table_shape, table_tree, TreeTable}
use Rattle.rows.proofs.Rows.{size_map_t, width_map_t}
use Rattle.rows.proofs.Table.{parent_none, parent_some, length_table, at_table, live_below, below_live, row_table}
use Rattle.order.proofs.Growing.{Children, all_children}

-- ------------------------------------------------------------------ one row
is_eqb : (i q : ℕ) → is (ℕ_discrete i q) ≡ eqb q i
is_eqb i q = go (ℕ_discrete i q)
  where
    go : (d : Dec (i ≡ q)) → is d ≡ eqb q i
    go (yes e) = sym (eq-eqb q i (sym e))
    go (no d) = sym (ne_eqb q i (λ e. d (sym e)))

link_row : (i q : ℕ) → (no_row ≡ i → ⊥) → same_link (some i) (parent_of q) ≡ eqb q i
unfolding parent_of
link_row i q h = go (eqb q no_row) refl
  where
    go : (t : Bool) → eqb q no_row ≡ t → same_link (some i) (cond t none (some q)) ≡ eqb q i
    go true e = sym (ne_eqb q i (λ x. h (sym (eqb-true q no_row e) ∙ x)))
    go false e = is_eqb i q

link_top : (q : ℕ) → same_link none (parent_of q) ≡ eqb q no_row
unfolding parent_of
link_top q = go (eqb q no_row)
  where
    go : (t : Bool) → same_link none (cond t none (some q)) ≡ t
    go true = refl
    go false = refl

chosen : (t : Bool) (j : ℕ) (js : List ℕ) → cond t (j ∷ js) js ≡ choose t j js
chosen true j js = refl
chosen false j js = refl

marks_back : (s d : Bool) → (bit_of (mark_code s d) 0 ≡ s) × (bit_of (mark_code s d) 1 ≡ d)
unfolding bit_of
marks_back false false = (refl, refl)
marks_back true false = (refl, refl)
marks_back false true = (refl, refl)
marks_back true true = (refl, refl)

-- ------------------------------------------------------------------ the rows of the query
module _ (parent code : List ℕ) where
  -- p stands for the parent u; f are the rows from row j on
  kids_from_lem : (p : ℕ) (u : Option ℕ) → ((q : ℕ) → same_link u (parent_of q) ≡ eqb q p) → (k j : ℕ) (f : ℕ → Row) → ((x : ℕ) → f x ≡ row_at parent code (j + x))
      → children_of p parent k j ≡ kids_from u (listed k f) j
  unfolding children_of
  kids_from_lem p u s zero j f h = refl
  kids_from_lem p u s (suc k) j f h =
      let z : j + 0 ≡ j = omega arith in
      let here : f 0 ≡ row_at parent code j = h 0 ∙ ap (row_at parent code) z in
      let later : (x : ℕ) → f (suc x) ≡ row_at parent code (suc j + x) = λ x. let y : j + suc x ≡ suc j + x = omega arith in h (suc x) ∙ ap (row_at parent code) y in
      rw (here, s (get_or parent j 0), kids_from_lem p u s k (suc j) (λ x. f (suc x)) later)
      (chosen (eqb (get_or parent j 0) p) j (kids_from u (listed k (λ x. f (suc x))) (suc j)))

  kids_of : (p : ℕ) (u : Option ℕ) → ((q : ℕ) → same_link u (parent_of q) ≡ eqb q p) → (n : ℕ) → children_of p parent n 0 ≡ kids_from u (table n parent code) 0
  unfolding table
  kids_of p u s n = kids_from_lem p u s n 0 (row_at parent code) (λ x. let z : x ≡ 0 + x = omega arith in ap (row_at parent code) z)

  -- ---------------------------------------------------------------- the tree
  module _ (n s d : ℕ) (few : n ≤ no_row) where
    abbrev Q : Query
    Q = record { rows = table n parent code; s = s; d = d }

    module _ (tag : ℕ → Tag) (same : (i : ℕ) → i < n → tag i ≡ tag_of Q i) where
      map_plant : (m p : ℕ) (js : List ℕ) → ((j : ℕ) → j < n → map_t tag (grown m parent n j) ≡ grow m Q j) → Children parent p n js
          → map_t tag (plant (λ j. j) (grown m parent n) js) ≡ plant (tag_of Q) (grow m Q) js
      unfolding map_t
      map_plant m p [] g k = refl
      map_plant m p (j ∷ js) g (u, e, k) = let t = same j u in let x = g j u in let y = map_plant m p js g k in λ v. tree (t v) (x v) (y v)

      map_grown : (m i : ℕ) → i < n → map_t tag (grown m parent n i) ≡ grow m Q i
      unfolding grown
      map_grown zero i l = unfold map_t in refl
      map_grown (suc m) i l =
          map_plant m i (children_of i parent n 0) (map_grown m) (all_children parent n i)
          ∙ ap (plant (tag_of Q) (grow m Q)) (kids_of i (some i) (λ q. link_row i q (λ e. omega arith)) n)

      tree_is : map_t tag (table_shape parent n) ≡ tree_of Q
      unfolding table_shape grown
      tree_is =
          map_plant n no_row (children_of no_row parent n 0) (map_grown n) (all_children parent n no_row)
          ∙ ap (plant (tag_of Q) (grow n Q)) (kids_of no_row none link_top n)
          ∙ ap (λ (m : ℕ). plant (tag_of Q) (grow m Q) (kids_from none (table n parent code) 0)) (sym (length_table n parent code))

    tag_is : (mark : List ℕ) → ((i : ℕ) → i < n → get_or mark i 0 ≡ mark_code (is (ℕ_discrete i s)) (is (ℕ_discrete i d))) → (i : ℕ) → i < n → tag_at code mark i ≡ tag_of Q i
    tag_is mark marks i l =
        let m = marks_back (is (ℕ_discrete i s)) (is (ℕ_discrete i d)) in
        let a : lab_of (get_or code i 0) ≡ lab_row (look (table n parent code) i) = sym (ap lab_row (at_table n parent code i l)) in
        let b : bit_of (get_or mark i 0) 0 ≡ is (ℕ_discrete i s) = rw (marks i l) m.0 in
        let c : bit_of (get_or mark i 0) 1 ≡ is (ℕ_discrete i d) = rw (marks i l) m.1 in
        λ v. record { lab = a v; src = b v; dst = c v }

-- mark 1 at s and 2 at d: the table's tree is the tree of the query
pub table_tree_lem : (Q : Query) (parent code mark : List ℕ) (n : ℕ) → n ≤ no_row → Q.rows ≡ table n parent code
    → ((i : ℕ) → i < n → get_or mark i 0 ≡ mark_code (is (ℕ_discrete i Q.s)) (is (ℕ_discrete i Q.d))) → table_tree parent code mark n ≡ tree_of Q
unfolding table_tree
table_tree_lem Q parent code mark n few e marks =
    tree_is parent code n Q.s Q.d few (tag_at code mark) (tag_is parent code n Q.s Q.d few mark marks)
    ∙ ap tree_of (λ v. record { rows = sym e v; s = Q.s; d = Q.d })

-- ------------------------------------------------------------------ tables that are trees
-- the table of a tree query may be put in order
pub table_of_tree : (parent code mark : List ℕ) (n : ℕ) → n ≤ most_nodes → n ≤ length parent → n ≤ length code → n ≤ length mark
    → ((i : ℕ) → i < n → get_or code i 0 ≤ suc largest_label) → ((i : ℕ) → i < n → get_or mark i 0 ≤ 3) → Tree (table n parent code) → TreeTable parent code mark n
table_of_tree parent code mark n few lp lc lm labels marked T = record {
  few = few;
  parents = lp;
  codes = lc;
  marks = lm;
  labels = labels;
  marked = marked;
  level = T.lev;
  linked = λ i l d.
      let z = T.linked i (get_or parent i 0) (lab_of (get_or code i 0)) (row_table n parent code i l (some (get_or parent i 0)) (parent_some (get_or parent i 0) d)) in
      (live_below n parent code (get_or parent i 0) z.0, z.1);
  top = T.top;
  top_level = T.top_lev;
  single = λ i l e. T.single i (lab_of (get_or code i 0), row_table n parent code i l none (parent_none (get_or parent i 0) e));
}

module _ {parent code mark : List ℕ} {n : ℕ} (T : TreeTable parent code mark n) where
  -- what the parent of a row that bears u stands for
  row_back : (i : ℕ) (u : Option ℕ) (l : Lab) → at (table n parent code) i ≡ some (node u l) → (i < n) × (parent_of (get_or parent i 0) ≡ u)
  row_back i u l e = let b = live_below n parent code i (u, l, e) in let a = at_table n parent code i b in (b, cc)

  tree_of_table : Tree (table n parent code)
  tree_of_table = record {
    lev = T.level;
    linked = λ i p l e. let b = row_back i (some p) l e in linked i p b (ℕ_discrete (get_or parent i 0) no_row);
    top = T.top;
    top_lev = T.top_level;
    single = λ i r. let b = row_back i none r.0 r.1 in T.single i b.0 (root i b (ℕ_discrete (get_or parent i 0) no_row));
  }
    where
      linked : (i p : ℕ) → (i < n) × (parent_of (get_or parent i 0) ≡ some p) → Dec (get_or parent i 0 ≡ no_row)
          → ((u : Option ℕ) × (l : Lab) × (at (table n parent code) p ≡ some (node u l))) × (T.level i ≡ suc (T.level p))
      linked i p (b, e) (yes q) = let a = parent_none (get_or parent i 0) q in never cc
      linked i p (b, e) (no d) =
          let a = parent_some (get_or parent i 0) d in
          let q : get_or parent i 0 ≡ p = cc in
          let h = rw q at (T.linked i b d) in (below_live n parent code p h.0, h.1)

      root : (i : ℕ) → (i < n) × (parent_of (get_or parent i 0) ≡ none) → Dec (get_or parent i 0 ≡ no_row) → get_or parent i 0 ≡ no_row
      root i (b, e) (yes q) = q
      root i (b, e) (no d) = let a = parent_some (get_or parent i 0) d in never cc

  -- a table has fewer levels than rows
  pub level_lt : (i : ℕ) → i < n → T.level i < n
  unfolding tree_of_table
  level_lt i l = rw (length_table n parent code) at (level_bound tree_of_table i (below_live n parent code i l))

  -- its tree has a node for each row, and at most one top
  pub shape_all : (size (table_shape parent n) ≡ n) × (width (table_shape parent n) ≤ 1)
  shape_all = go (ℕ_discrete n 0)
    where
      go : Dec (n ≡ 0) → (size (table_shape parent n) ≡ n) × (width (table_shape parent n) ≤ 1)
      go (yes e) = rw e (unfold table_shape grown children_of in (refl, omega arith))
      go (no d) =
          let live = below_live n parent code 0 (omega arith) in
          let R = Q parent code n 0 0 (omega (arith, T.few)) in
          let q : TreeQuery R = record { tree = tree_of_table; s_live = live; d_live = live } in
          let e = tree_is parent code n 0 0 (omega (arith, T.few)) (tag_of R) (λ i l. refl) in
          let w : width (tree_of R) ≡ 1 = ap width (one_top R q).2 in (
            sym (size_map_t (tag_of R) (table_shape parent n)) ∙ ap size e ∙ size_tree R q ∙ length_table n parent code,
            omega (arith, sym (width_map_t (tag_of R) (table_shape parent n)) ∙ ap width e ∙ w),
          )
