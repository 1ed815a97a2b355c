-- The weight of the normal form, row by row: the rows of a forest weigh what the forest does, and the word is one byte shorter than its factors weigh.
use mathlib.Core.Path.{◌≡◌, refl, sym, ap, ◌∙◌}
use mathlib.Core.Bool.{Bool, true, false, cond, ◌||◌}
use mathlib.Core.List.{List, []}
use Prim.Native.Nat.{ℕ, zero, suc, ◌+◌, ◌-◌, ◌≤◌, ◌<◌}
use native.Mathlib.Omega.{arith}
use lib.ListN.{length, get_or}
use lib.Dec.{ltb}
use borrow.Author.Tests.{lt-ltb, ne_eqb}
use Rattle.meaning.specs.Number.{num, largest_label}
use Rattle.theory.proofs.Numbers.{num_short}
use Rattle.meaning.specs.Tree.{Forest, bare, tree, Tag, size}
use Rattle.meaning.specs.Normal.{all, either_in, both_in, some_tree, factors, normal, word_of}
use Rattle.theory.proofs.Count.{bit, count, src, dst}
use Rattle.theory.proofs.Limits.{cost}
use Rattle.rows.specs.Rows.{lab_of, FirstRow, covers, below, shape, map_t, tree_rows, Holds, width, Counted, Hung}
use Rattle.rows.proofs.Rows.{size_holds, holds_first, rows_top, width_map_t}
use Rattle.branches.specs.Factors.{tagged, under}
use Rattle.branches.proofs.Covers.{either_covers, covers_in}
use Rattle.ways.specs.Ways.{Climb, Lowest}
use Rattle.normal.specs.Forms.{QueryRows, Unmarked, form_at}
use Rattle.normal.specs.Weights.{lab_weight, on_way, branching, row_weight, rows_weight}
use Rattle.normal.proofs.Weights.{several, weigh, factors_weigh, word_weigh}
use Rattle.ways.proofs.Walk.{row_open}
use Rattle.ways.proofs.Steps.{covers_self}
use Rattle.normal.proofs.Marks.{src_in_lem, tagged_rows}
use Rattle.normal.proofs.Around.{some_none, some_here, factors_rows}
use Rattle.normal.proofs.Forms.{form_word}

several_width : (k : Forest Tag) → several k ≡ ltb 1 (width k)
several_width bare = refl
several_width (tree b j bare) = refl
several_width (tree b j (tree c i r)) = sym (lt-ltb 1 (suc (suc (width r))) (omega arith))

-- ------------------------------------------------------------------ one row
pub label_some : (x : ℕ) → (x ≡ 0 → ⊥) → lab_weight (lab_of x) ≡ length (num (9 + (x - 1))) + 1
unfolding lab_weight
label_some zero ne = absurd (ne refl)
label_some (suc l) ne = let z : suc l - 1 ≡ l = omega arith in rw z (omega arith)

-- it takes at most three bytes
pub label_short : (x : ℕ) → x ≤ suc largest_label → length (num (9 + (x - 1))) ≤ 3
label_short x l = num_short 2 (9 + (x - 1)) (omega arith)

-- each row is at itself
pub climb_self : {code kids span up : List ℕ} {n : ℕ} → Unmarked code kids span up n → (u : ℕ) → u < n → Climb code kids span up u u
climb_self U u l = record { mark = U.mark; n = _; rows = U.rows; within = l; covers = covers_self U.rows u l }

pub unmarked : {code mark kids span up : List ℕ} {n : ℕ} → QueryRows code mark kids span up n → Unmarked code kids span up n
unmarked Q = record { mark = _; rows = Q.rows }

-- ------------------------------------------------------------------ the rows of a forest
module _ (code kids span up : List ℕ) (s d : ℕ) where
  abbrev rows : ℕ → ℕ → ℕ
  rows = rows_weight code kids span up s d

  rows_append : (j k u : ℕ) → rows (j + k) u ≡ rows j u + rows k (u + j)
  unfolding rows_weight
  rows_append zero k u = let y : 0 + k ≡ k = omega arith in let z : u + 0 ≡ u = omega arith in rw (y, z) (omega arith)
  rows_append (suc j) k u =
      let y : suc j + k ≡ suc (j + k) = omega arith in
      let z : u + suc j ≡ suc u + j = omega arith in
      rw (y, z) (omega (arith, rows_append j k (suc u)))

  -- the rows that are left
  pub rows_all : (n : ℕ) → rows (n - 0) 0 ≡ rows n 0
  rows_all n = let z : n - 0 ≡ n = omega arith in rw z refl

  pub rows_next : (n u : ℕ) → u < n → rows (n - u) u ≡ row_weight code kids span up s d u + rows (n - (u + 1)) (u + 1)
  unfolding rows_weight
  rows_next n u l = let z : n - u ≡ suc (n - suc u) = omega arith in let y : u + 1 ≡ suc u = omega arith in rw (z, y) refl

  pub rows_none : (n u : ℕ) → n ≤ u → rows (n - u) u ≡ 0
  unfolding rows_weight
  rows_none n u l = let z : n - u ≡ 0 = omega arith in rw z refl

  either_row : (u e i : ℕ) (k r : Forest ℕ) → Holds span u e (tree i k r) → either_in (tagged code s d u) (map_t (tagged code s d) k) ≡ on_way span s d u
  unfolding under on_way
  either_row u e i k r h = let z = holds_first span u e i k r h in rw (← z.0) (either_covers code span s d u e z.1)

  branching_of : (u : ℕ) (k : Forest ℕ) (x : Bool) → on_way span s d u ≡ x → get_or kids u 0 ≡ width k
      → branching kids span s d u ≡ (x || several (map_t (tagged code s d) k))
  unfolding branching
  branching_of u k x q c = rw (q, c, several_width (map_t (tagged code s d) k), width_map_t (tagged code s d) k)

  -- row u and all below it, where its parent is row p
  row_weigh : (p u : ℕ) (k : Forest ℕ) (x : Bool) → 0 < u → on_way span s d u ≡ x → get_or up u 0 ≡ p → get_or kids u 0 ≡ width k
      → row_weight code kids span up s d u + weigh (branching kids span s d u) (map_t (tagged code s d) k)
      ≡ 2 + (lab_weight (lab_of (get_or code u 0)) + cond x (weigh true (map_t (tagged code s d) k))
      (bit (branching kids span s d p) + weigh (several (map_t (tagged code s d) k)) (map_t (tagged code s d) k)))
  unfolding row_weight
  row_weigh p u k x l q g c = rw (ne_eqb u 0 (λ z. omega arith), q, g, branching_of u k x q c) (end x)
    where
      K : Forest Tag
      K = map_t (tagged code s d) k

      end : (y : Bool) → lab_weight (lab_of (get_or code u 0)) + cond y 2 (2 + cond (branching kids span s d p) 1 0) + weigh (y || several K) K
          ≡ 2 + (lab_weight (lab_of (get_or code u 0)) + cond y (weigh true K) (bit (branching kids span s d p) + weigh (several K) K))
      end true = omega arith
      end false = omega arith

  -- brothers below row p
  rows_weigh : (p u e : ℕ) (F : Forest ℕ) → 0 < u → Holds span u e F → Hung up p F → Counted kids F
      → rows (size F) u ≡ weigh (branching kids span s d p) (map_t (tagged code s d) F)
  unfolding rows_weight map_t
  rows_weigh p u e bare l h g c = refl
  rows_weigh p u e (tree i k r) l h g c = rw (← h.0) (
      let e₁ : get_or up u 0 ≡ p = rw h.0 g.0 in
      let e₂ : get_or kids u 0 ≡ width k = rw h.0 c.0 in
      rw (either_row u e i k r h)
      (omega (
        arith,
        rows_append (size k) (size r) (suc u),
        row_weigh p u k (on_way span s d u) l refl e₁ e₂,
        rw (← h.0) at (rows_weigh i (suc i) (suc i + size k) k (omega arith) h.2 g.1 c.1),
        rw (← h.0) at (rows_weigh p (suc i + size k) e r (omega arith) h.3 g.2 c.2),
      )))

  top_weight : row_weight code kids span up s d 0 ≡ lab_weight (lab_of (get_or code 0 0))
  unfolding row_weight
  top_weight = omega arith

  pub top_branching : covers span 0 s ≡ true → branching kids span s d 0 ≡ true
  unfolding branching on_way
  top_branching e = rw e

  -- all rows: the top and what lies below it
  all_rows : (n : ℕ) → n ≡ suc (size (below span 0)) → branching kids span s d 0 ≡ true → Holds span 1 n (below span 0) → Hung up 0 (below span 0)
      → Counted kids (below span 0)
      → rows n 0 ≡ lab_weight (lab_of (get_or code 0 0)) + weigh true (map_t (tagged code s d) (below span 0))
  unfolding rows_weight
  all_rows n e b h g c = rw e (omega (arith, top_weight, rw b at (rows_weigh 0 1 n (below span 0) (omega arith) h g c)))

-- ------------------------------------------------------------------ the normal form
module _ {code mark kids span up : List ℕ} {n : ℕ} (Q : QueryRows code mark kids span up n) (ne : n ≡ 0 → ⊥)
    {s d t : ℕ} (fs : FirstRow mark 0 s) (fd : FirstRow mark 1 d) (L : Lowest span s d t) where
  abbrev K : Forest Tag
  K = map_t (tagged code s d) (below span 0)

  some : 0 < n
  some = omega arith

  t_in : t < n
  t_in = omega (arith, L.to_s.from, src_in_lem Q ne fs)

  abbrev Sum : ℕ
  Sum = rows_weight code kids span up s d n 0

  shape_top : map_t (tagged code s d) (shape span n) ≡ tree (tagged code s d 0) K bare
  unfolding map_t
  shape_top = ap (map_t (tagged code s d)) (rows_top code mark kids span up n Q.rows some).shape_is

  tree_top : tree_rows code mark span n ≡ tree (tagged code s d 0) K bare
  tree_top = tagged_rows Q ne fs fd ∙ shape_top

  sum_rows : Sum ≡ lab_weight (lab_of (get_or code 0 0)) + weigh true K
  sum_rows =
      let T = rows_top code mark kids span up n Q.rows some in
      let o = row_open Q.rows 0 some in
      let m : 0 + get_or span 0 0 ≡ n = omega (arith, T.span_all) in
      let h : Holds span 1 n (below span 0) = rw m at o.held in
      let z = size_holds span 1 n (below span 0) h in
      all_rows code kids span up s d n (omega arith) (top_branching code kids span up s d
      (covers_in span 0 s (omega arith) (omega (arith, T.span_all, src_in_lem Q ne fs)))) h
      (rw T.shape_is at Q.rows.hung).1 (rw T.shape_is at Q.rows.counted).1

  cost_form : cost (form_at code span s d t) ≡ bit (some_tree both_in K) + Sum
  cost_form =
      ap cost (sym (factors_rows Q.rows s d t t_in L) ∙ ap (λ (F : Forest Tag). factors F []) shape_top)
      ∙ factors_weigh (tagged code s d 0) K (sym (ap (count src) tree_top) ∙ Q.one_src some) (sym (ap (count dst) tree_top) ∙ Q.one_dst some)
      ∙ ap (λ (m : ℕ). bit (some_tree both_in K) + m) (sym sum_rows)

  abbrev Word : List ℕ
  Word = word_of (normal (tree_rows code mark span n))

  word_is : length Word ≡ length (word_of (all (form_at code span s d t)))
  word_is = ap length (form_word Q ne fs fd L)

  -- t is not the top: the second projection of the way above it is one sign more
  pub counted_above : (t ≡ 0 → ⊥) → length Word ≡ Sum
  counted_above lower =
      let o = row_open Q.rows 0 some in
      let T = rows_top code mark kids span up n Q.rows some in
      let b = some_here Q.rows s d t L 1 (0 + get_or span 0 0) (below span 0) o.held o.inside (omega arith)
      (omega (arith, T.span_all, t_in)) in
      let c : cost (form_at code span s d t) ≡ 1 + Sum = cost_form ∙ ap (λ (x : Bool). bit x + Sum) b in
      omega (arith, word_is, (word_weigh (form_at code span s d t)).1 (omega (arith, c)))

  cost_top : t ≡ 0 → cost (form_at code span s d t) ≡ Sum
  cost_top e =
      let o = row_open Q.rows 0 some in
      let b = some_none Q.rows s d t L 1 (0 + get_or span 0 0) (below span 0) o.held o.inside (omega arith) in
      cost_form ∙ rw b (omega arith)

  pub counted_none : t ≡ 0 → Sum ≡ 0 → length Word ≡ 1
  counted_none e z = word_is ∙ (word_weigh (form_at code span s d t)).0 (omega (arith, cost_top e))

  pub counted_some : t ≡ 0 → 1 ≤ Sum → suc (length Word) ≡ Sum
  counted_some e l = let c = cost_top e in omega (arith, word_is, (word_weigh (form_at code span s d t)).1 (omega arith))
