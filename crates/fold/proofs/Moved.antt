-- The rows that are still there, put to the front in their order. A walk over the rows that steps over what has gone meets the nodes of the tree that is
-- left, from the top on; each goes to the next place, and its parent, which went before it, is named by its new place.
use mathlib.Core.Path.{◌≡◌, refl, sym, ap, ◌∙◌}
use mathlib.Core.Logic.{◌⊎◌, inl, inr, ⊎_elim}
use mathlib.Core.List.{List, [], ◌∷◌, ◌++◌, append_assoc, append-nil}
use mathlib.Core.Bool.{true, false, cond}
use Prim.Native.Nat.{ℕ, suc, ◌+◌, ◌≤◌, ◌<◌}
use native.Mathlib.Omega.{arith}
use native.Mathlib.Numerals.{add-one}
use native.Mathlib.Decide.{ℕ_discrete, dec_lt}
use lib.ListN.{length, get_or, set, drop, length-set, length-append, length-drop}
use lib.Seq.{get_or-set_same, get_or-set_other, get_or_at, drop-cons}
use lib.Dec.{eqb}
use borrow.Author.Tests.{eq-eqb, ne_eqb}
use Rattle.meaning.specs.Tree.{Forest, bare, tree, size}
use Rattle.rows.specs.Rows.{tag_at, shape, map_t, tree_rows, Holds, width, Counted, Hung, no_row}
use Rattle.rows.specs.declared.TreeRows.{TreeRows}
use Rattle.rows.proofs.Rows.{size_map_t, width_map_t, size_holds, holds_is, row_opens, rows_top, row_up}
use Rattle.onto.specs.Left.{gone_at, kept, left}
use Rattle.onto.proofs.Left.{not_both, kept_ind}
use Rattle.fold.specs.Kept.{Remains, parent_moved, Movable, RowMoved, RowsKept, SameShape}

-- ------------------------------------------------------------------ the nodes of a forest in image order
-- a number for each node, by its row and what lies below it
abbrev values : (ℕ → Forest ℕ → ℕ) → Forest ℕ → List ℕ
values f bare = []
values f (tree i k r) = f i k ∷ (values f k ++ values f r)

length_values : (f : ℕ → Forest ℕ → ℕ) (F : Forest ℕ) → length (values f F) ≡ size F
length_values f bare = refl
length_values f (tree i k r) = let x = length_values f k in let y = length_values f r in omega (arith, length-append (values f k) (values f r))

abbrev rows_of : Forest ℕ → List ℕ
rows_of = values (λ i k. i)

-- P of each node and its place, from place t on
abbrev Spread : (ℕ → ℕ → Forest ℕ → Type 0) → ℕ → Forest ℕ → Type 0
Spread P t bare = Unit {0}
Spread P t (tree i k r) = P t i k × Spread P (suc t) k × Spread P (suc t + size k) r

-- the t-th node of the forest G is row i, with k below it
record Node (G : Forest ℕ) (t i : ℕ) (k : Forest ℕ) : Type 0 where
  inside : t < size G
  value : (f : ℕ → Forest ℕ → ℕ) → get_or (values f G) t 0 ≡ f i k

spread_nodes : (G F : Forest ℕ) (t : ℕ) (xs ys : (ℕ → Forest ℕ → ℕ) → List ℕ)
    → ((f : ℕ → Forest ℕ → ℕ) → (values f G ≡ xs f ++ (values f F ++ ys f)) × (length (xs f) ≡ t)) → Spread (Node G) t F
spread_nodes G bare t xs ys e = tt
spread_nodes G (tree i k r) t xs ys e = (
  record {
    inside =
        let f : ℕ → Forest ℕ → ℕ = λ i k. i in
        omega (arith, (e f).1, length_values f G, simp length-append at (ap length (e f).0));
    value = λ f. rw (e f).0 (get_or_at (xs f) (f i k) ((values f k ++ values f r) ++ ys f) 0 t (e f).1);
  },
  spread_nodes G k (suc t) (λ f. xs f ++ (f i k ∷ [])) (λ f. values f r ++ ys f)
      (λ f. ((e f).0 ∙ simp append_assoc, omega (arith, (e f).1, length-append (xs f) (f i k ∷ [])))),
  spread_nodes G r (suc t + size k) (λ f. (xs f ++ (f i k ∷ [])) ++ values f k) ys
      (λ f. (
        (e f).0 ∙ simp append_assoc,
        omega (arith, (e f).1, length-append (xs f ++ (f i k ∷ [])) (values f k), length-append (xs f) (f i k ∷ []), length_values f k),
      )),
)

-- ------------------------------------------------------------------ the walk
-- the rows that a walk from row i meets: it steps over a row that has gone with all below it
pub data Walk (mark span : List ℕ) (n : ℕ) : ℕ → List ℕ → Type 0 where
  stop : {i : ℕ} → n ≤ i → Walk mark span n i []
  skip : {i : ℕ} {xs : List ℕ} → i < n → gone_at mark i ≡ true → Walk mark span n (i + get_or span i 0) xs → Walk mark span n i xs
  take : {i : ℕ} {xs : List ℕ} → i < n → gone_at mark i ≡ false → Walk mark span n (suc i) xs → Walk mark span n i (i ∷ xs)

module _ {mark span : List ℕ} {n : ℕ} where
  walk_skip : {i : ℕ} {xs : List ℕ} → Walk mark span n i xs → i < n → gone_at mark i ≡ true → Walk mark span n (i + get_or span i 0) xs
  walk_skip (stop l) m e = absurd (omega arith)
  walk_skip (skip l g w) m e = w
  walk_skip (take l d w) m e = not_both e d

  walk_take : {i : ℕ} {xs : List ℕ} → Walk mark span n i xs → i < n → gone_at mark i ≡ false
      → (ys : List ℕ) × (xs ≡ i ∷ ys) × Walk mark span n (suc i) ys
  walk_take (stop l) m e = absurd (omega arith)
  walk_take (skip l g w) m e = not_both g e
  walk_take (take {xs = ys} l d w) m e = (ys, refl, w)

  walk_stop : {i : ℕ} {xs : List ℕ} → Walk mark span n i xs → n ≤ i → xs ≡ []
  walk_stop (stop l) m = refl
  walk_stop (skip l g w) m = absurd (omega arith)
  walk_stop (take l d w) m = absurd (omega arith)

-- it meets the nodes that are left, in their order
walk_nodes : (mark span : List ℕ) (n : ℕ) (F : Forest ℕ) (u e : ℕ) (xs : List ℕ) → Holds span u e F → e ≤ n → Walk mark span n e xs
    → Walk mark span n u (rows_of (kept mark F) ++ xs)
walk_nodes mark span n =
    kept_ind mark (λ F K. (u e : ℕ) (xs : List ℕ) → Holds span u e F → e ≤ n → Walk mark span n e xs → Walk mark span n u (rows_of K ++ xs))
    (λ u e xs h l w. rw h w)
    (λ i k r x y. (
      λ d u e xs h l w.
          let s = size_holds span (suc i + size k) e r h.3 in
          rw (h.0, append_assoc (rows_of (kept mark k)) (rows_of (kept mark r)) xs)
          (take {i = i} (omega arith) d (x (suc i) (suc i + size k) _ h.2 (omega arith) (y (suc i + size k) e xs h.3 l w))),
      λ d u e xs h l w.
          let s = size_holds span (suc i + size k) e r h.3 in
          let z : i + get_or span i 0 ≡ suc i + size k = omega (arith, h.1) in
          let w' : Walk mark span n (i + get_or span i 0) (rows_of (kept mark r) ++ xs) = rw z (y (suc i + size k) e xs h.3 l w) in
          rw h.0 (skip {i = i} (omega arith) d w'),
    ))

-- ------------------------------------------------------------------ a row and its place
-- row x, one of the first i, is at place t
pub record Fact (code₀ mark₀ up code mark parent moved : List ℕ) (i t x : ℕ) : Type 0 where
  pub low : x < i
  pub there : gone_at mark₀ x ≡ false
  pub place : get_or moved x 0 ≡ t
  pub codes : get_or code t 0 ≡ get_or code₀ x 0
  pub marks : get_or mark t 0 ≡ get_or mark₀ x 0
  pub parents : get_or parent t 0 ≡ parent_moved up moved x
  pub above : (get_or up x 0 ≡ no_row) ⊎ (get_or up x 0 < x)

fact_later : {code₀ mark₀ up code mark parent moved : List ℕ} {i t x : ℕ} (i' : ℕ) → i ≤ i' → Fact code₀ mark₀ up code mark parent moved i t x
    → Fact code₀ mark₀ up code mark parent moved i' t x
fact_later i' l f =
    record { low = omega (arith, f.low); there = f.there; place = f.place; codes = f.codes; marks = f.marks; parents = f.parents; above = f.above }

module _ (up moved : List ℕ) (i : ℕ) where
  pub parent_top : get_or up i 0 ≡ no_row → no_row ≡ parent_moved up moved i
  unfolding parent_moved
  parent_top e = rw (eq-eqb (get_or up i 0) no_row e)

  pub parent_row : ¬ (get_or up i 0 ≡ no_row) → (p : ℕ) → p ≡ get_or up i 0 → get_or moved p 0 ≡ parent_moved up moved i
  unfolding parent_moved
  parent_row n p e = rw (ne_eqb (get_or up i 0) no_row n, e)

-- the new number of a parent that has its place does not change when a later row moves
parent_same : (up moved : List ℕ) (i j x : ℕ) → (get_or up x 0 ≡ no_row) ⊎ (get_or up x 0 < x) → x ≤ i
    → parent_moved up (set moved i j) x ≡ parent_moved up moved x
unfolding parent_moved
parent_same up moved i j x (inl e) l = rw (eq-eqb (get_or up x 0) no_row e)
parent_same up moved i j x (inr m) l = rw (get_or-set_other moved i (get_or up x 0) j 0 (λ e. omega arith))

module _ {code₀ mark₀ up code mark parent moved : List ℕ} {i j : ℕ} {code' mark' parent' moved' : List ℕ}
    (M : RowMoved code mark up i parent moved j code' mark' parent' moved') where
  -- a row that has its place keeps it
  fact_kept : {t x : ℕ} → t < j → Fact code₀ mark₀ up code mark parent moved i t x → Fact code₀ mark₀ up code' mark' parent' moved' (i + 1) t x
  fact_kept {t} {x} l f =
      record {
        low = omega (arith, f.low);
        there = f.there;
        place = rw M.moves (get_or-set_other moved i x j 0 (λ e. omega (arith, f.low)) ∙ f.place);
        codes = rw M.codes (get_or-set_other code j t (get_or code i 0) 0 (λ e. omega arith) ∙ f.codes);
        marks = rw M.marks (get_or-set_other mark j t (get_or mark i 0) 0 (λ e. omega arith) ∙ f.marks);
        parents =
            rw (M.parents, M.moves)
            (get_or-set_other parent j t (parent_moved up moved i) 0 (λ e. omega arith) ∙ f.parents ∙ sym (parent_same up moved i j x f.above (omega (arith, f.low))));
        above = f.above;
      }

  -- row i has its place
  fact_new : gone_at mark₀ i ≡ false → j < length code → j < length mark → j < length parent → i < length moved → get_or code i 0 ≡ get_or code₀ i 0
      → get_or mark i 0 ≡ get_or mark₀ i 0 → (get_or up i 0 ≡ no_row) ⊎ (get_or up i 0 < i) → Fact code₀ mark₀ up code' mark' parent' moved' (i + 1) j i
  fact_new d lc lm lp lv ec em a =
      record {
        low = omega arith;
        there = d;
        place = rw M.moves (get_or-set_same moved i j 0 lv);
        codes = rw M.codes (get_or-set_same code j (get_or code i 0) 0 lc ∙ ec);
        marks = rw M.marks (get_or-set_same mark j (get_or mark i 0) 0 lm ∙ em);
        parents =
            rw (M.parents, M.moves)
            (get_or-set_same parent j (parent_moved up moved i) 0 lp ∙ sym (parent_same up moved i j i a (omega arith)));
        above = a;
      }

pub same_shape : (t : TreeRows) → SameShape t t
same_shape t = record { kids = refl; span = refl; up = refl; len = refl }

pub same_shapes : {t t' t'' : TreeRows} → SameShape t t' → SameShape t' t'' → SameShape t t''
same_shapes r s = record { kids = s.kids ∙ r.kids; span = s.span ∙ r.span; up = s.up ∙ r.up; len = s.len ∙ r.len }

-- ------------------------------------------------------------------ the loop
-- the walk stands at row i, and the first j rows_of have their places
pub record Moving (code₀ mark₀ span up : List ℕ) (n : ℕ) (code mark parent moved : List ℕ) (i j : ℕ) : Type 0 where
  pub walk : Walk mark₀ span n i (drop j (rows_of (kept mark₀ (shape span n))))
  pub count : j ≤ length (rows_of (kept mark₀ (shape span n)))
  pub until : i ≤ n
  pub room : j ≤ i
  pub facts : (t : ℕ) → t < j → Fact code₀ mark₀ up code mark parent moved i t (get_or (rows_of (kept mark₀ (shape span n))) t 0)
  pub ahead : (x : ℕ) → i ≤ x → (get_or code x 0 ≡ get_or code₀ x 0) × (get_or mark x 0 ≡ get_or mark₀ x 0)
  pub codes : length code ≡ length code₀
  pub marks : length mark ≡ length mark₀

module _ {code₀ mark₀ span up : List ℕ} {n : ℕ} (R : Remains code₀ mark₀ span up n) where
  abbrev F : Forest ℕ
  F = kept mark₀ (shape span n)

  parent_before : (i : ℕ) → i < n → (get_or up i 0 ≡ no_row) ⊎ (get_or up i 0 < i)
  parent_before i l = elim (ℕ_discrete i 0) [
    | yes z ↦ inl (rw z (rows_top code₀ R.was R.kids span up n R.rows (omega arith)).up_none)
    | no z ↦ inr (row_up code₀ R.was R.kids span up n R.rows i (omega arith) l).0
  ]

  -- a row that is there bears the mark that it bore
  mark_was : (x : ℕ) → gone_at mark₀ x ≡ false → get_or mark₀ x 0 ≡ get_or R.was x 0
  mark_was x d = ⊎_elim (λ e. e) (λ g. not_both g.2.away d) (R.only x)

  pub moving_none : (parent moved : List ℕ) → Moving code₀ mark₀ span up n code₀ mark₀ parent moved 0 0
  moving_none parent moved =
      record {
        walk =
            rw append-nil at (walk_nodes mark₀ span n (shape span n) 0 n [] R.rows.laid (omega arith) (stop (omega arith)));
        count = omega arith;
        until = omega arith;
        room = omega arith;
        facts = λ t l. absurd (omega arith);
        ahead = λ x l. (refl, refl);
        codes = refl;
        marks = refl;
      }

  module _ {code mark parent moved : List ℕ} {i j : ℕ} (M : Moving code₀ mark₀ span up n code mark parent moved i j) where
    -- row i has gone
    pub moving_step : i < n → {s : ℕ} → s ≡ get_or span i 0 → (1 ≤ s) × (i + s ≤ n)
    moving_step l e = let o = row_opens span n R.rows.laid i l in (omega (arith, o.some), omega (arith, o.inside))

    pub moving_skip : i < n → gone_at mark i ≡ true → {s : ℕ} → s ≡ get_or span i 0 → Moving code₀ mark₀ span up n code mark parent moved (i + s) j
    moving_skip l g {s} e =
        record {
          walk = rw e (walk_skip M.walk l (rw (M.ahead i (omega arith)).1 at g));
          count = M.count;
          until = (moving_step l e).1;
          room = omega (arith, M.room);
          facts = λ t m. fact_later (i + s) (omega arith) (M.facts t m);
          ahead = λ x m. M.ahead x (omega arith);
          codes = M.codes;
          marks = M.marks;
        }

    -- row i is put at place j
    pub moving_fits : i < n → Movable up i j
    moving_fits l =
        let f = R.rows.few in record { front = M.room; few = omega arith; above = ⊎_elim inl (λ b. inr (omega arith)) (parent_before i l) }

    pub moving_take : i < n → gone_at mark i ≡ false → n ≤ length parent → n ≤ length moved → {code' mark' parent' moved' : List ℕ}
        → RowMoved code mark up i parent moved j code' mark' parent' moved' → Moving code₀ mark₀ span up n code' mark' parent' moved' (i + 1) (j + 1)
    moving_take l g lp lv {code'} {mark'} {parent'} {moved'} P =
        let d : gone_at mark₀ i ≡ false = rw (M.ahead i (omega arith)).1 at g in
        let w = walk_take M.walk l d in
        let c : j < length (rows_of F) = omega (arith, simp length-drop at (ap length w.1)) in
        let e = drop-cons (rows_of F) j 0 c in
        let x : get_or (rows_of F) j 0 ≡ i = cc w.1 in
        let y : w.0 ≡ drop (suc j) (rows_of F) = cc w.1 in
        let r = M.room in
        record {
          walk = rw (add-one i, add-one j, ← y) w.2;
          count = omega arith;
          until = omega arith;
          room = omega arith;
          facts = λ t m. elim (dec_lt t j) [
            | yes b ↦ fact_kept P b (M.facts t b)
            | no b ↦
                let a = M.ahead i (omega arith) in
                let q : t ≡ j = omega arith in
                rw (q, x) (fact_new P (rw a.1 at g) (omega (arith, M.codes, R.rows.codes)) (omega (arith, M.marks, R.rows.marks, R.long)) (omega arith)
                (omega arith) a.0 a.1 (parent_before i l))
          ];
          ahead = λ x m. (
            rw P.codes (get_or-set_other code j x (get_or code i 0) 0 (λ e. omega arith) ∙ (M.ahead x (omega arith)).0),
            rw P.marks (get_or-set_other mark j x (get_or mark i 0) 0 (λ e. omega arith) ∙ (M.ahead x (omega arith)).1),
          );
          codes = rw P.codes (length-set code j (get_or code i 0) ∙ M.codes);
          marks = rw P.marks (length-set mark j (get_or mark i 0) ∙ M.marks);
        }

-- ------------------------------------------------------------------ the new rows
hung_kept : (mark up : List ℕ) (F : Forest ℕ) (p : ℕ) → Hung up p F → Hung up p (kept mark F)
hung_kept mark up =
    kept_ind mark (λ F K. (p : ℕ) → Hung up p F → Hung up p K) (λ p h. tt) (λ i k r x y. (λ d p h. (h.0, x i h.1, y p h.2), λ d p h. y p h.2))

width_kept : (mark : List ℕ) (F : Forest ℕ) → width (kept mark F) ≤ width F
width_kept mark = kept_ind mark (λ F K. width K ≤ width F) (omega arith) (λ i k r x y. (λ d. omega arith, λ d. omega arith))

module _ {code₀ mark₀ span up : List ℕ} {n : ℕ} (R : Remains code₀ mark₀ span up n) {code mark parent moved : List ℕ} {i j : ℕ}
    (M : Moving code₀ mark₀ span up n code mark parent moved i j) (l : n ≤ i) (lp : n ≤ length parent) where
  abbrev K : Forest ℕ
  K = kept mark₀ (shape span n)

  abbrev to : ℕ → ℕ
  to x = get_or moved x 0

  abbrev spans : List ℕ
  spans = values (λ i k. suc (size k)) K

  abbrev counts : List ℕ
  counts = values (λ i k. width k) K

  size_is : size K ≡ j
  size_is =
      omega (arith, M.count, length_values (λ i k. i) K, simp length-drop at (ap length (walk_stop M.walk l)))

  fact : {t x : ℕ} {k : Forest ℕ} → Node K t x k → Fact code₀ mark₀ up code mark parent moved i t x
  fact {t} N = rw (N.value (λ i k. i)) at (M.facts t (omega (arith, N.inside, size_is)))

  -- from place t up to place e, below row q, they bear what they bore, are laid out in image order, and hang below their parents
  abbrev Moved : ℕ → ℕ → ℕ → Forest ℕ → Type 0
  Moved q t e G =
      (map_t (tag_at code mark) (map_t to G) ≡ map_t (tag_at code₀ mark₀) G) × Holds spans t e (map_t to G) × Counted counts (map_t to G)
      × Hung parent q (map_t to G)

  rows_moved : (p q t e : ℕ) (G : Forest ℕ) → Spread (Node K) t G → Hung up p G → q ≡ cond (eqb p no_row) no_row (to p) → e ≡ t + size G
      → Moved q t e G
  unfolding map_t parent_moved
  rows_moved p q t e bare s h b z = (refl, omega arith, tt, tt)
  rows_moved p q t e (tree x k r) (N, s, s') (g, h, h') b z =
      let f = fact N in
      let y = f.place in
      let u = rows_moved x (to x) (suc t) (suc t + size k) k s h (sym (rw (ne_eqb x no_row (λ z. omega (arith, f.low, M.until, R.rows.few))))) refl in
      let w = rows_moved p q (suc t + size k) e r s' h' b (omega arith) in
      let c : tag_at code mark (to x) ≡ tag_at code₀ mark₀ x = rw (y, f.codes, f.marks) in
      let a = u.0 in
      let d = w.0 in (
        λ v. tree (c v) (a v) (d v),
        rw (y, size_map_t to k) (refl, N.value (λ i k. suc (size k)), u.1, w.1),
        (rw (y, width_map_t to k) (N.value (λ i k. width k)), u.2, w.2),
        (rw (y, f.parents, g, b), u.3, w.3),
      )

  all_moved : Moved no_row 0 j K
  all_moved =
      rows_moved no_row no_row 0 j K (spread_nodes K K 0 (λ f. []) (λ f. []) (λ f. (sym (append-nil (values f K)), refl)))
      (hung_kept mark₀ up (shape span n) no_row R.rows.hung) refl (omega (arith, size_is))

  shape_is : shape spans j ≡ map_t to K
  unfolding shape
  shape_is = holds_is j spans 0 j (map_t to K) all_moved.1 (omega arith)

  pub moving_all : RowsKept code₀ mark₀ span n code mark parent j
  unfolding tree_rows left
  moving_all =
      let r = M.room in
      let u = M.until in
      let s = size_is in
      record {
        kids = counts;
        spans = spans;
        rows = record {
          few = omega (arith, R.rows.few);
          codes = omega (arith, M.codes, R.rows.codes);
          marks = omega (arith, M.marks, R.rows.marks, R.long);
          counts = omega (arith, length_values (λ i k. width k) K);
          spans = omega (arith, length_values (λ i k. suc (size k)) K);
          ups = omega arith;
          labels = λ t m. let f = M.facts t m in rw f.codes (R.rows.labels _ (omega (arith, f.low)));
          marked = λ t m. let f = M.facts t m in rw (f.marks, mark_was R _ f.there) (R.rows.marked _ (omega (arith, f.low)));
          laid = rw shape_is all_moved.1;
          counted = rw shape_is all_moved.2;
          hung = rw shape_is all_moved.3;
          single = rw (shape_is, width_map_t to K) (omega (arith, width_kept mark₀ (shape span n), R.rows.single));
        };
        tree = ap (map_t (tag_at code mark)) shape_is ∙ all_moved.0;
      }
