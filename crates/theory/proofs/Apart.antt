-- "Gluing two nodes glues their parents too, level by level: between two trees until one of them has no further ancestor, inside one tree
-- until the two ancestors are the same node." One tree comes out, or no laying has both nodes on one node of a document.
use mathlib.Core.Path.{◌≡◌, refl, sym, ap, subst, ◌∙◌}
use mathlib.Core.Logic.{◌≢◌, ◌⊎◌, inl, inr, ⊎_swap, by_cases}
use mathlib.Core.Option.{Option, none, some}
use Prim.Native.Nat.{ℕ, zero, suc, ◌+◌, ◌-◌, ◌≤◌, ◌<◌}
use native.Mathlib.Decide.{ℕ_discrete, dec_lt}
use native.Mathlib.Omega.{arith}
use lib.ListN.{length}
use Rattle.meaning.specs.Basics.{pick, mapped}
use Rattle.meaning.specs.Document.{Doc}
use Rattle.meaning.specs.TreeQuery.{Lab, lab, node, Table, at, Live, Root, Linked, Tree, Laying}
use Rattle.meaning.specs.Gluing.{meet, moved, merged, relink, Glued, glue, shift, join, across, depth, within}
use Rattle.theory.proofs.Look.{never, look_lt, live_lt}
use Rattle.theory.proofs.Levels.{top_root}
use Rattle.theory.proofs.Merge.{back, back_low, back_high, moved_low, moved_high}
use Rattle.theory.proofs.Merge.{Merge, merge_still, MergedRow, glued, old, merged_row, live_merged, linked_merged}
use Rattle.theory.proofs.Gluing.{Quotient, Result, linked_closed, glue_right, clash_none, live_glued, edge_glued, root_glued, level_glued, linked_glued}
use Rattle.theory.proofs.Gluing.{laying_up, laying_down, still_glued}
use Rattle.theory.proofs.Depth.{depth_level, level_laid}
use Rattle.theory.proofs.Join.{length_join, at_left, at_right, live_left, live_right, JoinRow, in_first, in_second, join_row}
use Rattle.theory.proofs.Join.{fork, fork_left, fork_right, laying_left, laying_right, laying_fork}

-- ------------------------------------------------------------------ rows that keep their numbers
-- x and y are glued, and no row below the border b is taken out: rows below b link to rows below b, and from the level of x and y upwards the
-- others link to others. Between two trees the border is the length of the first table; inside one tree it is 0.
pub record Safe (b : ℕ) (T : Table) (x y : ℕ) : Type 0 where
  pub lev : ℕ → ℕ
  pub linked : Linked T lev
  pub live_x : Live T x
  pub live_y : Live T y
  pub same : lev x ≡ lev y
  pub first : (i p : ℕ) (l : Lab) → at T i ≡ some (node (some p) l) → i < b → p < b
  pub second : (i p : ℕ) (l : Lab) → at T i ≡ some (node (some p) l) → lev i ≤ lev x → b ≤ i → b ≤ p
  pub left : 0 < b → x < b
  pub right : b ≤ y

moved_up : (x y b i : ℕ) → b ≤ y → b ≤ i → i ≢ y → b ≤ moved x y i
moved_up x y b i by bi ne =
    by_cases (dec_lt i y) (λ lt. let e = moved_low x y i lt in omega arith) (λ ge. let e = moved_high x y i (omega arith) in omega arith)

back_up : (y b i : ℕ) → b ≤ i → b ≤ back y i
back_up y b i bi = by_cases (dec_lt i y) (λ lt. let e = back_low y i lt in omega arith) (λ ge. let e = back_high y i (omega arith) in omega arith)

-- the parents of x and y, glued next, in the merged table
pub safe_next : {T : Table} {x y p q : ℕ} {l k : Lab} (b : ℕ) (m : Lab) → Merge T x y (some p) (some q) l k → meet l k ≡ some m → Safe b T x y
    → Safe b (merged T x y (some p) m) (moved x y p) (moved x y q)
safe_next {T} {x} {y} {p} {q} {l} {k} b m w em s = record {
  lev = λ i. lev (back y i);
  linked = linked_merged w m em lev s.linked s.same;
  live_x = live_merged w m em p up_x.0;
  live_y = live_merged w m em q up_y.0;
  same = still p ∙ pq ∙ sym (still q);
  first = λ i j l₀ e lt. first i j l₀ lt (merged_row w m i (some j) l₀ e);
  second = λ i j l₀ e le ge. second i j l₀ le ge (merged_row w m i (some j) l₀ e);
  left = λ pos. stays p (moved x y p) (s.first x p l w.row_x (s.left pos)) refl;
  right = moved_up x y b q s.right (s.second y q k w.row_y (omega (arith, s.same)) s.right) (above q (omega (arith, pq)));
}
  where
    lev : ℕ → ℕ
    lev = s.lev

    still : (j : ℕ) → lev (back y (moved x y j)) ≡ lev j
    still = merge_still w m lev s.same

    up_x : Live T p × (lev x ≡ suc (lev p))
    up_x = s.linked x p l w.row_x

    up_y : Live T q × (lev y ≡ suc (lev q))
    up_y = s.linked y q k w.row_y

    pq : lev p ≡ lev q
    pq = omega (arith, up_x.1, up_y.1, s.same)

    above : (j : ℕ) → lev j ≤ lev p → j ≢ y
    above j le e = let z = ap lev e in omega (arith, up_x.1, s.same)

    stays : (j j' : ℕ) → j < b → j' ≡ moved x y j → j' < b
    stays j j' lt e = let z = moved_low x y j (omega (arith, s.right)) in omega arith

    first : (i j : ℕ) (l₀ : Lab) → i < b → MergedRow w m i (some j) l₀ → j < b
    first i j l₀ lt (glued ei el _) = stays p j (s.first x p l w.row_x (s.left (omega arith))) (let z : j ≡ moved x y p = cc in z)
    first i j l₀ lt (old none e el) = never cc
    first i j l₀ lt (old (some j₀) e el) =
        let z = back_low y i (omega (arith, s.right)) in
        stays j₀ j (s.first (back y i) j₀ l₀ e (omega arith)) (let z : j ≡ moved x y j₀ = cc in z)

    second : (i j : ℕ) (l₀ : Lab) → lev (back y i) ≤ lev (back y (moved x y p)) → b ≤ i → MergedRow w m i (some j) l₀ → b ≤ j
    second i j l₀ le ge (glued ei el _) = let z = ap (λ z. lev (back y z)) ei in absurd (omega (arith, still x, still p, up_x.1))
    second i j l₀ le ge (old none e el) = never cc
    second i j l₀ le ge (old (some j₀) e el) =
        let a = (s.linked (back y i) j₀ l₀ e).1 in
        let c = s.second (back y i) j₀ l₀ e (omega (arith, still p, up_x.1)) (back_up y b i ge) in
        let d : j ≡ moved x y j₀ = cc in
        rw d (moved_up x y b j₀ s.right c (above j₀ (omega (arith, still p))))

-- ------------------------------------------------------------------ between two trees
-- a row of T bears the label c
abbrev pub Bears : Table → ℕ → Type 0
Bears T c = (i : ℕ) × (u : Option ℕ) × (at T i ≡ some (node u (lab c)))

pub bears_glued : {T : Table} {x y : ℕ} {g : Glued} → Quotient T x y g → (c : ℕ) → Bears g.rows c → Bears T c
bears_glued r c (i, u, e) = let a = r.labels i u c e in (a.place, a.up, a.row)

-- g is one tree made of A and B; its layings are the pairs of layings that have a and b on one node
pub record Across (A B : Table) (a b : ℕ) (g : Glued) : Type 0 where
  pub tree : Tree g.rows
  pub same : g.to a ≡ g.to (length A + b)
  pub live_a : (i : ℕ) → Live A i → Live g.rows (g.to i)
  pub live_b : (j : ℕ) → Live B j → Live g.rows (g.to (length A + j))
  pub up : (D : Doc) (h : ℕ → ℕ) → Laying D g.rows h → Laying D A (λ i. h (g.to i)) × Laying D B (λ j. h (g.to (length A + j)))
  pub down : (D : Doc) (f f' : ℕ → ℕ) → Laying D A f → Laying D B f' → f a ≡ f' b
      → (h : ℕ → ℕ) × Laying D g.rows h × ((i : ℕ) → Live A i → h (g.to i) ≡ f i) × ((j : ℕ) → h (g.to (length A + j)) ≡ f' j)
  pub short : suc (length g.rows) ≤ length A + length B
  pub labels : (c : ℕ) → Bears g.rows c → Bears A c ⊎ Bears B c

abbrev pub AcrossO : Table → Table → ℕ → ℕ → Option Glued → Type 0
AcrossO A B a b none = (D : Doc) (f f' : ℕ → ℕ) → Laying D A f → Laying D B f' → f a ≡ f' b → ⊥
AcrossO A B a b (some g) = Across A B a b g

module _ {A B : Table} (ta : Tree A) (tb : Tree B) (a b : ℕ) (live_a : Live A a) (live_b : Live B b) where
  abbrev T : Table
  T = join A B

  -- the levels of both, so that a and b lie at one level
  abbrev lev_a : ℕ → ℕ
  lev_a i = ta.lev i + (tb.lev b - ta.lev a)

  abbrev lev_b : ℕ → ℕ
  lev_b j = tb.lev j + (ta.lev a - tb.lev b)

  abbrev lev : ℕ → ℕ
  lev = fork A lev_a lev_b

  level_left : (i : ℕ) → i < length A → lev i ≡ lev_a i
  level_left = fork_left A lev_a lev_b

  level_right : (j : ℕ) → lev (length A + j) ≡ lev_b j
  level_right = fork_right A lev_a lev_b

  level_same : lev a ≡ lev (length A + b)
  level_same = omega (arith, level_left a (live_lt A a live_a), level_right b)

  linked_join : Linked T lev
  linked_join i p l e = go (join_row A B i (some p) l e)
    where
      go : JoinRow A B i (some p) l → Live T p × (lev i ≡ suc (lev p))
      go (in_first lt e') =
          let o = ta.linked i p l e' in
          (live_left A B p o.0, omega (arith, o.1, level_left i lt, level_left p (live_lt A p o.0)))
      go (in_second j none ei ep e') = never cc
      go (in_second j (some q) ei ep e') =
          let o = tb.linked j q l e' in
          let ep' : p ≡ length A + q = cc in
          (rw ep' (live_right A B q o.0), rw (ei, ep') (omega (arith, o.1, level_right j, level_right q)))

  pub safe_join : Safe (length A) T a (length A + b)
  safe_join = record {
    lev = lev;
    linked = linked_join;
    live_x = live_left A B a live_a;
    live_y = live_right A B b live_b;
    same = level_same;
    first = λ i p l e lt. first i p l lt (join_row A B i (some p) l e);
    second = λ i p l e le ge. second i p l ge (join_row A B i (some p) l e);
    left = λ _. live_lt A a live_a;
    right = omega arith;
  }
    where
      first : (i p : ℕ) (l : Lab) → i < length A → JoinRow A B i (some p) l → p < length A
      first i p l lt (in_first _ e) = live_lt A p (ta.linked i p l e).0
      first i p l lt (in_second j v ei ep e) = absurd (omega arith)

      second : (i p : ℕ) (l : Lab) → length A ≤ i → JoinRow A B i (some p) l → length A ≤ p
      second i p l ge (in_first lt e) = absurd (omega arith)
      second i p l ge (in_second j none ei ep e) = never cc
      second i p l ge (in_second j (some q) ei ep e) = let ep' : p ≡ length A + q = cc in omega arith

  module _ (g : Glued) (r : Quotient T a (length A + b) g) where
    abbrev now : ℕ → ℕ
    now i = lev (r.from i)

    level_now : (j : ℕ) → now (g.to j) ≡ lev j
    level_now = level_glued r lev linked_join level_same

    abbrev top_a : ℕ
    top_a = g.to ta.top

    abbrev top_b : ℕ
    top_b = g.to (length A + tb.top)

    now_A : now top_a ≡ tb.lev b - ta.lev a
    now_A = level_now ta.top ∙ level_left ta.top (live_lt A ta.top (root_live (top_root ta a live_a))) ∙ omega (arith, ta.top_lev)
      where
        root_live : Root A ta.top → Live A ta.top
        root_live (l, e) = (none, l, e)

    now_B : now top_b ≡ ta.lev a - tb.lev b
    now_B = level_now (length A + tb.top) ∙ level_right tb.top ∙ omega (arith, tb.top_lev)

    -- a root is the top of the one or of the other
    root_one : (i : ℕ) → Root g.rows i → (i ≡ top_a) ⊎ (i ≡ top_b)
    root_one i ri = go (root_glued r i ri)
      where
        went : {j : ℕ} → r.from i ≡ j → i ≡ g.to j
        went e = sym (r.onto i) ∙ ap g.to e

        side : {l : Lab} → JoinRow A B (r.from i) none l → (i ≡ top_a) ⊎ (i ≡ top_b)
        side {l} (in_first lt e) = inl (went (ta.single (r.from i) (l, e)))
        side (in_second j (some q) ei ep e) = never cc
        side {l} (in_second j none ei ep e) = inr (went (ei ∙ ap (λ z. length A + z) (tb.single j (l, e))))

        go : Root T (r.from i) → (i ≡ top_a) ⊎ (i ≡ top_b)
        go (l, e) = side (join_row A B (r.from i) none l e)

    abbrev OneTop : Type 0
    OneTop = (t : ℕ) × (now t ≡ 0) × ((i : ℕ) → Root g.rows i → i ≡ t)

    one_top : (s t : ℕ) → ((i : ℕ) → Root g.rows i → (i ≡ s) ⊎ (i ≡ t)) → now t ≡ 0 → (Root g.rows s → s ≡ t) → OneTop
    one_top s t roots lev0 st = (t, lev0, λ i ri. go i ri (roots i ri))
      where
        go : (i : ℕ) → Root g.rows i → (i ≡ s) ⊎ (i ≡ t) → i ≡ t
        go i ri (inl e) = e ∙ st (subst (Root g.rows) e ri)
        go i ri (inr e) = e

    edge_left : (i p : ℕ) (l : Lab) → at A i ≡ some (node (some p) l) → (k : Lab) × (at g.rows (g.to i) ≡ some (node (some (g.to p)) k))
    edge_left i p l e = edge_glued r i p l (at_left A B i (look_lt A i e) ∙ e)

    edge_right : (j q : ℕ) (k : Lab) → at B j ≡ some (node (some q) k)
        → (l : Lab) × (at g.rows (g.to (length A + j)) ≡ some (node (some (g.to (length A + q))) l))
    edge_right j q k e = edge_glued r (length A + j) (length A + q) k (at_right A B j ∙ ap (mapped (relink (shift A))) e)

    -- glued nodes have glued parents, until one of them has none
    climb : (n i j : ℕ) → Live A i → Live B j → ta.lev i < n → g.to i ≡ g.to (length A + j) → OneTop
    climb zero i j li lj lt e = absurd (omega arith)
    climb (suc n) i j (none, l, ei) (none, k, ej) lt e =
        let tops = ap g.to (sym (ta.single i (l, ei))) ∙ e ∙ ap (λ z. g.to (length A + z)) (tb.single j (k, ej)) in
        let z = ap now tops in
        one_top top_a top_b root_one (omega (arith, now_A, now_B)) (λ _. tops)
    climb (suc n) i j (none, l, ei) (some q, k, ej) lt e =
        let top = ap g.to (sym (ta.single i (l, ei))) ∙ e in
        let z = ap now top in
        let (k', row) = edge_right j q k ej in
        one_top top_a top_b root_one (omega (arith, now_A, now_B, level_now (length A + j), level_right j, (tb.linked j q k ej).1))
        (λ ri. let a = ri.1 in let b = ap (at g.rows) top in never cc)
    climb (suc n) i j (some p, l, ei) (none, k, ej) lt e =
        let top = ap (λ z. g.to (length A + z)) (sym (tb.single j (k, ej))) ∙ sym e in
        let z = ap now top in
        let (l', row) = edge_left i p l ei in
        one_top top_b top_a (λ i₁ ri. ⊎_swap (root_one i₁ ri)) (omega (arith, now_A, now_B, level_now i, level_left i (look_lt A i ei), (ta.linked i p l ei).1))
        (λ ri. let a = ri.1 in let b = ap (at g.rows) top in never cc)
    climb (suc n) i j (some p, l, ei) (some q, k, ej) lt e =
        let (lp, levP) = ta.linked i p l ei in
        let (lq, levQ) = tb.linked j q k ej in
        let (l', row_i) = edge_left i p l ei in
        let (k', row_j) = edge_right j q k ej in
        climb n p q lp lq (omega arith) (let z = ap (at g.rows) e in cc)

    across_tree : Tree g.rows
    across_tree =
        let (t, et, one) = climb (suc (ta.lev a)) a b live_a live_b (omega arith) r.same in
        record { lev = now; linked = linked_glued r lev linked_join level_same; top = t; top_lev = et; single = one }

  pub across_glued : AcrossO A B a b (across A a B b)
  across_glued = go (across A a B b)
      (glue_right (length T) T a (length A + b) (linked_closed T lev linked_join) (live_left A B a live_a) (live_right A B b live_b) (omega arith))
    where
      both : (D : Doc) (f f' : ℕ → ℕ) → Laying D A f → Laying D B f' → Laying D T (fork A f f')
      both D f f' = laying_fork D A B f f' (linked_closed A ta.lev ta.linked)

      meets : (f f' : ℕ → ℕ) → f a ≡ f' b → fork A f f' a ≡ fork A f f' (length A + b)
      meets f f' e = fork_left A f f' a (live_lt A a live_a) ∙ e ∙ sym (fork_right A f f' b)

      row : (c i : ℕ) (u : Option ℕ) → JoinRow A B i u (lab c) → Bears A c ⊎ Bears B c
      row c i u (in_first lt e) = inl (i, u, e)
      row c i u (in_second j v ei eu e) = inr (j, v, e)

      go : (o : Option Glued) → Result T a (length A + b) o → AcrossO A B a b o
      go none c = λ D f f' lay lay' e. clash_none D T a (length A + b) c (fork A f f') (both D f f' lay lay') (meets f f' e)
      go (some g) r = record {
        tree = across_tree g r;
        same = r.same;
        live_a = λ i li. live_glued r i (live_left A B i li);
        live_b = λ j lj. live_glued r (length A + j) (live_right A B j lj);
        up = λ D h lay. let w = laying_up r D h lay in (laying_left D A B (λ i. h (g.to i)) w, laying_right D A B (λ i. h (g.to i)) w);
        down = λ D f f' lay lay' e.
            let w = both D f f' lay lay' in
            let still = still_glued r D (fork A f f') w (meets f f' e) in (
              (λ i. fork A f f' (r.from i)),
              laying_down r D (fork A f f') w (meets f f' e),
              λ i li. still i ∙ fork_left A f f' i (live_lt A i li),
              λ j. still (length A + j) ∙ fork_right A f f' j,
            );
        short = let z = r.less (λ e. omega (arith, live_lt A a live_a)) in omega (arith, length_join A B);
        labels = λ c x. let (i, u, e) = bears_glued r c x in row c i u (join_row A B i u (lab c) e);
      }

-- ------------------------------------------------------------------ inside one tree
-- one tree, the quotient; or no laying has x and y on one node
abbrev pub Within : Table → ℕ → ℕ → Option Glued → Type 0
Within T x y none = (D : Doc) (h : ℕ → ℕ) → Laying D T h → h x ≡ h y → ⊥
Within T x y (some g) = Quotient T x y g × Tree g.rows

module _ {T : Table} (tr : Tree T) (x y : ℕ) (lx : Live T x) (ly : Live T y) where
  level_depth : depth (length T) T x ≡ depth (length T) T y → tr.lev x ≡ tr.lev y
  level_depth e = sym (depth_level tr x lx) ∙ e ∙ depth_level tr y ly

  pub safe_within : depth (length T) T x ≡ depth (length T) T y → Safe 0 T x y
  safe_within e = record {
    lev = tr.lev;
    linked = tr.linked;
    live_x = lx;
    live_y = ly;
    same = level_depth e;
    first = λ i p l e' lt. absurd (omega arith);
    second = λ i p l e' le ge. omega arith;
    left = λ lt. absurd (omega arith);
    right = omega arith;
  }

  pub within_glued : Within T x y (within T x y)
  within_glued = go (ℕ_discrete (depth (length T) T x) (depth (length T) T y))
    where
      done : tr.lev x ≡ tr.lev y → (o : Option Glued) → Result T x y o → Within T x y o
      done e none c = λ D. clash_none D T x y c
      done e (some g) r = (
        r,
        record {
          lev = λ i. tr.lev (r.from i);
          linked = linked_glued r tr.lev tr.linked e;
          top = g.to tr.top;
          top_lev = level_glued r tr.lev tr.linked e tr.top ∙ tr.top_lev;
          single = λ i ri. sym (r.onto i) ∙ ap g.to (tr.single (r.from i) (root_glued r i ri));
        },
      )

      go : (c : Dec (depth (length T) T x ≡ depth (length T) T y)) → Within T x y (pick c (glue (length T) T x y) none)
      go (yes e) =
          done (level_depth e) (glue (length T) T x y) (glue_right (length T) T x y (linked_closed T tr.lev tr.linked) lx ly (omega arith))
      go (no ne) = λ D h lay e. ne (depth_level tr x lx ∙ level_laid tr D h lay x y lx ly e ∙ sym (depth_level tr y ly))
