-- A pair is selected exactly if the ways from s and from d up to the top can be laid at once, s on m and d on n: a laying of the tree lays its
-- ways, and along laid ways the bits speak of all that lies beside them.
use mathlib.Core.Path.{◌≡◌, refl, sym, ap, ◌∙◌}
use mathlib.Core.Logic.{◌↔◌, ◌⊎◌, inl, inr}
use mathlib.Core.Option.{Option, none, some}
use mathlib.Core.List.{List}
use mathlib.Core.Bool.{Bool, true, false, cond, ◌||◌}
use Prim.Native.Nat.{ℕ, suc, ◌+◌, ◌≤◌, ◌<◌}
use native.Mathlib.Omega.{arith}
use native.Mathlib.Decide.{ℕ_discrete, dec_lt}
use lib.ListN.{length, get_or}
use lib.Dec.{eqb, ltb}
use borrow.Author.Tests.{eq-eqb, ne_eqb, lt-ltb, le-ltb}
use Rattle.meaning.specs.Document.{Doc, In, Child}
use Rattle.meaning.specs.Tree.{Forest, bare, tree, Tag, size, Under, Lays, MarkOn, OnPair, Takes}
use Rattle.meaning.specs.Normal.{holds, in_tree, either_in}
use Rattle.meaning.specs.Matching.{doc_of, bit_at, OnLabel, LaysAt}
use Rattle.theory.proofs.Pair.{OnlyIf, Ways, lays_ways}
use Rattle.rows.specs.Rows.{tag_at, Single, below, shape, map_t, tree_rows, Holds, Hung, no_row, Rows}
use Rattle.rows.proofs.Rows.{size_holds, holds_first, Top, rows_top}
use Rattle.rows.proofs.Marks.{single_here, single_only}
use Rattle.pair.specs.Pair.{Asked, OnNode, WayLaid, TwoWays}
use Rattle.pair.proofs.Climbing.{up_less}
use Rattle.document.proofs.Tables.{Good, good_table_lem, in_doc, child_doc}
use Rattle.document.proofs.Nodes.{true_false, can_lie}

-- a mark that is set lies on its node
mark_on : (b : Bool) (w m : ℕ) → b ≡ true → MarkOn b w m → w ≡ m
mark_on true w m e h = h
mark_on false w m e h = true_false (sym e)

under_in : (D : Doc) (v : Option ℕ) (x : ℕ) → Under D v x → In D x
under_in D none x h = h
under_in D (some v) x h = h.inside

-- one function of three: x at i, f from there up to e, f' from e on
stitch : (i e x : ℕ) (f f' : ℕ → ℕ) → i < e
    → (h : ℕ → ℕ) × (h i ≡ x) × ((j : ℕ) → i < j → j < e → h j ≡ f j) × ((j : ℕ) → e ≤ j → h j ≡ f' j)
stitch i e x f f' l = (
  λ j. cond (eqb j i) x (cond (ltb j e) (f j) (f' j)),
  rw (eq-eqb i i refl),
  λ j a b. rw (ne_eqb j i (λ z. omega arith), lt-ltb j e b),
  λ j a. rw (ne_eqb j i (λ z. omega arith), le-ltb j e a),
)

-- some node of the rows from u up to e is so
holds_row : (p : Tag → Bool) (tag : ℕ → Tag) (span : List ℕ) (u e : ℕ) (F : Forest ℕ) → Holds span u e F → holds p (map_t tag F) ≡ true
    → (j : ℕ) × (u ≤ j) × (j < e) × (p (tag j) ≡ true)
unfolding map_t
holds_row p tag span u e bare h t = true_false (sym t)
holds_row p tag span u e (tree i k r) h t =
    go (p (tag i)) (holds p (map_t tag k)) refl refl t (λ s. holds_row p tag span (suc i) (suc i + size k) k h.2 s)
    (λ s. holds_row p tag span (suc i + size k) e r h.3 s) (size_holds span (suc i + size k) e r h.3)
  where
    go : (x y : Bool) → p (tag i) ≡ x → holds p (map_t tag k) ≡ y → (x || (y || holds p (map_t tag r))) ≡ true
        → (holds p (map_t tag k) ≡ true → (j : ℕ) × (suc i ≤ j) × (j < suc i + size k) × (p (tag j) ≡ true))
        → (holds p (map_t tag r) ≡ true → (j : ℕ) × (suc i + size k ≤ j) × (j < e) × (p (tag j) ≡ true)) → suc i + size k + size r ≡ e
        → (j : ℕ) × (u ≤ j) × (j < e) × (p (tag j) ≡ true)
    go true y a b s f g z = (i, omega (arith, h.0), omega arith, a)
    go false true a b s f g z = let (j, l, m, q) = f b in (j, omega (arith, h.0), omega arith, q)
    go false false a b s f g z = let (j, l, m, q) = g s in (j, omega (arith, h.0), m, q)

in_row : (p : Tag → Bool) (tag : ℕ → Tag) (span : List ℕ) (i e : ℕ) (k : Forest ℕ) → Holds span (suc i) e k → in_tree p (tag i) (map_t tag k) ≡ true
    → (j : ℕ) × (i ≤ j) × (j < e) × (p (tag j) ≡ true)
in_row p tag span i e k h t = go (p (tag i)) refl t
  where
    go : (b : Bool) → p (tag i) ≡ b → (b || holds p (map_t tag k)) ≡ true → (j : ℕ) × (i ≤ j) × (j < e) × (p (tag j) ≡ true)
    go true y s = let l = size_holds span (suc i) e k h in (i, omega arith, omega arith, y)
    go false y s = let (j, a, b, r) = holds_row p tag span (suc i) e k h s in (j, omega arith, b, r)

module _ {w mark up P : List ℕ} (q : Asked w mark up P) (m n : ℕ) where
  abbrev D : Doc
  D = doc_of P q.labels

  abbrev G : Good P q.labels
  G = good_table_lem P q.labels q.table

  abbrev tag : ℕ → Tag
  tag = tag_at q.code mark

  abbrev R : Rows q.code mark q.kids q.span up q.rows
  R = q.tree

  -- what a bit says
  pub bit_lays : (u x : ℕ) → u < q.rows → x < length P → (bit_at w u x ≡ true) ↔ LaysAt D (tag u) (map_t tag (below q.span u)) x
  bit_lays u x l lx =
      let few = R.few in
      let gew = G.few in
      let b = q.bits u x (omega arith) (omega arith) in
      let c = can_lie q.code mark q.span q.rows R.laid D u x l in
      (λ t. c.0 (b.0 t), λ y. b.1 (c.1 y))

  -- ---------------------------------------------------------------- a laying of the tree lays its ways
  -- row i, with all below it, can be laid on x, s on m and d on n
  abbrev Suited : ℕ → ℕ → Type 0
  Suited i x = MarkOn (tag i).src x m × MarkOn (tag i).dst x n × LaysAt D (tag i) (map_t tag (below q.span i)) x

  -- among q.rows from c on below row p, which lies on v: row i lies directly below v, or on a child of its parent's place
  abbrev Joined : ℕ → ℕ → Option ℕ → (ℕ → ℕ) → ℕ → Type 0
  Joined p c v h i = ((get_or up i 0 ≡ p) × Under D v (h i)) ⊎ ((c ≤ get_or up i 0) × (get_or up i 0 < i) × Child D (h (get_or up i 0)) (h i))

  spread : (p c e : ℕ) (F : Forest ℕ) (v : Option ℕ) → Holds q.span c e F → Hung up p F → Lays D (OnPair D m n) (map_t tag F) v
      → (h : ℕ → ℕ) × ((i : ℕ) → c ≤ i → i < e → Suited i (h i) × Joined p c v h i)
  unfolding map_t
  spread p c e bare v h g l = (λ i. i, λ i a b. absurd (omega arith))
  spread p c e (tree i k r) v h g ((x, under, on, lk), lr) =
      go (spread i (suc i) (suc i + size k) k (some x) h.2 g.1 lk) (spread p (suc i + size k) e r v h.3 g.2 lr)
    where
      go : (f : ℕ → ℕ) × ((j : ℕ) → suc i ≤ j → j < suc i + size k → Suited j (f j) × Joined i (suc i) (some x) f j)
          → (f : ℕ → ℕ) × ((j : ℕ) → suc i + size k ≤ j → j < e → Suited j (f j) × Joined p (suc i + size k) v f j)
          → (f : ℕ → ℕ) × ((j : ℕ) → c ≤ j → j < e → Suited j (f j) × Joined p c v f j)
      go (f, fs) (f', fs') =
          let z : i < suc i + size k = omega arith in let (b, bi, bk, br) = stitch i (suc i + size k) x f f' z in
          (b, λ j l d. cases b bi bk br j l d (ℕ_discrete j i) (dec_lt j (suc i + size k)))
        where
          cases : (b : ℕ → ℕ) → b i ≡ x → ((j : ℕ) → i < j → j < suc i + size k → b j ≡ f j) → ((j : ℕ) → suc i + size k ≤ j → b j ≡ f' j) → (j : ℕ)
              → c ≤ j → j < e
              → Dec (j ≡ i) → Dec (j < suc i + size k) → Suited j (b j) × Joined p c v b j
          cases b bi bk br j l d (yes z) _ =
              let o = (holds_first q.span c e i k r h).0 in
              let b : Lays D (OnLabel D) (map_t tag (below q.span i)) (some x) = rw (← h.0, o) ((lays_ways D m n (map_t tag k) (some x)).0 lk).0 in
              let y : LaysAt D (tag i) (map_t tag (below q.span i)) x = (under_in D v x under, on.0, b) in
              rw (z, bi) ((on.1, on.2, y), inl (g.0, under))
          cases b bi bk br j l d (no z) (yes t) =
              let s = fs j (omega (arith, h.0)) t in (rw (bk j (omega (arith, h.0)) t) s.0, near s.1)
            where
              near : Joined i (suc i) (some x) f j → Joined p c v b j
              near (inl (a, ch)) = inr (omega (arith, h.0), omega (arith, h.0), rw (a, bi, bk j (omega (arith, h.0)) t) ch)
              near (inr (a, a', ch)) = inr (omega (arith, h.0), a', rw (bk (get_or up j 0) a (omega arith), bk j (omega (arith, h.0)) t) ch)
          cases b bi bk br j l d (no z) (no t) =
              let s = fs' j (omega arith) d in (rw (br j (omega arith)) s.0, far s.1)
            where
              far : Joined p (suc i + size k) v f' j → Joined p c v b j
              far (inl (a, un)) = inl (a, rw (br j (omega arith)) un)
              far (inr (a, a', ch)) = inr (omega (arith, h.0), a', rw (br (get_or up j 0) a, br j (omega arith)) ch)

  spread_way : (h : ℕ → ℕ) → ((i : ℕ) → 0 ≤ i → i < q.rows → Suited i (h i) × Joined no_row 0 none h i) → (u : ℕ) → u < q.rows
      → WayLaid w up P q.span h u
  spread_way h f u l c a b =
      let s = f c (omega arith) (omega arith) in
      let i = (in_doc P q.labels G (h c)).0 s.0.2.0 in
      record { inside = i; bit = (bit_lays c (h c) (omega arith) i).1 s.0.2; edge = λ z. edge s.1 (up_less q c z (omega arith)) }
    where
      edge : Joined no_row 0 none h c → get_or up c 0 < c → (0 < h c) × (get_or P (h c) 0 ≡ h (get_or up c 0))
      edge (inl (e, _)) y = let few = R.few in absurd (omega arith)
      edge (inr (_, _, ch)) y = let d = (child_doc P q.labels G (h (get_or up c 0)) (h c)).0 ch in (d.0, d.2)

  rows_some : 0 < q.rows
  rows_some = let l = q.s.inside in omega arith

  top : Top q.code mark q.kids q.span up q.rows R
  top = rows_top q.code mark q.kids q.span up q.rows R rows_some

  -- the pair is selected: both ways are laid
  takes_ways : Takes (tree_rows q.code mark q.span q.rows) D m n → TwoWays w up P q.span q.s.row m q.d.row n
  unfolding tree_rows
  takes_ways t =
      let (h, f) = spread no_row 0 q.rows (shape q.span q.rows) none R.laid R.hung (rw top.tree_is (rw top.tree_is at t)) in (
        h,
        mark_on (tag q.s.row).src (h q.s.row) m (single_here q.s) (f q.s.row (omega arith) q.s.inside).0.0,
        mark_on (tag q.d.row).dst (h q.d.row) n (single_here q.d) (f q.d.row (omega arith) q.d.inside).0.1,
        spread_way h f q.s.row q.s.inside,
        spread_way h f q.d.row q.d.inside,
      )

  -- ---------------------------------------------------------------- along laid ways the bits speak of the rest
  module _ (h : ℕ → ℕ) (hs : h q.s.row ≡ m) (hd : h q.d.row ≡ n) (ws : WayLaid w up P q.span h q.s.row)
      (wd : WayLaid w up P q.span h q.d.row) where
    -- a row with s or d in its part is on a way
    on_way_lem : (i : ℕ) (k : Forest ℕ) → i + get_or q.span i 0 ≤ q.rows → Holds q.span (suc i) (i + get_or q.span i 0) k
        → either_in (tag i) (map_t tag k) ≡ true → OnNode w up P h i
    on_way_lem i k l hk t = go (in_tree (λ a. a.src) (tag i) (map_t tag k)) refl t
      where
        part : (p : Tag → Bool) → in_tree p (tag i) (map_t tag k) ≡ true → (S : Single (λ u. p (tag u)) q.rows) → WayLaid w up P q.span h S.row
            → OnNode w up P h i
        part p e S f =
            let (j, a, b, y) = in_row p tag q.span i (i + get_or q.span i 0) k hk e in
            let r : j ≡ S.row = single_only S j (omega arith) y in
            f i (omega arith) (omega arith)

        go : (b : Bool) → in_tree (λ a. a.src) (tag i) (map_t tag k) ≡ b → (b || in_tree (λ a. a.dst) (tag i) (map_t tag k)) ≡ true → OnNode w up P h i
        go true e y = part (λ a. a.src) e q.s ws
        go false e y = part (λ a. a.dst) y q.d wd

    mark_lies : (p : ℕ → Bool) (S : Single p q.rows) (x : ℕ) → h S.row ≡ x → (i : ℕ) → i < q.rows → MarkOn (p i) (h i) x
    mark_lies p S x e i l = go (p i) refl
      where
        go : (b : Bool) → p i ≡ b → MarkOn b (h i) x
        go true y = let z = single_only S i l y in rw z e
        go false y = tt

    gather : (p c e : ℕ) (F : Forest ℕ) (v : Option ℕ) → Holds q.span c e F → Hung up p F → e ≤ q.rows
        → ((i : ℕ) → get_or up i 0 ≡ p → c ≤ i → i < e → OnNode w up P h i → Under D v (h i)) → Ways D m n (map_t tag F) v
    unfolding map_t
    gather p c e bare v held hung le under = tt
    gather p c e (tree i k r) v held hung le under =
        let s = size_holds q.span (suc i + size k) e r held.3 in (
          only (either_in (tag i) (map_t tag k)) refl (omega arith)
              (gather i (suc i) (suc i + size k) k (some (h i)) held.2 hung.1 (omega arith) below_i),
          gather p (suc i + size k) e r v held.3 hung.2 le (λ j a b d pl. under j a (omega (arith, held.0)) d pl),
        )
      where
        below_i : (j : ℕ) → get_or up j 0 ≡ i → suc i ≤ j → j < suc i + size k → OnNode w up P h j → Child D (h i) (h j)
        below_i j a b d pl = let y = pl.edge (omega arith) in (child_doc P q.labels G (h i) (h j)).1 (y.0, pl.inside, y.1 ∙ ap h a)

        only : (b : Bool) → either_in (tag i) (map_t tag k) ≡ b → suc i + size k ≤ e → Ways D m n (map_t tag k) (some (h i))
            → OnlyIf b ((x : ℕ) × Under D v x × OnPair D m n (tag i) x × Lays D (OnLabel D) (map_t tag k) (some x) × Ways D m n (map_t tag k) (some x))
        only false t l ways = tt
        only true t l ways =
            let z : i + get_or q.span i 0 ≡ suc i + size k = omega (arith, held.1) in
            let pl = on_way_lem i k (omega (arith, le)) (rw z held.2) t in
            let y = (bit_lays i (h i) (omega arith) pl.inside).0 pl.bit in
            let o : below q.span i ≡ k = rw (← held.0) (holds_first q.span c e i k r held).0 in (
              h i,
              under i hung.0 (omega (arith, held.0)) (omega arith) pl,
              (y.1, mark_lies (λ u. (tag u).src) q.s m hs i (omega arith), mark_lies (λ u. (tag u).dst) q.d n hd i (omega arith)),
              rw o at y.2,
              ways,
            )

  -- both ways are laid: the pair is selected
  ways_takes : TwoWays w up P q.span q.s.row m q.d.row n → Takes (tree_rows q.code mark q.span q.rows) D m n
  unfolding tree_rows
  ways_takes (h, hs, hd, ws, wd) =
      let few = q.s.inside in
      let pl = ws 0 (omega arith) (rw top.span_all (omega arith)) in
      let y = (bit_lays 0 (h 0) rows_some pl.inside).0 pl.bit in
      let ways = gather h hs hd ws wd no_row 0 q.rows (shape q.span q.rows) none R.laid R.hung (omega arith)
      (λ i _ _ _ p. (in_doc P q.labels G (h i)).1 p.inside) in
      rw top.tree_is
      ((lays_ways D m n (tree (tag 0) (map_t tag (below q.span 0)) bare) none).1 (((h 0, y.0, y.1, y.2), tt), rw top.tree_is at ways))

  -- "The pair's answer is the conjunction of the bits of the nodes from s up to the top and from d up to the top, each at its only possible place"
  pub takes_two_ways : Takes (tree_rows q.code mark q.span q.rows) D m n ↔ TwoWays w up P q.span q.s.row m q.d.row n
  takes_two_ways = (takes_ways, ways_takes)
