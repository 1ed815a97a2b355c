-- "Let t be the lowest node above or at both s and d": the factors of the tree are those of the ways at row t.
use mathlib.Core.Path.{◌≡◌, refl, sym, ap, ◌∙◌}
use mathlib.Core.Bool.{Bool, true, false, ◌&&◌, ◌||◌, cond}
use mathlib.Core.List.{List, [], ◌∷◌, ◌++◌, append_assoc, append-nil}
use Prim.Native.Nat.{ℕ, suc, ◌+◌, ◌≤◌, ◌<◌}
use native.Mathlib.Decide.{ℕ_discrete, dec_lt}
use native.Mathlib.Omega.{arith}
use lib.ListN.{get_or}
use borrow.Author.Tests.{eq-eqb, ne_eqb}
use Rattle.meaning.specs.Expression.{Expr, child, parent}
use Rattle.meaning.specs.Tree.{Forest, bare, tree, Tag, size}
use Rattle.meaning.specs.Normal.{labelled, off, in_tree, src_in, dst_in, both_in, either_in, some_tree, ups, downs, above_factor, around, factors}
use Rattle.rows.specs.Rows.{covers, below, shape, map_t, Holds, Rows}
use Rattle.rows.proofs.Rows.{size_holds, holds_first, rows_top, row_inside}
use Rattle.branches.specs.Factors.{tagged, under, own_at}
use Rattle.branches.proofs.Covers.{src_covers, dst_covers, either_covers, both_covers, covers_in, covers_before, covers_behind}
use Rattle.theory.proofs.Look.{never}
use Rattle.ways.specs.Ways.{Covers, Lowest, ups_at, downs_at, way_to, way_at}
use Rattle.normal.specs.Forms.{form_at}
use Rattle.ways.proofs.Walk.{covers_true, row_open, own_is, or_same, src_same, dst_same}

module _ {code mark kids span up : List ℕ} {n : ℕ} (R : Rows code mark kids span up n) where
  covers_trans : (c t x : ℕ) → c < n → Covers span c t → Covers span t x → Covers span c x
  covers_trans c t x l v w =
      record { from = omega (arith, v.from, w.from); to = omega (arith, row_inside R c t l v.from v.to, w.to) }

  module _ (s d t : ℕ) (L : Lowest span s d t) where
    both_row : (c : ℕ) → c < n → both_in (tagged code s d c) (under code span s d c) ≡ covers span c t
    both_row c l = both_covers code span s d c n (row_open R c l) ∙ go (covers span c s) refl (covers span c d) refl (covers span c t) refl
      where
        not_t : {x : ℕ} → Covers span t x → covers span c x ≡ false → covers span c t ≡ true → ⊥
        not_t {x} w f e =
            let v = covers_trans c t x l (covers_true span c t e) w in
            never (cc (sym (covers_in span c x v.from v.to) ∙ f))

        go : (a : Bool) → covers span c s ≡ a → (b : Bool) → covers span c d ≡ b → (z : Bool) → covers span c t ≡ z → (a && b) ≡ z
        go true p true q true e = refl
        go true p true q false e =
            let vs = covers_true span c s p in
            let le = L.least c vs (covers_true span c d q) in
            never (cc (sym (covers_in span c t le (omega (arith, vs.to, L.to_s.from))) ∙ e))
        go true p false q true e = absurd (not_t L.to_d q e)
        go true p false q false e = refl
        go false p b q true e = absurd (not_t L.to_s p e)
        go false p b q false e = refl

    -- the tree that holds both marks is the one with row t in it
    module _ (u e i : ℕ) (k r : Forest ℕ) (h : Holds span u e (tree i k r)) (l : e ≤ n) where
      some_first : some_tree both_in (map_t (tagged code s d) (tree i k r)) ≡ (covers span u t || some_tree both_in (map_t (tagged code s d) r))
      unfolding map_t under
      some_first =
          let z = holds_first span u e i k r h in
          let w = size_holds span u e (tree i k r) h in
          rw (← h.0, ← z.0, both_row u (omega arith))

    pub some_none : (u e : ℕ) (F : Forest ℕ) → Holds span u e F → e ≤ n → t < u → some_tree both_in (map_t (tagged code s d) F) ≡ false
    unfolding map_t
    some_none u e bare h l m = refl
    some_none u e (tree i k r) h l m =
        let z = (holds_first span u e i k r h).2 in
        some_first u e i k r h l ∙ rw (covers_before span u t m) (some_none (u + get_or span u 0) e r z l (omega arith))

    pub some_here : (u e : ℕ) (F : Forest ℕ) → Holds span u e F → e ≤ n → u ≤ t → t < e → some_tree both_in (map_t (tagged code s d) F) ≡ true
    some_here u e bare h l m b = absurd (omega arith)
    some_here u e (tree i k r) h l m b = go (dec_lt t (u + get_or span u 0))
        (λ a. some_here (u + get_or span u 0) e r (holds_first span u e i k r h).2 l a b)
      where
        go : Dec (t < u + get_or span u 0) → (u + get_or span u 0 ≤ t → some_tree both_in (map_t (tagged code s d) r) ≡ true)
            → some_tree both_in (map_t (tagged code s d) (tree i k r)) ≡ true
        go (yes a) f = some_first u e i k r h l ∙ rw (covers_in span u t m a)
        go (no a) f = some_first u e i k r h l ∙ rw (covers_behind span u t (omega arith)) (f (omega arith))

    -- ------------------------------------------------------------------ down from the top to t
    abbrev At : List Expr → List Expr
    At way = around way (tagged code s d t) (under code span s d t)

    -- row u is t, or t lies below it, or behind it
    module _ (u : ℕ) (l : u < n) (r r' : Forest Tag) (way : List Expr) where
      abbrev F : List Expr
      F = factors (tree (tagged code s d u) (under code span s d u) r) way

      abbrev W : List Expr
      W = way_to (tree (tagged code t t u) (under code span t t u) r')

      at_here : u ≡ t → F ≡ At (way ++ W)
      unfolding under way_to
      at_here q =
          let o = row_open R u l in
          let c = covers_in span u t (omega arith) (omega (arith, o.some)) in
          rw (
            both_row u l,
            c,
            some_none (suc u) (u + get_or span u 0) (below span u) o.held o.inside (omega arith),
            dst_covers code span t t u n o,
            c,
            eq-eqb u t q,
            append-nil way,
            q,
          )

      at_below : (u ≡ t → ⊥) → Covers span u t → ((v : List Expr) → factors (under code span s d u) v ≡ At (v ++ way_to (under code span t t u)))
          → F ≡ At (way ++ W)
      unfolding under way_to
      at_below q v ih =
          let o = row_open R u l in
          let c = covers_in span u t v.from v.to in
          let own : List Expr = own_at code span t t u in
          let to_t : List Expr = way_to (under code span t t u) in
          let q_assoc : (way ++ (own ++ (child ∷ []))) ++ to_t ≡ way ++ (own ++ (child ∷ to_t)) = simp append_assoc in
          let lo = ap (λ (x : List Expr). way ++ x) (own_is R both_in s d t t (λ c m. both_row c m ∙ or_same (covers span c t)) u l (child ∷ [])) in
          rw (
            both_row u l,
            c,
            some_here (suc u) (u + get_or span u 0) (below span u) o.held o.inside (omega (arith, v.from)) v.to,
            dst_covers code span t t u n o,
            c,
            ne_eqb u t q,
            lo,
            own_is R dst_in t t t t (dst_same R t t) u l (child ∷ way_to (under code span t t u)),
          )
          (ih (way ++ (own ++ (child ∷ []))) ∙ ap At q_assoc)

      at_behind : u + get_or span u 0 ≤ t → factors r way ≡ At (way ++ way_to r') → F ≡ At (way ++ W)
      unfolding under way_to
      at_behind m ih = let c = covers_behind span u t m in rw (both_row u l, c, dst_covers code span t t u n (row_open R u l), c) ih

    factors_at : (u e : ℕ) (G : Forest ℕ) → Holds span u e G → e ≤ n → u ≤ t → t < e → (way : List Expr)
        → factors (map_t (tagged code s d) G) way ≡ At (way ++ way_to (map_t (tagged code t t) G))
    unfolding map_t under
    factors_at u e bare h l m b way = absurd (omega arith)
    factors_at u e (tree i k r) h l m b way =
        let z = holds_first span u e i k r h in
        let w = size_holds span u e (tree i k r) h in
        let w' = size_holds span (suc i + size k) e r h.3 in
        let y : get_or span u 0 ≡ suc (size k) = rw h.0 h.1 in
        rw (← h.0, ← z.0)
        (go (ℕ_discrete u t) (dec_lt t (u + get_or span u 0)) (omega arith)
        (λ a c v. rw z.0 (factors_at (suc i) (suc i + size k) k h.2 (omega arith) (omega (arith, h.0, a)) (omega (arith, h.0, c)) v))
        (λ a. factors_at (u + get_or span u 0) e r z.2 l a b way))
      where
        go : Dec (u ≡ t) → Dec (t < u + get_or span u 0) → u < n
            → ((u ≡ t → ⊥) → t < u + get_or span u 0 → (v : List Expr) → factors (under code span s d u) v ≡ At (v ++ way_to (under code span t t u)))
            → (u + get_or span u 0 ≤ t → factors (map_t (tagged code s d) r) way ≡ At (way ++ way_to (map_t (tagged code t t) r)))
            → factors (tree (tagged code s d u) (under code span s d u) (map_t (tagged code s d) r)) way
            ≡ At (way ++ way_to (tree (tagged code t t u) (under code span t t u) (map_t (tagged code t t) r)))
        go (yes q) c x f g = at_here u x (map_t (tagged code s d) r) (map_t (tagged code t t) r) way q
        go (no q) (yes c) x f g = at_below u x (map_t (tagged code s d) r) (map_t (tagged code t t) r) way q (record { from = m; to = c }) (f q c)
        go (no q) (no c) x f g = at_behind u x (map_t (tagged code s d) r) (map_t (tagged code t t) r) way (omega arith) (g (omega arith))

  -- ------------------------------------------------------------------ the ways at t
  -- a way to the one row that is so, row x, depends on x alone
  module _ (q : Tag → Bool) (W : Forest Tag → List Expr) (next : Tag → Forest Tag → List Expr)
      (way-tree : (b : Tag) (j r : Forest Tag) → W (tree b j r) ≡ cond (in_tree q b j) (next b j) (W r)) (s d x : ℕ)
      (here : (u : ℕ) → u < n → in_tree q (tagged code s d u) (under code span s d u) ≡ in_tree q (tagged code x x u) (under code span x x u))
      (step : (u : ℕ) → u < n → W (under code span s d u) ≡ W (under code span x x u)
      → next (tagged code s d u) (under code span s d u) ≡ next (tagged code x x u) (under code span x x u)) where
    way_same : (u e : ℕ) (G : Forest ℕ) → Holds span u e G → e ≤ n → W (map_t (tagged code s d) G) ≡ W (map_t (tagged code x x) G)
    unfolding map_t under
    way_same u e bare h l = refl
    way_same u e (tree i k r) h l =
        let z = holds_first span u e i k r h in
        let w = size_holds span u e (tree i k r) h in
        let m : u < n = omega arith in
        let y = way_same (suc i) (suc i + size k) k h.2 (omega (arith, size_holds span (suc i + size k) e r h.3)) in
        let y' : W (under code span s d u) ≡ W (under code span x x u) = rw z.0 y in
        rw (← h.0, ← z.0, way-tree (tagged code s d u) _ _, way-tree, here u m, step u m y', way_same (u + get_or span u 0) e r z.2 l)

  ups_same : (s d u e : ℕ) (G : Forest ℕ) → Holds span u e G → e ≤ n → ups (map_t (tagged code s d) G) ≡ ups (map_t (tagged code s s) G)
  ups_same s d =
      way_same (λ t. t.src) ups (λ b j. ups j ++ labelled b.lab (off src_in j (parent ∷ []))) (λ b j r. refl) s d s
      (λ u m. src_covers code span s d u n (row_open R u m) ∙ sym (src_covers code span s s u n (row_open R u m)))
      (λ u m y. rw (y, own_is R src_in s d s s (src_same R s d) u m (parent ∷ []), own_is R src_in s s s s (src_same R s s) u m (parent ∷ [])))

  downs_same : (s d u e : ℕ) (G : Forest ℕ) → Holds span u e G → e ≤ n → downs (map_t (tagged code s d) G) ≡ downs (map_t (tagged code d d) G)
  downs_same s d =
      way_same (λ t. t.dst) downs (λ b j. child ∷ labelled b.lab (off dst_in j (downs j))) (λ b j r. refl) s d d
      (λ u m. dst_covers code span s d u n (row_open R u m) ∙ sym (dst_covers code span d d u n (row_open R u m)))
      (λ u m y. rw (own_is R dst_in s d d d (dst_same R s d) u m (downs (under code span s d u)), own_is R dst_in d d d d (dst_same R d d) u m (downs (under code span d d u)), y))

  above_append : (way l : List Expr) → above_factor way l ≡ above_factor way [] ++ l
  above_append [] l = refl
  above_append (x ∷ xs) l = refl

  way_top : (t : ℕ) → t < n → way_to (map_t (tagged code t t) (shape span n)) ≡ way_at code span t 0
  unfolding way_to way_at map_t under
  way_top t l =
      let T = rows_top code mark kids span up n R (omega arith) in
      let z : 0 < n = omega arith in
      rw (
        T.shape_is,
        dst_covers code span t t 0 n (row_open R 0 z),
        covers_in span 0 t (omega arith) (omega (arith, T.span_all)),
        own_is R dst_in t t t t (dst_same R t t) 0 z (child ∷ way_to (under code span t t 0)),
      )

  -- "The factors, in order"
  pub factors_rows : (s d t : ℕ) → t < n → Lowest span s d t → factors (map_t (tagged code s d) (shape span n)) [] ≡ form_at code span s d t
  unfolding form_at ups_at downs_at under
  factors_rows s d t l L =
      let o = row_open R t l in
      factors_at s d t L 0 n (shape span n) R.laid (omega arith) (omega arith) l []
      ∙ rw (
        way_top t l,
        own_is R either_in s d s d (λ c m. either_covers code span s d c n (row_open R c m)) t l (downs (under code span s d t)),
        above_append (way_at code span t 0) (own_at code span s d t ++ downs (under code span s d t)),
        ups_same s d (suc t) (t + get_or span t 0) (below span t) o.held o.inside,
        downs_same s d (suc t) (t + get_or span t 0) (below span t) o.held o.inside,
      )
