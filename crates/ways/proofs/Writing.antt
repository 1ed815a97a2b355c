-- Writing the ways: what fits, and what stands in the room after each row.
use mathlib.Core.Path.{◌≡◌, refl, sym, ap, ◌∙◌}
use mathlib.Core.List.{List, [], ◌∷◌, ◌++◌, append_assoc, append-nil}
use Prim.Native.Nat.{ℕ, zero, suc, ◌+◌, ◌≤◌, ◌<◌}
use native.Mathlib.Decide.{ℕ_discrete}
use native.Mathlib.Omega.{arith}
use lib.ListN.{get_or}
use lib.Dec.{ltb}
use borrow.Author.Tests.{ne_eqb}
use Rattle.meaning.specs.Expression.{Expr, child, parent}
use Rattle.meaning.specs.Number.{num}
use Rattle.meaning.specs.Normal.{above_factor}
use Rattle.rows.specs.Rows.{below}
use Rattle.rows.proofs.Rows.{rows_top}
use Rattle.groups.specs.declared.Writer.{Writer}
use Rattle.groups.specs.Filled.{filled, Fits}
use Rattle.branches.specs.Joining.{joint, fill, factor, Takes, filled_by}
use Rattle.branches.specs.Factors.{Row, own_at}
use Rattle.branches.proofs.Joining.{fill_one, fill_first, fill_parent, filled_by_nil, filled_by_both}
use Rattle.branches.proofs.Joining.{Left, left_start, left_is, left_step, left_fits, child_step}
use Rattle.ways.specs.Ways.{Covers, Among, Part, Climb, ups_at, downs_at, way_at}
use Rattle.ways.proofs.Walk.{row_open, among_from, ups_step, downs_step, way_step, ups_end, downs_end, way_end}
use Rattle.ways.proofs.Steps.{covers_self, parent_less, parent_covers, parent_among, parent_least}

-- ------------------------------------------------------------------ up from s to t
module _ {code kids span up : List ℕ} {t s : ℕ} (C : Climb code kids span up t s) where
  pub climb_row : (x : ℕ) → Covers span x s → Row code kids span x
  climb_row x v = record { mark = C.mark; up = up; n = C.n; rows = C.rows; within = omega (arith, v.from, C.within) }

  pub rise_start : (w : Writer) → (t ≤ s) × Covers span s s × (w ≡ filled_by w.length w (ups_at code span s s))
  rise_start w =
      (C.covers.from, covers_self C.rows s C.within, sym (ap (filled_by w.length w) (ups_end C.rows s C.within) ∙ filled_by_nil w.length w))

  -- one row further up: x is above or at s, below t
  module _ (x : ℕ) (tx : t ≤ x) (v : Covers span x s) (ne : x ≡ t → ⊥) where
    top : 0 < x
    top = omega arith

    pub rise_less : get_or up x 0 < x
    rise_less = parent_less C.rows x s C.within v top

    pub rise_covers : Covers span (get_or up x 0) s
    rise_covers = parent_covers C.rows x s C.within v top

    pub rise_from : t ≤ get_or up x 0
    rise_from = parent_least C.rows x s C.within v top t C.covers (omega arith)

    rise_step : ups_at code span s (get_or up x 0) ≡ ups_at code span s x ++ (own_at code span s s x ++ (parent ∷ []))
    rise_step =
        let l = rise_less in let b : x < C.n = omega (arith, v.from, C.within) in
        ups_step C.rows (get_or up x 0) x (omega arith) b (parent_among C.rows x s C.within v top) s v

  -- what is written up to row x is the beginning of what is owed
  ups_begin : (k x : ℕ) → x ≤ k → t ≤ x → Covers span x s → (zs : List Expr) × (ups_at code span s t ≡ ups_at code span s x ++ zs)
  ups_begin zero x l tx v = let z : x ≡ t = omega arith in ([], rw z (sym (append-nil (ups_at code span s t))))
  ups_begin (suc k) x l tx v =
      go (ℕ_discrete x t) (λ ne. let m = rise_less x tx v ne in ups_begin k (get_or up x 0) (omega arith) (rise_from x tx v ne) (rise_covers x tx v ne))
    where
      go : Dec (x ≡ t) → ((x ≡ t → ⊥) → (zs : List Expr) × (ups_at code span s t ≡ ups_at code span s (get_or up x 0) ++ zs))
          → (zs : List Expr) × (ups_at code span s t ≡ ups_at code span s x ++ zs)
      go (yes z) f = ([], rw z (sym (append-nil (ups_at code span s t))))
      go (no ne) f =
          let (zs, e) = f ne in (
            (own_at code span s s x ++ (parent ∷ [])) ++ zs,
            e ∙ ap (λ (l : List Expr). l ++ zs) (rise_step x tx v ne)
                ∙ append_assoc (ups_at code span s x) (own_at code span s s x ++ (parent ∷ [])) zs,
          )

  module _ (x : ℕ) (tx : t ≤ x) (v : Covers span x s) (ne : x ≡ t → ⊥) (w₀ : Writer) {w : Writer} (e : w ≡ filled_by w₀.length w₀ (ups_at code span s x)) where
    later : (zs : List Expr) × (ups_at code span s t ≡ ups_at code span s (get_or up x 0) ++ zs)
    later = ups_begin (get_or up x 0) (get_or up x 0) (omega arith) (rise_from x tx v ne) (rise_covers x tx v ne)

    module _ (l : Takes w₀.length w₀ (ups_at code span s t)) where
      -- row x's own factors are the next, then parent
      rise_left : Left (filled_by w₀.length w₀ (ups_at code span s t)) w₀.length w (own_at code span s s x ++ ((parent ∷ []) ++ later.0))
      rise_left =
          left_step (ups_at code span s x) _
          (left_is (later.1 ∙ ap (λ (l : List Expr). l ++ later.0) (rise_step x tx v ne) ∙ simp append_assoc) (left_start (omega arith) l)) e

      pub rise_own : Takes w₀.length w (own_at code span s s x)
      rise_own = left_fits _ _ rise_left

      pub rise_parent : {w₁ : Writer} → w₁ ≡ filled_by w₀.length w (own_at code span s s x) → Fits w₁ (factor w₀.length w₁.length (num 3))
      rise_parent {w₁} a = rw (← fill_parent w₀.length w₁.length) (left_fits (parent ∷ []) _ (left_step (own_at code span s s x) _ rise_left a))

    pub rise_next : {w₁ w₂ : Writer} → w₁ ≡ filled_by w₀.length w (own_at code span s s x) → w₂ ≡ filled w₁ (factor w₀.length w₁.length (num 3))
        → w₂ ≡ filled_by w₀.length w₀ (ups_at code span s (get_or up x 0))
    rise_next {w₁} {w₂} a b =
        let b' : w₂ ≡ filled_by w₀.length w₁ (parent ∷ []) = b ∙ ap (filled w₁) (sym (fill_parent w₀.length w₁.length)) in
        let g : w₀.length ≤ w.length = rw e (omega arith) in
        filled_by_both _ _ _ _ (omega arith) e (filled_by_both _ w _ _ g a b') ∙ ap (filled_by w₀.length w₀) (sym (rise_step x tx v ne))

-- ------------------------------------------------------------------ down
-- a row on the way down, and its child
module _ {code kids span : List ℕ} {u : ℕ} (R : Row code kids span u) where
  pub row_part : Part span u
  row_part = record { n = R.n; laid = R.rows.laid; few = R.rows.few; within = R.within }

  row_reach : {x : ℕ} → Covers span u x → x < R.n
  row_reach w = omega (arith, w.to, (row_open R.rows u R.within).inside)

  module _ {c x : ℕ} (a : Among c (below span u)) (v : Covers span c x) (k : Covers span u x) where
    within : c < R.n
    within = omega (arith, v.from, row_reach k)

    pub child_row : Row code kids span c
    child_row = record { mark = R.mark; up = R.up; n = R.n; rows = R.rows; within = within }

    pub child_behind : u < c
    child_behind = among_from span (suc u) (u + get_or span u 0) (below span u) (row_open R.rows u R.within).held c a

    module _ {z : Writer} {from : ℕ} {w : Writer} where
      -- down to d: child, and then row c's own factors
      module _ (L : Left z from w (downs_at code span x u)) where
        pub down_start : Left z from w (child ∷ (own_at code span x x c ++ downs_at code span x c))
        down_start = left_is (downs_step R.rows u c R.within within a x v) L

        module _ {w₁ : Writer} (s : w₁ ≡ filled w (factor from w.length (num 2))) where
          pub down_own : Left z from w₁ (own_at code span x x c ++ downs_at code span x c)
          down_own = child_step down_start s

          pub down_done : {w₂ : Writer} → w₂ ≡ filled_by from w₁ (own_at code span x x c) → Left z from w₂ (downs_at code span x c)
          down_done o = left_step _ _ down_own o

      -- the way above: row u's own factors, and then child
      pub way_start : (u ≡ x → ⊥) → Left z from w (way_at code span x u) → Left z from w (own_at code span x x u ++ (child ∷ way_at code span x c))
      way_start ne L = left_is (way_step R.rows u c R.within within a x v ne) L

  -- the way starts at the top, where everything lies below
  pub top_row : Row code kids span 0
  top_row = record { mark = R.mark; up = R.up; n = R.n; rows = R.rows; within = omega (arith, R.within) }

  pub top_covers : Covers span 0 u
  top_covers =
      record {
        from = omega arith;
        to = omega
            (arith, R.within, (rows_top code R.mark kids span R.up R.n R.rows (omega (arith, R.within))).span_all);
      }

  -- the ways have an end
  pub downs_nil : {d : ℕ} → u ≡ d → downs_at code span d u ≡ []
  downs_nil e = rw (← e) (downs_end R.rows u R.within)

  pub way_nil : {t : ℕ} → u ≡ t → way_at code span t u ≡ []
  way_nil e = rw (← e) (way_end R.rows u)

-- ------------------------------------------------------------------ the way above
pub above_none : (code span : List ℕ) (t : ℕ) → t ≡ 0 → above_factor (way_at code span t 0) [] ≡ []
unfolding way_at
above_none code span t z = rw z refl

pub above_parts : (code span : List ℕ) (from at t : ℕ) → (t ≡ 0 → ⊥)
    → fill from at (above_factor (way_at code span t 0) []) ≡ fill at at (way_at code span t 0) ++ (6 ∷ joint (ltb from at))
unfolding way_at
above_parts code span from at t ne = rw (ne_eqb 0 t (λ q. ne (sym q))) (go (own_at code span t t 0) _)
  where
    cons : (y : Expr) (ys : List Expr) → fill from at (above_factor (y ∷ ys) []) ≡ fill at at (y ∷ ys) ++ (6 ∷ joint (ltb from at))
    cons y ys =
        fill_one from at _ ∙ append_assoc _ (6 ∷ []) (joint (ltb from at)) ∙ ap (λ (l : List ℕ). l ++ (6 ∷ joint (ltb from at))) (sym (fill_first at y ys))

    go : (ys zs : List Expr) → fill from at (above_factor (ys ++ (child ∷ zs)) []) ≡ fill at at (ys ++ (child ∷ zs)) ++ (6 ∷ joint (ltb from at))
    go [] zs = cons child zs
    go (y ∷ ys) zs = cons y (ys ++ (child ∷ zs))
