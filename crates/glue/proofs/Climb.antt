-- Gluing level by level in place: `Climb` says that what is left to glue, in the rows as they are now, gives what was asked for.
use Rattle.std.specs.Prelude as code
use Rattle.std.specs.Prelude.{Some, None}
use mathlib.Core.Path.{◌≡◌, refl, sym, ap, subst, ◌∙◌}
use mathlib.Core.Logic.{◌≢◌}
use mathlib.Core.Option.{Option, none, some}
use mathlib.Core.List.{List}
use Prim.Native.Nat.{ℕ, zero, suc, ◌-◌, ◌≤◌, ◌<◌}
use native.Mathlib.Decide.{ℕ_discrete}
use native.Mathlib.Omega.{arith}
use lib.ListN.{length, get_or}
use Rattle.meaning.specs.TreeQuery.{Lab, node, Table, at}
use Rattle.meaning.specs.Gluing.{meet, moved, or_else, merged, Glued, after, glue_link, glue_lab, glue_step, glue}
use Rattle.rows.specs.Rows.{lab_of}
use Rattle.theory.proofs.Look.{never}
use Rattle.theory.proofs.Apart.{Safe, safe_next}
use Rattle.rows.specs.Table.{parent_of, table}
use Rattle.rows.proofs.Table.{at_table, row_table, live_below}
use Rattle.glue.specs.declared.levels.Joined.{Joined}
use Rattle.glue.specs.Rows.{RowsFit}
use Rattle.glue.specs.Levels.{Level, next_of, follows, Leads, Marked, marked, joined_of, onward}

-- ------------------------------------------------------------------ one step of the definition
glue_same : (n : ℕ) (T : Table) (x y : ℕ) → 0 < n → x ≡ y → glue n T x y ≡ some (record { rows = T; to = λ i. i })
glue_same zero T x y lt e = absurd (omega arith)
glue_same (suc n) T x y lt e = go (ℕ_discrete x y)
  where
    go : (c : Dec (x ≡ y)) → glue_step (glue n) T x y c ≡ some (record { rows = T; to = λ i. i })
    go (yes p) = refl
    go (no np) = absurd (np e)

glue_other : (n : ℕ) (T : Table) (x y : ℕ) (u v : Option ℕ) (l k : Lab) → 0 < n → x ≢ y → at T x ≡ some (node u l) → at T y ≡ some (node v k)
    → glue n T x y ≡ glue_lab (glue (n - 1)) T x y u v (meet l k)
glue_other zero T x y u v l k lt ne ex ey = absurd (omega arith)
glue_other (suc n) T x y u v l k lt ne ex ey =
    subst (λ z. glue (suc n) T x y ≡ glue_lab (glue z) T x y u v (meet l k)) (let q : n ≡ suc n - 1 = omega arith in q) (go (ℕ_discrete x y))
  where
    go : (c : Dec (x ≡ y)) → glue_step (glue n) T x y c ≡ glue_lab (glue n) T x y u v (meet l k)
    go (yes p) = absurd (ne p)
    go (no np) = rw (ex, ey) refl

link_follows : (rec : Table → ℕ → ℕ → Option Glued) (T : Table) (x y : ℕ) (u v : Option ℕ)
    → glue_link rec T x y u v ≡ follows rec (moved x y) (Some (next_of (moved x y) u v)) T
link_follows rec T x y none v = refl
link_follows rec T x y (some p) none = refl
link_follows rec T x y (some p) (some q) = refl

-- the rows below `from` link to rows below `from`
pub first_rows : (from n : ℕ) (P L : List ℕ) (x y : ℕ) → Safe from (table n P L) x y → (i p : ℕ) → i < from → parent_of (get_or P i 0) ≡ some p → p < from
first_rows from n P L x y s i p lt e =
    let a = s.right in
    let b = live_below n P L y s.live_y in
    s.first i p (lab_of (get_or L i 0)) (row_table n P L i (omega arith) (some p) e) lt

module _ (from n : ℕ) (P L : List ℕ) (x y : ℕ) (ne : x ≢ y) (safe : Safe from (table n P L) x y) where
  abbrev T : Table
  T = table n P L

  abbrev U : Option ℕ
  U = parent_of (get_or P x 0)

  abbrev W : Option ℕ
  W = parent_of (get_or P y 0)

  abbrev l : Lab
  l = lab_of (get_or L x 0)

  abbrev k : Lab
  k = lab_of (get_or L y 0)

  xn : x < n
  xn = live_below n P L x safe.live_x

  row_x_lem : at T x ≡ some (node U l)
  row_x_lem = at_table n P L x xn

  row_y_lem : at T y ≡ some (node W k)
  row_y_lem = at_table n P L y (live_below n P L y safe.live_y)

  step : glue n T x y ≡ glue_lab (glue (n - 1)) T x y U W (meet l k)
  step = glue_other n T x y U W l k (omega (arith, xn)) ne row_x_lem row_y_lem

  -- two different labels
  pub level_fails : none ≡ meet l k → (T' : Table) → Leads from n x y T None T'
  level_fails em T' = record { whole = step ∙ ap (glue_lab (glue (n - 1)) T x y U W) (sym em); next = λ p q e. never cc }

  pub level_next : (m w : ℕ) → some (lab_of m) ≡ meet l k → parent_of w ≡ or_else U W → (T' : Table) → T' ≡ merged T x y (parent_of w) (lab_of m) → (r : code.Option (ℕ × ℕ))
      → r ≡ next_of (moved x y) U W → Leads from n x y T (Some r) T'
  level_next m w em ew T' et r er = record {
    whole = step ∙ ap (glue_lab (glue (n - 1)) T x y U W) (sym em) ∙ link_follows (glue (n - 1)) M x y U W ∙ rw (er, into) refl;
    next = λ p q e. go U W refl refl p q (let z : r ≡ Some (p, q) = cc in sym er ∙ z);
  }
    where
      M : Table
      M = merged T x y (or_else U W) (lab_of m)

      into : T' ≡ M
      into = et ∙ ap (λ z. merged T x y z (lab_of m)) ew

      go : (u v : Option ℕ) → U ≡ u → W ≡ v → (p q : ℕ) → next_of (moved x y) u v ≡ Some (p, q) → Safe from T' p q
      go none v eu ev p q e = never cc
      go (some a) none eu ev p q e = never cc
      go (some a) (some b) eu ev p q e =
          let pair : (moved x y a, moved x y b) ≡ (p, q) = cc in
          let ep : moved x y a ≡ p = ap (λ (z : ℕ × ℕ). z.0) pair in
          let eq : moved x y b ≡ q = ap (λ (z : ℕ × ℕ). z.1) pair in
          let ex = row_x_lem ∙ ap (λ z. some (node z l)) eu in
          let ey = row_y_lem ∙ ap (λ z. some (node z k)) ev in
          rw (← ep, ← eq, into, eu) (safe_next from (lab_of m) (record { row_x = ex; row_y = ey; differ = ne }) (sym em) safe)

-- ------------------------------------------------------------------ what the loop keeps
module _ (P₀ L₀ : List ℕ) (from : ℕ) (t : Joined) (a b : ℕ) where
  abbrev All : Option Marked
  All = marked (glue t.rows (table t.rows P₀ L₀) a b) t.s t.d t.d2

  pub record Climb (P L : List ℕ) (r : Joined) (x y : ℕ) : Type 0 where
    pub len_p : length P ≡ length P₀
    pub len_l : length L ≡ length L₀
    pub few : r.rows ≤ t.rows
    pub safe : Safe from (table r.rows P L) x y
    pub whole : All ≡ marked (glue r.rows (table r.rows P L) x y) r.s r.d r.d2

  pub climb_start : Safe from (table t.rows P₀ L₀) a b → Climb P₀ L₀ t a b
  climb_start safe = record { len_p = refl; len_l = refl; few = omega arith; safe = safe; whole = refl }

  marked_after : (f : ℕ → ℕ) (o : Option Glued) (s d e : ℕ) → marked (after f o) s d e ≡ marked o (f s) (f d) (f e)
  marked_after f none s d e = refl
  marked_after f (some g) s d e = refl

  module _ {P L : List ℕ} {r : Joined} {x y : ℕ} (c : Climb P L r x y) where
    pub climb_row : x < r.rows
    climb_row = live_below r.rows P L x c.safe.live_x

    pub climb_asks : RowsFit t.rows P₀ L₀ → x ≢ y
        → RowsFit r.rows P L × (x < r.rows) × (y < r.rows) × (x ≢ y) × Safe from (table r.rows P L) x y
    climb_asks fit ne = (
      record {
        small = omega (arith, c.few, fit.small);
        parents = omega (arith, c.few, c.len_p, fit.parents);
        labels = omega (arith, c.few, c.len_l, fit.labels);
      },
      climb_row,
      live_below r.rows P L y c.safe.live_y,
      ne,
      c.safe,
    )

    -- both are the same row
    pub climb_same : x ≡ y → joined_of (Some r) P L ≡ All
    climb_same q = sym (c.whole ∙ ap (λ o. marked o r.s r.d r.d2) (glue_same r.rows (table r.rows P L) x y (omega (arith, climb_row)) q))

    module _ (P' L' : List ℕ) (lv : Level) (g : Leads from r.rows x y (table r.rows P L) lv (table (r.rows - 1) P' L')) where
      abbrev r' : Joined
      r' = onward (moved x y) r

      at_level : {k : Level} → lv ≡ k → All ≡ marked (follows (glue (r.rows - 1)) (moved x y) k (table (r.rows - 1) P' L')) r.s r.d r.d2
      at_level e = c.whole ∙ ap (λ o. marked o r.s r.d r.d2) g.whole
          ∙ ap (λ z. marked (follows (glue (r.rows - 1)) (moved x y) z (table (r.rows - 1) P' L')) r.s r.d r.d2) e

      -- the parents are next
      pub climb_next : (p q : ℕ) → lv ≡ Some (Some (p, q)) → length P' ≡ length P → length L' ≡ length L → Climb P' L' r' p q
      climb_next p q e lp ll = record {
        len_p = lp ∙ c.len_p;
        len_l = ll ∙ c.len_l;
        few = omega (arith, c.few);
        safe = g.next p q e;
        whole = at_level e ∙ marked_after (moved x y) (glue (r.rows - 1) (table (r.rows - 1) P' L') p q) r.s r.d r.d2;
      }

      -- or none are
      pub climb_ends : lv ≡ Some None → joined_of (Some r') P' L' ≡ All
      climb_ends e = sym (at_level e)

      pub climb_fails : lv ≡ None → none ≡ All
      climb_fails e = sym (at_level e)
