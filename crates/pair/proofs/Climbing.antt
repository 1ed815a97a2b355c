-- Climbing: a way up from row u is laid exactly if u's bit is set at its place and the way from its parent is laid from the place's parent.
use mathlib.Core.Path.{◌≡◌, refl, sym, ap, ◌∙◌}
use mathlib.Core.Logic.{◌↔◌}
use mathlib.Core.List.{List}
use mathlib.Core.Bool.{true, cond}
use Prim.Native.Nat.{ℕ, ◌≤◌, ◌<◌}
use native.Mathlib.Omega.{arith}
use native.Mathlib.Decide.{ℕ_discrete}
use lib.ListN.{length, get_or}
use lib.Dec.{eqb}
use borrow.Author.Tests.{eq-eqb, ne_eqb}
use Rattle.meaning.specs.Matching.{bit_at}
use Rattle.rows.proofs.Rows.{Within, row_opens, row_up, row_inside, row_least}
use Rattle.pair.specs.Pair.{Asked, Step, OnNode, WayLaid, OneWay, TwoWays}

-- ------------------------------------------------------------------ one step up
module _ {w mark up P : List ℕ} (q : Asked w mark up P) where
  abbrev Way : (ℕ → ℕ) → ℕ → Type 0
  Way = WayLaid w up P q.span

  row_above : (u : ℕ) → 0 < u → u < q.rows → Within q.span u (get_or up u 0)
  row_above = row_up q.code mark q.kids q.span up q.rows q.tree

  pub up_less : (u : ℕ) → 0 < u → u < q.rows → get_or up u 0 < u
  up_less u z l = (row_above u z l).0

  -- the row's own step, and the way from its parent
  record Steps (h : ℕ → ℕ) (u : ℕ) : Type 0 where
    here : OnNode w up P h u
    rest : 0 < u → Way h (get_or up u 0)

  way_steps : (h : ℕ → ℕ) (u : ℕ) → u < q.rows → Way h u → Steps h u
  way_steps h u l f =
      let o = (row_opens q.span q.rows q.tree.laid u l).some in
      record {
        here = f u (omega arith) (omega arith);
        rest = λ z c a b.
            let (y, e) = row_above u z l in
            f c (omega arith) (omega (arith, o, e, row_inside q.tree c (get_or up u 0) (omega arith) a b));
      }

  steps_way : (h : ℕ → ℕ) (u : ℕ) → u < q.rows → Steps h u → Way h u
  steps_way h u l s c a b = go (ℕ_discrete c u)
    where
      go : Dec (c ≡ u) → OnNode w up P h c
      go (yes e) = rw e s.here
      go (no e) =
          let y = up_less u (omega arith) l in
          s.rest (omega arith) c (row_least q.tree c u (omega arith) (omega arith) b) (omega arith)

  -- only the places of the rows up to u matter
  way_same : (h h' : ℕ → ℕ) (u : ℕ) → u < q.rows → ((c : ℕ) → c ≤ u → h' c ≡ h c) → Way h u → Way h' u
  way_same h h' u l e f c a b =
      let g = f c a b in
      record {
        inside = rw (e c a) g.inside;
        bit = rw (e c a) g.bit;
        edge = λ z. let y = up_less c z (omega arith) in rw (e c a, e (get_or up c 0) (omega arith)) (g.edge z);
      }

  -- h with row u on x
  abbrev put : (ℕ → ℕ) → ℕ → ℕ → ℕ → ℕ
  put h u x c = cond (eqb c u) x (h c)

  put_here : (h : ℕ → ℕ) (u x : ℕ) → put h u x u ≡ x
  put_here h u x = rw (eq-eqb u u refl)

  put_other : (h : ℕ → ℕ) (u x c : ℕ) → (c ≡ u → ⊥) → put h u x c ≡ h c
  put_other h u x c ne = rw (ne_eqb c u ne)

  -- a laid way up from u has a first step, and a first step can be put before the way from u's parent
  module _ (u x : ℕ) (z : 0 < u) (l : u < q.rows) (lx : x < length P) (h : ℕ → ℕ) where
    way_first : h u ≡ x → Way h u → Step w u x × (h (get_or up u 0) ≡ get_or P x 0) × Way h (get_or up u 0)
    way_first e f =
        let s = way_steps h u l f in
        let d = rw e at (s.here.edge z) in
        ((d.0, rw e at s.here.bit), sym d.1, s.rest z)

    first_way : Step w u x → h (get_or up u 0) ≡ get_or P x 0 → Way h (get_or up u 0) → Way (put h u x) u
    first_way s e f =
        let y = up_less u z l in
        steps_way (put h u x) u l
        (record {
          here = record {
            inside = rw (put_here h u x) lx;
            bit = rw (put_here h u x) s.1;
            edge = λ _. rw (put_here h u x, put_other h u x (get_or up u 0) (λ a. omega arith)) (s.0, sym e);
          };
          rest = λ _. way_same h (put h u x) (get_or up u 0) (omega arith) (λ c a. put_other h u x c (λ b. omega arith)) f;
        })

  -- ---------------------------------------------------------------- one way
  abbrev One : ℕ → ℕ → Type 0
  One = OneWay w up P q.span

  pub one_top : (x : ℕ) → 0 < q.rows → x < length P → One 0 x ↔ (bit_at w 0 x ≡ true)
  one_top x l lx = (
    λ (h, e, f). rw e at (way_steps h 0 l f).here.bit,
    λ b. (
      λ _. x,
      refl,
      steps_way (λ _. x) 0 l
          (record { here = record { inside = lx; bit = b; edge = λ z. absurd (omega arith) }; rest = λ z. absurd (omega arith) }),
    ),
  )

  pub one_step : (u x : ℕ) → 0 < u → u < q.rows → x < length P → One u x ↔ (Step w u x × One (get_or up u 0) (get_or P x 0))
  one_step u x z l lx = (
    λ (h, e, f). let (s, a, g) = way_first u x z l lx h e f in (s, (h, a, g)),
    λ (s, (h, e, f)). (put h u x, put_here h u x, first_way u x z l lx h s e f),
  )

  -- ---------------------------------------------------------------- two ways
  abbrev Two : ℕ → ℕ → ℕ → ℕ → Type 0
  Two = TwoWays w up P q.span

  pub two_swap : (u x v y : ℕ) → Two u x v y → Two v y u x
  two_swap u x v y (h, a, b, f, g) = (h, b, a, g, f)

  -- where the ways meet, the places are the same
  pub two_meet : (u x v y : ℕ) → u ≡ v → Two u x v y ↔ ((x ≡ y) × One u x)
  two_meet u x v y e = (λ (h, a, b, f, g). (sym a ∙ ap h e ∙ b, (h, a, f)), λ (z, (h, a, f)). (h, a, ap h (sym e) ∙ a ∙ z, f, rw (← e) f))

  -- the later row steps up
  pub two_step : (u x v y : ℕ) → v < u → u < q.rows → x < length P → Two u x v y ↔ (Step w u x × Two (get_or up u 0) (get_or P x 0) v y)
  two_step u x v y lv l lx = (
    λ (h, a, b, f, g). let (s, e, r) = way_first u x (omega arith) l lx h a f in (s, (h, e, b, r, g)),
    λ (s, (h, a, b, f, g)). (
      put h u x,
      put_here h u x,
      put_other h u x v (λ e. omega arith) ∙ b,
      first_way u x (omega arith) l lx h s a f,
      way_same h (put h u x) v (omega arith) (λ c m. put_other h u x c (λ e. omega arith)) g,
    ),
  )
