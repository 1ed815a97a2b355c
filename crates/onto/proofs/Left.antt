-- Laws of what is left: brother by brother, and where "some brother is so", folding and "no two fold", which speak of forests, are said of the rows that
-- are still there.
use mathlib.Core.Path.{◌≡◌, refl, sym, ap, ◌∙◌}
use mathlib.Core.Logic.{inl, inr, ⊎_elim}
use mathlib.Core.Bool.{Bool, true, false}
use mathlib.Core.List.{List}
use Prim.Native.Nat.{ℕ, ◌+◌, ◌≤◌}
use native.Mathlib.Omega.{arith}
use lib.ListN.{get_or}
use Rattle.meaning.specs.Tree.{Forest, bare, tree, Tag, Any}
use Rattle.meaning.specs.Folding.{Folds, Onto}
use Rattle.theory.proofs.Look.{never}
use Rattle.rows.specs.Rows.{below, map_t, Holds}
use Rattle.rows.specs.declared.TreeRows.{TreeRows}
use Rattle.rows.proofs.Rows.{Opens, holds_first}
use Rattle.onto.specs.Left.{Nodes, Remarked, tag_of, gone_at, Brother, kept, left, left_below}

-- no row has gone and is still there
pub not_both : {A : Type 0} {b : Bool} → b ≡ true → b ≡ false → A
not_both p q = never (cc (sym p ∙ q))

-- ------------------------------------------------------------------ brother by brother
pub kept_bare : (mark : List ℕ) → kept mark bare ≡ bare
unfolding kept
kept_bare mark = refl

module _ (mark : List ℕ) (i : ℕ) (k r : Forest ℕ) where
  pub kept_here : gone_at mark i ≡ false → kept mark (tree i k r) ≡ tree i (kept mark k) (kept mark r)
  unfolding kept
  kept_here e = rw e

  pub kept_away : gone_at mark i ≡ true → kept mark (tree i k r) ≡ kept mark r
  unfolding kept
  kept_away e = rw e

-- a row is there with what is left below it, or it is not there
pub kept_ind : (mark : List ℕ) (Q : Forest ℕ → Forest ℕ → Type 0) → Q bare bare
    → ((i : ℕ) (k r : Forest ℕ) → Q k (kept mark k) → Q r (kept mark r)
    → (gone_at mark i ≡ false → Q (tree i k r) (tree i (kept mark k) (kept mark r))) × (gone_at mark i ≡ true → Q (tree i k r) (kept mark r)))
    → (F : Forest ℕ) → Q F (kept mark F)
kept_ind mark Q none more bare = rw (kept_bare mark) none
kept_ind mark Q none more (tree i k r) = go (gone_at mark i) refl (more i k r (kept_ind mark Q none more k) (kept_ind mark Q none more r))
  where
    go : (b : Bool) → gone_at mark i ≡ b
        → (gone_at mark i ≡ false → Q (tree i k r) (tree i (kept mark k) (kept mark r))) × (gone_at mark i ≡ true → Q (tree i k r) (kept mark r))
        → Q (tree i k r) (kept mark (tree i k r))
    go false d q = rw (kept_here mark i k r d) (q.0 d)
    go true d q = rw (kept_away mark i k r d) (q.1 d)

pub left_bare : (t : Nodes) → left t bare ≡ bare
unfolding left map_t
left_bare t = rw (kept_bare t.mark)

module _ (t : Nodes) (i : ℕ) (k r : Forest ℕ) where
  pub left_here : gone_at t.mark i ≡ false → left t (tree i k r) ≡ tree (tag_of t i) (left t k) (left t r)
  unfolding left map_t
  left_here e = rw (kept_here t.mark i k r e)

  pub left_away : gone_at t.mark i ≡ true → left t (tree i k r) ≡ left t r
  unfolding left
  left_away e = rw (kept_away t.mark i k r e)

-- ------------------------------------------------------------------ forests and rows
module _ (t : Nodes) where
  abbrev Here : ℕ → Type 0
  Here i = gone_at t.mark i ≡ false

  abbrev Away : ℕ → Type 0
  Away i = gone_at t.mark i ≡ true

  -- the first brother is there with what is left below it, or it is not there
  pub left_ind : (Q : Forest ℕ → Forest Tag → Type 0) (u e : ℕ) → Q bare bare
      → ((i : ℕ) (r : Forest ℕ) → u ≤ i → Opens t.span i e → Holds t.span (i + get_or t.span i 0) e r → Q r (left t r)
      → (Here i → Q (tree i (below t.span i) r) (tree (tag_of t i) (left_below t i) (left t r))) × (Away i → Q (tree i (below t.span i) r) (left t r)))
      → (F : Forest ℕ) → Holds t.span u e F → Q F (left t F)
  left_ind Q u e none more F h = all u (omega arith) F h
    where
      first : (i : ℕ) (r : Forest ℕ) (b : Bool) → gone_at t.mark i ≡ b
          → (Here i → Q (tree i (below t.span i) r) (tree (tag_of t i) (left_below t i) (left t r))) × (Away i → Q (tree i (below t.span i) r) (left t r))
          → Q (tree i (below t.span i) r) (left t (tree i (below t.span i) r))
      first i r false d q = rw (left_here t i (below t.span i) r d) (q.0 d)
      first i r true d q = rw (left_away t i (below t.span i) r d) (q.1 d)

      all : (w : ℕ) → u ≤ w → (F : Forest ℕ) → Holds t.span w e F → Q F (left t F)
      all w l bare h = rw (left_bare t) none
      all w l (tree i k r) h =
          let z = holds_first t.span w e i k r h in
          let d : w ≡ i = h.0 in
          let y : k ≡ below t.span i = sym z.0 ∙ ap (below t.span) d in
          let o : Opens t.span i e = rw d at z.1 in
          let g : Holds t.span (i + get_or t.span i 0) e r = rw d at z.2 in
          rw y (first i r (gone_at t.mark i) refl (more i r (omega arith) o g (all (i + get_or t.span i 0) (omega arith) r g)))

  module _ (u e : ℕ) (F : Forest ℕ) (h : Holds t.span u e F) where
    -- some brother that is still there is so: the row of that brother
    pub any_of_row : (P : Tag → Forest Tag → Type 0) (y : ℕ) → Brother y F → Here y → P (tag_of t y) (left_below t y) → Any P (left t F)
    any_of_row P y b q z =
        left_ind (λ G M. Brother y G → Any P M) u e (λ n. absurd n)
        (λ i r l o g f. (
          λ d. ⊎_elim (λ n. inl (rw n at z)) (λ n. inr (f n)),
          λ d. ⊎_elim (λ n. not_both d (rw n at q)) f,
        )) F h b

    pub row_of_any : (P : Tag → Forest Tag → Type 0) → Any P (left t F) → (x : ℕ) × Brother x F × Here x × P (tag_of t x) (left_below t x)
    row_of_any P =
        left_ind (λ G M. Any P M → (x : ℕ) × Brother x G × Here x × P (tag_of t x) (left_below t x)) u e (λ n. absurd n)
        (λ i r l o g f. (
          λ d. ⊎_elim (λ z. (i, inl refl, d, z)) (λ n. let w = f n in (w.0, inr w.1, w.2, w.3)),
          λ d n. let w = f n in (w.0, inr w.1, w.2, w.3),
        )) F h

    -- every brother that is still there folds onto some tree of g
    pub folds_of_rows : (g : Forest Tag) → ((x : ℕ) → Brother x F → Here x → Any (Onto (tag_of t x) (left_below t x)) g) → Folds (left t F) g
    folds_of_rows g =
        left_ind (λ G M. ((x : ℕ) → Brother x G → Here x → Any (Onto (tag_of t x) (left_below t x)) g) → Folds M g) u e (λ f. tt)
        (λ i r l o b q. (λ d f. (f i (inl refl) d, q (λ x n. f x (inr n))), λ d f. q (λ x n. f x (inr n)))) F h

    pub row_of_folds : (g : Forest Tag) → Folds (left t F) g → (x : ℕ) → Brother x F → Here x → Any (Onto (tag_of t x) (left_below t x)) g
    row_of_folds g f x b q =
        left_ind (λ G M. Folds M g → Brother x G → Any (Onto (tag_of t x) (left_below t x)) g) u e (λ z n. absurd n)
        (λ i r l o s y. (
          λ d f. ⊎_elim (λ n. rw n f.0) (y f.1),
          λ d f. ⊎_elim (λ n. not_both d (rw n at q)) (y f),
        )) F h f b

-- ------------------------------------------------------------------ rows of which marks alone change
pub remarked_none : (t : TreeRows) → Remarked t t
remarked_none t = record { code = refl; kids = refl; span = refl; up = refl; len = refl }

pub remarked_more : {t t' t'' : TreeRows} → Remarked t t' → Remarked t' t'' → Remarked t t''
remarked_more r s =
    record { code = s.code ∙ r.code; kids = s.kids ∙ r.kids; span = s.span ∙ r.span; up = s.up ∙ r.up; len = s.len ∙ r.len }
