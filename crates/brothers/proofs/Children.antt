-- "Of two different brothers where one folds onto the other, the folding one goes, with all below it" (01, Folding), among the children of one row.
-- When a child goes, what is left below the other children does not change, so what did not fold before does not fold after, and the search goes on.
use mathlib.Core.Path.{◌≡◌, refl, sym, ap, ◌∙◌}
use mathlib.Core.Logic.{inl, inr, ⊎_elim}
use mathlib.Core.Bool.{Bool, true, false}
use mathlib.Core.List.{List}
use Prim.Native.Nat.{ℕ, suc, ◌+◌, ◌≤◌, ◌<◌}
use native.Mathlib.Omega.{arith}
use native.Mathlib.Decide.{ℕ_discrete, dec_lt}
use lib.ListN.{length, get_or, set, length-set}
use lib.Seq.{get_or-set_same, get_or-set_other}
use Rattle.meaning.specs.Limits.{most_nodes}
use Rattle.meaning.specs.Tree.{Forest, bare, tree, Tag, Any, size}
use Rattle.meaning.specs.Folding.{Onto}
use Rattle.theory.proofs.Folding.{Equal, equal_refl, equal_trans}
use Rattle.theory.proofs.Removal.{Pruned, end, gone, kept, pruned_refl, pruned_equal}
use Rattle.rows.specs.Rows.{tag_at, below, Holds}
use Rattle.rows.proofs.Rows.{size_holds, Opens}
use Rattle.onto.specs.Left.{Nodes, marked, tag_of, gone_at, Gone, Brother, left, left_below}
use Rattle.onto.specs.Onto.{OntoRow, Stands}
use Rattle.onto.proofs.Brothers.{brother_range, brother_opens, brother_apart}
use Rattle.onto.proofs.Left.{not_both, left_bare, left_here, left_away, left_ind, any_of_row, row_of_any}
use Rattle.onto.proofs.Onto.{stands_opens}
use Rattle.brothers.specs.Brothers.{Child, Listed, Foldable, Searchable, NoneFrom, Loses, TakenOut, NoneFold, Only, ChildrenFolded}
use Rattle.brothers.proofs.Listing.{Whence, stood, lists_less}

onto_same : {a a' b b' : Tag} {k k' j j' : Forest Tag} → a ≡ a' → k ≡ k' → b ≡ b' → j ≡ j' → Onto a k b j → Onto a' k' b' j'
onto_same p q r s o = rw (p, q, r, s) at o

-- ------------------------------------------------------------------ marks that differ where a row goes
-- a row that goes bears what it bore
pub gone_tag : (code mark mark' : List ℕ) (i : ℕ) → Gone (get_or mark i 0) (get_or mark' i 0) → tag_at code mark' i ≡ tag_at code mark i
gone_tag code mark mark' i g = rw (g.other 0 (omega arith), g.other 1 (omega arith))

pub same_tag : (code mark mark' : List ℕ) (i : ℕ) → get_or mark' i 0 ≡ get_or mark i 0 → tag_at code mark' i ≡ tag_at code mark i
same_tag code mark mark' i e = rw e

pub gone_both : {a b c : ℕ} → Gone a b → Gone b c → Gone a c
gone_both v w = record { away = w.away; other = λ k l. w.other k l ∙ v.other k l }

-- where no mark changes, the same is left
pub left_same : (t : Nodes) (mark' : List ℕ) (u e : ℕ) (F : Forest ℕ) → Holds t.span u e F
    → ((i : ℕ) → u ≤ i → i < e → get_or mark' i 0 ≡ get_or t.mark i 0) → left (marked t mark') F ≡ left t F
left_same t mark' u e bare h f = left_bare (marked t mark') ∙ sym (left_bare t)
left_same t mark' u e (tree i k r) h f =
    let s = size_holds t.span (suc i + size k) e r h.3 in
    let z = h.0 in
    go (gone_at t.mark i) refl (f i (omega arith) (omega arith))
    (left_same t mark' (suc i) (suc i + size k) k h.2 (λ j a b. f j (omega arith) (omega arith)))
    (left_same t mark' (suc i + size k) e r h.3 (λ j a b. f j (omega arith) b))
  where
    go : (b : Bool) → gone_at t.mark i ≡ b → get_or mark' i 0 ≡ get_or t.mark i 0 → left (marked t mark') k ≡ left t k
        → left (marked t mark') r ≡ left t r → left (marked t mark') (tree i k r) ≡ left t (tree i k r)
    go false d s x y = rw (left_here (marked t mark') i k r (rw s d), left_here t i k r d, x, y, same_tag t.code t.mark mark' i s)
    go true d s x y = rw (left_away (marked t mark') i k r (rw s d), left_away t i k r d) y

module _ (t : Nodes) {p : ℕ} {mark' : List ℕ} (only : Only t.mark t.span p mark') where
  pub only_tag : (i : ℕ) → tag_of (marked t mark') i ≡ tag_of t i
  only_tag i = ⊎_elim (same_tag t.code t.mark mark' i) (λ g. gone_tag t.code t.mark mark' i g.gone) (only i)

  -- below a row behind p nothing changes: no child of p lies there
  pub below_same : {x e : ℕ} → Opens t.span x e → p < x → Holds t.span (suc p) (p + get_or t.span p 0) (below t.span p)
      → left_below (marked t mark') x ≡ left_below t x
  below_same {x} o l h =
      left_same t mark' (suc x) (x + get_or t.span x 0) (below t.span x) o.held
      (λ i a b. ⊎_elim (λ s. s) (λ g. absurd (brother_apart t.span _ _ (below t.span p) h i g.child x (omega arith) (omega arith) b)) (only i))

-- ------------------------------------------------------------------ one child goes
pub loses : (mark : List ℕ) (a v : ℕ) → a < length mark → Gone (get_or mark a 0) v → Loses mark a (set mark a v)
loses mark a v l g = record {
  long = length-set mark a v;
  gone = rw (get_or-set_same mark a v 0 l) g;
  other = λ j n. get_or-set_other mark a j v 0 n;
}

only_trans : (span : List ℕ) (p : ℕ) (f g h : List ℕ) → Only f span p g → Only g span p h → Only f span p h
only_trans span p f g h x y j =
    ⊎_elim (λ a. ⊎_elim (λ b. inl (b ∙ a)) (λ w. inr (record { child = w.child; gone = rw a at w.gone })) (y j))
    (λ w. inr (record { child = w.child; gone = ⊎_elim (λ b. rw (sym b) at w.gone) (λ v. gone_both w.gone v.gone) (y j) })) (x j)

module _ {t : Nodes} {p a : ℕ} (S : Stands t p) (C : Child t.mark t.span p a) {mark' : List ℕ}
    (G : Loses t.mark a mark') where
  abbrev t' : Nodes
  t' = marked t mark'

  goes_only : Only t.mark t.span p mark'
  goes_only j = elim (ℕ_discrete j a) [
    | yes e ↦ rw e (inr (record { child = C.brother; gone = G.gone }))
    | no n ↦ inl (G.other j n)
  ]

  -- another row is there afterwards where it was there before
  stays : (x : ℕ) → ¬ (x ≡ a) → gone_at mark' x ≡ gone_at t.mark x
  stays x n = rw (G.other x n)

  -- a row that is there afterwards is another one, and was there
  was : (x : ℕ) → gone_at mark' x ≡ false → (¬ (x ≡ a)) × (gone_at t.mark x ≡ false)
  was x e = elim (ℕ_discrete x a) [ yes q ↦ not_both G.gone.away (rw q at e) | no n ↦ (n, sym (stays x n) ∙ e) ]

  same : (x : ℕ) → Brother x (below t.span p) → left_below t' x ≡ left_below t x
  same x s =
      below_same t goes_only (brother_opens t.span _ _ (below t.span p) S.held x s)
      (brother_range t.span _ _ (below t.span p) S.held x s).0 S.held

  -- what is left of the children, without a; h are brothers onto one of which a folds
  goes_pruned : (h : Forest Tag) → Any (Onto (tag_of t a) (left_below t a)) h → Pruned h (left_below t p) (left_below t' p)
  goes_pruned h y =
      left_ind t (λ F M. Pruned h M (left t' F)) (suc p) (p + get_or t.span p 0) (rw (left_bare t') end)
      (λ i r l o g m. (
        λ d. elim (ℕ_discrete i a) [
          | yes e ↦
              let y' : Any (Onto (tag_of t i) (left_below t i)) h = rw e y in rw (left_away t' i (below t.span i) r (rw e G.gone.away)) (gone y' m)
          | no n ↦
              rw (left_here t' i (below t.span i) r (stays i n ∙ d), only_tag t goes_only i, below_same t goes_only o l S.held)
              (kept (pruned_refl (left_below t i) (left_below t i)) m)
        ],
        λ d. rw (left_away t' i (below t.span i) r (elim (ℕ_discrete i a) [ yes e ↦ rw e G.gone.away | no n ↦ stays i n ∙ d ])) m,
      )) (below t.span p) S.held

  -- a folds onto another child b: with a or without it the children fold onto each other
  goes_equal : (b : ℕ) → Child t.mark t.span p b → ¬ (a ≡ b) → OntoRow t a t b → Equal (left_below t p) (left_below t' p)
  goes_equal b D n f =
      pruned_equal (goes_pruned (left_below t' p)
      (any_of_row t' _ _ (below t.span p) S.held (Onto (tag_of t a) (left_below t a)) b D.brother
      (stays b (λ z. n (sym z)) ∙ D.there) (onto_same {a = tag_of t a} {k = left_below t a} refl refl (sym (only_tag t goes_only b)) (sym (same b D.brother)) f)))

-- ------------------------------------------------------------------ the search
-- some children of p have gone, each folding onto one that stayed
pub record Searched (t : Nodes) (p : ℕ) (mark' : List ℕ) : Type 0 where
  pub long : length mark' ≡ length t.mark
  pub only : Only t.mark t.span p mark'
  pub equal : Equal (left_below t p) (left_below (marked t mark') p)

pub searched_none : (t : Nodes) (p : ℕ) → Searched t p t.mark
searched_none t p = record { long = refl; only = λ j. inl refl; equal = equal_refl (left_below t p) }

-- of k listed rows, none of the first i folds onto another one
abbrev pub Clear : Nodes → List ℕ → ℕ → ℕ → Type 0
Clear t child k i = (x : ℕ) → x < i → ¬ Foldable t child k x

pub clear_on : (t : Nodes) (child : List ℕ) (k i r : ℕ) → Clear t child k i → NoneFrom t child i k r → Clear t child k r
clear_on t child k i r A F x l f = elim (dec_lt x i) [ yes m ↦ A x m f | no m ↦ F x l (omega arith) f ]

-- no two brothers fold, if no row of one that is still there folds onto the row of another
module _ (t : Nodes) where
  Apart : Forest ℕ → Type 0
  Apart F = (x y : ℕ) → Brother x F → Brother y F → gone_at t.mark x ≡ false → gone_at t.mark y ≡ false → ¬ (x ≡ y) → ¬ OntoRow t x t y

  apart_of_rows : (u e : ℕ) (F : Forest ℕ) → Holds t.span u e F → Apart F → NoneFold (left t F)
  unfolding Apart
  apart_of_rows u e F h =
      left_ind t (λ G M. Apart G → NoneFold M) u e (λ f. tt)
      (λ i r l o b q.
      let later : Apart (tree i (below t.span i) r) → Apart r = λ f x y s n. f x y (inr s) (inr n) in (
        λ d f. (
          q (later f),
          λ n. let w = row_of_any t _ e r b _ n in let z = brother_range t.span _ e r b w.0 w.1 in
              f i w.0 (inl refl) (inr w.1) d w.2 (λ q. omega (arith, o.some)) w.3,
          λ n. let w = row_of_any t _ e r b (λ c j. Onto c j (tag_of t i) (left_below t i)) n in
              let z = brother_range t.span _ e r b w.0 w.1 in
              f w.0 i (inr w.1) (inl refl) w.2 d (λ q. omega (arith, o.some)) w.3,
        ),
        λ d f. q (later f),
      )) F h

-- the children that are left are listed
module _ {t : Nodes} {p : ℕ} {mark' : List ℕ} (S : Stands t p) (W : Searched t p mark') {child : List ℕ} {k : ℕ}
    (L : Listed mark' t.span p child k) where
  T : Stands (marked t mark') p
  T = record { some = S.some; few = S.few; held = S.held }

  pub searchable : Searchable (marked t mark') child k
  searchable = record {
    few = L.few;
    stand = λ j m. stands_opens T (brother_opens t.span _ _ (below t.span p) S.held _ (L.each j m).brother) refl;
  }

  pub listed_inside : (i : ℕ) → i < k → get_or child i 0 < p + get_or t.span p 0
  listed_inside i l = (brother_range t.span _ _ (below t.span p) S.held _ (L.each i l).brother).1

  -- none of them folds onto another one
  pub searched_all : Clear (marked t mark') child k k → ChildrenFolded t p mark'
  unfolding Apart
  searched_all A =
      record {
        to = W.equal.0;
        from = W.equal.1;
        apart =
            apart_of_rows (marked t mark') _ _ (below t.span p) S.held
            (λ x y s n d f m o. apart x y m o (L.all x (record { brother = s; there = d })) (L.all y (record { brother = n; there = f })));
        only = W.only;
        long = W.long;
      }
    where
      apart : (x y : ℕ) → ¬ (x ≡ y) → OntoRow (marked t mark') x (marked t mark') y
          → (i : ℕ) × (i < k) × (get_or child i 0 ≡ x) → (j : ℕ) × (j < k) × (get_or child j 0 ≡ y) → ⊥
      apart x y n o (i, a, b) (j, c, d) = A i a (j, c, λ e. n (sym b ∙ ap (λ h. get_or child h 0) e ∙ d), rw (b, d) o)

  -- the i-th folds onto another one and is taken out; m others are left
  module _ {i m : ℕ} (q : k ≡ m + 1) (l : i < k) (r : most_nodes ≤ length child) {mark'' child'' : List ℕ} (X : TakenOut mark' child i m mark'' child'') where
    pub goes : Foldable (marked t mark') child k i → Searched t p mark'' × Listed mark'' t.span p child'' m
    goes (j, a, n, o) = rw X.list (
      record {
        long = X.marks.long ∙ W.long;
        only = only_trans t.span p t.mark mark' mark'' W.only (goes_only T (L.each i l) X.marks);
        equal =
            equal_trans (left_below t p) (left_below (marked t mark') p) (left_below (marked t mark'') p) W.equal
            (goes_equal T (L.each i l) X.marks _ (L.each j a) (λ e. n (L.once i j l a e)) o);
      },
      lists_less q i (omega arith) (omega (arith, L.few)) L
          (λ x c n. record { brother = c.brother; there = stays T (L.each i l) X.marks x n ∙ c.there })
          (λ x c. let w = was T (L.each i l) X.marks x c.there in (record { brother = c.brother; there = w.1 }, w.0)),
    )

    -- what folds onto another one now did so before
    folded : (j : ℕ) → j < i → Foldable (marked t mark'') (set child i (get_or child m 0)) m j → Foldable (marked t mark') child k j
    folded j b (h, a, n, o) =
        let w = stood child i m (omega arith) (omega (arith, L.few)) h a in
        let c : w.place < k = omega (arith, w.inside) in
        let e = get_or-set_other child i j (get_or child m 0) 0 (λ z. omega arith) in
        let d = same T (L.each i l) X.marks in
        let g = only_tag (marked t mark') (goes_only T (L.each i l) X.marks) in (
          w.place,
          c,
          other w.whence,
          onto_same (g _) (d _ (L.each j (omega arith)).brother) (g _) (d _ (L.each w.place c).brother) (rw (e, w.same) at o),
        )
      where
        other : {x : ℕ} → Whence i m h x → ¬ (j ≡ x)
        other (inl (e, d)) z = n (z ∙ e)
        other (inr (e, d)) z = omega arith

    -- so the search goes on from the i-th place
    pub goes_clear : Clear (marked t mark') child k i → Clear (marked t mark'') child'' m i
    goes_clear A x b f = A x b (folded x b (rw X.list at f))
