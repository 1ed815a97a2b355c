-- The laws of one merge: row y is taken out of a table and row x stands for it, with the parent of whichever has one and the label in
-- which the two labels meet. Every row is kept, and every edge and label of the merged table is brought from the old one.
use mathlib.Core.Path.{◌≡◌, refl, sym, ap, subst, ◌∙◌}
use mathlib.Core.Logic.{◌≢◌, ◌⊎◌, inl, inr, by_cases}
use mathlib.Core.Option.{Option, none, some}
use mathlib.Core.List.{[], ◌∷◌, map}
use Prim.Native.Nat.{ℕ, zero, suc, ◌-◌, ◌≤◌, ◌<◌}
use native.Mathlib.Decide.{ℕ_discrete, dec_lt}
use native.Mathlib.Omega.{arith}
use lib.ListN.{length, length-set, length-map}
use Rattle.meaning.specs.Basics.{pick, mapped}
use Rattle.meaning.specs.TreeQuery.{Lab, any, lab, Row, node, Table, at, Live, Linked, Fits}
use Rattle.meaning.specs.Gluing.{meet, without, move, moved, relink, or_else, merged}
use Rattle.theory.proofs.Look.{never, pick_yes, pick_no, look_lt, look_set_same, look_set_other, look_map}

-- ------------------------------------------------------------------ labels
-- what fits the met label fits both
pub meet_fits : (l k : Lab) {m : Lab} (a : ℕ) → meet l k ≡ some m → Fits m a → Fits l a × Fits k a
meet_fits any k {m} a e f = (tt, subst (λ z. Fits z a) (let q : m ≡ k = cc in q) f)
meet_fits (lab b) any {m} a e f = (subst (λ z. Fits z a) (let q : m ≡ lab b = cc in q) f, tt)
meet_fits (lab b) (lab c) {m} a e f = by_cases (ℕ_discrete b c)
    (λ p. let z = pick_yes (ℕ_discrete b c) (some (lab b)) none p in
    let ba : b ≡ a = subst (λ z. Fits z a) (let q : m ≡ lab b = cc in q) f in
    (ba, sym p ∙ ba))
    (λ np. let z = pick_no (ℕ_discrete b c) (some (lab b)) none np in never cc)

-- the met label is one of the two
pub meet_lab : (l k : Lab) {c : ℕ} → meet l k ≡ some (lab c) → (l ≡ lab c) ⊎ (k ≡ lab c)
meet_lab any k e = inr cc
meet_lab (lab a) any e = inl cc
meet_lab (lab a) (lab b) e = by_cases (ℕ_discrete a b)
    (λ p. let z = pick_yes (ℕ_discrete a b) (some (lab a)) none p in inl cc)
    (λ np. let z = pick_no (ℕ_discrete a b) (some (lab a)) none np in never cc)

-- two different labels do not meet
pub meet_none : (l k : Lab) → meet l k ≡ none → (a : ℕ) × (b : ℕ) × (l ≡ lab a) × (k ≡ lab b) × (a ≢ b)
meet_none any k e = never cc
meet_none (lab a) any e = never cc
meet_none (lab a) (lab b) e = (a, b, refl, refl, λ p. let z = pick_yes (ℕ_discrete a b) (some (lab a)) none p in never cc)

-- ------------------------------------------------------------------ numbers before and after
-- the old number of row i, once row y is out
abbrev pub back : ℕ → ℕ → ℕ
back y i = pick (dec_lt i y) i (suc i)

pub back_low : (y i : ℕ) → i < y → back y i ≡ i
back_low y i lt = pick_yes (dec_lt i y) i (suc i) lt

pub back_high : (y i : ℕ) → y ≤ i → back y i ≡ suc i
back_high y i ge = pick_no (dec_lt i y) i (suc i) (λ lt. omega arith)

pub move_miss : (x y i : ℕ) → i ≢ y → move x y i ≡ i
move_miss x y i ne = pick_no (ℕ_discrete i y) x i ne

pub move_hit : (x y : ℕ) → move x y y ≡ x
move_hit x y = pick_yes (ℕ_discrete y y) x y refl

pub moved_low : (x y i : ℕ) → i < y → moved x y i ≡ i
moved_low x y i lt = rw (move_miss x y i (λ e. omega arith)) (pick_no (dec_lt y i) (i - 1) i (λ gt. omega arith))

pub moved_high : (x y i : ℕ) → y < i → suc (moved x y i) ≡ i
moved_high x y i gt = rw (move_miss x y i (λ e. omega arith)) (let z = pick_yes (dec_lt y i) (i - 1) i gt in ap suc z ∙ omega arith)

pub moved_same : (x y : ℕ) → x ≢ y → moved x y y ≡ moved x y x
moved_same x y ne = rw (move_hit x y, move_miss x y x ne)

pub moved_back : (x y i : ℕ) → moved x y (back y i) ≡ i
moved_back x y i = by_cases (dec_lt i y)
    (λ lt. rw (back_low y i lt) (moved_low x y i lt))
    (λ ge. rw (back_high y i (omega arith)) (let z = moved_high x y (suc i) (omega arith) in omega arith))

pub back_moved : (x y j : ℕ) → j ≢ y → back y (moved x y j) ≡ j
back_moved x y j ne = by_cases (dec_lt j y)
    (λ lt. rw (moved_low x y j lt) (back_low y j lt))
    (λ ge. let z = moved_high x y j (omega arith) in back_high y (moved x y j) (omega arith) ∙ z)

-- ------------------------------------------------------------------ the table without a row
without_low : (T : Table) (y i : ℕ) → i < y → at (without T y) i ≡ at T i
without_low [] y i lt = refl
without_low (r ∷ T) zero i lt = absurd (omega arith)
without_low (r ∷ T) (suc y) zero lt = refl
without_low (r ∷ T) (suc y) (suc i) lt = without_low T y i (omega arith)

without_high : (T : Table) (y i : ℕ) → y ≤ i → at (without T y) i ≡ at T (suc i)
without_high [] y i ge = refl
without_high (r ∷ T) zero i ge = refl
without_high (r ∷ T) (suc y) zero ge = absurd (omega arith)
without_high (r ∷ T) (suc y) (suc i) ge = without_high T y i (omega arith)

pub at_without : (T : Table) (y i : ℕ) → at (without T y) i ≡ at T (back y i)
at_without T y i = by_cases (dec_lt i y)
    (λ lt. rw (back_low y i lt) (without_low T y i lt))
    (λ ge. rw (back_high y i (omega arith)) (without_high T y i (omega arith)))

pub length_without : (T : Table) (y : ℕ) → y < length T → suc (length (without T y)) ≡ length T
length_without [] y lt = absurd (omega arith)
length_without (r ∷ T) zero lt = refl
length_without (r ∷ T) (suc y) lt = ap suc (length_without T y (omega arith))

pub length_merged : (T : Table) (x y : ℕ) (u : Option ℕ) (l : Lab) → y < length T → suc (length (merged T x y u l)) ≡ length T
length_merged T x y u l lt = rw (length-set, length-map) (length_without T y lt)

-- ------------------------------------------------------------------ one merge
-- two rows of T, x with parent u and label l, y with parent v and label k
pub record Merge (T : Table) (x y : ℕ) (u v : Option ℕ) (l k : Lab) : Type 0 where
  pub row_x : at T x ≡ some (node u l)
  pub row_y : at T y ≡ some (node v k)
  pub differ : x ≢ y

-- h takes the parents of rows with one value to one value
abbrev pub Congruent : Table → (ℕ → ℕ) → Type 0
Congruent T h = (i j p q : ℕ) (l k : Lab) → at T i ≡ some (node (some p) l) → at T j ≡ some (node (some q) k) → h i ≡ h j → h p ≡ h q

-- row i of G keeps a row with parent u and label l: its label fits no more than l does, and if u is some p, t takes its parent where s takes p
pub record Kept (t s : ℕ → ℕ) (G : Table) (i : ℕ) (u : Option ℕ) (l : Lab) : Type 0 where
  pub up : Option ℕ
  pub bears : Lab
  pub row : at G i ≡ some (node up bears)
  pub fits : (a : ℕ) → Fits bears a → Fits l a
  pub edge : (p : ℕ) → u ≡ some p → (q : ℕ) × (up ≡ some q) × (t q ≡ s p)

-- an edge from row i to p, and a label c of row i, that t brings from T
pub record EdgeOf (T : Table) (t : ℕ → ℕ) (i p : ℕ) : Type 0 where
  pub low : ℕ
  pub high : ℕ
  pub bears : Lab
  pub row : at T low ≡ some (node (some high) bears)
  pub to_low : t low ≡ i
  pub to_high : t high ≡ p

pub record LabelOf (T : Table) (t : ℕ → ℕ) (i c : ℕ) : Type 0 where
  pub place : ℕ
  pub up : Option ℕ
  pub row : at T place ≡ some (node up (lab c))
  pub to_place : t place ≡ i

-- h does not see that t goes and b comes back
pub seen : (t b h : ℕ → ℕ) → ((j : ℕ) → h (b (t j)) ≡ h j) → {i j : ℕ} → t j ≡ i → h j ≡ h (b i)
seen t b h still {i} {j} e = sym (still j) ∙ ap (λ z. h (b z)) e

-- levels of T are levels of G, whose edges t brings from T
pub linked_along : (T G : Table) (t b lev : ℕ → ℕ) → Linked T lev → ((j : ℕ) → lev (b (t j)) ≡ lev j) → ((j : ℕ) → Live T j → Live G (t j))
    → ((i p : ℕ) (l : Lab) → at G i ≡ some (node (some p) l) → EdgeOf T t i p) → Linked G (λ i. lev (b i))
linked_along T G t b lev ok still live edges i p l e =
    let a = edges i p l e in
    let (lq, eq) = ok a.low a.high a.bears a.row in
    (subst (Live G) a.to_high (live a.high lq), sym (seen t b lev still a.to_low) ∙ eq ∙ ap suc (seen t b lev still a.to_high))

module _ {T : Table} {x y : ℕ} {u v : Option ℕ} {l k : Lab} (w : Merge T x y u v l k) (m : Lab) where
  abbrev f : ℕ → ℕ
  f = moved x y

  abbrev M : Table
  M = merged T x y (or_else u v) m

  row_x_lem : at M (f x) ≡ some (node (mapped f (or_else u v)) m)
  row_x_lem =
      let lx = look_lt T x w.row_x in let ly = look_lt T y w.row_y in let e = length_without T y ly in let ne : x ≢ y = w.differ in
      look_set_same (map (relink f) (without T y)) (f x) (node (mapped f (or_else u v)) m)
      (rw length-map (by_cases (dec_lt x y) (λ lt. let a = moved_low x y x lt in omega arith) (λ ge. let a = moved_high x y x (omega arith) in omega arith)))

  row_rest : (i : ℕ) → i ≢ f x → at M i ≡ mapped (relink f) (at T (back y i))
  row_rest i ne = look_set_other (map (relink f) (without T y)) (f x) i (node (mapped f (or_else u v)) m) ne
      ∙ look_map (relink f) (without T y) i ∙ ap (mapped (relink f)) (at_without T y i)

  -- a function that does not tell x from y does not see the merge
  pub merge_still : (h : ℕ → ℕ) → h x ≡ h y → (j : ℕ) → h (back y (f j)) ≡ h j
  merge_still h e j = by_cases (ℕ_discrete j y)
      (λ p. ap (λ z. h (back y z)) (ap f p ∙ moved_same x y w.differ) ∙ ap h (back_moved x y x w.differ) ∙ e ∙ ap h (sym p))
      (λ ne. ap h (back_moved x y j ne))

  -- a row of the merged table is the glued one or an old one
  pub data MergedRow (i : ℕ) (u₀ : Option ℕ) (l₀ : Lab) : Type 0 where
    glued : i ≡ f x → u₀ ≡ mapped f (or_else u v) → l₀ ≡ m → MergedRow i u₀ l₀
    old : (u₁ : Option ℕ) → at T (back y i) ≡ some (node u₁ l₀) → u₀ ≡ mapped f u₁ → MergedRow i u₀ l₀

  pub merged_row : (i : ℕ) (u₀ : Option ℕ) (l₀ : Lab) → at M i ≡ some (node u₀ l₀) → MergedRow i u₀ l₀
  merged_row i u₀ l₀ e = go (ℕ_discrete i (f x))
    where
      row : (o : Option Row) → at T (back y i) ≡ o → mapped (relink f) o ≡ some (node u₀ l₀) → MergedRow i u₀ l₀
      row none e₁ e₂ = never cc
      row (some (node u₁ l₁)) e₁ e₂ = old u₁ (let z : at T (back y i) ≡ some (node u₁ l₀) = cc in z) (let z : u₀ ≡ mapped f u₁ = cc in z)

      go : Dec (i ≡ f x) → MergedRow i u₀ l₀
      go (yes p) = let a = row_x_lem in let b = sym (ap (at M) p) ∙ e in glued p (let z : u₀ ≡ mapped f (or_else u v) = cc in z) (let z : l₀ ≡ m = cc in z)
      go (no ne) = row (at T (back y i)) refl (sym (row_rest i ne) ∙ e)

  pub live_before : (i : ℕ) → Live M i → Live T (back y i)
  live_before i (u₀, l₀, e) = go (merged_row i u₀ l₀ e)
    where
      go : MergedRow i u₀ l₀ → Live T (back y i)
      go (glued p _ _) = (u, l, ap (λ z. at T (back y z)) p ∙ ap (at T) (back_moved x y x w.differ) ∙ w.row_x)
      go (old u₁ e' _) = (u₁, l₀, e')

  pub edge_merged : (i p : ℕ) (l₀ : Lab) → at M i ≡ some (node (some p) l₀) → EdgeOf T f i p
  edge_merged i p l₀ e = go (merged_row i (some p) l₀ e)
    where
      ends : (u' v' : Option ℕ) → at T x ≡ some (node u' l) → at T y ≡ some (node v' k) → i ≡ f x → some p ≡ mapped f (or_else u' v') → EdgeOf T f i p
      ends none none ex ey ei el = never cc
      ends none (some q) ex ey ei el = record { low = y; high = q; bears = k; row = ey; to_low = moved_same x y w.differ ∙ sym ei; to_high = cc }
      ends (some q) v' ex ey ei el = record { low = x; high = q; bears = l; row = ex; to_low = sym ei; to_high = cc }

      go : MergedRow i (some p) l₀ → EdgeOf T f i p
      go (glued ei el _) = ends u v w.row_x w.row_y ei el
      go (old none e' el) = never cc
      go (old (some q) e' el) = record { low = back y i; high = q; bears = l₀; row = e'; to_low = moved_back x y i; to_high = cc }

  pub congruent_merged : (h : ℕ → ℕ) → h x ≡ h y → Congruent T h → Congruent M (λ i. h (back y i))
  congruent_merged h e con i j p q l₁ l₂ ei ej same =
      let a = edge_merged i p l₁ ei in let b = edge_merged j q l₂ ej in
      sym (now a.to_high) ∙ con a.low b.low a.high b.high a.bears b.bears a.row b.row (now a.to_low ∙ same ∙ sym (now b.to_low)) ∙ now b.to_high
    where
      now : {i j : ℕ} → f j ≡ i → h j ≡ h (back y i)
      now = seen f (back y) h (merge_still h e)

  module _ (em : meet l k ≡ some m) where
    pub label_merged : (i : ℕ) (u₀ : Option ℕ) (c : ℕ) → at M i ≡ some (node u₀ (lab c)) → LabelOf T f i c
    label_merged i u₀ c e = go (merged_row i u₀ (lab c) e)
      where
        side : i ≡ f x → (l ≡ lab c) ⊎ (k ≡ lab c) → LabelOf T f i c
        side ei (inl el) = record { place = x; up = u; row = w.row_x ∙ ap (λ z. some (node u z)) el; to_place = sym ei }
        side ei (inr ek) = record { place = y; up = v; row = w.row_y ∙ ap (λ z. some (node v z)) ek; to_place = moved_same x y w.differ ∙ sym ei }

        go : MergedRow i u₀ (lab c) → LabelOf T f i c
        go (glued ei _ en) = side ei (meet_lab l k (em ∙ ap some (sym en)))
        go (old u₁ e' _) = record { place = back y i; up = u₁; row = e'; to_place = moved_back x y i }

    -- every row is kept, where t makes the two parents one
    pub kept_merged : (t : ℕ → ℕ) → ((p q : ℕ) → u ≡ some p → v ≡ some q → t (f p) ≡ t (f q)) → (j : ℕ) (u₀ : Option ℕ) (l₀ : Lab)
        → at T j ≡ some (node u₀ l₀)
        → Kept t (λ p. t (f p)) M (f j) u₀ l₀
    kept_merged t agree j u₀ l₀ e = go (ℕ_discrete j x) (ℕ_discrete j y)
      where
        edge_x : (u' v' : Option ℕ) (p : ℕ) → u' ≡ some p → (q : ℕ) × (mapped f (or_else u' v') ≡ some q) × (t q ≡ t (f p))
        edge_x none v' p ep = never cc
        edge_x (some q) v' p ep = (f q, refl, ap (λ z. t (f z)) (let z : q ≡ p = cc in z))

        edge_y : (u' v' : Option ℕ) → u ≡ u' → v ≡ v' → (p : ℕ) → v' ≡ some p → (q : ℕ) × (mapped f (or_else u' v') ≡ some q) × (t q ≡ t (f p))
        edge_y none none eu ev p ep = never cc
        edge_y none (some q) eu ev p ep = (f q, refl, ap (λ z. t (f z)) (let z : q ≡ p = cc in z))
        edge_y (some q) v' eu ev p ep = (f q, refl, agree q p eu (ev ∙ ep))

        glue_row : f j ≡ f x → ((a : ℕ) → Fits m a → Fits l₀ a)
            → ((p : ℕ) → u₀ ≡ some p → (q : ℕ) × (mapped f (or_else u v) ≡ some q) × (t q ≡ t (f p)))
            → Kept t (λ p. t (f p)) M (f j) u₀ l₀
        glue_row ej fits edge = record { up = mapped f (or_else u v); bears = m; row = ap (at M) ej ∙ row_x_lem; fits = fits; edge = edge }

        go : Dec (j ≡ x) → Dec (j ≡ y) → Kept t (λ p. t (f p)) M (f j) u₀ l₀
        go (yes ex) dy =
            let z = w.row_x in let er : u₀ ≡ u = cc in let en : l ≡ l₀ = cc in
            glue_row (ap f ex) (λ a g. subst (λ z. Fits z a) en (meet_fits l k a em g).0) (λ p ep. edge_x u v p (sym er ∙ ep))
        go (no nx) (yes ey) =
            let z = w.row_y in let er : u₀ ≡ v = cc in let en : k ≡ l₀ = cc in
            glue_row (ap f ey ∙ moved_same x y w.differ) (λ a g. subst (λ z. Fits z a) en (meet_fits l k a em g).1) (λ p ep. edge_y u v refl refl p (sym er ∙ ep))
        go (no nx) (no ny) = record {
          up = mapped f u₀;
          bears = l₀;
          row = row_rest (f j) (λ q. nx (sym (back_moved x y j ny) ∙ ap (back y) q ∙ back_moved x y x w.differ))
              ∙ ap (λ z. mapped (relink f) (at T z)) (back_moved x y j ny) ∙ ap (mapped (relink f)) e;
          fits = λ a g. g;
          edge = λ p ep. (f p, ap (mapped f) ep, refl);
        }

    pub live_merged : (j : ℕ) → Live T j → Live M (f j)
    live_merged j (u₀, l₀, e) = let a = kept_merged (λ _. 0) (λ _ _ _ _. refl) j u₀ l₀ e in (a.up, a.bears, a.row)

    pub linked_merged : (lev : ℕ → ℕ) → Linked T lev → lev x ≡ lev y → Linked M (λ i. lev (back y i))
    linked_merged lev ok e = linked_along T M f (back y) lev ok (merge_still lev e) live_merged edge_merged
