-- Gluing: the glued table is the quotient of the old one by the least equivalence that makes the two nodes one and is closed under parents
-- ("Gluing two nodes glues their parents too, level by level"), or two different labels meet in it.
-- Layings, levels, roots and labels of a glued table follow from that.
use mathlib.Core.Path.{◌≡◌, refl, sym, ap, subst, ◌∙◌}
use mathlib.Core.Logic.{◌≢◌}
use mathlib.Core.Option.{Option, none, some}
use Prim.Native.Nat.{ℕ, zero, suc, ◌≤◌}
use native.Mathlib.Decide.{ℕ_discrete}
use native.Mathlib.Omega.{arith}
use lib.ListN.{length}
use Rattle.meaning.specs.Document.{Doc, doc_row, label_of}
use Rattle.meaning.specs.TreeQuery.{Lab, any, lab, Row, node, Table, at, Live, Root, Linked, Fits, EdgeKept, RowKept, Laying}
use Rattle.meaning.specs.Gluing.{meet, moved, or_else, merged, Glued, after, glue_link, glue_lab, glue_step, glue}
use Rattle.theory.proofs.Look.{never, look_lt, live_lt}
use Rattle.theory.proofs.Merge.{meet_none, back, moved_same, moved_back, length_merged, Merge, Congruent, Kept, EdgeOf, LabelOf, seen, linked_along}
use Rattle.theory.proofs.Merge.{merge_still, live_before, edge_merged, congruent_merged, label_merged, kept_merged, live_merged}

-- g is T with x and y made one, and no other rows but for their sake
pub record Quotient (T : Table) (x y : ℕ) (g : Glued) : Type 0 where
  -- each row of g has an old row
  pub from : ℕ → ℕ
  pub onto : (i : ℕ) → g.to (from i) ≡ i
  pub old : (i : ℕ) → Live g.rows i → Live T (from i)
  -- x and y are one, and every row is kept with its label and its edge
  pub same : g.to x ≡ g.to y
  pub kept : (j : ℕ) (u : Option ℕ) (l : Lab) → at T j ≡ some (node u l) → Kept (λ p. p) g.to g.rows (g.to j) u l
  -- every edge and every label is brought from T
  pub edges : (i p : ℕ) (l : Lab) → at g.rows i ≡ some (node (some p) l) → EdgeOf T g.to i p
  pub labels : (i : ℕ) (u : Option ℕ) (c : ℕ) → at g.rows i ≡ some (node u (lab c)) → LabelOf T g.to i c
  -- rows that became one have one value under each function that gives one value to x and y, and to the parents of rows with one value
  pub least : (h : ℕ → ℕ) → Congruent T h → h x ≡ h y → (j : ℕ) → h (from (g.to j)) ≡ h j
  -- a row is lost unless x is y
  pub fewer : length g.rows ≤ length T
  pub less : x ≢ y → suc (length g.rows) ≤ length T

-- two labels that differ, on nodes that are one once x and y are
pub record Clash (T : Table) (x y : ℕ) : Type 0 where
  pub i : ℕ
  pub j : ℕ
  pub u : Option ℕ
  pub v : Option ℕ
  pub a : ℕ
  pub b : ℕ
  pub row_i : at T i ≡ some (node u (lab a))
  pub row_j : at T j ≡ some (node v (lab b))
  pub apart : a ≢ b
  pub forced : (h : ℕ → ℕ) → Congruent T h → h x ≡ h y → h i ≡ h j

abbrev pub Result : Table → ℕ → ℕ → Option Glued → Type 0
Result T x y none = Clash T x y
Result T x y (some g) = Quotient T x y g

abbrev unchanged : Table → Glued
unchanged T = record { rows = T; to = λ i. i }

quotient_self : (T : Table) (x y : ℕ) → x ≡ y → Quotient T x y (unchanged T)
quotient_self T x y e = record {
  from = λ i. i;
  onto = λ i. refl;
  same = e;
  old = λ i li. li;
  kept = λ j u l ej. record { up = u; bears = l; row = ej; fits = λ a g. g; edge = λ p ep. (p, ep, refl) };
  edges = λ i p l ei. record { low = i; high = p; bears = l; row = ei; to_low = refl; to_high = refl };
  labels = λ i u c ei. record { place = i; up = u; row = ei; to_place = refl };
  least = λ h con eh j. refl;
  fewer = omega arith;
  less = λ ne. absurd (ne e);
}

-- a merge, and then a gluing of p and q, which are the two parents if there are two
module _ {T : Table} {x y : ℕ} {u v : Option ℕ} {l k : Lab} (w : Merge T x y u v l k) (m : Lab) (em : meet l k ≡ some m)
    (p q : ℕ) (agree : (t : ℕ → ℕ) → t p ≡ t q → (p₀ q₀ : ℕ) → u ≡ some p₀ → v ≡ some q₀ → t (moved x y p₀) ≡ t (moved x y q₀))
    (close : (h : ℕ → ℕ) → Congruent T h → h x ≡ h y → h (back y p) ≡ h (back y q)) where
  abbrev M : Table
  M = merged T x y (or_else u v) m

  through : (o : Option Glued) → Result M p q o → Result T x y (after (moved x y) o)
  through none c = record {
    i = la.place;
    j = lb.place;
    u = la.up;
    v = lb.up;
    a = c.a;
    b = c.b;
    row_i = la.row;
    row_j = lb.row;
    apart = c.apart;
    forced =
        λ h con e. now h e la.to_place ∙ c.forced (λ z. h (back y z)) (congruent_merged w m h e con) (close h con e) ∙ sym (now h e lb.to_place);
  }
    where
      la : LabelOf T (moved x y) c.i c.a
      la = label_merged w m em c.i c.u c.a c.row_i

      lb : LabelOf T (moved x y) c.j c.b
      lb = label_merged w m em c.j c.v c.b c.row_j

      now : (h : ℕ → ℕ) → h x ≡ h y → {i j : ℕ} → moved x y j ≡ i → h j ≡ h (back y i)
      now h e = seen (moved x y) (back y) h (merge_still w m h e)
  through (some g) r = record {
    from = λ i. back y (r.from i);
    onto = λ i. ap g.to (moved_back x y (r.from i)) ∙ r.onto i;
    same = ap g.to (sym (moved_same x y w.differ));
    old = λ i li. live_before w m (r.from i) (r.old i li);
    kept = λ j u₀ l₀ e. keep j u₀ l₀ (kept_merged w m em g.to (agree g.to r.same) j u₀ l₀ e);
    edges = λ i j l₀ e. edge (r.edges i j l₀ e);
    labels = λ i u₀ c e. label (r.labels i u₀ c e);
    least = λ h con e j. r.least (λ z. h (back y z)) (congruent_merged w m h e con) (close h con e) (moved x y j) ∙ merge_still w m h e j;
    fewer = omega (arith, small);
    less = λ ne. small;
  }
    where
      to₁ : ℕ → ℕ
      to₁ i = g.to (moved x y i)

      small : suc (length g.rows) ≤ length T
      small = omega (arith, length_merged T x y (or_else u v) m (look_lt T y w.row_y), r.fewer)

      keep : (j : ℕ) (u₀ : Option ℕ) (l₀ : Lab) → Kept g.to to₁ M (moved x y j) u₀ l₀ → Kept (λ z. z) to₁ g.rows (to₁ j) u₀ l₀
      keep j u₀ l₀ a =
          let b = r.kept (moved x y j) a.up a.bears a.row in
          record {
            up = b.up;
            bears = b.bears;
            row = b.row;
            fits = λ c h. a.fits c (b.fits c h);
            edge = λ i e. let (i₁, e₁, t₁) = a.edge i e in let (i₂, e₂, t₂) = b.edge i₁ e₁ in (i₂, e₂, t₂ ∙ t₁);
          }

      edge : {i j : ℕ} → EdgeOf M g.to i j → EdgeOf T to₁ i j
      edge a =
          let b = edge_merged w m a.low a.high a.bears a.row in
          record { low = b.low; high = b.high; bears = b.bears; row = b.row; to_low = ap g.to b.to_low ∙ a.to_low; to_high = ap g.to b.to_high ∙ a.to_high }

      label : {i c : ℕ} → LabelOf M g.to i c → LabelOf T to₁ i c
      label {i} {c} a =
          let b = label_merged w m em a.place a.up c a.row in
          record { place = b.place; up = b.up; row = b.row; to_place = ap g.to b.to_place ∙ a.to_place }

-- each parent is a row
abbrev pub Closed : Table → Type 0
Closed T = (i p : ℕ) (l : Lab) → at T i ≡ some (node (some p) l) → Live T p

pub linked_closed : (T : Table) (lev : ℕ → ℕ) → Linked T lev → Closed T
linked_closed T lev ok i p l e = (ok i p l e).0

-- with n rows gluing gives the quotient, or fails on two different labels
abbrev Right : ℕ → Type 0
Right n = (T : Table) (x y : ℕ) → Closed T → Live T x → Live T y → length T ≤ n → Result T x y (glue n T x y)

links_right : (n : ℕ) → Right n → {T : Table} {x y : ℕ} (u v : Option ℕ) {l k : Lab} (m : Lab) → Merge T x y u v l k → meet l k ≡ some m
    → Closed T → length T ≤ suc n → Result T x y (glue_link (glue n) (merged T x y (or_else u v) m) x y u v)
links_right n rec {T} {x} {y} (some p) (some q) {l} {k} m w em cl le = through w m em (moved x y p) (moved x y q)
    (λ t e p₀ q₀ ep eq. let a : p ≡ p₀ = cc in let b : q ≡ q₀ = cc in ap (λ z. t (moved x y z)) (sym a) ∙ e ∙ ap (λ z. t (moved x y z)) b)
    (λ h con e. merge_still w m h e p ∙ con x y p q l k w.row_x w.row_y e ∙ sym (merge_still w m h e q))
    (glue n N (moved x y p) (moved x y q))
    (rec N (moved x y p) (moved x y q) closed (live_merged w m em p (cl x p l w.row_x)) (live_merged w m em q (cl y q k w.row_y))
    (omega (arith, length_merged T x y (some p) m (look_lt T y w.row_y))))
  where
    N : Table
    N = merged T x y (some p) m

    closed : Closed N
    closed i j l₀ e =
        let a = edge_merged w m i j l₀ e in
        subst (Live N) a.to_high (live_merged w m em a.high (cl a.low a.high a.bears a.row))
links_right n rec {T} {x} {y} (some p) none m w em cl le =
    through w m em 0 0 (λ t e p₀ q₀ ep eq. never cc) (λ h con e. refl) (some (unchanged (merged T x y (some p) m))) (quotient_self (merged T x y (some p) m) 0 0 refl)
links_right n rec {T} {x} {y} none v m w em cl le =
    through w m em 0 0 (λ t e p₀ q₀ ep eq. never cc) (λ h con e. refl) (some (unchanged (merged T x y v m))) (quotient_self (merged T x y v m) 0 0 refl)

pub glue_right : (n : ℕ) (T : Table) (x y : ℕ) → Closed T → Live T x → Live T y → length T ≤ n → Result T x y (glue n T x y)
glue_right zero T x y cl lx ly le = let z = live_lt T x lx in absurd (omega arith)
glue_right (suc n) T x y cl (u, l, ex) (v, k, ey) le = step (glue_right n) (ℕ_discrete x y)
  where
    labels : Right n → x ≢ y → (o : Option Lab) → meet l k ≡ o → Result T x y (glue_lab (glue n) T x y u v o)
    labels rec ne none em = let (a, b, ea, eb, ab) = meet_none l k em in
        record { i = x; j = y; u = u; v = v; a = a; b = b; row_i = ex ∙ ap (λ z. some (node u z)) ea; row_j = ey ∙ ap (λ z. some (node v z)) eb; apart = ab; forced = λ h con e. e }
    labels rec ne (some m) em = let w : Merge T x y u v l k = record { row_x = ex; row_y = ey; differ = ne } in links_right n rec u v m w em cl le

    step : Right n → (d : Dec (x ≡ y)) → Result T x y (glue_step (glue n) T x y d)
    step rec (yes e) = quotient_self T x y e
    step rec (no ne) = rw (ex, ey) (labels rec ne (meet l k) refl)

-- ------------------------------------------------------------------ what follows for the glued table
pub laid : (D : Doc) (T : Table) (h : ℕ → ℕ) → Laying D T h → (i : ℕ) {u : Option ℕ} {l : Lab} → at T i ≡ some (node u l)
    → RowKept D h i (some (node u l))
laid D T h lay i e = subst (RowKept D h i) e (lay i)

-- parents of one node are one node
pub laying_congruent : (D : Doc) (T : Table) (h : ℕ → ℕ) → Laying D T h → Congruent T h
laying_congruent D T h lay i j p q l k ei ej e =
    sym (laid D T h lay i ei).2.above ∙ ap (λ z. (doc_row D z).parent) e ∙ (laid D T h lay j ej).2.above

pub clash_none : (D : Doc) (T : Table) (x y : ℕ) → Clash T x y → (h : ℕ → ℕ) → Laying D T h → h x ≡ h y → ⊥
clash_none D T x y c h lay e =
    c.apart ((laid D T h lay c.i c.row_i).1 ∙ ap (label_of D) (c.forced h (laying_congruent D T h lay) e) ∙ sym (laid D T h lay c.j c.row_j).1)

module _ {T : Table} {x y : ℕ} {g : Glued} (r : Quotient T x y g) where
  pub live_glued : (j : ℕ) → Live T j → Live g.rows (g.to j)
  live_glued j (u, l, e) = let a = r.kept j u l e in (a.up, a.bears, a.row)

  -- an edge stays an edge
  pub edge_glued : (j p : ℕ) (l : Lab) → at T j ≡ some (node (some p) l) → (k : Lab) × (at g.rows (g.to j) ≡ some (node (some (g.to p)) k))
  edge_glued j p l e =
      let a = r.kept j (some p) l e in
      let (q, eq, et) = a.edge p refl in
      (a.bears, a.row ∙ ap (λ z. some (node z a.bears)) (eq ∙ ap some et))

  pub root_glued : (i : ℕ) → Root g.rows i → Root T (r.from i)
  root_glued i (l, e) = go (r.old i (none, l, e))
    where
      go : Live T (r.from i) → Root T (r.from i)
      go (none, k, e') = (k, e')
      go (some p, k, e') = let a = (edge_glued (r.from i) p k e').1 in let b = ap (at g.rows) (r.onto i) in never cc

  -- the layings of the glued table are the layings of T with x and y on one node
  pub laying_up : (D : Doc) (h : ℕ → ℕ) → Laying D g.rows h → Laying D T (λ j. h (g.to j))
  laying_up D h lay j = go (at T j) refl
    where
      edge : (u : Option ℕ) {l : Lab} (a : Kept (λ p. p) g.to g.rows (g.to j) u l) → EdgeKept D h (g.to j) a.up
          → EdgeKept D (λ z. h (g.to z)) j u
      edge none a e = tt
      edge (some p) a e =
          let (q, eq, et) = a.edge p refl in subst (EdgeKept D h (g.to j)) (eq ∙ ap some et) e

      go : (o : Option Row) → at T j ≡ o → RowKept D (λ z. h (g.to z)) j o
      go none e = tt
      go (some (node u l)) e =
          let a = r.kept j u l e in
          let b = laid D g.rows h lay (g.to j) a.row in
          (b.0, a.fits (label_of D (h (g.to j))) b.1, edge u a b.2)

  module _ (D : Doc) (h : ℕ → ℕ) (lay : Laying D T h) (e : h x ≡ h y) where
    pub still_glued : (j : ℕ) → h (r.from (g.to j)) ≡ h j
    still_glued = r.least h (laying_congruent D T h lay) e

    pub laying_down : Laying D g.rows (λ i. h (r.from i))
    laying_down i = go (at g.rows i) refl
      where
        now : {i j : ℕ} → g.to j ≡ i → h j ≡ h (r.from i)
        now = seen g.to r.from h still_glued

        fits : (l : Lab) {u : Option ℕ} → at g.rows i ≡ some (node u l) → Fits l (label_of D (h (r.from i)))
        fits any ei = tt
        fits (lab c) {u} ei =
            let a = r.labels i u c ei in
            rw (now a.to_place) at (laid D T h lay a.place a.row).1

        edge : (u : Option ℕ) {l : Lab} → at g.rows i ≡ some (node u l) → EdgeKept D (λ z. h (r.from z)) i u
        edge none ei = tt
        edge (some p) {l} ei =
            let a = r.edges i p l ei in
            rw (now a.to_low, now a.to_high) at (laid D T h lay a.low a.row).2

        go : (o : Option Row) → at g.rows i ≡ o → RowKept D (λ z. h (r.from z)) i o
        go none ei = tt
        go (some (node u l)) ei =
            let (u₀, l₀, e₀) = r.old i (u, l, ei) in
            ((laid D T h lay (r.from i) e₀).0, fits l ei, edge u ei)

  -- levels
  module _ (lev : ℕ → ℕ) (ok : Linked T lev) (e : lev x ≡ lev y) where
    pub level_glued : (j : ℕ) → lev (r.from (g.to j)) ≡ lev j
    level_glued = r.least lev (λ i j p q l k ei ej eij. let a = (ok i p l ei).1 in let b = (ok j q k ej).1 in omega arith) e

    pub linked_glued : Linked g.rows (λ i. lev (r.from i))
    linked_glued = linked_along T g.rows g.to r.from lev ok level_glued live_glued r.edges
