-- The match table is filled from the last row to the first: a row starts with the nodes whose label fits, each child takes away those that have
-- no child in its row, and what is left is where the node with all below it can be laid.
use mathlib.Core.Path.{◌≡◌, sym, ◌∙◌}
use mathlib.Core.Logic.{◌↔◌, ◌⊎◌, inl, inr}
use mathlib.Core.Option.{Option, some}
use mathlib.Core.List.{List, []}
use mathlib.Core.Bool.{true}
use Rattle.std.proofs.Common.{Some}
use Prim.Native.Nat.{ℕ, suc, ◌+◌, ◌-◌, ◌*◌, ◌≤◌, ◌<◌}
use native.Mathlib.Omega.{arith}
use native.Mathlib.Decide.{ℕ_discrete, dec_lt}
use lib.ListN.{length, get_or}
use Rattle.meaning.specs.Limits.{most_nodes, most_rows}
use Rattle.meaning.specs.Document.{Doc, Child}
use Rattle.meaning.specs.Tree.{Forest, bare, tree, Lays}
use Rattle.meaning.specs.Matching.{doc_of, bit_at, OnLabel, CanLie, MatchTable, table_bytes}
use Rattle.bits.specs.Bits.{OnlyRow, Cleared}
use Rattle.bits.proofs.Bits.{only_refl, other_row, no_bits}
use Rattle.rows.specs.Rows.{tag_at, below, shape, map_t, tree_rows, Holds}
use Rattle.rows.specs.Brothers.{GivesBrother}
use Rattle.rows.specs.declared.TreeRows.{TreeRows}
use Rattle.rows.specs.declared.brothers.Brothers.{Brothers}
use Rattle.rows.proofs.Rows.{size_holds, holds_first, row_opens, row_beyond}
use Rattle.theory.proofs.Look.{never}
use Rattle.document.specs.Nodes.{Suits, RowIs, RowClear}
use Rattle.document.specs.declared.table.Document.{Document}
use Rattle.matching.specs.Table.{ParentOf, Query, Lies, LiesOn, Needs, RowsFrom, Ready, Filled}
use Rattle.document.proofs.Tables.{Good, good_table_lem, in_doc, label_doc, child_doc}
use Rattle.document.proofs.Nodes.{true_false, iff_same, can_lie}

-- "marks ignored"
other_marks : (code mark mark' : List ℕ) (D : Doc) (F : Forest ℕ) (v : Option ℕ)
    → Lays D (OnLabel D) (map_t (tag_at code mark) F) v → Lays D (OnLabel D) (map_t (tag_at code mark') F) v
unfolding map_t
other_marks code mark mark' D bare v h = tt
other_marks code mark mark' D (tree i k r) v ((x, under, on, lk), lr) =
    ((x, under, on, other_marks code mark mark' D k (some x) lk), other_marks code mark mark' D r v lr)

-- ------------------------------------------------------------------ one row
-- the children of row u that are still to come, laid out as the forest is
pub record ToCome (t : TreeRows) (u : ℕ) (b : Brothers) (F : Forest ℕ) : Type 0 where
  pub same : b.span.now ≡ t.span
  pub behind : u < b.next
  pub inside : b.end ≤ t.len
  pub held : Holds t.span b.next b.end F

module _ (t : TreeRows) (u : ℕ) where
  come_start : Holds t.span 0 t.len (shape t.span t.len) → u < t.len → (b : Brothers)
      → (b.next ≡ u + 1) × (b.end ≡ u + get_or t.span u 0) × (b.span.now ≡ t.span) → ToCome t u b (below t.span u)
  come_start q l b g =
      let o = row_opens t.span t.len q u l in
      let n : b.next ≡ suc u = omega (arith, g.0) in
      record { same = g.2; behind = omega (arith, g.0); inside = omega (arith, g.1, o.inside); held = rw (n, g.1) o.held }

  module _ {c : ℕ} {b : Brothers} (b' : Brothers) (G : GivesBrother b (Some c) b') where
    -- a child that is given is a row behind u
    pub come_row : {F : Forest ℕ} → ToCome t u b F → (u < c) × (c < t.len)
    come_row C = (omega (arith, G.0, C.behind), omega (arith, G.0, G.1, C.inside))

    -- it is the first of those that are to come
    come_next : (i : ℕ) (k r : Forest ℕ) → ToCome t u b (tree i k r) → (below t.span c ≡ k) × (c ≡ i) × ToCome t u b' r
    come_next i k r C =
        let o = holds_first t.span b.next b.end i k r C.held in
        let past : b'.next ≡ b.next + get_or t.span b.next 0 = rw (G.0, C.same) at G.3 in (
          rw G.0 o.0,
          G.0 ∙ C.held.0,
          record {
            same = rw G.2 C.same;
            behind = omega (arith, past, C.behind);
            inside = rw G.4 C.inside;
            held = rw (past, G.4) o.2;
          },
        )

module _ (code span P L : List ℕ) where
  -- the brothers can be laid on children of v
  abbrev Below : Forest ℕ → ℕ → Type 0
  Below F v = Lays (doc_of P L) (OnLabel (doc_of P L)) (map_t (tag_at code []) F) (some v)

-- row u while its children are still to come: what is left of it, and those children, say where u can be laid
pub record Partly (t : TreeRows) (d : Document) (u : ℕ) (b : Brothers) (w : List ℕ) : Type 0 where
  pub rest : Forest ℕ
  pub come : ToCome t u b rest
  pub left : (v : ℕ) → v < most_rows → ((bit_at w u v ≡ true) × Below t.code t.span d.parents.now d.labels.now rest v) ↔ LiesOn t d u v

-- where u can be laid the children still to come can be laid on children of its place
pub record Children (t : TreeRows) (u : ℕ) (b : Brothers) : Type 0 where
  pub rest : Forest ℕ
  pub come : ToCome t u b rest
  pub laid : (code P L : List ℕ) (v : ℕ) → Lies code t.span P L u v → Below code t.span P L rest v

module _ (t : TreeRows) (u : ℕ) where
  pub children_start : Query t → u < t.len → {b : Brothers}
      → (b.next ≡ u + 1) × (b.end ≡ u + get_or t.span u 0) × (b.span.now ≡ t.span) → Children t u b
  children_start q l {b} g = record { rest = below t.span u; come = come_start t u q.laid l b g; laid = λ code P L v (i, f, y). y }

  module _ {c : ℕ} {b : Brothers} (b' : Brothers) (G : GivesBrother b (Some c) b') (p : Children t u b) where
    pub child_next : Children t u b'
    unfolding map_t
    child_next = go p.rest p.come p.laid
      where
        go : (F : Forest ℕ) → ToCome t u b F → ((code P L : List ℕ) (v : ℕ) → Lies code t.span P L u v → Below code t.span P L F v) → Children t u b'
        go bare C f = absurd (omega (arith, C.held, G.1))
        go (tree i k r) C f = record { rest = r; come = (come_next t u b' G i k r C).2; laid = λ code P L v y. (f code P L v y).1 }

    pub child_needed : Needs t.span u c
    unfolding map_t
    child_needed code P L v y = go p.rest p.come (p.laid code P L v y)
      where
        go : (F : Forest ℕ) → ToCome t u b F → Below code t.span P L F v → (x : ℕ) × Lies code t.span P L c x
        go bare C h = absurd (omega (arith, C.held, G.1))
        go (tree i k r) C ((x, under, on, lk), _) =
            let o = come_next t u b' G i k r C in (x, (under.inside, rw o.1 on, rw o.0 lk))

module _ (t : TreeRows) (d : Document) where
  abbrev P : List ℕ
  P = d.parents.now

  abbrev L : List ℕ
  L = d.labels.now

  abbrev G : Good P L
  G = good_table_lem P L d.good

  abbrev BelowOn : Forest ℕ → ℕ → Type 0
  BelowOn = Below t.code t.span P L

  pub partly_start : (u : ℕ) → Query t → u < t.len → (w a : List ℕ) → RowIs w u (Suits (get_or t.code u 0) L) a → {b : Brothers}
      → (b.next ≡ u + 1) × (b.end ≡ u + get_or t.span u 0) × (b.span.now ≡ t.span) → Partly t d u b a
  partly_start u q l w a r {b} g =
      record {
        rest = below t.span u;
        come = come_start t u q.laid l b g;
        left = λ v lv. (
          λ (s, y). let s = (r.bits v lv).0 s in ((in_doc P L G v).1 (let z = G.labels in omega (arith, s.0)), rw (label_doc P L G v) s.1, y),
          λ (i, f, y). ((r.bits v lv).1 (let z = G.labels in let j = (in_doc P L G v).0 i in (omega arith, rw (label_doc P L G v) at f)), y),
        );
      }

  -- what a child c of the row takes away: "every child of u" lies on some child of v
  parent_laid : (c : ℕ) (w : List ℕ) → ((x : ℕ) → x < most_rows → (bit_at w c x ≡ true) ↔ LiesOn t d c x) → (v : ℕ)
      → ParentOf w c P (length P) v ↔ ((x : ℕ) × Child (doc_of P L) v x × OnLabel (doc_of P L) (tag_at t.code [] c) x × BelowOn (below t.span c) x)
  parent_laid c w row v = (to, from)
    where
      to : ParentOf w c P (length P) v
          → (x : ℕ) × Child (doc_of P L) v x × OnLabel (doc_of P L) (tag_at t.code [] c) x × BelowOn (below t.span c) x
      to (x, z, l, s, p) = let few = G.few in let y = (row x (omega arith)).0 s in (x, (child_doc P L G v x).1 (z, l, p), y.1, y.2)

      from : (x : ℕ) × Child (doc_of P L) v x × OnLabel (doc_of P L) (tag_at t.code [] c) x × BelowOn (below t.span c) x
          → ParentOf w c P (length P) v
      from (x, ch, f, y) =
          let few = G.few in let k = (child_doc P L G v x).0 ch in (x, k.0, k.1, (row x (omega (arith, k.1))).1 (ch.inside, f, y), k.2)

  pub partly_turn : (u c : ℕ) {b : Brothers} (b' : Brothers) → GivesBrother b (Some c) b' → (w a : List ℕ)
      → ((x : ℕ) → x < most_rows → (bit_at w c x ≡ true) ↔ LiesOn t d c x)
      → RowIs w u (λ v. (bit_at w u v ≡ true) × ParentOf w c P (length P) v) a → Partly t d u b w → Partly t d u b' a
  unfolding map_t
  partly_turn u c {b} b' g w a row r p = go p.rest p.come p.left
    where
      go : (F : Forest ℕ) → ToCome t u b F → ((v : ℕ) → v < most_rows → ((bit_at w u v ≡ true) × BelowOn F v) ↔ LiesOn t d u v) → Partly t d u b' a
      go bare C f = absurd (omega (arith, C.held, g.1))
      go (tree i k s) C f =
          let o = come_next t u b' g i k s C in
          record {
            rest = s;
            come = o.2;
            left = λ v lv. (λ (x, y). (f v lv).0 (to v lv o.0 o.1 x y), λ y. from v lv o.0 o.1 ((f v lv).1 y));
          }
        where
          to : (v : ℕ) → v < most_rows → below t.span c ≡ k → c ≡ i → bit_at a u v ≡ true → BelowOn s v
              → (bit_at w u v ≡ true) × BelowOn (tree i k s) v
          to v lv ek ei x y = let q = (r.bits v lv).0 x in (q.0, (rw (← ek, ← ei) ((parent_laid c w row v).0 q.1), y))

          from : (v : ℕ) → v < most_rows → below t.span c ≡ k → c ≡ i → (bit_at w u v ≡ true) × BelowOn (tree i k s) v
              → (bit_at a u v ≡ true) × BelowOn s v
          from v lv ek ei (x, z) = ((r.bits v lv).1 (x, (parent_laid c w row v).1 (rw (← ek, ← ei) at z.0)), z.1)

  -- no child is left, or no node: the row is done
  pub partly_all : (u : ℕ) {b : Brothers} → b.end ≤ b.next → (w : List ℕ) → Partly t d u b w → (v : ℕ) → v < most_rows
      → (bit_at w u v ≡ true) ↔ LiesOn t d u v
  unfolding map_t
  partly_all u {b} l w p v lv = go p.rest p.come (p.left v lv)
    where
      go : (F : Forest ℕ) → ToCome t u b F → ((bit_at w u v ≡ true) × BelowOn F v) ↔ LiesOn t d u v → (bit_at w u v ≡ true) ↔ LiesOn t d u v
      go bare C f = (λ s. f.0 (s, tt), λ y. (f.1 y).0)
      go (tree i k r) C f = let z = size_holds t.span b.next b.end (tree i k r) C.held in absurd (omega arith)

  pub partly_clear : (u : ℕ) {b : Brothers} (w : List ℕ) → RowClear w u → Partly t d u b w → (v : ℕ) → v < most_rows
      → (bit_at w u v ≡ true) ↔ LiesOn t d u v
  partly_clear u w z p v lv = (λ s. true_false (sym s ∙ z v lv), λ y. ((p.left v lv).1 y).0)

  -- a child of row u lies nowhere: row u stays clear
  pub row_nowhere : (u c : ℕ) (w : List ℕ) → Ready w t d u → u < c → c < t.len → Needs t.span u c → RowClear w c → RowIs w u (LiesOn t d u) w
  row_nowhere u c w q l m needs z = record {
    only = only_refl w u;
    bits = λ v lv.
        (λ s. true_false (sym s ∙ q.clear v lv), λ y. nowhere (needs t.code P L v y));
  }
    where
      nowhere : {A : Type 0} → (x : ℕ) × LiesOn t d c x → A
      nowhere (x, y) =
          let few = G.few in
          let lx : x < most_rows = let i = (in_doc P L G x).0 y.0 in omega arith in
          true_false (sym ((q.behind c x (omega arith) m lx).1 y) ∙ z x lx)

  -- the rows of w behind row u are still there when only row u changed
  pub rows_kept : (u : ℕ) (w b : List ℕ) → OnlyRow w u b → RowsFrom t d (u + 1) w → RowsFrom t d (u + 1) b
  rows_kept u w b o r c v l m lv = iff_same (other_row w b u c v o lv (λ e. omega arith)) (r c v l m lv)

  -- a bit that is set stands for a node
  pub rows_inside : (u : ℕ) (w : List ℕ) → RowsFrom t d u w → (c : ℕ) → u ≤ c → c < t.len → (x : ℕ) → x < most_rows → bit_at w c x ≡ true
      → x < length P
  rows_inside u w r c l m x lx s = (in_doc P L G x).0 ((r c x l m lx).0 s).0

  -- ---------------------------------------------------------------- the whole table
  module _ (w₀ : List ℕ) (q : Query t) where
    pub filled_none : (w : List ℕ) → Cleared w₀ table_bytes w → Filled w₀ t d t.len w
    filled_none w h =
        record {
          same = h.same;
          behind = λ c v l m lv. absurd (omega arith);
          clear = λ y ly e v lv. no_bits w y 128 (λ i li. h.clear (128 * y + i) (omega arith)) v (omega arith);
          later = h.later;
        }

    pub filled_ready : (u : ℕ) (w : List ℕ) → table_bytes ≤ length w₀ → 0 < u → u ≤ t.len → Filled w₀ t d u w → Ready w t d (u - 1)
    filled_ready u w room z l f =
        let few = q.few in
        let e : u - 1 + 1 ≡ u = omega arith in
        record {
          room = rw f.same room;
          query = q;
          row = omega arith;
          behind = rw e f.behind;
          clear = f.clear (u - 1) (omega arith) (inl (omega arith));
        }

    pub filled_more : (u : ℕ) (w b : List ℕ) → 0 < u → u ≤ t.len → Filled w₀ t d u w → RowIs w (u - 1) (LiesOn t d (u - 1)) b
        → Filled w₀ t d (u - 1) b
    filled_more u w b z l f r =
        let few = q.few in
        record {
          same = r.only.same ∙ f.same;
          behind = λ c v lc m lv. row c v lc m lv (ℕ_discrete c (u - 1));
          clear = λ y ly e v lv. other_row w b (u - 1) y v r.only lv (λ s. apart y s e) ∙ f.clear y ly (was y e) v lv;
          later = λ i li. r.only.elsewhere i (λ e. omega arith) ∙ f.later i li;
        }
      where
        apart : (y : ℕ) → y ≡ u - 1 → (y < u - 1) ⊎ (t.len ≤ y) → ⊥
        apart y e (inl s) = omega arith
        apart y e (inr s) = omega arith

        was : (y : ℕ) → (y < u - 1) ⊎ (t.len ≤ y) → (y < u) ⊎ (t.len ≤ y)
        was y (inl s) = inl (omega arith)
        was y (inr s) = inr s

        row : (c v : ℕ) → u - 1 ≤ c → c < t.len → v < most_rows → Dec (c ≡ u - 1) → (bit_at b c v ≡ true) ↔ LiesOn t d c v
        row c v lc m lv (yes e) = rw e (r.bits v lv)
        row c v lc m lv (no e) = iff_same (other_row w b (u - 1) c v r.only lv e) (f.behind c v (omega arith) m lv)

    -- "marks ignored": the bits are the same whatever the marks are
    pub filled_all : (w : List ℕ) (u : ℕ) → u ≡ 0 → Filled w₀ t d u w → (mark : List ℕ)
        → MatchTable (tree_rows t.code mark t.span t.len) (doc_of P L) w₀ w
    filled_all w u z f mark = record { same = f.same; bits = λ c v lc lv. bits c v lc lv (dec_lt c t.len); later = f.later }
      where
        bits : (c v : ℕ) → c < most_nodes → v < most_rows → Dec (c < t.len) → (bit_at w c v ≡ true) ↔ CanLie (tree_rows t.code mark t.span t.len) c (doc_of P L) v
        bits c v lc lv (yes l) =
            let b = f.behind c v (omega arith) l lv in
            let k = can_lie t.code mark t.span t.len q.laid (doc_of P L) c v l in (
              λ s. let y = b.0 s in k.1 (y.0, y.1, other_marks t.code [] mark (doc_of P L) (below t.span c) (some v) y.2),
              λ y. let x = k.0 y in b.1 (x.0, x.1, other_marks t.code mark [] (doc_of P L) (below t.span c) (some v) x.2),
            )
        bits c v lc lv (no l) = (
          λ s. true_false (sym s ∙ f.clear c lc (inr (omega arith)) v lv),
          λ (x, e, y). never
              (cc (row_beyond t.span t.len q.laid t.code mark c (omega arith))),
        )
