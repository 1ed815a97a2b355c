-- The turns of the loop that lays a tree out as rows; rows that show a forest are that forest, renumbered in image order.
use mathlib.Core.Path.{◌≡◌, refl, ap, ◌∙◌}
use mathlib.Core.List.{List}
use Prim.Native.Nat.{ℕ, suc, ◌+◌, ◌-◌, ◌*◌, ◌%◌, ◌<◌, ◌≤◌}
use native.Mathlib.Numerals.{add-one}
use native.Mathlib.Omega.{arith}
use native.Mathlib.Decide.{ℕ_discrete}
use lib.ListN.{get_or, set, length-set}
use lib.Seq.{get_or-set_same, get_or-set_other}
use Rattle.meaning.specs.Limits.{most_nodes}
use Rattle.meaning.specs.Number.{largest_label}
use Rattle.meaning.specs.Tree.{Forest, bare, tree, size}
use Rattle.rows.specs.Rows.{no_row, tag_at, shape, map_t, tree_rows, Holds, width, Counted, Hung, Rows, Room}
use Rattle.rows.proofs.Rows.{holds_is}
use Rattle.order.specs.Links.{forest_at, Linked, Listed}
use Rattle.order.specs.Contract.{Tagged}

-- the five lists of the rows
pub record Out : Type 0 where
  pub code : List ℕ
  pub mark : List ℕ
  pub kids : List ℕ
  pub span : List ℕ
  pub up : List ℕ

-- row `at` has the tag of row i of the table, and hangs from row u
abbrev pub Bears : List ℕ → List ℕ → Out → ℕ → ℕ → ℕ → Type 0
Bears code mark o at i u = (get_or o.code at 0 ≡ get_or code i 0) × (get_or o.mark at 0 ≡ get_or mark i 0) × (get_or o.up at 0 ≡ u)

-- from row `at` on the rows are those of the forest, whose brothers lie below row u
abbrev pub Shows : List ℕ → List ℕ → Out → ℕ → ℕ → Forest ℕ → Type 0
Shows code mark o u at bare = Unit {0}
Shows code mark o u at (tree i k r) = Bears code mark o at i u × (get_or o.kids at 0 ≡ width k) × (get_or o.span at 0 ≡ suc (size k))
    × Shows code mark o at (suc at) k × Shows code mark o u (suc at + size k) r

-- ------------------------------------------------------------------ one turn
-- the rows that wait for the end of what lies below them, from the lowest up, each with the number of its children and its later brothers
pub data Above : Type 0 where
  top : ℕ → Above
  below : ℕ → ℕ → Forest ℕ → Above → Above

-- the row below which the next rows come
abbrev pub lowest : Above → ℕ
lowest (top w) = no_row
lowest (below u w r A) = u

-- how many children it will have; on top: how many tops
abbrev pub wide : Above → ℕ
wide (top w) = w
wide (below u w r A) = w

-- how many rows their later brothers will have
abbrev pub left : Above → ℕ
left (top w) = 0
left (below u w r A) = size r + left A

-- row j is none of them
abbrev pub Off : ℕ → Above → Type 0
Off j (top w) = Unit {0}
Off j (below u w r A) = (j ≡ u → ⊥) × Off j A

-- they stand before row `at`, and each hangs below the next one; until its end, a row's span is its row in the table, whose later brothers are linked
-- there, and its number of children is that of its earlier brothers
abbrev pub Waits : ℕ → List ℕ → List ℕ → Out → ℕ → Above → Type 0
Waits n fs ns o at (top w) = Unit {0}
Waits n fs ns o at (below u w r A) = (u < at) × (get_or o.up u 0 ≡ lowest A) × (get_or o.kids u 0 ≤ u) × (get_or o.kids u 0 + suc (width r) ≡ wide A)
    × (get_or o.span u 0 < n) × Linked n fs ns (get_or ns (get_or o.span u 0) 0) r × Waits n fs ns o u A

-- their spans end at row e, and their later brothers follow there
abbrev pub Follows : List ℕ → List ℕ → Out → ℕ → Above → Type 0
Follows code mark o e (top w) = Unit {0}
Follows code mark o e (below u w r A) = (get_or o.kids u 0 ≡ w) × (get_or o.span u 0 ≡ e - u) × Shows code mark o (lowest A) e r × Follows code mark o (e + size r) A

-- what was written before row `at` is kept: all but the spans and the children of those that wait
abbrev pub Keeps : Out → Out → ℕ → Above → Type 0
Keeps o o' at A = (j : ℕ) → j < at → (get_or o'.code j 0 ≡ get_or o.code j 0) × (get_or o'.mark j 0 ≡ get_or o.mark j 0) × (get_or o'.up j 0 ≡ get_or o.up j 0)
    × (Off j A → (get_or o'.kids j 0 ≡ get_or o.kids j 0) × (get_or o'.span j 0 ≡ get_or o.span j 0))

-- what is laid out
abbrev pub whole : ℕ → List ℕ → List ℕ → Forest ℕ
whole n fs ns = forest_at n fs ns (get_or fs n 0)

-- before row `at` it is laid out but for the forest at x, which comes next below row u, behind k brothers, and for what waits: rows that show both
-- show it
pub record Laying (code mark : List ℕ) (n : ℕ) (fs ns : List ℕ) (o : Out) (at u x k : ℕ) : Type 0 where
  pub tagged : Tagged code mark n
  pub listed : Listed n fs ns
  pub room : Room o.code o.mark o.kids o.span o.up
  pub next : Forest ℕ
  pub above : Above
  pub under : u ≡ lowest above
  pub fit : u < 65536
  pub back : (u + 1) % 65536 ≤ at
  pub linked : Linked n fs ns x next
  pub waits : Waits n fs ns o at above
  pub total : at + size next + left above ≡ n
  pub counted : k + width next ≡ wide above
  pub low : k ≤ at
  pub tags : (j : ℕ) → j < at → (get_or o.code j 0 ≤ suc largest_label) × (get_or o.mark j 0 ≤ 3)
  pub closes : (o' : Out) → Keeps o o' at above → Shows code mark o' u at next → Follows code mark o' (at + size next) above
      → Shows code mark o' no_row 0 (whole n fs ns)

-- a row at or behind `at` does not wait
off : (n : ℕ) (fs ns : List ℕ) (o : Out) (at j : ℕ) (A : Above) → Waits n fs ns o at A → at ≤ j → Off j A
off n fs ns o at j (top w) v h = tt
off n fs ns o at j (below u w r A) (l, a, b, c, d, e, v) h = ((λ e. omega arith), off n fs ns o u j A v (omega arith))

waits_kept : (n : ℕ) (fs ns : List ℕ) (o o' : Out) (at at' : ℕ) (A : Above) → at ≤ at'
    → ((j : ℕ) → j < at → (get_or o'.up j 0 ≡ get_or o.up j 0) × (get_or o'.kids j 0 ≡ get_or o.kids j 0) × (get_or o'.span j 0 ≡ get_or o.span j 0))
    → Waits n fs ns o at A → Waits n fs ns o' at' A
waits_kept n fs ns o o' at at' (top w) g h v = tt
waits_kept n fs ns o o' at at' (below u w r A) g h (l, a, b, c, d, e, v) =
    let z = h u l in
    (omega arith, z.0 ∙ a, rw z.1 b, rw z.1 c, rw z.2 d, rw z.2 e, waits_kept n fs ns o o' u u A (omega arith) (λ j m. h j (omega arith)) v)

-- the row above stands before `at`, or is none
lowest_before : (n : ℕ) (fs ns : List ℕ) (o : Out) (at : ℕ) (A : Above) → Waits n fs ns o at A → at ≤ no_row → (lowest A < 65536) × ((lowest A + 1) % 65536 ≤ at)
lowest_before n fs ns o at (top w) v h = (omega arith, omega arith)
lowest_before n fs ns o at (below u w r A) v h = (omega (arith, v.0), omega (arith, v.0))

-- it falls at each turn: a row more is laid out, or the row above stands before the last one
abbrev pub to_go : ℕ → ℕ → ℕ → ℕ
to_go n at u = 65536 * (n - at) + (u + 1) % 65536

module _ {code mark : List ℕ} {n : ℕ} {fs ns : List ℕ} {o : Out} where
  pub laying_none : Tagged code mark n × Listed n fs ns × Room o.code o.mark o.kids o.span o.up → {c : ℕ} → c ≡ get_or fs n 0
      → Laying code mark n fs ns o 0 no_row c 0
  laying_none (T, L, R) e = record {
    tagged = T;
    listed = L;
    room = R;
    next = whole n fs ns;
    above = top (width (whole n fs ns));
    under = refl;
    fit = omega arith;
    back = omega arith;
    linked = rw e L.finite.holds;
    waits = tt;
    total = omega (arith, L.all);
    counted = omega arith;
    low = omega arith;
    tags = λ j l. absurd (omega arith);
    closes = λ o' h s t. s;
  }

  module _ {at u x k : ℕ} (w : Laying code mark n fs ns o at u x k) where
    -- the forest X comes next
    abbrev Next : Forest ℕ → Type 0
    Next X = Linked n fs ns x X × (at + size X + left w.above ≡ n) × (k + width X ≡ wide w.above)
        × ((o' : Out) → Keeps o o' at w.above → Shows code mark o' u at X → Follows code mark o' (at + size X) w.above → Shows code mark o' no_row 0 (whole n fs ns))

    comes : Next w.next
    comes = (w.linked, w.total, w.counted, w.closes)

    -- ------------------------------------------------------------ down to the first child
    module _ (l : x < n) where
      abbrev down : Out
      down = record {
        code = set o.code at (get_or code x 0);
        mark = set o.mark at (get_or mark x 0);
        kids = set o.kids at k;
        span = set o.span at x;
        up = set o.up at u;
      }

      inside : at < n
      inside = go w.next comes
        where
          go : (X : Forest ℕ) → Next X → at < n
          go bare (h, t, q, c) = absurd (omega arith)
          go (tree i K Z) (h, t, q, c) = omega arith

      pub fits : at < most_nodes
      fits = omega (arith, inside, w.tagged.few)

      pub down_less : to_go n (at + 1) at < to_go n at u
      down_less = omega (arith, inside, fits)

      pub laying_down : {c : ℕ} → c ≡ get_or fs x 0 → Laying code mark n fs ns down (at + 1) at c 0
      laying_down e = rw (add-one at, e) (go w.next comes)
        where
          before : (j : ℕ) → j < at → (get_or down.code j 0 ≡ get_or o.code j 0) × (get_or down.mark j 0 ≡ get_or o.mark j 0) × (get_or down.up j 0 ≡ get_or o.up j 0)
              × (get_or down.kids j 0 ≡ get_or o.kids j 0) × (get_or down.span j 0 ≡ get_or o.span j 0)
          before j h =
              let d : j ≡ at → ⊥ = λ q. omega arith in (
                get_or-set_other o.code at j (get_or code x 0) 0 d,
                get_or-set_other o.mark at j (get_or mark x 0) 0 d,
                get_or-set_other o.up at j u 0 d,
                get_or-set_other o.kids at j k 0 d,
                get_or-set_other o.span at j x 0 d,
              )

          here : Bears code mark down at x u × (get_or down.kids at 0 ≡ k) × (get_or down.span at 0 ≡ x)
          here = (
            (
              get_or-set_same o.code at (get_or code x 0) 0 (omega (arith, fits, w.room.codes)),
              get_or-set_same o.mark at (get_or mark x 0) 0 (omega (arith, fits, w.room.marks)),
              get_or-set_same o.up at u 0 (omega (arith, fits, w.room.ups)),
            ),
            get_or-set_same o.kids at k 0 (omega (arith, fits, w.room.counts)),
            get_or-set_same o.span at x 0 (omega (arith, fits, w.room.spans)),
          )

          tagged : (j : ℕ) → j < suc at → Dec (j ≡ at) → (get_or down.code j 0 ≤ suc largest_label) × (get_or down.mark j 0 ≤ 3)
          tagged j h (yes q) = rw (q, here.0.0, here.0.1) (w.tagged.labels x l, w.tagged.marked x l)
          tagged j h (no q) = let b = before j (omega arith) in rw (b.0, b.1) (w.tags j (omega arith))

          go : (X : Forest ℕ) → Next X → Laying code mark n fs ns down (suc at) at (get_or fs x 0) 0
          go bare (h, t, q, c) = absurd (omega arith)
          go (tree i K Z) ((ei, li, hk, hz), t, q, c) = record {
            tagged = w.tagged;
            listed = w.listed;
            room = record {
              codes = length-set o.code at (get_or code x 0) ∙ w.room.codes;
              marks = length-set o.mark at (get_or mark x 0) ∙ w.room.marks;
              counts = length-set o.kids at k ∙ w.room.counts;
              spans = length-set o.span at x ∙ w.room.spans;
              ups = length-set o.up at u ∙ w.room.ups;
            };
            next = K;
            above = below at (width K) Z w.above;
            under = refl;
            fit = omega (arith, fits);
            back = omega (arith, fits);
            linked = rw ei hk;
            waits = (
              omega arith,
              here.0.2 ∙ w.under,
              rw here.1 w.low,
              rw here.1 q,
              rw here.2 l,
              rw (here.2, ei) hz,
              waits_kept n fs ns o down at at w.above (omega arith) (λ j m. let b = before j m in (b.2, b.3, b.4)) w.waits,
            );
            total = omega arith;
            counted = omega arith;
            low = omega arith;
            tags = λ j m. tagged j m (ℕ_discrete j at);
            closes = λ o' h s f.
                let y = h at (omega arith) in
                let e : suc at + size K - at ≡ suc (size K) = omega arith in
                let z : suc at + size K + size Z ≡ at + suc (size K + size Z) = omega arith in
                c o'
                (λ j m. let v = h j (omega arith) in let b = before j m in (
                  v.0 ∙ b.0,
                  v.1 ∙ b.1,
                  v.2 ∙ b.2,
                  λ g. let r = v.3 ((λ p. omega arith), g) in (r.0 ∙ b.3, r.1 ∙ b.4),
                ))
                (rw (← ei) ((y.0 ∙ here.0.0, y.1 ∙ here.0.1, y.2 ∙ here.0.2), f.0, f.1 ∙ e, s, rw (← w.under) at f.2))
                (rw z at f.3);
          }

    -- ------------------------------------------------------------ all below row u is laid out
    module _ (h : n ≤ x) where
      -- nothing comes next
      record Ended (A : Above) : Type 0 where
        total : at + left A ≡ n
        counted : k ≡ wide A
        closes : (o' : Out) → Keeps o o' at A → Follows code mark o' at A → Shows code mark o' no_row 0 (whole n fs ns)

      ended : Ended w.above
      ended = go w.next comes
        where
          go : (X : Forest ℕ) → Next X → Ended w.above
          go (tree i K Z) ((ei, li, hk, hz), t, q, c) = absurd (omega arith)
          go bare (l, t, q, c) =
              let z : at + 0 ≡ at = omega arith in
              record { total = omega arith; counted = omega arith; closes = λ o' g f. c o' g tt (rw z f) }

      laid_all : u ≡ no_row → (at ≡ n) × Shows code mark o no_row 0 (whole n fs ns)
      laid_all e = go w.above w.under w.waits ended
        where
          go : (A : Above) → u ≡ lowest A → Waits n fs ns o at A → Ended A → (at ≡ n) × Shows code mark o no_row 0 (whole n fs ns)
          go (top b) q v E = (omega (arith, E.total), E.closes o (λ j m. (refl, refl, refl, λ f. (refl, refl))) tt)
          go (below v b r A) q y E = absurd (omega (arith, w.tagged.few, E.total, y.0))

      -- row u gets its span and its number of children, and its next brother comes next
      abbrev climbed : Out
      climbed = record { code = o.code; mark = o.mark; kids = set o.kids u k; span = set o.span u (at - u); up = o.up }

      pub record Climbs : Type 0 where
        pub short : get_or o.kids u 0 + 1 < 65536
        pub inside : get_or o.span u 0 < n
        pub up_less : to_go n at (get_or o.up u 0) < to_go n at u
        pub laying_on : Laying code mark n fs ns climbed at (get_or o.up u 0) (get_or ns (get_or o.span u 0) 0) (get_or o.kids u 0 + 1)

      pub climbs : (u ≡ no_row → ⊥) → Climbs
      climbs d = go w.above w.under w.waits ended
        where
          go : (A : Above) → u ≡ lowest A → Waits n fs ns o at A → Ended A → Climbs
          go (top b) q v E = absurd (d q)
          go (below v b r A) q (m, p, a, c, i, f, y) E =
              let s = E.total in let few = w.tagged.few in let l : u < at = rw q m in let u-fits : u < most_nodes = omega arith in
              let z = lowest_before n fs ns o v A y (omega arith) in
              record {
                short = rw q (omega arith);
                inside = rw q i;
                up_less = rw (q, p) (omega (arith, z.1));
                laying_on = record {
                  tagged = w.tagged;
                  listed = w.listed;
                  room = record {
                    codes = w.room.codes;
                    marks = w.room.marks;
                    counts = length-set o.kids u k ∙ w.room.counts;
                    spans = length-set o.span u (at - u) ∙ w.room.spans;
                    ups = w.room.ups;
                  };
                  next = r;
                  above = A;
                  under = rw q p;
                  fit = rw (q, p) z.0;
                  back = rw (q, p) (omega (arith, z.1));
                  linked = rw q f;
                  waits =
                      waits_kept n fs ns o climbed v at A (omega (arith, m))
                      (λ j g. (refl, get_or-set_other o.kids u j k 0 (λ e. omega arith), get_or-set_other o.span u j (at - u) 0 (λ e. omega arith))) y;
                  total = omega (arith, s);
                  counted = rw q (omega (arith, c));
                  low = rw q (omega (arith, a, m));
                  tags = w.tags;
                  closes = λ o' g t j.
                      let x = (g u l).3 (rw q (off n fs ns o v v A y (omega arith))) in
                      let ek : get_or o'.kids u 0 ≡ b = x.0 ∙ get_or-set_same o.kids u k 0 (omega (arith, u-fits, w.room.counts)) ∙ E.counted in
                      let es : get_or o'.span u 0 ≡ at - u = x.1 ∙ get_or-set_same o.span u (at - u) 0 (omega (arith, u-fits, w.room.spans)) in
                      E.closes o'
                      (λ i m'. let x' = g i m' in (
                        x'.0,
                        x'.1,
                        x'.2,
                        λ e.
                            let z' = x'.3 e.1 in
                            (z'.0 ∙ get_or-set_other o.kids u i k 0 (λ a'. e.0 (a' ∙ q)), z'.1 ∙ get_or-set_other o.span u i (at - u) 0 (λ a'. e.0 (a' ∙ q))),
                      ))
                      (rw (← q) ek, rw (← q) es, rw (q, p) at t, j);
                };
              }

-- ------------------------------------------------------------------ rows that show a forest
-- the forest with its nodes numbered in image order
abbrev numbered : ℕ → Forest ℕ → Forest ℕ
numbered at bare = bare
numbered at (tree i k r) = tree at (numbered (suc at) k) (numbered (suc at + size k) r)

size_numbered : (at : ℕ) (F : Forest ℕ) → size (numbered at F) ≡ size F
size_numbered at bare = refl
size_numbered at (tree i k r) = let x = size_numbered (suc at) k in let y = size_numbered (suc at + size k) r in omega arith

width_numbered : (at : ℕ) (F : Forest ℕ) → width (numbered at F) ≡ width F
width_numbered at bare = refl
width_numbered at (tree i k r) = ap suc (width_numbered (suc at + size k) r)

module _ (code mark : List ℕ) (o : Out) where
  holds_shown : (u at e : ℕ) (F : Forest ℕ) → Shows code mark o u at F → e ≡ at + size F → Holds o.span at e (numbered at F)
  holds_shown u at e bare s q = omega arith
  holds_shown u at e (tree i k r) (b, c, s, f, g) q =
      let z = size_numbered (suc at) k in
      (refl, omega arith, rw z (holds_shown at (suc at) (suc at + size k) k f refl), rw z (holds_shown u (suc at + size k) e r g (omega arith)))

  hung_shown : (u at : ℕ) (F : Forest ℕ) → Shows code mark o u at F → Hung o.up u (numbered at F)
  hung_shown u at bare s = tt
  hung_shown u at (tree i k r) (b, c, s, f, g) = (b.2, hung_shown at (suc at) k f, hung_shown u (suc at + size k) r g)

  counted_shown : (u at : ℕ) (F : Forest ℕ) → Shows code mark o u at F → Counted o.kids (numbered at F)
  counted_shown u at bare s = tt
  counted_shown u at (tree i k r) (b, c, s, f, g) =
      (rw (width_numbered (suc at) k) c, counted_shown at (suc at) k f, counted_shown u (suc at + size k) r g)

  tags_shown : (u at : ℕ) (F : Forest ℕ) → Shows code mark o u at F → map_t (tag_at o.code o.mark) (numbered at F) ≡ map_t (tag_at code mark) F
  unfolding map_t
  tags_shown u at bare s = refl
  tags_shown u at (tree i k r) (b, c, s, f, g) =
      let x = tags_shown at (suc at) k f in
      let y = tags_shown u (suc at + size k) r g in
      let t : tag_at o.code o.mark at ≡ tag_at code mark i = rw (b.0, b.1) in
      λ v. tree (t v) (x v) (y v)

shape_is : (span : List ℕ) (n : ℕ) (F : Forest ℕ) → Holds span 0 n F → shape span n ≡ F
unfolding shape
shape_is span n F h = holds_is n span 0 n F h (omega arith)

-- when all is laid out, the rows are the tree
module _ {code mark : List ℕ} {n : ℕ} {fs ns : List ℕ} {o : Out} {at u x k : ℕ} (w : Laying code mark n fs ns o at u x k) where
  pub laid_rows : n ≤ x → u ≡ no_row
      → Rows o.code o.mark o.kids o.span o.up n × (tree_rows o.code o.mark o.span n ≡ map_t (tag_at code mark) (whole n fs ns))
  laid_rows h e =
      let a = laid_all w h e in let F = whole n fs ns in let few = w.tagged.few in let r = w.room in
      let held : Holds o.span 0 n (numbered 0 F) = holds_shown code mark o no_row 0 n F a.1 (omega (arith, w.listed.all)) in
      let is = shape_is o.span n (numbered 0 F) held in (
        record {
          few = few;
          codes = omega arith;
          marks = omega arith;
          counts = omega arith;
          spans = omega arith;
          ups = omega arith;
          labels = λ j l. (w.tags j (omega (arith, a.0))).0;
          marked = λ j l. (w.tags j (omega (arith, a.0))).1;
          laid = rw is held;
          counted = rw is (counted_shown code mark o no_row 0 F a.1);
          hung = rw is (hung_shown code mark o no_row 0 F a.1);
          single = rw (is, width_numbered 0 F) w.listed.single;
        },
        unfold tree_rows in rw is (tags_shown code mark o no_row 0 F a.1),
      )
