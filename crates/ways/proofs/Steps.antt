-- From row to row: the child at or below which a row lies, the parent, and the first row above s that holds d.
use mathlib.Core.Path.{◌≡◌, sym, ap, ◌∙◌}
use mathlib.Core.Logic.{inl, inr}
use mathlib.Core.Bool.{true, false}
use mathlib.Core.List.{List}
use Prim.Native.Nat.{ℕ, suc, ◌+◌, ◌≤◌, ◌<◌}
use native.Mathlib.Decide.{ℕ_discrete}
use native.Mathlib.Omega.{arith}
use lib.ListN.{get_or}
use Rattle.meaning.specs.Limits.{most_nodes}
use Rattle.meaning.specs.Tree.{Forest, bare, tree}
use Rattle.theory.proofs.Look.{never}
use Rattle.rows.specs.Rows.{covers, below, Holds, Rows}
use Rattle.rows.proofs.Rows.{holds_first, Opens, row_opens, rows_top, row_up, row_least}
use Rattle.branches.proofs.Covers.{covers_in}
use Rattle.ways.specs.Ways.{Covers, Among, Part, Pair, Lowest}
use Rattle.ways.proofs.Walk.{covers_true, row_open, up_among}

-- ------------------------------------------------------------------ the child that holds row x
-- the brothers from row c up to the end of row u's part are children of row u, and x lies at or behind c
pub record Children (span : List ℕ) (u x c : ℕ) : Type 0 where
  pub forest : Forest ℕ
  pub held : Holds span c (u + get_or span u 0) forest
  pub inside : (y : ℕ) → Among y forest → Among y (below span u)
  pub low : c ≤ x
  pub few : x < most_nodes

part_open : {span : List ℕ} {u : ℕ} (P : Part span u) → Opens span u P.n
part_open {span} {u} P = row_opens span P.n P.laid u P.within

pub children_start : {span : List ℕ} {u x : ℕ} → Part span u → u < x → Covers span u x → Children span u x (u + 1)
children_start {span} {u} P l v =
    let z : u + 1 ≡ suc u = omega arith in let o = part_open P in
    rw z (record { forest = below span u; held = o.held; inside = λ y a. a; low = omega arith; few = omega (arith, v.to, o.inside, P.few) })

-- row c is the first of them
pub record Child (span : List ℕ) (u x c : ℕ) : Type 0 where
  pub among : Among c (below span u)
  pub some : 1 ≤ get_or span c 0
  pub ends : c + get_or span c 0 ≤ u + get_or span u 0
  pub further : c + get_or span c 0 ≤ x → Children span u x (c + get_or span c 0)

pub children_here : {span : List ℕ} {u x c : ℕ} → Children span u x c → x < u + get_or span u 0 → Child span u x c
children_here {span} {u} {x} {c} A l = go A.forest A.held A.inside
  where
    go : (F : Forest ℕ) → Holds span c (u + get_or span u 0) F → ((y : ℕ) → Among y F → Among y (below span u)) → Child span u x c
    go bare h i = absurd (omega (arith, A.low))
    go (tree j k r) h i =
        let z = holds_first span c (u + get_or span u 0) j k r h in
        record {
          among = i c (inl h.0);
          some = z.1.some;
          ends = z.1.inside;
          further = λ m. record { forest = r; held = z.2; inside = λ y a. i y (inr a); low = m; few = A.few };
        }

-- ------------------------------------------------------------------ the parent
module _ {code mark kids span up : List ℕ} {n : ℕ} (R : Rows code mark kids span up n) where
  pub covers_self : (u : ℕ) → u < n → Covers span u u
  covers_self u l = record { from = omega arith; to = omega (arith, (row_open R u l).some) }

  -- from row x, at or above row s, to its parent
  module _ (x s : ℕ) (ls : s < n) (v : Covers span x s) (top : 0 < x) where
    pub parent_less : get_or up x 0 < x
    parent_less = (row_up code mark kids span up n R x top (omega (arith, v.from))).0

    pub parent_covers : Covers span (get_or up x 0) s
    parent_covers =
        let w = row_up code mark kids span up n R x top (omega (arith, v.from)) in
        record { from = omega (arith, w.0, v.from); to = omega (arith, w.1, v.to) }

    pub parent_among : Among x (below span (get_or up x 0))
    parent_among = up_among R x top (omega (arith, v.from))

    -- a row that stands before x and holds s is not below x's parent
    pub parent_least : (u : ℕ) → Covers span u s → u < x → u ≤ get_or up x 0
    parent_least u w l = row_least R u x (omega (arith, w.from)) l (omega (arith, v.from, w.to))

-- ------------------------------------------------------------------ the lowest row
-- row t is above or at s, and the lowest row that holds s and d is not below it
pub record Above-s (span : List ℕ) (s d t : ℕ) : Type 0 where
  pub few : t < most_nodes
  pub to_s : Covers span t s
  pub least : (v : ℕ) → Covers span v s → Covers span v d → v ≤ t

module _ {span up : List ℕ} {s d : ℕ} (P : Pair span up s d) where
  pub lowest_start : Above-s span s d s
  lowest_start = record { few = omega (arith, P.s_in, P.rows.few); to_s = covers_self P.rows s P.s_in; least = λ v a b. a.from }

  module _ {t : ℕ} (A : Above-s span s d t) where
    pub lowest_done : covers span t d ≡ true → Lowest span s d t
    lowest_done e = record { to_s = A.to_s; to_d = covers_true span t d e; least = A.least }

    module _ (e : covers span t d ≡ false) where
      below_top : 0 < t
      below_top = go (ℕ_discrete t 0)
        where
          go : Dec (t ≡ 0) → 0 < t
          go (no q) = omega arith
          go (yes q) =
              let z = (rows_top P.code P.mark P.kids span up P.n P.rows (omega (arith, P.s_in))).span_all in
              let c : covers span 0 d ≡ true = covers_in span 0 d (omega arith) (omega (arith, P.d_in)) in
              never (cc (sym c ∙ ap (λ (i : ℕ). covers span i d) (sym q) ∙ e))

      pub lowest_less : get_or up t 0 < t
      lowest_less = parent_less P.rows t s P.s_in A.to_s below_top

      pub lowest_next : Above-s span s d (get_or up t 0)
      lowest_next =
          record {
            few = omega (arith, lowest_less, A.few);
            to_s = parent_covers P.rows t s P.s_in A.to_s below_top;
            least = λ v a b. parent_least P.rows t s P.s_in A.to_s below_top v a (before v a b (ℕ_discrete v t));
          }
        where
          before : (v : ℕ) → Covers span v s → Covers span v d → Dec (v ≡ t) → v < t
          before v a b (no q) = omega (arith, A.least v a b)
          before v a b (yes q) =
              never (cc (sym (covers_in span v d b.from b.to) ∙ ap (λ (i : ℕ). covers span i d) q ∙ e))
