-- Laws of a row's factors: what the chain of a branch goes on with, and a node's own factors child by child.
use mathlib.Core.Path.{◌≡◌, refl, sym, ap, ◌∙◌}
use mathlib.Core.Bool.{Bool, true, false, ◌||◌, cond}
use mathlib.Core.List.{List, [], ◌∷◌, ◌++◌, map, append_assoc}
use Prim.Native.Nat.{ℕ, zero, suc, ◌+◌, ◌-◌, ◌≤◌, ◌<◌}
use native.Mathlib.Omega.{arith}
use lib.ListN.{get_or}
use lib.Dec.{ltb}
use Rattle.std.proofs.Common.{Some}
use Rattle.meaning.specs.Limits.{most_nodes}
use Rattle.meaning.specs.Expression.{Expr, child, label}
use Rattle.meaning.specs.TreeQuery.{Lab, any, lab}
use Rattle.meaning.specs.Tree.{Forest, bare, tree, Tag}
use Rattle.meaning.specs.Number.{num}
use Rattle.meaning.specs.Normal.{labelled, branch, onward, chains, either_in, off}
use Rattle.rows.specs.Rows.{covers, lab_of, below, map_t, Holds, width, Reaches}
use Rattle.rows.proofs.Rows.{size_holds, holds_first, holds_reaches, row_opens, row_kids, Opens}
use Rattle.rows.specs.declared.TreeRows.{TreeRows}
use Rattle.rows.specs.declared.brothers.Brothers.{Brothers}
use Rattle.rows.specs.Brothers.{GivesBrother}
use Rattle.groups.specs.declared.Writer.{Writer}
use Rattle.groups.specs.Filled.{filled}
use Rattle.branches.specs.Joining.{joint, fill, factor, Takes, filled_by}
use Rattle.branches.specs.Factors.{Row, IsRow, tagged, under, label_at, onward_at, chain_at, off_at, branches_at, own_at}
use Rattle.branches.proofs.Joining.{fill_one, fill_first, filled_by_nil, Left, left_start, left_is, left_end, left_fits, left_step, child_step}
use Rattle.branches.proofs.Covers.{either_covers, covers_before}

pub labelled_append : (l : Lab) (xs : List Expr) → labelled l xs ≡ labelled l [] ++ xs
labelled_append any xs = refl
labelled_append (lab l) xs = refl

-- a branch does not depend on the marks
pub chains_same : (f g : ℕ → Tag) → ((i : ℕ) → (f i).lab ≡ (g i).lab) → (F : Forest ℕ) → chains (map_t f F) ≡ chains (map_t g F)
unfolding map_t
chains_same f g h bare = refl
chains_same f g h (tree i k r) = rw (h i, chains_same f g h k, chains_same f g h r)

-- ------------------------------------------------------------------ one row
-- a label: code L + 1 as the sign 9 + L
pub label_some : (from at x : ℕ) → (x ≡ 0 → ⊥) → fill from at (labelled (lab_of x) []) ≡ factor from at (num (9 + (x - 1)))
label_some from at zero z = absurd (z refl)
label_some from at (suc l) z = let q : suc l - 1 ≡ l = omega arith in rw q (fill_one from at (label l))

-- row u: it is in the tables, it opens, its children are counted
pub row_few : {code kids span : List ℕ} {u : ℕ} → Row code kids span u → u < most_nodes
row_few R = omega (arith, R.within, R.rows.few)

pub row_open : {code kids span : List ℕ} {u : ℕ} (R : Row code kids span u) → Opens span u R.n
row_open {code} {kids} {span} {u} R = row_opens span R.n R.rows.laid u R.within

pub row_reaches : {code kids span : List ℕ} {u : ℕ} → Row code kids span u → Reaches span u
row_reaches {code} {kids} {span} {u} R = holds_reaches span R.n _ R.rows.laid R.rows.few u R.within

pub row_width : {code kids span : List ℕ} {u : ℕ} (R : Row code kids span u) → get_or kids u 0 ≡ width (below span u)
row_width {code} {kids} {span} {u} R = (row_kids code R.mark kids span R.up R.n R.rows u R.within).0

-- a later row of it
row_in : {code kids span : List ℕ} {u : ℕ} → Row code kids span u → (c : ℕ) → c < u + get_or span u 0 → Row code kids span c
row_in R c l = let o = (row_open R).inside in record { mark = R.mark; up = R.up; n = R.n; rows = R.rows; within = omega arith }

-- ------------------------------------------------------------------ its children
module _ (code span : List ℕ) (x y : ℕ) where
  -- the first of some brothers, and the others
  off_first : (c e i : ℕ) (k r : Forest ℕ) → Holds span c e (tree i k r)
      → off either_in (map_t (tagged code x y) (tree i k r)) [] ≡ off_at code span x y c ++ off either_in (map_t (tagged code x y) r) []
  unfolding map_t under off_at chain_at onward_at
  off_first c e i k r h =
      let z = holds_first span c e i k r h in
      let E : Expr = branch (child ∷ labelled (lab_of (get_or code c 0)) (onward (chains (map_t (tagged code c c) (below span c))))) in
      rw (
        ← h.0,
        ← z.0,
        chains_same (tagged code x y) (tagged code c c) (λ j. refl) (below span c),
        either_covers code span x y c e z.1,
      ) (go (covers span c x || covers span c y) E)
    where
      R : List Expr
      R = off either_in (map_t (tagged code x y) r) []

      go : (b : Bool) (E : Expr) → cond b R (E ∷ R) ≡ cond b [] (E ∷ []) ++ R
      go true E = refl
      go false E = refl

-- ------------------------------------------------------------------ a loop over the children of a row
-- those from row c up to row e are left, and their factors
pub record Off (t : TreeRows) (x y c e : ℕ) (z : Writer) (from : ℕ) (w : Writer) : Type 0 where
  pub forest : Forest ℕ
  pub held : Holds t.span c e forest
  pub row : (j : ℕ) → j < e → IsRow t j
  pub left : Left z from w (off either_in (map_t (tagged t.code x y) forest) [])

-- the same of those that the iterator b gives
pub record OffBy (t : TreeRows) (x y : ℕ) (b : Brothers) (z : Writer) (from : ℕ) (w : Writer) : Type 0 where
  pub of : b.span.now ≡ t.span
  pub off : Off t x y b.next b.end z from w

module _ {t : TreeRows} {x y : ℕ} {z : Writer} {from : ℕ} {w : Writer} where
  pub off_start : {u : ℕ} {b : Brothers} → IsRow t u → (b.next ≡ u + 1) × (b.end ≡ u + get_or t.span u 0) × (b.span.now ≡ t.span)
      → Left z from w (branches_at t.code t.span x y u) → OffBy t x y b z from w
  unfolding under branches_at
  off_start {u} R (n, e, s) L =
      let q : u + 1 ≡ suc u = omega arith in
      record { of = s; off = rw (n, e, q) (record { forest = below t.span u; held = (row_open R).held; row = row_in R; left = L }) }

  module _ {b : Brothers} (b' : Brothers) (c : ℕ) (O : OffBy t x y b z from w) (g : GivesBrother b (Some c) b') where
    -- row c is the first of them
    first : (r : Forest ℕ) × Opens t.span c b'.end × Holds t.span b'.next b'.end r
        × Left z from w (off_at t.code t.span x y c ++ off either_in (map_t (tagged t.code x y) r) [])
    first = go O.off.forest O.off.held O.off.left
      where
        go : (F : Forest ℕ) → Holds t.span b.next b.end F → Left z from w (off either_in (map_t (tagged t.code x y) F) [])
            → (r : Forest ℕ) × Opens t.span c b'.end × Holds t.span b'.next b'.end r
            × Left z from w (off_at t.code t.span x y c ++ off either_in (map_t (tagged t.code x y) r) [])
        go bare h L = absurd (omega (arith, g.1))
        go (tree i k r) h L =
            let (q, l, s, n, e) = g in
            let v = holds_first t.span b.next b.end i k r h in
            rw (n, e, q, O.of) (r, v.1, v.2, left_is (off_first t.code t.span x y b.next b.end i k r h) L)

    pub off_few : c < most_nodes
    off_few = let (q, l, s, n, e) = g in row_few (O.off.row c (omega arith))

    pub off_opens : Opens t.span c b.end
    off_opens = rw (← g.4) first.1

    next_by : {w' : Writer} → w' ≡ filled_by from w (off_at t.code t.span x y c) → OffBy t x y b' z from w'
    next_by f =
        let (r, o, h, L) = first in
        record { of = ap (λ r. r.now) g.2 ∙ O.of; off = record { forest = r; held = h; row = rw g.4 O.off.row; left = left_step _ _ L f } }

    -- it is on the ways, and writes nothing
    pub off_passed : (covers t.span c x || covers t.span c y) ≡ true → OffBy t x y b' z from w
    unfolding off_at
    off_passed p = next_by (rw p (sym (filled_by_nil from w)))

    -- it is off the ways, and its branch is next
    module _ (p : (covers t.span c x || covers t.span c y) ≡ false) where
      off_branch : off_at t.code t.span x y c ≡ branch (chain_at t.code t.span c) ∷ []
      unfolding off_at
      off_branch = rw p

      pub off_requires : IsRow t c × (from ≤ w.length) × Takes from w (branch (chain_at t.code t.span c) ∷ [])
      off_requires =
          let (q, l, s, n, e) = g in (O.off.row c (omega arith), O.off.left.reached, rw off_branch at (left_fits (off_at t.code t.span x y c) _ first.3))

      pub off_branched : {w' : Writer} → w' ≡ filled_by from w (branch (chain_at t.code t.span c) ∷ []) → OffBy t x y b' z from w'
      off_branched f = next_by (rw off_branch f)

  pub off_end : {b : Brothers} → OffBy t x y b z from w → b.end ≤ b.next → w ≡ z
  unfolding map_t
  off_end {b} O l = go O.off.forest O.off.held O.off.left
    where
      go : (F : Forest ℕ) → Holds t.span b.next b.end F → Left z from w (off either_in (map_t (tagged t.code x y) F) []) → w ≡ z
      go bare h L = left_end L
      go (tree i k r) h L = let s = size_holds t.span b.next b.end (tree i k r) h in absurd (omega arith)

-- ------------------------------------------------------------------ chains
module _ (code span : List ℕ) (u : ℕ) where
  one_onward : (e : ℕ) (F : Forest ℕ) → Holds span (suc u) e F → width F ≡ 1 → onward (chains (map_t (tagged code u u) F)) ≡ chain_at code span (suc u)
  unfolding under map_t chain_at onward_at
  one_onward e bare h w = absurd (omega arith)
  one_onward e (tree i k bare) h w =
      let z = holds_first span (suc u) e i k bare h in
      rw (← h.0, ← z.0, chains_same (tagged code u u) (tagged code (suc u) (suc u)) (λ j. refl) (below span (suc u)))
  one_onward e (tree i k (tree j k' r)) h w = absurd (omega arith)

  all_off : (c e : ℕ) (F : Forest ℕ) → Holds span c e F → u < c
      → off either_in (map_t (tagged code u u) F) [] ≡ map branch (chains (map_t (tagged code u u) F))
  unfolding map_t under
  all_off c e bare h l = refl
  all_off c e (tree i k r) h l =
      let z = holds_first span c e i k r h in
      let b = either_covers code span u u c e z.1 in
      let n = covers_before span c u l in
      rw (← h.0, ← z.0, b, n, all_off (c + get_or span c 0) e r z.2 (omega arith))

  more_onward : (e : ℕ) (F : Forest ℕ) → Holds span (suc u) e F → (width F ≡ 1 → ⊥)
      → onward (chains (map_t (tagged code u u) F)) ≡ off either_in (map_t (tagged code u u) F) []
  unfolding map_t
  more_onward e bare h w = refl
  more_onward e (tree i k bare) h w = absurd (w refl)
  more_onward e (tree i k (tree j k' r)) h w = sym (all_off (suc u) e (tree i k (tree j k' r)) h (omega arith))

module _ {code kids span : List ℕ} {u : ℕ} (R : Row code kids span u) where
  -- "if it has exactly one child, the chain goes on with that child"
  onward_one : get_or kids u 0 ≡ 1 → onward_at code span u ≡ chain_at code span (u + 1)
  unfolding onward_at under
  onward_one e = let z : u + 1 ≡ suc u = omega arith in rw z (one_onward code span u _ (below span u) (row_open R).held (sym (row_width R) ∙ e))

  -- "if it has more, one first projection each, in image order"
  onward_more : (get_or kids u 0 ≡ 1 → ⊥) → onward_at code span u ≡ branches_at code span u u u
  unfolding onward_at branches_at under
  onward_more e = more_onward code span u _ (below span u) (row_open R).held (λ w. e (row_width R ∙ w))

  -- that child's row
  pub row_next : get_or kids u 0 ≡ 1 → Row code kids span (u + 1) × (u + 1 + get_or span (u + 1) 0 ≤ u + get_or span u 0)
  row_next e = let z : u + 1 ≡ suc u = omega arith in rw z (go (below span u) (row_open R).held (sym (row_width R) ∙ e))
    where
      go : (F : Forest ℕ) → Holds span (suc u) (u + get_or span u 0) F → width F ≡ 1
          → Row code kids span (suc u) × (suc u + get_or span (suc u) 0 ≤ u + get_or span u 0)
      go bare h w = absurd (omega arith)
      go (tree i k r) h w = let o = (holds_first span (suc u) (u + get_or span u 0) i k r h).1 in (row_in R (suc u) (omega (arith, o.some, o.inside)), o.inside)

-- ------------------------------------------------------------------ writing
-- "A branch is written as a chain", under one first projection
pub branch_parts : (code span : List ℕ) (from at u : ℕ)
    → fill from at (branch (chain_at code span u) ∷ []) ≡ fill at at (chain_at code span u) ++ (5 ∷ joint (ltb from at))
unfolding chain_at
branch_parts code span from at u =
    fill_one from at (branch (chain_at code span u))
    ∙ append_assoc _ (5 ∷ []) (joint (ltb from at)) ∙ ap (λ (l : List ℕ). l ++ (5 ∷ joint (ltb from at))) (sym (fill_first at _ _))

-- child, the label, and then what goes on below
module _ (t : TreeRows) (u from : ℕ) (w : Writer) (R : IsRow t u) (l : from ≤ w.length) (f : Takes from w (chain_at t.code t.span u)) where
  abbrev Rest : Writer → List Expr → Type 0
  Rest = Left (filled_by from w (chain_at t.code t.span u)) from

  pub chain_start : Rest w (child ∷ (label_at t.code u ++ onward_at t.code t.span u))
  unfolding chain_at label_at
  chain_start = left_is (ap (λ (l : List Expr). child ∷ l) (labelled_append (lab_of (get_or t.code u 0)) (onward_at t.code t.span u))) (left_start l f)

  module _ {w₁ : Writer} (a : w₁ ≡ filled w (factor from w.length (num 2))) where
    pub label_fits : Takes from w₁ (label_at t.code u)
    label_fits = left_fits _ _ (child_step chain_start a)

    module _ {w₂ : Writer} (b : w₂ ≡ filled_by from w₁ (label_at t.code u)) where
      pub left_one : get_or t.kids u 0 ≡ 1 → Rest w₂ (chain_at t.code t.span (u + 1))
      left_one e = left_is (onward_one R e) (left_step _ _ (child_step chain_start a) b)

      pub left_more : (get_or t.kids u 0 ≡ 1 → ⊥) → Rest w₂ (branches_at t.code t.span u u u)
      left_more e = left_is (onward_more R e) (left_step _ _ (child_step chain_start a) b)

-- ------------------------------------------------------------------ a node's own factors
-- the label, and then the branches off the ways
module _ (code span : List ℕ) (x y u from : ℕ) (w : Writer) (l : from ≤ w.length) (f : Takes from w (own_at code span x y u)) where
  own_start : Left (filled_by from w (own_at code span x y u)) from w (label_at code u ++ branches_at code span x y u)
  unfolding own_at
  own_start = left_start l f

  pub own_fits : Takes from w (label_at code u)
  own_fits = left_fits _ _ own_start

  pub own_done : {w₁ : Writer} → w₁ ≡ filled_by from w (label_at code u)
      → Left (filled_by from w (own_at code span x y u)) from w₁ (branches_at code span x y u)
  own_done e = left_step _ _ own_start e
