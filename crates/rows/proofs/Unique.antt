-- "That no second answer fits is itself a proved statement": rows are determined by the tree that they are, each of the five numbers of each row.
use mathlib.Core.Path.{◌≡◌, refl, sym, ap, ◌∙◌}
use mathlib.Core.Option.{some}
use mathlib.Core.List.{List}
use Prim.Native.Nat.{ℕ, suc, ◌+◌, ◌<◌, ◌≤◌}
use native.Mathlib.Omega.{arith}
use native.Mathlib.Decide.{ℕ_discrete, dec_lt}
use lib.ListN.{get_or}
use Rattle.meaning.specs.Basics.{look}
use Rattle.meaning.specs.Tree.{Forest, bare, tree, Tag, size, preorder}
use Rattle.meaning.specs.Image.{lab_code, mark_code}
use Rattle.theory.proofs.Look.{never}
use Rattle.rows.specs.Rows.{tag_at, below, shape, map_t, tree_rows, Holds, width, Hung, no_row, Rows}
use Rattle.rows.proofs.Rows.{lab_code_lem, mark_code_lem, size_map_t, width_map_t, size_holds, row_opens, size_rows, row_node, row_kids}

-- the first n entries of two lists are the same
abbrev pub SameBelow : ℕ → List ℕ → List ℕ → Type 0
SameBelow n xs ys = (u : ℕ) → u < n → get_or xs u 0 ≡ get_or ys u 0

-- two forests of one shape that are laid out from the same row on hang in the same way
hung_same : (f g : ℕ → Tag) (span span' up up' : List ℕ) (p p' u u' e e' : ℕ) (F F' : Forest ℕ) → p ≡ p' → u ≡ u' → map_t f F ≡ map_t g F'
    → Holds span u e F → Holds span' u' e' F' → Hung up p F → Hung up' p' F' → (c : ℕ) → u ≤ c → c < e → get_or up c 0 ≡ get_or up' c 0
unfolding map_t
hung_same f g span span' up up' p p' u u' e e' bare F' ep eu m h h' n n' c l lc = absurd (omega arith)
hung_same f g span span' up up' p p' u u' e e' (tree i k r) bare ep eu m h h' n n' c l lc = never cc
hung_same f g span span' up up' p p' u u' e e' (tree i k r) (tree i' k' r') ep eu m h h' n n' c l lc =
    let mk : map_t f k ≡ map_t g k' = cc in
    let mr : map_t f r ≡ map_t g r' = cc in
    let s : size k ≡ size k' = sym (size_map_t f k) ∙ ap size mk ∙ size_map_t g k' in
    let a : i ≡ i' = omega (arith, h.0, h'.0) in
    go (ℕ_discrete c i) (dec_lt c (suc i + size k)) a (omega (arith, h.0))
    (λ b d. hung_same f g span span' up up' i i' (suc i) (suc i') (suc i + size k) (suc i' + size k') k k' a (omega arith) mk h.2 h'.2 n.1 n'.1 c b d)
    (λ b. hung_same f g span span' up up' p p' (suc i + size k) (suc i' + size k') e e' r r' ep (omega arith) mr h.3 h'.3 n.2 n'.2 c b lc)
  where
    go : Dec (c ≡ i) → Dec (c < suc i + size k) → i ≡ i' → i ≤ c → (suc i ≤ c → c < suc i + size k → get_or up c 0 ≡ get_or up' c 0)
        → (suc i + size k ≤ c → get_or up c 0 ≡ get_or up' c 0) → get_or up c 0 ≡ get_or up' c 0
    go (yes q) d a b x y = ap (λ z. get_or up z 0) q ∙ n.0 ∙ ep ∙ sym (ap (λ z. get_or up' z 0) (q ∙ a) ∙ n'.0)
    go (no q) (yes d) a b x y = x (omega arith) d
    go (no q) (no d) a b x y = y (omega arith)

span_size : (span : List ℕ) (n : ℕ) → Holds span 0 n (shape span n) → (u : ℕ) → u < n → get_or span u 0 ≡ suc (size (below span u))
span_size span n laid u l = omega (arith, size_holds span (suc u) (u + get_or span u 0) (below span u) (row_opens span n laid u l).held)

module _ (code mark kids span up code' mark' kids' span' up' : List ℕ) (n n' : ℕ) (R : Rows code mark kids span up n) (R' : Rows code' mark' kids' span' up' n')
    (e : tree_rows code mark span n ≡ tree_rows code' mark' span' n') where
  count_same : n ≡ n'
  count_same = sym (size_rows span n R.laid code mark) ∙ ap size e ∙ size_rows span' n' R'.laid code' mark'

  node_same : (u : ℕ) → u < n
      → (tag_at code mark u ≡ tag_at code' mark' u) × (map_t (tag_at code mark) (below span u) ≡ map_t (tag_at code' mark') (below span' u))
  node_same u l =
      both
      (sym (row_node span n R.laid code mark u l) ∙ ap (λ F. look (preorder F) u) e ∙ row_node span' n' R'.laid code' mark' u (omega (arith, count_same)))
    where
      both : {x y : Tag × Forest Tag} → some x ≡ some y → (x.0 ≡ y.0) × (x.1 ≡ y.1)
      both {x} {y} q = let z : x ≡ y = cc in (ap (λ t. t.0) z, ap (λ t. t.1) z)

  size_same : (u : ℕ) → u < n → size (below span u) ≡ size (below span' u)
  size_same u l = sym (size_map_t _ (below span u)) ∙ ap size (node_same u l).1 ∙ size_map_t _ (below span' u)

  pub rows_unique : (n ≡ n') × SameBelow n code code' × SameBelow n mark mark' × SameBelow n kids kids' × SameBelow n span span' × SameBelow n up up'
  unfolding tree_rows
  rows_unique = (
    count_same,
    λ u l. sym (lab_code_lem (get_or code u 0)) ∙ ap (λ (t : Tag). lab_code t.lab) (node_same u l).0 ∙ lab_code_lem (get_or code' u 0),
    λ u l. sym (mark_code_lem (get_or mark u 0) (R.marked u l)) ∙ ap (λ (t : Tag). mark_code t.src t.dst) (node_same u l).0
        ∙ mark_code_lem (get_or mark' u 0) (R'.marked u (omega (arith, count_same))),
    λ u l. (row_kids code mark kids span up n R u l).0 ∙ sym (width_map_t _ (below span u)) ∙ ap width (node_same u l).1 ∙ width_map_t _ (below span' u)
        ∙ sym (row_kids code' mark' kids' span' up' n' R' u (omega (arith, count_same))).0,
    λ u l. span_size span n R.laid u l ∙ ap suc (size_same u l) ∙ sym (span_size span' n' R'.laid u (omega (arith, count_same))),
    λ u l. hung_same _ _ span span' up up' no_row no_row 0 0 n n' _ _ refl refl e R.laid R'.laid R.hung R'.hung u (omega arith) l,
  )
