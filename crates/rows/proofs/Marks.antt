-- The search for the row that bears a mark: no row before it does, so a row that does is not passed. A mark that is counted once is borne by one row
-- alone, which is then the first.
use mathlib.Core.Path.{◌≡◌, refl, sym, ap, ◌∙◌}
use mathlib.Core.Bool.{Bool, true, false}
use mathlib.Core.List.{List}
use Prim.Native.Nat.{ℕ, zero, suc, ◌+◌, ◌≤◌, ◌<◌}
use native.Mathlib.Omega.{arith}
use native.Mathlib.Decide.{ℕ_discrete, dec_lt}
use lib.ListN.{get_or}
use lib.Dec.{eqb}
use borrow.Author.Tests.{eq-eqb, ne_eqb, eqb-true}
use Rattle.meaning.specs.Limits.{most_nodes}
use Rattle.meaning.specs.Tree.{Forest, bare, tree, Tag, size}
use Rattle.theory.proofs.Count.{bit, count}
use Rattle.theory.proofs.Look.{never}
use Rattle.bits.specs.Bits.{bit_of}
use Rattle.rows.specs.Rows.{tag_at, Borne, FirstRow, Single, shape, map_t, tree_rows, Holds}
use Rattle.rows.proofs.Rows.{size_holds}

-- no row before u bears the mark
abbrev pub Passed : List ℕ → ℕ → ℕ → Type 0
Passed mark bit u = (j : ℕ) → j < u → bit_of (get_or mark j 0) bit ≡ false

-- ------------------------------------------------------------------ the one row that is so
module _ (p : ℕ → Bool) where
  -- how many of the k rows from u on are so
  abbrev tally : ℕ → ℕ → ℕ
  tally zero u = 0
  tally (suc k) u = bit (p u) + tally k (suc u)

  tally_append : (j k u : ℕ) → tally (j + k) u ≡ tally j u + tally k (u + j)
  tally_append zero k u = let y : 0 + k ≡ k = omega arith in let z : u + 0 ≡ u = omega arith in rw (y, z) (omega arith)
  tally_append (suc j) k u =
      let y : suc j + k ≡ suc (j + k) = omega arith in
      let z : u + suc j ≡ suc u + j = omega arith in
      rw (y, z) (omega (arith, tally_append j k (suc u)))

  tally_none : (k u : ℕ) → tally k u ≡ 0 → (j : ℕ) → u ≤ j → j < u + k → p j ≡ false
  tally_none zero u e j l m = absurd (omega arith)
  tally_none (suc k) u e j l m = go (p u) refl e (ℕ_discrete j u) (λ c a. tally_none k (suc u) c j a (omega arith))
    where
      go : (b : Bool) → p u ≡ b → bit b + tally k (suc u) ≡ 0 → Dec (j ≡ u) → (tally k (suc u) ≡ 0 → suc u ≤ j → p j ≡ false) → p j ≡ false
      go true q c d f = absurd (omega arith)
      go false q c (yes d) f = rw d q
      go false q c (no d) f = f (omega arith) (omega arith)

  abbrev One : ℕ → ℕ → Type 0
  One k u = (r : ℕ) × (u ≤ r) × (r < u + k) × ((j : ℕ) → u ≤ j → j < u + k → p j ≡ eqb j r)

  tally_one : (k u : ℕ) → tally k u ≡ 1 → One k u
  tally_one zero u e = absurd (omega arith)
  tally_one (suc k) u e = go (p u) refl e (λ c. tally_one k (suc u) c)
    where
      go : (b : Bool) → p u ≡ b → bit b + tally k (suc u) ≡ 1 → (tally k (suc u) ≡ 1 → One k (suc u)) → One (suc k) u
      go true q c g = (u, omega arith, omega arith, λ j l m. here j l m (ℕ_discrete j u))
        where
          here : (j : ℕ) → u ≤ j → j < u + suc k → Dec (j ≡ u) → p j ≡ eqb j u
          here j l m (yes d) = ap p d ∙ q ∙ sym (eq-eqb j u d)
          here j l m (no d) = tally_none k (suc u) (omega arith) j (omega arith) (omega arith) ∙ sym (ne_eqb j u d)
      go false q c g = let (r, l, m, f) = g (omega arith) in (r, omega arith, omega arith, λ j a b. later r l f j a b (ℕ_discrete j u))
        where
          later : (r : ℕ) → suc u ≤ r → ((j : ℕ) → suc u ≤ j → j < suc u + k → p j ≡ eqb j r) → (j : ℕ) → u ≤ j → j < u + suc k → Dec (j ≡ u) → p j ≡ eqb j r
          later r l f j a b (yes d) = ap p d ∙ q ∙ sym (ne_eqb j r (λ z. omega arith))
          later r l f j a b (no d) = f j (omega arith) (omega arith)

-- the nodes of a tree that are so are counted row by row
count_tally : (p : Tag → Bool) (f : ℕ → Tag) (span : List ℕ) (u e : ℕ) (F : Forest ℕ) → Holds span u e F → count p (map_t f F) ≡ tally (λ i. p (f i)) (size F) u
unfolding map_t
count_tally p f span u e bare h = refl
count_tally p f span u e (tree i k r) h =
    rw h.0
    (omega (
      arith,
      count_tally p f span (suc i) (suc i + size k) k h.2,
      count_tally p f span (suc i + size k) e r h.3,
      tally_append (λ j. p (f j)) (size k) (size r) (suc i),
    ))

pub single_row : (p : Tag → Bool) (code mark span : List ℕ) (n : ℕ) → Holds span 0 n (shape span n) → count p (tree_rows code mark span n) ≡ 1
    → Single (λ u. p (tag_at code mark u)) n
unfolding tree_rows
single_row p code mark span n laid c =
    let s = size_holds span 0 n (shape span n) laid in
    let (r, l, m, f) = tally_one (λ i. p (tag_at code mark i)) (size (shape span n)) 0 (sym (count_tally p (tag_at code mark) span 0 n (shape span n) laid) ∙ c) in
    record { row = r; inside = omega arith; is = λ u b. f u (omega arith) (omega arith) }

module _ {p : ℕ → Bool} {n : ℕ} (S : Single p n) where
  pub single_here : p S.row ≡ true
  single_here = S.is S.row S.inside ∙ eq-eqb S.row S.row refl

  pub single_only : (u : ℕ) → u < n → p u ≡ true → u ≡ S.row
  single_only u l t = eqb-true u S.row (sym (S.is u l) ∙ t)

-- the one row that bears a mark can be searched for, and the first that is found is it
module _ (mark : List ℕ) (bit : ℕ) {n : ℕ} (S : Single (λ u. bit_of (get_or mark u 0) bit) n) where
  pub single_borne : n ≤ most_nodes → Borne mark bit
  single_borne l = (S.row, omega (arith, S.inside), single_here S)

  pub single_first : {r : ℕ} → FirstRow mark bit r → r ≡ S.row
  single_first {r} f = go (dec_lt S.row r)
    where
      go : Dec (S.row < r) → r ≡ S.row
      go (yes d) = never (cc (sym (single_here S) ∙ f.before S.row d))
      go (no d) = single_only S r (omega (arith, S.inside)) f.here

-- no second row is the first
pub first_row_unique : (mark : List ℕ) (bit r r' : ℕ) → FirstRow mark bit r → FirstRow mark bit r' → r ≡ r'
first_row_unique mark bit r r' f g = go (dec_lt r r') (dec_lt r' r)
  where
    go : Dec (r < r') → Dec (r' < r) → r ≡ r'
    go (yes l) d = never (cc (sym f.here ∙ g.before r l))
    go (no l) (yes m) = never (cc (sym g.here ∙ f.before r' m))
    go (no l) (no m) = omega arith
