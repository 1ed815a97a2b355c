-- Laws of the row that a query node starts with: the nodes whose label fits, eight to a byte. What a bit says of a row of the query.
use mathlib.Core.Path.{◌≡◌, refl, sym, ap, subst, ◌∙◌}
use mathlib.Core.Logic.{◌↔◌}
use mathlib.Core.Option.{some}
use mathlib.Core.List.{List}
use mathlib.Core.Bool.{Bool, true, false, ◌&&◌}
use Prim.Native.Nat.{ℕ, zero, suc, ◌+◌, ◌-◌, ◌*◌, ◌/◌, ◌%◌, ◌≤◌, ◌<◌}
use native.Mathlib.Omega.{arith}
use native.Mathlib.Decide.{ℕ_discrete}
use lib.ListN.{length, get_or, set}
use lib.Dec.{eqb}
use borrow.Author.Tests.{eqb-true, eq-eqb, ne_eqb}
use Rattle.meaning.specs.Document.{Doc}
use Rattle.meaning.specs.Tree.{Forest, Tag}
use Rattle.meaning.specs.Matching.{bit_at, LaysAt, CanLie}
use Rattle.bits.specs.Bits.{bit_of, Sifted}
use Rattle.bits.proofs.Bits.{all_bits, store_here, store_other}
use Rattle.theory.proofs.Look.{never}
use Rattle.rows.specs.Rows.{tag_at, below, shape, map_t, tree_rows, Holds}
use Rattle.rows.proofs.Rows.{row_node}
use Rattle.document.specs.Nodes.{Suits, RowUpTo}

pub true_false : {A : Type 0} → true ≡ false → A
true_false e = never cc

-- a truth value that is decided otherwise
pub iff_same : {a b : Bool} {P : Type 0} → a ≡ b → (b ≡ true) ↔ P → (a ≡ true) ↔ P
iff_same e p = (λ t. p.0 (sym e ∙ t), λ x. e ∙ p.1 x)

-- ------------------------------------------------------------------ one node
pub fit_any : (code : ℕ) (L : List ℕ) (x : ℕ) → x < length L → code ≡ 0 → (true ≡ true) ↔ Suits code L x
fit_any code L x l e = (λ _. (l, rw e tt), λ _. refl)

pub fit_code : (code : ℕ) (L : List ℕ) (x : ℕ) → x < length L → (code ≡ 0 → ⊥) → (eqb (code - 1) (get_or L x 0) ≡ true) ↔ Suits code L x
fit_code zero L x l ne = absurd (ne refl)
fit_code (suc a) L x l ne =
    let z : suc a - 1 ≡ a = omega arith in
    rw z (λ e. (l, eqb-true a (get_or L x 0) e), λ (_, f). eq-eqb a (get_or L x 0) f)

-- ------------------------------------------------------------------ eight nodes
pub byte_any : (code : ℕ) (L : List ℕ) (from : ℕ) → from + 8 ≤ length L → code ≡ 0 → (k : ℕ) → k < 8 → (bit_of 255 k ≡ true) ↔ Suits code L (from + k)
byte_any code L from l e k lk = iff_same (all_bits k lk) (fit_any code L (from + k) (omega arith) e)

pub byte_code : (code : ℕ) (L : List ℕ) (from r : ℕ) → from + 8 ≤ length L → (code ≡ 0 → ⊥)
    → Sifted 255 (λ k. eqb (get_or L (from + k) 0) (code - 1)) 8 r
    → (k : ℕ) → k < 8 → (bit_of r k ≡ true) ↔ Suits code L (from + k)
byte_code code L from r l ne p k lk = iff_same (p.low k lk ∙ ap (λ (x : Bool). x && eqb (get_or L (from + k) 0) (code - 1)) (all_bits k lk)
    ∙ swap (get_or L (from + k) 0) (code - 1)) (fit_code code L (from + k) (omega arith) ne)
  where
    swap : (a b : ℕ) → eqb a b ≡ eqb b a
    swap a b = go (ℕ_discrete a b)
      where
        go : Dec (a ≡ b) → eqb a b ≡ eqb b a
        go (yes e) = rw e
        go (no e) = ne_eqb a b e ∙ sym (ne_eqb b a (λ z. e (sym z)))

-- ------------------------------------------------------------------ the row
pub row_byte : (u : ℕ) (P : ℕ → Type 0) (i : ℕ) (b : List ℕ) (o : ℕ) → i < 128 → 128 * u + 128 ≤ length b
    → ((k : ℕ) → k < 8 → (bit_of o k ≡ true) ↔ P (8 * i + k))
    → RowUpTo b u P (8 * i) → RowUpTo (set b (128 * u + i) o) u P (8 * (i + 1))
row_byte u P i b o li lb f t =
    record { low = λ v l. low v l (ℕ_discrete (v / 8) i); high = λ v l m. store_other b u i o li lb v (λ e. omega arith) ∙ t.high v (omega arith) m }
  where
    low : (v : ℕ) → v < 8 * (i + 1) → Dec (v / 8 ≡ i) → (bit_at (set b (128 * u + i) o) u v ≡ true) ↔ P v
    low v l (yes e) =
        let z : 8 * i + v % 8 ≡ v = omega arith in
        iff_same (store_here b u i o li lb v e) (rw z at (f (v % 8) (omega arith)))
    low v l (no e) = iff_same (store_other b u i o li lb v e) (t.low v (omega arith))

-- ------------------------------------------------------------------ what a bit says
-- of row c of the query, which is its node c in image order
pub can_lie : (code mark span : List ℕ) (n : ℕ) → Holds span 0 n (shape span n) → (D : Doc) (c v : ℕ) → c < n
    → CanLie (tree_rows code mark span n) c D v ↔ LaysAt D (tag_at code mark c) (map_t (tag_at code mark) (below span c)) v
can_lie code mark span n laid D c v l = (
  λ (x, e, y). subst (λ (z : Tag × Forest Tag). LaysAt D z.0 z.1 v) (some_same (sym e ∙ row_node span n laid code mark c l)) y,
  λ y. ((tag_at code mark c, map_t (tag_at code mark) (below span c)), row_node span n laid code mark c l, y),
)
  where
    some_same : {x y : Tag × Forest Tag} → some x ≡ some y → x ≡ y
    some_same e = cc
