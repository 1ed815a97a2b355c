-- Laws of document tables: what the check of a table says of each row, and the document of a good table read by its two lists.
use mathlib.Core.Path.{◌≡◌, refl, sym, ap, ◌∙◌}
use mathlib.Core.Logic.{◌↔◌}
use mathlib.Core.List.{List, [], ◌∷◌}
use mathlib.Core.Bool.{Bool, true, false, ◌&&◌, and-true, and-false}
use Prim.Native.Nat.{ℕ, zero, suc, ◌+◌, ◌≤◌, ◌<◌}
use native.Mathlib.Omega.{arith}
use native.Mathlib.Numerals.{add-one}
use lib.ListN.{length, get_or, drop, drop_of_length-le}
use lib.Seq.{drop-cons}
use lib.Dec.{leb}
use borrow.Author.Tests.{leb-true, le-leb, lt-leb, eqb-true}
use Rattle.meaning.specs.Limits.{most_rows}
use Rattle.meaning.specs.Number.{largest_label}
use Rattle.meaning.specs.Document.{DocRow, Child, doc_row, label_of, In}
use Rattle.meaning.specs.Matching.{parent_ok, rows_ok, good_table, doc_of}
use Rattle.theory.proofs.Look.{never}
use Rattle.bits.proofs.Bits.{both}

-- ------------------------------------------------------------------ the check from row x on
rows_length : (n : ℕ) (ps ls : List ℕ) → rows_ok n ps ls ≡ true → length ls ≡ length ps
unfolding rows_ok
rows_length n [] [] e = refl
rows_length n [] (l ∷ ls) e = never cc
rows_length n (p ∷ ps) [] e = never cc
rows_length n (p ∷ ps) (l ∷ ls) e = ap suc (rows_length (suc n) ps ls (both (parent_ok n p && leb l largest_label) (rows_ok (suc n) ps ls) e).1)

module _ (P L : List ℕ) where
  pub table_none : length P ≡ 0 → false ≡ good_table P L
  unfolding good_table
  table_none e = sym (rw e)

  pub table_many : most_rows < length P → false ≡ good_table P L
  unfolding good_table
  table_many h = sym (rw (lt-leb (length P) most_rows h, and-false (leb 1 (length P))))

  pub table_uneven : (length L ≡ length P → ⊥) → false ≡ good_table P L
  unfolding good_table
  table_uneven ne = go (leb 1 (length P) && leb (length P) most_rows) (rows_ok 0 P L) refl
    where
      go : (t r : Bool) → rows_ok 0 P L ≡ r → false ≡ (t && r)
      go true true e = absurd (ne (rows_length 0 P L e))
      go true false e = refl
      go false r e = refl

  -- the rows before x are good or not, and the later ones decide with them
  abbrev pub SoFar : Bool → ℕ → Type 0
  SoFar good x = (good && rows_ok x (drop x P) (drop x L)) ≡ good_table P L

  pub sofar_none : (length P ≡ 0 → ⊥) → length P ≤ most_rows → SoFar true 0
  unfolding good_table
  sofar_none a b = let z : 1 ≤ length P = omega arith in rw (le-leb 1 (length P) z, le-leb (length P) most_rows b)

  pub sofar_more : (good d : Bool) (x : ℕ) → x < length P → x < length L → SoFar good x
      → d ≡ (good && (parent_ok x (get_or P x 0) && leb (get_or L x 0) largest_label)) → SoFar d (x + 1)
  unfolding rows_ok
  sofar_more false d x lp ll s e = rw e s
  sofar_more true d x lp ll s e = rw (add-one x, e) (rw (drop-cons P x 0 lp, drop-cons L x 0 ll) at s)

  pub sofar_all : (good : Bool) (x : ℕ) → length P ≤ x → length L ≤ x → SoFar good x → good ≡ good_table P L
  unfolding rows_ok
  sofar_all good x lp ll s = sym (and-true good) ∙ (rw (drop_of_length-le P lp, drop_of_length-le L ll) at s)

-- ------------------------------------------------------------------ a good table
doc_length : (P L : List ℕ) → length L ≡ length P → length (doc_of P L) ≡ length P
unfolding doc_of
doc_length [] L e = refl
doc_length (p ∷ P) [] e = absurd (omega arith)
doc_length (p ∷ P) (l ∷ L) e = let z = doc_length P L (omega arith) in omega arith

doc_row_lem : (P L : List ℕ) → length L ≡ length P → (x : ℕ) → doc_row (doc_of P L) x ≡ record { parent = get_or P x 0; label = get_or L x 0 }
unfolding doc_of
doc_row_lem [] [] e x = refl
doc_row_lem [] (l ∷ L) e x = absurd (omega arith)
doc_row_lem (p ∷ P) [] e x = absurd (omega arith)
doc_row_lem (p ∷ P) (l ∷ L) e zero = refl
doc_row_lem (p ∷ P) (l ∷ L) e (suc x) = doc_row_lem P L (omega arith) x

row_parent : (n p : ℕ) → parent_ok n p ≡ true → (p ≤ n) × (0 < n → p < n)
row_parent zero p e = let z = eqb-true p 0 e in (omega arith, λ l. absurd (omega arith))
row_parent (suc n) p e = let z = leb-true p n e in (omega arith, λ l. omega arith)

rows_parent : (n : ℕ) (P L : List ℕ) → rows_ok n P L ≡ true → (x : ℕ) → x < length P → parent_ok (n + x) (get_or P x 0) ≡ true
unfolding rows_ok
rows_parent n [] L e x l = absurd (omega arith)
rows_parent n (p ∷ P) [] e x l = never cc
rows_parent n (p ∷ P) (l ∷ L) e zero h =
    let y : n + 0 ≡ n = omega arith in
    rw y (both (parent_ok n p) (leb l largest_label) (both (parent_ok n p && leb l largest_label) (rows_ok (suc n) P L) e).0).0
rows_parent n (p ∷ P) (l ∷ L) e (suc x) h =
    let y : n + suc x ≡ suc n + x = omega arith in
    rw y (rows_parent (suc n) P L (both (parent_ok n p && leb l largest_label) (rows_ok (suc n) P L) e).1 x (omega arith))

-- what a good table says: its length, and that every parent number is smaller than the node's own
pub record Good (P L : List ℕ) : Type 0 where
  pub some : 1 ≤ length P
  pub few : length P ≤ most_rows
  pub labels : length L ≡ length P
  pub up_to : (x : ℕ) → x < length P → get_or P x 0 ≤ x
  pub lower : (x : ℕ) → 0 < x → x < length P → get_or P x 0 < x

pub good_table_lem : (P L : List ℕ) → good_table P L ≡ true → Good P L
unfolding good_table
good_table_lem P L e =
    let a = both (leb 1 (length P) && leb (length P) most_rows) (rows_ok 0 P L) e in
    let b = both (leb 1 (length P)) (leb (length P) most_rows) a.0 in
    record {
      some = leb-true 1 (length P) b.0;
      few = leb-true (length P) most_rows b.1;
      labels = rows_length 0 P L a.1;
      up_to = λ x l. (row_parent x (get_or P x 0) (parent a.1 x l)).0;
      lower = λ x z l. (row_parent x (get_or P x 0) (parent a.1 x l)).1 z;
    }
  where
    parent : rows_ok 0 P L ≡ true → (x : ℕ) → x < length P → parent_ok x (get_or P x 0) ≡ true
    parent r x l = let z : 0 + x ≡ x = omega arith in rw z at (rows_parent 0 P L r x l)

-- the document of a good table, read by its two lists
module _ (P L : List ℕ) (G : Good P L) where
  pub in_doc : (x : ℕ) → In (doc_of P L) x ↔ (x < length P)
  in_doc x = let z = doc_length P L G.labels in (λ i. omega arith, λ l. omega arith)

  pub label_doc : (x : ℕ) → label_of (doc_of P L) x ≡ get_or L x 0
  label_doc x = ap (λ (r : DocRow). r.label) (doc_row_lem P L G.labels x)

  pub child_doc : (v x : ℕ) → Child (doc_of P L) v x ↔ ((0 < x) × (x < length P) × (get_or P x 0 ≡ v))
  child_doc v x =
      let p : (doc_row (doc_of P L) x).parent ≡ get_or P x 0 = ap (λ (r : DocRow). r.parent) (doc_row_lem P L G.labels x) in
      let n = doc_length P L G.labels in (
        λ h. let a = h.inside in let b = h.lower in let d = h.above in (omega arith, omega arith, sym p ∙ h.above),
        λ (z, l, e). let w = G.lower x z l in record { inside = omega arith; lower = omega arith; above = p ∙ e },
      )
