-- Laws of tables: what a link stands for, and that a table is known by its length and its rows.
use mathlib.Core.Path.{◌≡◌, refl, ap, ◌∙◌}
use mathlib.Core.Logic.{◌≢◌}
use mathlib.Core.Option.{Option, none, some}
use mathlib.Core.List.{List, [], ◌∷◌}
use Prim.Native.Nat.{ℕ, zero, suc, ◌<◌}
use native.Mathlib.Omega.{arith}
use lib.ListN.{length, get_or}
use borrow.Author.Tests.{eq-eqb, ne_eqb}
use Rattle.meaning.specs.TreeQuery.{Row, node, Table, at, Live}
use Rattle.theory.proofs.Look.{live_lt}
use Rattle.rows.specs.Rows.{lab_of, no_row}
use Rattle.rows.specs.Table.{parent_of, row_at, listed, table, if_rows}

-- ------------------------------------------------------------------ parents
pub parent_none : (p : ℕ) → p ≡ no_row → parent_of p ≡ none
unfolding parent_of
parent_none p e = rw (eq-eqb p no_row e)

pub parent_some : (p : ℕ) → p ≢ no_row → parent_of p ≡ some p
unfolding parent_of
parent_some p ne = rw (ne_eqb p no_row ne)

-- ------------------------------------------------------------------ tables
listed_length : (n : ℕ) (f : ℕ → Row) → length (listed n f) ≡ n
listed_length zero f = refl
listed_length (suc n) f = ap suc (listed_length n (λ i. f (suc i)))

listed_at : (n : ℕ) (f : ℕ → Row) (i : ℕ) → i < n → at (listed n f) i ≡ some (f i)
listed_at zero f i lt = absurd (omega arith)
listed_at (suc n) f zero lt = refl
listed_at (suc n) f (suc i) lt = listed_at n (λ j. f (suc j)) i (omega arith)

listed_is : (n : ℕ) (f : ℕ → Row) (T : Table) → length T ≡ n → ((i : ℕ) → i < n → at T i ≡ some (f i)) → listed n f ≡ T
listed_is zero f [] e rows = refl
listed_is zero f (r ∷ T) e rows = absurd (omega arith)
listed_is (suc n) f [] e rows = absurd (omega arith)
listed_is (suc n) f (r ∷ T) e rows =
    let a = rows 0 (omega arith) in
    let b = listed_is n (λ i. f (suc i)) T (omega arith) (λ i lt. rows (suc i) (omega arith)) in
    cc

pub length_table : (n : ℕ) (P L : List ℕ) → length (table n P L) ≡ n
unfolding table
length_table n P L = listed_length n (row_at P L)

pub at_table : (n : ℕ) (P L : List ℕ) (i : ℕ) → i < n → at (table n P L) i ≡ some (row_at P L i)
unfolding table
at_table n P L i lt = listed_at n (row_at P L) i lt

-- a table is known by its rows
pub table_is : (n : ℕ) (P L : List ℕ) (T : Table) → length T ≡ n → ((i : ℕ) → i < n → at T i ≡ some (row_at P L i)) → table n P L ≡ T
unfolding table
table_is n P L T e rows = listed_is n (row_at P L) T e rows

module _ (n : ℕ) (P L : List ℕ) (i : ℕ) where
  pub live_below : Live (table n P L) i → i < n
  live_below li = let a = live_lt (table n P L) i li in let b = length_table n P L in omega arith

  pub below_live : i < n → Live (table n P L) i
  below_live lt = (parent_of (get_or P i 0), lab_of (get_or L i 0), at_table n P L i lt)

  pub row_table : i < n → (u : Option ℕ) → parent_of (get_or P i 0) ≡ u → at (table n P L) i ≡ some (node u (lab_of (get_or L i 0)))
  row_table lt u e = at_table n P L i lt ∙ ap (λ z. some (node z (lab_of (get_or L i 0)))) e

-- ------------------------------------------------------------------ no rows: empty
module _ {A : Type 0} where
  pub rows_none : (n : ℕ) (a : A) → n ≡ 0 → if_rows n a ≡ none
  rows_none n a e = rw e

  pub rows_some : (n : ℕ) (a : A) → n ≢ 0 → if_rows n a ≡ some a
  rows_some zero a ne = absurd (ne refl)
  rows_some (suc n) a ne = refl
