-- Two tables side by side: the links of the second grow by the number of rows of the first.
use mathlib.Core.Path.{◌≡◌, sym, ap, ◌∙◌}
use mathlib.Core.Logic.{◌≢◌}
use mathlib.Core.Option.{some}
use mathlib.Core.List.{List}
use Prim.Native.Nat.{ℕ, ◌+◌, ◌-◌, ◌≤◌, ◌<◌}
use native.Mathlib.Omega.{arith}
use lib.ListN.{length, get_or, drop}
use lib.Seq.{get_or-drop}
use Rattle.std.proofs.lemmas.List.{get_or_default}
use Rattle.meaning.specs.Basics.{mapped}
use Rattle.meaning.specs.TreeQuery.{node, Table, at, Tree}
use Rattle.meaning.specs.Gluing.{relink, shift, join}
use Rattle.rows.specs.Rows.{lab_of, no_row}
use Rattle.theory.proofs.Join.{length_join, at_left, at_right, Side, left, right, side_of}
use Rattle.rows.specs.Table.{parent_of, row_at, table}
use Rattle.glue.specs.Rows.{pool_rows, Relinked, Swept}
use Rattle.rows.proofs.Table.{parent_some, length_table, at_table, table_is, live_below, row_table}
use Rattle.glue.proofs.Sweeping.{here_done}

-- ------------------------------------------------------------------ the links of a tree
module _ (n : ℕ) (P L : List ℕ) (tree : Tree (table n P L)) where
  pub links_in : (i p : ℕ) → i < n → parent_of (get_or P i 0) ≡ some p → p < n
  links_in i p lt e = live_below n P L p (tree.linked i p (lab_of (get_or L i 0)) (row_table n P L i lt (some p) e)).0

  pub links_small : n ≤ pool_rows → (i p : ℕ) → i < n → parent_of (get_or P i 0) ≡ some p → p < pool_rows
  links_small le i p lt e = let z = links_in i p lt e in omega arith

-- ------------------------------------------------------------------ one link
pub shifted_small : (p : ℕ) → p ≢ no_row → ((q : ℕ) → parent_of p ≡ some q → q < pool_rows) → p < pool_rows
shifted_small p ne f = f p (parent_some p ne)

-- ------------------------------------------------------------------ all links of the second table
pub shift_small : (P : List ℕ) (na nb : ℕ) → na + nb ≤ length P → ((j p : ℕ) → j < nb → parent_of (get_or (drop na P) j 0) ≡ some p → p < pool_rows)
    → (z i : ℕ) → na ≤ i → i < na + nb → (q : ℕ) → parent_of (get_or P (i + 0) z) ≡ some q → q < pool_rows
shift_small P na nb len f z i ni lt q e =
    f (i - na) q (omega arith)
    (ap parent_of (get_or-drop na P (i - na) 0 ∙ ap (λ k. get_or P k 0) (let k : na + (i - na) ≡ i + 0 = omega arith in k) ∙ get_or_default P (i + 0) 0 z (omega arith)) ∙ e)

pub shift_end : (P₀ L : List ℕ) (na nb : ℕ) (P : List ℕ) → Swept 0 (Relinked (λ q. na + q)) 0 na (na + nb) P₀ P
    → table (na + nb) P L ≡ join (table na P₀ L) (table nb (drop na P₀) (drop na L))
shift_end P₀ L na nb P h = table_is (na + nb) P L (join A B) len (λ k lt. go k lt (side_of A k))
  where
    A : Table
    A = table na P₀ L

    B : Table
    B = table nb (drop na P₀) (drop na L)

    l_a : length A ≡ na
    l_a = length_table na P₀ L

    len : length (join A B) ≡ na + nb
    len = omega (arith, length_join A B, l_a, length_table nb (drop na P₀) (drop na L))

    row : (j : ℕ) → j < nb → relink (λ q. na + q) (row_at (drop na P₀) (drop na L) j) ≡ row_at P L (na + j)
    row j lt =
        rw (get_or-drop na P₀ j 0, get_or-drop na L j 0)
        (ap (λ z. node z (lab_of (get_or L (na + j) 0))) (sym (here_done (Relinked (λ q. na + q)) na (na + nb) P₀ P h (na + j) (omega arith) (omega arith))))

    go : (k : ℕ) → k < na + nb → Side A k → at (join A B) k ≡ some (row_at P L k)
    go k lt (left l) =
        at_left A B k l
        ∙ at_table na P₀ L k (omega (arith, l_a))
        ∙ ap (λ z. some (node (parent_of z) (lab_of (get_or L k 0)))) (sym (h.low k (omega (arith, l_a))))
    go k lt (right j e) =
        let e' : k ≡ na + j = e ∙ ap (λ z. z + j) l_a in
        ap (at (join A B)) e
        ∙ at_right A B j
        ∙ ap (mapped (relink (shift A))) (at_table nb (drop na P₀) (drop na L) j (omega arith))
        ∙ ap (λ z. some (relink (λ q. z + q) (row_at (drop na P₀) (drop na L) j))) l_a
        ∙ ap some (row j (omega arith) ∙ ap (row_at P L) (sym e'))
