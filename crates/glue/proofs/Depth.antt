-- Depths: the loop has gone up k edges from row x and stands at row i.
use mathlib.Core.Path.{◌≡◌, sym, ap, subst, ◌∙◌}
use mathlib.Core.Option.{Option, none, some}
use mathlib.Core.List.{List}
use Prim.Native.Nat.{ℕ, zero, suc, ◌+◌, ◌-◌, ◌<◌}
use native.Mathlib.Omega.{arith}
use lib.ListN.{get_or}
use Rattle.meaning.specs.TreeQuery.{Lab, node, Table, at}
use Rattle.meaning.specs.Gluing.{depth, depth_row}
use Rattle.rows.specs.Rows.{lab_of}
use Rattle.rows.specs.Table.{parent_of, row_at, table}
use Rattle.rows.proofs.Table.{at_table}

depth_row_lem : (m : ℕ) (T : Table) (i : ℕ) (u : Option ℕ) (l : Lab) → 0 < m → at T i ≡ some (node u l)
    → depth m T i ≡ depth_row (depth (m - 1) T) (some (node u l))
depth_row_lem zero T i u l lt e = absurd (omega arith)
depth_row_lem (suc m) T i u l lt e =
    subst (λ z. depth (suc m) T i ≡ depth_row (depth z T) (some (node u l))) (let q : m ≡ suc m - 1 = omega arith in q) (ap (depth_row (depth m T)) e)

module _ (n : ℕ) (P L : List ℕ) (x i k : ℕ) (inv : depth n (table n P L) x ≡ k + depth (n - k) (table n P L) i) where
  module _ (ki : k < n) (lt : i < n) where
    step : depth (n - k) (table n P L) i ≡ depth_row (depth (n - k - 1) (table n P L)) (some (row_at P L i))
    step = depth_row_lem (n - k) (table n P L) i (parent_of (get_or P i 0)) (lab_of (get_or L i 0)) (omega arith) (at_table n P L i lt)

    opened : (u : Option ℕ) → parent_of (get_or P i 0) ≡ u → depth (n - k) (table n P L) i ≡ depth_row (depth (n - k - 1) (table n P L)) (some (node u (lab_of (get_or L i 0))))
    opened u e = step ∙ ap (λ z. depth_row (depth (n - k - 1) (table n P L)) (some (node z (lab_of (get_or L i 0))))) e

    -- at the top
    pub depth_top : none ≡ parent_of (get_or P i 0) → k ≡ depth n (table n P L) x
    depth_top e = let a = opened none (sym e) in sym (inv ∙ ap (λ z. k + z) a ∙ (let z : k + 0 ≡ k = omega arith in z))

    -- one edge more
    pub depth_up : (p : ℕ) → some p ≡ parent_of (get_or P i 0) → depth n (table n P L) x ≡ k + 1 + depth (n - (k + 1)) (table n P L) p
    depth_up p e =
        let a : depth (n - k) (table n P L) i ≡ suc (depth (n - k - 1) (table n P L) p) = opened (some p) (sym e) in
        let b = ap (λ z. depth z (table n P L) p) (let q : n - k - 1 ≡ n - (k + 1) = omega arith in q) in
        omega (arith, a, b)
