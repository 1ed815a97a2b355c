-- "That no second answer fits is itself a proved statement": the query that was built determines the number of rows, the marks, and what stands in
-- the rows.
use Rattle.std.specs.Prelude as code
use Rattle.std.specs.Prelude.{Some, None}
use mathlib.Core.Path.{◌≡◌, refl, sym, ap, ◌∙◌}
use mathlib.Core.Option.{Option, some}
use mathlib.Core.List.{List}
use Prim.Native.Nat.{ℕ, ◌<◌}
use native.Mathlib.Decide.{ℕ_discrete}
use native.Mathlib.Omega.{arith}
use lib.ListN.{length, get_or}
use Rattle.meaning.specs.TreeQuery.{at, Query}
use Rattle.meaning.specs.Image.{lab_code}
use Rattle.meaning.specs.Word.{Outcome, answered}
use Rattle.rows.specs.Rows.{lab_of, no_row}
use Rattle.rows.proofs.Rows.{lab_code_lem}
use Rattle.rows.proofs.Unique.{SameBelow}
use Rattle.theory.proofs.Look.{never}
use Rattle.glue.specs.declared.trees.Built.{Built}
use Rattle.rows.specs.Table.{parent_of, row_at, table, query}
use Rattle.glue.specs.Trees.{rows_in, built_of}
use Rattle.rows.proofs.Table.{parent_none, parent_some, length_table, at_table}

parent_same : (p q : ℕ) → parent_of p ≡ parent_of q → p ≡ q
parent_same p q e = go (ℕ_discrete p no_row) (ℕ_discrete q no_row)
  where
    go : Dec (p ≡ no_row) → Dec (q ≡ no_row) → p ≡ q
    go (yes a) (yes b) = a ∙ sym b
    go (yes a) (no b) = never (cc (sym (parent_none p a) ∙ e ∙ parent_some q b))
    go (no a) (yes b) = never (cc (sym (parent_some p a) ∙ e ∙ parent_none q b))
    go (no a) (no b) = let z : some p ≡ some q = sym (parent_some p a) ∙ e ∙ parent_some q b in cc

lab_same : (c k : ℕ) → lab_of c ≡ lab_of k → c ≡ k
lab_same c k e = sym (lab_code_lem c) ∙ ap lab_code e ∙ lab_code_lem k

table_same : (n : ℕ) (P L P' L' : List ℕ) → table n P L ≡ table n P' L' → SameBelow n P P' × SameBelow n L L'
table_same n P L P' L' e = (λ i l. parent_same (get_or P i 0) (get_or P' i 0) (row i l).0, λ i l. lab_same (get_or L i 0) (get_or L' i 0) (row i l).1)
  where
    row : (i : ℕ) → i < n → (parent_of (get_or P i 0) ≡ parent_of (get_or P' i 0)) × (lab_of (get_or L i 0) ≡ lab_of (get_or L' i 0))
    row i l = let z : some (row_at P L i) ≡ some (row_at P' L' i) = sym (at_table n P L i l) ∙ ap (λ T. at T i) e ∙ at_table n P' L' i l in (cc, cc)

pub built_unique : (o : Outcome (Option Query)) (r r' : code.Option Built) (P L P' L' : List ℕ) → o ≡ answered (built_of r P L) → o ≡ answered (built_of r' P' L')
    → (r ≡ r') × SameBelow (rows_in r) P P' × SameBelow (rows_in r) L L'
built_unique o r r' P L P' L' p q = go r r' (let z : answered (built_of r P L) ≡ answered (built_of r' P' L') = sym p ∙ q in cc)
  where
    go : (a b : code.Option Built) → built_of a P L ≡ built_of b P' L' → (a ≡ b) × SameBelow (rows_in a) P P' × SameBelow (rows_in a) L L'
    go None None e = (refl, λ i l. absurd (omega arith), λ i l. absurd (omega arith))
    go None (Some b) e = never cc
    go (Some a) None e = never cc
    go (Some a) (Some b) e =
        let z : query a.rows P L a.s a.d ≡ query b.rows P' L' b.s b.d = cc in
        let k : a.rows ≡ b.rows = sym (length_table a.rows P L) ∙ ap (λ (Q : Query). length Q.rows) z ∙ length_table b.rows P' L' in
        let s : a.s ≡ b.s = ap (λ (Q : Query). Q.s) z in
        let d : a.d ≡ b.d = ap (λ (Q : Query). Q.d) z in
        let t = table_same a.rows P L P' L' (ap (λ (Q : Query). Q.rows) z ∙ ap (λ j. table j P' L') (sym k)) in
        (ap Some (let w : a ≡ b = rw (← k, ← s, ← d) refl in w), t.0, t.1)
