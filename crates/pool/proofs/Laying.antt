-- A new operand: a top and a child of it are written, and as many of the two as the sign has are the operand.
use Rattle.std.specs.Prelude as code
use Rattle.std.specs.Prelude.{Some, None}
use mathlib.Core.Path.{◌≡◌, refl, sym, ap, ◌∙◌}
use mathlib.Core.Logic.{◌≢◌}
use mathlib.Core.Option.{Option, none, some}
use mathlib.Core.List.{List, [], ◌∷◌}
use Prim.Native.Nat.{ℕ, zero, suc, ◌+◌, ◌-◌, ◌≤◌, ◌<◌}
use native.Mathlib.Omega.{arith}
use borrow.Author.Tests.{ne_eqb}
use lib.ListN.{length, get_or, set, take, drop, length-set}
use lib.Seq.{get_or-drop, get_or-set_same, get_or-set_other, take-set-le}
use Rattle.meaning.specs.Basics.{mapped}
use Rattle.meaning.specs.Expression.{Expr}
use Rattle.meaning.specs.TreeQuery.{any, node, Query}
use Rattle.meaning.specs.Gluing.{both_at_s, both_at_d, exchanged, plain}
use Rattle.meaning.specs.Word.{operand, unary, sign_of}
use Rattle.rows.specs.Rows.{lab_of, no_row}
use Rattle.rows.specs.Table.{row_at, table}
use Rattle.rows.proofs.Table.{parent_none, parent_some}
use Rattle.glue.specs.declared.trees.Built.{Built}
use Rattle.glue.specs.Trees.{rows_in, built_from}
use Rattle.pool.specs.declared.operand.Latest.{Latest}
use Rattle.pool.specs.Pool.{Pool, built, operand_at}
use Rattle.pool.specs.Latest.{latest_at, topped, Made}
use Rattle.pool.proofs.Signs.{new_query, moving, operand_means, unary_means}

module _ (P L : List ℕ) (u v c : ℕ) (ev : v ≡ u + 1) (lp : v < length P) (ll : v < length L) where
  abbrev P₂ : List ℕ
  P₂ = set (set P u no_row) v 0

  abbrev L₂ : List ℕ
  L₂ = set (set L u c) v 0

  top : (S : List ℕ) (x : ℕ) → v < length S → get_or (drop u (set (set S u x) v 0)) 0 0 ≡ x
  top S x lt =
      get_or-drop u (set (set S u x) v 0) 0 0
      ∙ ap (λ z. get_or (set (set S u x) v 0) z 0) (let q : u + 0 ≡ u = omega arith in q)
      ∙ get_or-set_other (set S u x) v u 0 0 (λ z. omega arith)
      ∙ get_or-set_same S u x 0 (omega arith)

  kid : (S : List ℕ) (x : ℕ) → v < length S → get_or (drop u (set (set S u x) v 0)) 1 0 ≡ 0
  kid S x lt =
      get_or-drop u (set (set S u x) v 0) 1 0
      ∙ ap (λ z. get_or (set (set S u x) v 0) z 0) (sym ev)
      ∙ get_or-set_same (set S u x) v 0 0 (rw length-set lt)

  stays : (S : List ℕ) (x : ℕ) → take u (set (set S u x) v 0) ≡ take u S
  stays S x = take-set-le u (set S u x) v 0 (omega arith) ∙ take-set-le u S u x (omega arith)

  row_top : row_at (drop u P₂) (drop u L₂) 0 ≡ node none (lab_of c)
  row_top = rw (top P no_row lp, top L c ll, parent_none no_row refl) refl

  row_kid : row_at (drop u P₂) (drop u L₂) 1 ≡ node (some 0) any
  row_kid = rw (kid P no_row lp, kid L c ll, parent_some 0 (λ z. omega arith)) refl

  rows_laid : (n : ℕ) → n ≤ 2 → table n (drop u P₂) (drop u L₂) ≡ take n (node none (lab_of c) ∷ node (some 0) any ∷ [])
  unfolding table
  rows_laid zero le = refl
  rows_laid (suc zero) le = rw row_top refl
  rows_laid (suc (suc zero)) le = rw (row_top, row_kid) refl
  rows_laid (suc (suc (suc n))) le = absurd (omega arith)

  pub laid_made : (k : ℕ) (l : Latest) → l.at ≡ k → rows_in l.built ≤ 2 → (e : Expr) → topped c l.built ≡ plain e → Made k u P L l P₂ L₂ (plain e)
  laid_made k l el few e q = record { place = el; whole = go l.built few ∙ q; parents = stays P no_row; labels = stays L c }
    where
      go : (o : code.Option Built) → rows_in o ≤ 2 → built_from u o P₂ L₂ ≡ topped c o
      go None le = refl
      go (Some r) le = ap (λ T. some (record { rows = T; s = r.s; d = r.d })) (rows_laid r.rows le)

-- ------------------------------------------------------------------ rows and marks by the sign
-- what is built of an operand sign v
abbrev Shape : ℕ → code.Option Built → Type 0
Shape v o = (e : Expr) → sign_of v ≡ operand e → topped (v - 8) o ≡ plain e

module _ (v : ℕ) where
  shape_is : (o : code.Option Built) → topped (v - 8) o ≡ new_query v → Shape v o
  shape_is o h e q = h ∙ sym (operand_means v q).1

  pub shape_empty : v ≡ 0 → Shape v None
  shape_empty z = shape_is None (rw z refl)

  pub shape_child : v ≡ 2 → Shape v (Some (record { rows = 2; s = 0; d = 1 }))
  shape_child z = shape_is (Some (record { rows = 2; s = 0; d = 1 })) (rw z refl)

  pub shape_parent : v ≡ 3 → Shape v (Some (record { rows = 2; s = 1; d = 0 }))
  shape_parent z = shape_is (Some (record { rows = 2; s = 1; d = 0 })) (rw z refl)

  pub shape_node : v ≢ 0 → v ≢ 2 → v ≢ 3 → Shape v (Some (record { rows = 1; s = 0; d = 0 }))
  shape_node a b c = shape_is (Some (record { rows = 1; s = 0; d = 0 })) (rw (ne_eqb v 0 a, ne_eqb v 2 b, ne_eqb v 3 c) refl)

-- ------------------------------------------------------------------ marks that move
-- o is what the sign v makes of the operand q
abbrev Moves : ℕ → code.Option Built → code.Option Built → Type 0
Moves v q o = (f : Expr → Expr) (e : Expr) (a : ℕ) (P L : List ℕ) → sign_of v ≡ unary f → built_from a q P L ≡ plain e → built_from a o P L ≡ plain (f e)

module _ (v : ℕ) where
  moves : (g : Query → Query) → moving v ≡ g → (q : code.Option Built) (f : Expr → Expr) (e : Expr) (a : ℕ) (P L : List ℕ) → sign_of v ≡ unary f
      → built_from a q P L ≡ plain e → mapped g (built_from a q P L) ≡ plain (f e)
  moves g h q f e a P L u b = ap (mapped g) b ∙ sym ((unary_means v u e).1 ∙ ap (λ m. mapped m (plain e)) h)

  pub moved_none : Moves v None None
  moved_none = moves (moving v) refl None

  module _ (q : Built) where
    pub moved_first : v ≡ 5 → Moves v (Some q) (Some (record { rows = q.rows; s = q.s; d = q.s }))
    moved_first z = moves both_at_s (rw z refl) (Some q)

    pub moved_second : v ≡ 6 → Moves v (Some q) (Some (record { rows = q.rows; s = q.d; d = q.d }))
    moved_second z = moves both_at_d (rw z refl) (Some q)

    pub moved_both : v ≢ 5 → v ≢ 6 → Moves v (Some q) (Some (record { rows = q.rows; s = q.d; d = q.s }))
    moved_both a b = moves exchanged (rw (ne_eqb v 5 a, ne_eqb v 6 b) refl) (Some q)

pub turn_made : (p : Pool) (n : ℕ) (q : code.Option Built) → q ≡ built p (n - 1) → (l : Latest) → l.at ≡ n - 1 → (o o' : Option Query)
    → ((a : ℕ) → built_from a q p.parent p.label ≡ o → latest_at a l p.parent p.label ≡ o') → operand_at p (n - 1) ≡ o
    → Made (n - 1) (get_or p.first (n - 1) 0) p.parent p.label l p.parent p.label o'
unfolding operand_at
turn_made p n q eq l el o o' h here = record {
  place = el;
  whole = h (get_or p.first (n - 1) 0) (ap (λ z. built_from (get_or p.first (n - 1) 0) z p.parent p.label) eq ∙ here);
  parents = refl;
  labels = refl;
}
