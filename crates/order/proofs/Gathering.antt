-- One turn of the loops that clear and gather; what the lists hold in the end is the tree that the table grows.
use mathlib.Core.Path.{◌≡◌, refl, sym, ◌∙◌}
use mathlib.Core.Logic.{inl, inr}
use mathlib.Core.List.{List, [], ◌∷◌}
use mathlib.Core.Bool.{Bool, true, false, cond}
use Prim.Native.Nat.{ℕ, zero, suc, ◌+◌, ◌-◌, ◌<◌, ◌≤◌}
use native.Mathlib.Omega.{arith}
use lib.ListN.{get_or, set, length-set}
use lib.Seq.{get_or-set_same, get_or-set_other}
use lib.Dec.{eqb}
use borrow.Author.Tests.{eq-eqb, ne_eqb}
use Rattle.meaning.specs.Tree.{plant}
use Rattle.rows.specs.Rows.{no_row, tag_at, map_t}
use Rattle.rows.specs.Table.{children_of, grown, table_shape, table_tree, TreeTable}
use Rattle.order.specs.Links.{slot_of, Known, forest_at, Linked, Listed}
use Rattle.order.specs.Gathering.{Run, Cleared, Hangs, Gathered}
use Rattle.order.specs.Contract.{Lent}
use Rattle.order.proofs.Links.{slot_row, slot_top, slot_le, SameSlot, same_slot, read_is, finite_of}
use Rattle.order.proofs.Growing.{Children, all_children}
use Rattle.order.proofs.QueryTable.{level_lt, shape_all}

-- the lists are as long as they were lent
pub lent_set : {fs ns : List ℕ} → Lent fs ns → (i v j w : ℕ) → Lent (set fs i v) (set ns j w)
lent_set {fs} {ns} L i v j w = record { firsts = length-set fs i v ∙ L.firsts; nexts = length-set ns j w ∙ L.nexts }

-- ------------------------------------------------------------------ gathering
-- a row before the run may be linked anew
run_set : (n : ℕ) (ns : List ℕ) (i v c : ℕ) (js : List ℕ) → Run n ns (suc i) c js → Run n (set ns i v) i c js
run_set n ns i v c [] h = h
run_set n ns i v c (j ∷ js) (e, b, l, h) = (e, omega arith, l, rw (get_or-set_other ns i j v 0 (λ x. omega arith)) (run_set n ns i v (get_or ns j 0) js h))

pub gathered_none : {parent : List ℕ} {n : ℕ} {fs ns : List ℕ} → Hangs parent n → Cleared (n + 1) fs ns × Lent fs ns → Gathered parent n n fs ns
unfolding children_of
gathered_none {n = n} H (h, L) p k =
    let z : n - n ≡ 0 = omega arith in
    let y = (h (slot_of n p) (omega (arith, slot_le n p))).0 in rw z (omega (arith, H.few))

module _ {parent : List ℕ} {n : ℕ} {fs ns : List ℕ} (H : Hangs parent n) (L : Lent fs ns) (j : ℕ) (l : j < n) (G : Gathered parent n (suc j) fs ns)
    {p : ℕ} (ep : p ≡ slot_of n (get_or parent j 0)) where
  opened : (x : ℕ) (t : Bool) → eqb (get_or parent j 0) x ≡ t
      → children_of x parent (n - j) j ≡ cond t (j ∷ children_of x parent (n - suc j) (suc j)) (children_of x parent (n - suc j) (suc j))
  opened x t e = let z : n - j ≡ suc (n - suc j) = omega arith in rw z (unfold children_of in rw e)

  pub gathered_turn : Gathered parent n j (set fs p j) (set ns j (get_or fs p 0))
  gathered_turn x kx = go (same_slot n x (get_or parent j 0) p (omega (arith, H.few)) kx (H.known j l) ep)
    where
      h : ℕ
      h = get_or fs p 0

      go : SameSlot n x (get_or parent j 0) p → Run n (set ns j h) j (get_or (set fs p j) (slot_of n x) 0) (children_of x parent (n - j) j)
      go (inl (e, s)) =
          rw (opened x true (eq-eqb (get_or parent j 0) x (sym e)), s, get_or-set_same fs p j 0 (omega (arith, slot_le n (get_or parent j 0), H.few, L.firsts))) (
            refl,
            omega arith,
            l,
            rw (get_or-set_same ns j h 0 (omega (arith, H.few, L.nexts))) (run_set n ns j h h (children_of x parent (n - suc j) (suc j)) (rw s at (G x kx))),
          )
      go (inr (d, s)) =
          rw (opened x false (ne_eqb (get_or parent j 0) x d), get_or-set_other fs p (slot_of n x) j 0 s)
          (run_set n ns j h (get_or fs (slot_of n x) 0) (children_of x parent (n - suc j) (suc j)) (G x kx))

-- ------------------------------------------------------------------ what the lists hold
module _ {parent code mark : List ℕ} {n : ℕ} (T : TreeTable parent code mark n) (fs ns : List ℕ) (G : Gathered parent n 0 fs ns) where
  children_listed : (p : ℕ) → Known n p → Run n ns 0 (get_or fs (slot_of n p) 0) (children_of p parent n 0)
  children_listed p kp = let z : n - 0 ≡ n = omega arith in rw z at (G p kp)

  run_linked : (m p : ℕ) (js : List ℕ) (c : ℕ) → ((j : ℕ) → j < n → get_or parent j 0 ≡ p → Linked n fs ns (get_or fs j 0) (grown m parent n j))
      → Children parent p n js → Run n ns 0 c js → Linked n fs ns c (plant (λ j. j) (grown m parent n) js)
  run_linked m p [] c g k r = r
  run_linked m p (j ∷ js) c g (u, e, k) (ec, z, lj, r) = (ec, lj, g j u e, run_linked m p js (get_or ns j 0) g k r)

  linked_grown : (m p : ℕ) → p < n → n ≤ T.level p + m → Linked n fs ns (get_or fs p 0) (grown m parent n p)
  unfolding grown
  linked_grown zero p l h = absurd (let z = level_lt T p l in omega arith)
  linked_grown (suc m) p l h =
      rw (← slot_row n p l) at (run_linked m p (children_of p parent n 0) (get_or fs (slot_of n p) 0)
      (λ j lj e. let z = rw e at (T.linked j lj (λ q. omega (arith, T.few))) in linked_grown m j lj (omega (arith, z.1)))
      (all_children parent n p) (children_listed p (inl l)))

  linked_table : Linked n fs ns (get_or fs n 0) (table_shape parent n)
  unfolding table_shape grown
  linked_table =
      rw (← slot_top n no_row (omega (arith, T.few))) at (run_linked n no_row (children_of no_row parent n 0) (get_or fs (slot_of n no_row) 0)
      (λ j lj e. linked_grown n j lj (omega arith)) (all_children parent n no_row) (children_listed no_row (inr refl)))

  -- at the last slot the whole tree is read
  reads_table : forest_at n fs ns (get_or fs n 0) ≡ table_shape parent n
  reads_table = read_is n fs ns (get_or fs n 0) (table_shape parent n) linked_table (omega (arith, (shape_all T).0))

  pub tree_read : map_t (tag_at code mark) (forest_at n fs ns (get_or fs n 0)) ≡ table_tree parent code mark n
  unfolding table_tree
  tree_read = rw reads_table

  pub listed_table : Listed n fs ns
  listed_table = record {
    finite = finite_of n fs ns (get_or fs n 0) (table_shape parent n) linked_table (omega (arith, (shape_all T).0));
    all = rw reads_table (shape_all T).0;
    single = rw reads_table (shape_all T).1;
  }
