-- A table that is a tree query, marked at s and d, may be laid out, and its tree is the plain tree of the query.
-- Rows that are a tree may be folded and put in order.
use mathlib.Core.Path.{◌≡◌, refl, sym, ap, subst, ◌∙◌}
use mathlib.Core.Bool.{Bool, true, false}
use mathlib.Core.List.{List}
use Prim.Native.Nat.{ℕ, zero, suc, ◌≤◌, ◌<◌}
use native.Mathlib.Decide.{ℕ_discrete}
use native.Mathlib.Omega.{arith}
use lib.ListN.{length}
use Rattle.meaning.specs.Basics.{is}
use Rattle.meaning.specs.TreeQuery.{Tree, TreeQuery}
use Rattle.meaning.specs.Tree.{plain_tree}
use Rattle.meaning.specs.Image.{mark_code, ordered}
use Rattle.theory.proofs.Look.{never}
use Rattle.rows.specs.Rows.{Rows, tree_rows, map_t}
use Rattle.rows.specs.Table.{table, query, query_of, QueryTable, TreeTable, table_tree, table_shape, grown, children_of, left_of}
use Rattle.rows.proofs.Table.{live_below}
use Rattle.order.proofs.QueryTable.{table_tree_lem, table_of_tree}
use Rattle.order.proofs.RowsTable.{rows_tree, rows_table, rows_first}
use Rattle.onto.specs.Left.{nodes}
use Rattle.fold.specs.Kept.{RowsFolded, RowsKept}
use Rattle.tree.specs.Tables.{Ends, Sortable}

-- ------------------------------------------------------------------ marks
mark_small : (a b : Bool) → mark_code a b ≤ 3
mark_small false false = omega arith
mark_small true false = omega arith
mark_small false true = omega arith
mark_small true true = omega arith

-- ------------------------------------------------------------------ the table of a tree query
module _ (P L : List ℕ) (n s d : ℕ) (Q : QueryTable P L n s d) where
  pub ends_inside : 0 < n → (s < n) × (d < n)
  ends_inside pos = let v = Q.valid pos in (live_below n P L s v.s_live, live_below n P L d v.d_live)

  -- no rows are a tree too
  whole : Tree (table n P L)
  whole = go n Q.valid
    where
      go : (k : ℕ) → (0 < k → TreeQuery (query k P L s d)) → Tree (table k P L)
      go zero v = unfold table in record {
        lev = λ _. 0;
        linked = λ i p l e. never cc;
        top = 0;
        top_lev = refl;
        single = λ i r. never (cc r.1);
      }
      go (suc k) v = (v (omega arith)).tree

  module _ (ends : List ℕ) (fits : n ≤ length ends) (E : Ends ends n s d) where
    -- it may be laid out, with s and d marked
    pub marked_table : TreeTable P L ends n
    marked_table =
        table_of_tree P L ends n Q.few Q.parents Q.codes fits Q.labels
        (λ i l. subst (λ z. z ≤ 3) (sym (E i l)) (mark_small (is (ℕ_discrete i s)) (is (ℕ_discrete i d)))) whole

    -- and its tree is the plain tree
    pub marked_tree : table_tree P L ends n ≡ plain_tree (query_of P L n s d)
    unfolding map_t table_tree table_shape grown children_of
    marked_tree = go n refl
      where
        go : (k : ℕ) → n ≡ k → table_tree P L ends n ≡ plain_tree (query_of P L k s d)
        go zero e = rw e refl
        go (suc k) e = table_tree_lem (query n P L s d) P L ends n (omega (arith, Q.few)) refl E ∙ rw e

-- ------------------------------------------------------------------ rows
module _ (code mark kids span up : List ℕ) (n : ℕ) (R : Rows code mark kids span up n) where
  pub rows_sortable : Sortable up code mark n
  rows_sortable = record { table = rows_table code mark kids span up n R; first = rows_first code mark kids span up n R }

module _ {code mark kids span up : List ℕ} {n : ℕ} (R : Rows code mark kids span up n) where
  -- all rows are left
  pub whole_tree : (folded : Bool) → folded ≡ false → ordered (table_tree up code mark n) ≡ ordered (left_of folded (tree_rows code mark span n))
  whole_tree folded e = rw e (ap ordered (rows_tree code mark kids span up n R))

  module _ {mark' : List ℕ} (F : RowsFolded (nodes code mark span) n mark') where
    -- what folding left, moved together, is the minimal tree but for the order of brothers
    pub folded_tree : (folded : Bool) → folded ≡ true → {code'' mark'' parent : List ℕ} {m : ℕ} → RowsKept code mark' span n code'' mark'' parent m
        → ordered (table_tree parent code'' mark'' m) ≡ ordered (left_of folded (tree_rows code mark span n))
    folded_tree folded e {code''} {mark''} {parent} {m} K =
        rw e (ap ordered (rows_tree code'' mark'' K.kids K.spans parent m K.rows ∙ K.tree) ∙ F.least)
