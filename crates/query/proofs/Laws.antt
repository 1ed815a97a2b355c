-- The table that gluing leaves of an accepted word is a tree query, and its trees are those of the word.
use Rattle.std.specs.Prelude as code
use Rattle.std.specs.Prelude.{Some, None}
use mathlib.Core.Path.{◌≡◌, refl, sym, ap, subst, ◌∙◌}
use mathlib.Core.Option.{Option, some}
use mathlib.Core.List.{List}
use Prim.Native.Nat.{ℕ, zero, suc, ◌≤◌}
use native.Mathlib.Omega.{arith}
use lib.ListN.{length, get_or}
use Rattle.meaning.specs.Expression.{Expr, pairs, steps}
use Rattle.meaning.specs.Limits.{most_nodes}
use Rattle.meaning.specs.Number.{largest_label}
use Rattle.meaning.specs.TreeQuery.{lab, node, Query}
use Rattle.meaning.specs.Gluing.{plain}
use Rattle.meaning.specs.Tree.{Forest, Tag}
use Rattle.meaning.specs.Word.{answered, and_then, read_word}
use Rattle.theory.proofs.Plain.{AtMost, RowsIn, TreeO, plain_means, means_tree, few_nodes, plain_labels}
use Rattle.theory.proofs.Limits.{InRange}
use Rattle.theory.proofs.Accepted.{accepted}
use Rattle.rows.specs.Rows.{lab_of}
use Rattle.rows.specs.Table.{parent_of, query, query_of, QueryTable}
use Rattle.rows.specs.declared.TreeRows.{TreeRows}
use Rattle.rows.proofs.Table.{length_table, at_table, live_below, rows_some}
use Rattle.glue.specs.declared.trees.Built.{Built}
use Rattle.glue.specs.Trees.{kept, built_of}
use Rattle.tree.specs.Tables.{RowsAre}
use Rattle.query.specs.Trees.{Accepted, RowsOf}

-- a label code stands for a label in range where its row does
code_small : (c : ℕ) → ((l : ℕ) → lab_of c ≡ lab l → l ≤ largest_label) → c ≤ suc largest_label
code_small zero h = omega arith
code_small (suc l) h = let z = h l refl in omega arith

-- what is proved of tree queries, read off the table
query_table : (P L : List ℕ) (n s d k : ℕ) → k ≤ most_nodes → most_nodes ≤ length P → most_nodes ≤ length L
    → AtMost k (query_of P L n s d) → RowsIn InRange (query_of P L n s d) → TreeO (query_of P L n s d) → QueryTable P L n s d
query_table P L zero s d k top lp ll few labels tree = record {
  few = omega arith;
  parents = omega arith;
  codes = omega arith;
  labels = λ i l. absurd (omega arith);
  valid = λ l. absurd (omega arith);
}
query_table P L (suc n) s d k top lp ll few labels tree =
    let z = length_table (suc n) P L in
    record {
      few = omega arith;
      parents = omega arith;
      codes = omega arith;
      labels = λ i l. code_small (get_or L i 0) λ x e.
          labels i (parent_of (get_or P i 0)) x (at_table (suc n) P L i l ∙ ap (λ y. some (node (parent_of (get_or P i 0)) y)) e);
      valid = λ _. tree;
    }

-- a query that may be empty, as a table keeps it; a tree query has rows
kept_query : (o : code.Option Built) (P L : List ℕ) → TreeO (built_of o P L) → built_of o P L ≡ query_of P L (kept o).rows (kept o).s (kept o).d
kept_query None P L t = refl
kept_query (Some r) P L t = let s = live_below r.rows P L r.s t.s_live in sym (rows_some r.rows (query r.rows P L r.s r.d) (λ z. omega arith))

-- the rows that gluing left are the word's plain tree query
module _ (word P L : List ℕ) (o : code.Option Built) (r : Built) (er : r ≡ kept o)
    (built : and_then (read_word word) (λ e. answered (plain e)) ≡ answered (built_of o P L)) where
  plain_built : (e : Expr) → read_word word ≡ answered e → plain e ≡ query_of P L r.rows r.s r.d
  plain_built e w =
      let z : answered (plain e) ≡ answered (built_of o P L) = rw w at built in
      let p : plain e ≡ built_of o P L = cc in
      rw er (p ∙ kept_query o P L (subst TreeO p (means_tree (pairs e) (plain e) (plain_means e))))

  pub built_table : Accepted word → most_nodes ≤ length P → most_nodes ≤ length L → QueryTable P L r.rows r.s r.d
  built_table (e, w) lp ll =
      let b = plain_built e w in
      let a = accepted word e w in
      query_table P L r.rows r.s r.d (suc (steps e)) (omega (arith, a.0)) lp ll (subst (AtMost (suc (steps e))) b (few_nodes e))
      (subst (RowsIn InRange) b (plain_labels InRange e a.1)) (subst TreeO b (means_tree (pairs e) (plain e) (plain_means e)))

  -- a tree of the table is the word's
  pub built_tree : (F : Option Query → Forest Tag) {T : Forest Tag} → T ≡ F (query_of P L r.rows r.s r.d)
      → (e : Expr) → read_word word ≡ answered e → T ≡ F (plain e)
  built_tree F q e w = q ∙ ap F (sym (plain_built e w))

  -- so rows of the table's tree are rows of the word's
  pub built_rows : (F : Option Query → Forest Tag) {t : TreeRows} → RowsAre (F (query_of P L r.rows r.s r.d)) t → RowsOf (λ e. F (plain e)) word t
  built_rows F A = record { rows = A.rows; tree = built_tree F A.tree; room = A.room }
