-- The ways out of the pair question: the word is refused, then the table, the nodes, the workspace; or yes or no is told.
use mathlib.Core.Path.{◌≡◌, refl, sym, subst}
use mathlib.Core.Logic.{◌⊎◌, inl, inr}
use mathlib.Core.Bool.{Bool, true, false}
use mathlib.Core.List.{List}
use Prim.Native.Nat.{ℕ, ◌≤◌, ◌<◌}
use lib.ListN.{length}
use borrow.Author.Tests.{lt-ltb, le-ltb, le-leb, lt-leb}
use Rattle.meaning.specs.Expression.{Expr}
use Rattle.meaning.specs.Gluing.{plain}
use Rattle.meaning.specs.Limits.{bad_table, no_such_node, workspace_too_short}
use Rattle.meaning.specs.Tree.{Forest, Tag, Takes}
use Rattle.meaning.specs.Image.{minimal_tree}
use Rattle.meaning.specs.Word.{refused, answered, read_word}
use Rattle.meaning.specs.Matching.{good_table, doc_of, MatchTable, table_bytes}
use Rattle.meaning.specs.Promise.{Question, asked, Told, Selected}
use Rattle.theory.proofs.Same.{same_minimal}
use Rattle.pathplus.specs.Pair.{NotRefused, Taken}

module _ (q : Question) where
  -- refusals 1 to 6
  pub selects_refused : {n p : ℕ} → read_word q.word ≡ refused n p → Selected q (refused n p) q.workspace
  unfolding Selected asked
  selects_refused r = rw r (refl, refl)

  module _ {e : Expr} (r : read_word q.word ≡ answered e) where
    -- refusal 8
    pub selects_table : good_table q.parents q.labels ≡ false → Selected q (refused bad_table 0) q.workspace
    unfolding Selected asked
    selects_table t = rw (r, t) (refl, refl)

    module _ (t : good_table q.parents q.labels ≡ true) where
      -- refusal 9: m is not in the table, or n is not
      pub selects_no_node : (length q.parents ≤ q.m) ⊎ (q.m < length q.parents × (length q.parents ≤ q.n))
          → Selected q (refused no_such_node 0) q.workspace
      unfolding Selected asked
      selects_no_node (inl l) = rw (r, t, le-ltb q.m (length q.parents) l) (refl, refl)
      selects_no_node (inr (lm, l)) = rw (r, t, lt-ltb q.m (length q.parents) lm, le-ltb q.n (length q.parents) l) (refl, refl)

      -- refusal 10
      pub selects_short : q.m < length q.parents → q.n < length q.parents → length q.workspace < table_bytes
          → Selected q (refused workspace_too_short table_bytes) q.workspace
      unfolding Selected asked
      selects_short lm ln l =
          rw (
            r,
            t,
            lt-ltb q.m (length q.parents) lm,
            lt-ltb q.n (length q.parents) ln,
            lt-leb table_bytes (length q.workspace) l,
          ) (refl, refl)

    -- what is told of the minimal tree is told of the word
    told : {F : Forest Tag} {b : Bool} {after : List ℕ} → F ≡ minimal_tree (plain e)
        → Taken F (doc_of q.parents q.labels) q.m q.n b q.workspace after → Told q e b after
    told {after = after} f T =
        let D = doc_of q.parents q.labels in
        let s = same_minimal e D q.m q.n in
        record {
          pair = (λ y. s.1 (subst (λ z. Takes z D q.m q.n) f (T.pair.0 y)), λ x. T.pair.1 (subst (λ z. Takes z D q.m q.n) (sym f) (s.0 x)));
          table = subst (λ z. MatchTable z D q.workspace after) f T.table;
        }

    -- yes or no
    pub selects_told : NotRefused q.parents q.labels q.m q.n q.workspace → {F : Forest Tag} {b : Bool} {after : List ℕ}
        → F ≡ minimal_tree (plain e) → Taken F (doc_of q.parents q.labels) q.m q.n b q.workspace after
        → Selected q (answered b) after
    unfolding Selected asked
    selects_told N {b = b} f T =
        rw (
          r,
          N.table,
          lt-ltb q.m (length q.parents) N.first,
          lt-ltb q.n (length q.parents) N.second,
          le-leb table_bytes (length q.workspace) N.space,
        ) (b, refl, told f T)
