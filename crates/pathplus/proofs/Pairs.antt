-- What rows of a tree query tell of a pair: no rows select nothing, and else the climb's answer is whether the tree takes the pair.
use mathlib.Core.Path.{◌≡◌, refl, subst}
use mathlib.Core.Logic.{◌↔◌}
use mathlib.Core.Bool.{Bool, true, false}
use mathlib.Core.List.{List}
use Prim.Native.Nat.{ℕ, zero, suc, ◌<◌}
use native.Mathlib.Omega.{arith}
use Rattle.meaning.specs.Document.{Doc}
use Rattle.meaning.specs.Tree.{Takes}
use Rattle.meaning.specs.Matching.{doc_of, MatchTable}
use Rattle.theory.proofs.Count.{src, dst}
use Rattle.theory.proofs.Look.{never}
use Rattle.rows.specs.Rows.{tree_rows, shape, brothers, map_t}
use Rattle.rows.specs.Trees.{tree_of}
use Rattle.rows.specs.declared.TreeRows.{TreeRows}
use Rattle.rows.proofs.Marks.{single_row}
use Rattle.pair.specs.Pair.{Asked}
use Rattle.normal.specs.Forms.{IsQuery}
use Rattle.pathplus.specs.Pair.{NotRefused, Taken}

-- no rows are empty, which selects nothing
pub none_taken : (t : TreeRows) {before after : List ℕ} {D : Doc} {m k : ℕ} → t.len ≡ 0 → MatchTable (tree_of t) D before after
    → Taken (tree_of t) D m k false before after
unfolding tree_rows shape brothers map_t
none_taken t {D = D} {m} {k} z M = record {
  pair = (λ e. never cc, λ y. absurd (subst (λ i. Takes (tree_rows t.code t.mark t.span i) D m k) z y));
  table = M;
}

positive : (n : ℕ) → (n ≡ 0 → ⊥) → 0 < n
positive zero ne = absurd (ne refl)
positive (suc n) ne = omega arith

module _ {t : TreeRows} (R : IsQuery t) (ne : t.len ≡ 0 → ⊥) {P L before after : List ℕ} {m k : ℕ} (N : NotRefused P L m k before)
    (M : MatchTable (tree_of t) (doc_of P L) before after) where
  pub may_ask : Asked after t.mark t.up P
  may_ask = record {
    rows = t.len;
    code = t.code;
    kids = t.kids;
    span = t.span;
    labels = L;
    tree = R.rows;
    s = single_row src t.code t.mark t.span t.len R.rows.laid (R.one_src (positive t.len ne));
    d = single_row dst t.code t.mark t.span t.len R.rows.laid (R.one_dst (positive t.len ne));
    table = N.table;
    room = omega (arith, M.same, N.space);
    bits = M.bits;
  }

  pub pair_taken : {r : Bool}
      → ((q : Asked after t.mark t.up P) → (r ≡ true) ↔ Takes (tree_rows q.code t.mark q.span q.rows) (doc_of P q.labels) m k)
      → Taken (tree_of t) (doc_of P L) m k r before after
  unfolding may_ask
  pair_taken E = record { pair = E may_ask; table = M }
