-- A bit of the match table speaks of containment mappings: "query node u with all below it can be laid with u on document node v, marks ignored"
-- holds exactly if the part of the query from u down, as a tree query with both marks at u, selects (v,v).
use mathlib.Core.Path.{◌≡◌, refl, sym, subst}
use mathlib.Core.Logic.{◌↔◌}
use mathlib.Core.Bool.{true, false}
use mathlib.Core.Option.{Option, some}
use Prim.Native.Nat.{ℕ}
use Rattle.meaning.specs.Document.{Doc}
use Rattle.meaning.specs.TreeQuery.{Query, TreeQuery, Selects}
use Rattle.meaning.specs.Tree.{Forest, bare, tree, Tag, Lays, OnPair, Takes, tree_of}
use Rattle.meaning.specs.Matching.{OnLabel, LaysAt}
use Rattle.theory.proofs.Bridge.{tree_means}
use Rattle.theory.proofs.Count.{count, src, dst}
use Rattle.theory.proofs.Marks.{QueryTree}
use Rattle.theory.proofs.Tables.{table_of, table_query, tree_of_table}

-- "marks ignored"
abbrev pub unmarked : Forest Tag → Forest Tag
unmarked bare = bare
unmarked (tree a k r) = tree (record { lab = a.lab; src = false; dst = false }) (unmarked k) (unmarked r)

-- the part of a query from a node down, with s and d at its top
abbrev pub part : Tag → Forest Tag → Forest Tag
part a k = tree (record { lab = a.lab; src = true; dst = true }) (unmarked k) bare

no_source : (f : Forest Tag) → count src (unmarked f) ≡ 0
no_source bare = refl
no_source (tree a k r) = rw (no_source k, no_source r) refl

no_dest : (f : Forest Tag) → count dst (unmarked f) ≡ 0
no_dest bare = refl
no_dest (tree a k r) = rw (no_dest k, no_dest r) refl

part_query : (a : Tag) (k : Forest Tag) → QueryTree (part a k)
part_query a k = record {
  root = record { lab = a.lab; src = true; dst = true };
  below = unmarked k;
  top = refl;
  source = rw (no_source k) refl;
  dest = rw (no_dest k) refl;
}

lays_unmarked : (D : Doc) (m n : ℕ) (f : Forest Tag) (v : Option ℕ) → Lays D (OnPair D m n) (unmarked f) v ↔ Lays D (OnLabel D) f v
lays_unmarked D m n bare v = (λ x. x, λ x. x)
lays_unmarked D m n (tree a k r) v = (
  λ ((w, un, on, l), lr). ((w, un, on.0, (lays_unmarked D m n k (some w)).0 l), (lays_unmarked D m n r v).0 lr),
  λ ((w, un, on, l), lr). ((w, un, (on, tt, tt), (lays_unmarked D m n k (some w)).1 l), (lays_unmarked D m n r v).1 lr),
)

-- the bit of a node (a, with k below it) at v, and containment mappings of that part
pub bit_mapping : (D : Doc) (a : Tag) (k : Forest Tag) (v : ℕ)
    → TreeQuery (table_of (part a k)) × (LaysAt D a k v ↔ Selects (table_of (part a k)) D v v)
bit_mapping D a k v =
    (q, (λ b. (tree_means Q q D v v).1 (subst (λ f. Takes f D v v) (sym e) (up b)), λ s. down (subst (λ f. Takes f D v v) e ((tree_means Q q D v v).0 s))))
  where
    Q : Query
    Q = table_of (part a k)

    q : TreeQuery Q
    q = table_query (part a k) (part_query a k)

    e : tree_of Q ≡ part a k
    e = tree_of_table (part a k) (part_query a k)

    up : LaysAt D a k v → Takes (part a k) D v v
    up (i, on, l) = ((v, i, (on, refl, refl), (lays_unmarked D v v k (some v)).1 l), tt)

    down : Takes (part a k) D v v → LaysAt D a k v
    down ((w, i, (on, s, d), l), _) = subst (λ z. LaysAt D a k z) s (i, on, (lays_unmarked D v v k (some w)).0 l)
