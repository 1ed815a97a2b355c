-- Demand 2, same pairs: the expression, its plain tree query, its minimal tree query and its normal form select the same pairs on every document;
-- and "empty" is given exactly when no document yields a pair.
use mathlib.Core.Path.{◌≡◌, refl, sym, ap, subst, ◌∙◌}
use mathlib.Core.Logic.{◌↔◌}
use mathlib.Core.Option.{Option, none, some}
use Prim.Native.Nat.{ℕ}
use Rattle.meaning.specs.Document.{Doc, Document}
use Rattle.meaning.specs.Expression.{Expr, pairs}
use Rattle.meaning.specs.TreeQuery.{Query, TreeQuery, Selects, SelectsO}
use Rattle.meaning.specs.Gluing.{plain}
use Rattle.meaning.specs.Tree.{Forest, bare, tree, Tag, OnPair, Takes, tree_of}
use Rattle.meaning.specs.Folding.{minimal}
use Rattle.meaning.specs.Image.{ordered, minimal_tree}
use Rattle.meaning.specs.Normal.{normal, normal_of}
use Rattle.theory.proofs.Plain.{Means, plain_means}
use Rattle.theory.proofs.Bridge.{tree_means}
use Rattle.theory.proofs.Folding.{equal_takes}
use Rattle.theory.proofs.Minimal.{minimal_equal}
use Rattle.theory.proofs.Order.{ordered_lays}
use Rattle.theory.proofs.Count.{count, src, dst}
use Rattle.theory.proofs.Marks.{QueryTree, query_tree, minimal_query_tree, ordered_query_tree}
use Rattle.theory.proofs.Canon.{inhabited}
use Rattle.theory.proofs.Tables.{table_of, table_query, tree_of_table}
use Rattle.theory.proofs.Normal.{normal_means}

both : {A B C : Type 0} → A ↔ B → B ↔ C → A ↔ C
both p q = (λ a. q.0 (p.0 a), λ c. p.1 (q.1 c))

flip : {A B : Type 0} → A ↔ B → B ↔ A
flip p = (p.1, p.0)

-- ------------------------------------------------------------------ the plain tree query
pub same_plain : (e : Expr) (D : Doc) (m n : ℕ) → pairs e D m n ↔ SelectsO (plain e) D m n
same_plain e D m n = go (plain e) (plain_means e)
  where
    go : (o : Option Query) → Means (pairs e) o → pairs e D m n ↔ SelectsO o D m n
    go none w = (λ s. w D m n s, λ x. absurd x)
    go (some Q) w = w.1 D m n

-- ------------------------------------------------------------------ the minimal tree
-- the minimal tree of a tree query in image order, with its one top and its two marks
pub least_tree : (Q : Query) → TreeQuery Q → QueryTree (ordered (minimal (tree_of Q)))
least_tree Q v = ordered_query_tree (minimal (tree_of Q)) (minimal_query_tree (tree_of Q) (query_tree Q v))

ordered_takes : (f : Forest Tag) → QueryTree f → (D : Doc) (m n : ℕ) → Takes f D m n ↔ Takes (ordered f) D m n
ordered_takes f t D m n =
    subst (λ g. Takes g D m n ↔ Takes (ordered g) D m n) (sym t.top) (flip (ordered_lays D (OnPair D m n) (tree t.root t.below bare) none))

pub selects_least : (Q : Query) → TreeQuery Q → (D : Doc) (m n : ℕ) → Selects Q D m n ↔ Takes (ordered (minimal (tree_of Q))) D m n
selects_least Q v D m n =
    both (tree_means Q v D m n)
    (both (equal_takes (tree_of Q) (minimal (tree_of Q)) (minimal_equal (tree_of Q)) D m n)
    (ordered_takes (minimal (tree_of Q)) (minimal_query_tree (tree_of Q) (query_tree Q v)) D m n))

pub same_minimal : (e : Expr) (D : Doc) (m n : ℕ) → pairs e D m n ↔ Takes (minimal_tree (plain e)) D m n
unfolding minimal
same_minimal e D m n = go (plain e) (plain_means e)
  where
    go : (o : Option Query) → Means (pairs e) o → pairs e D m n ↔ Takes (minimal_tree o) D m n
    go none w = (λ s. w D m n s, λ x. absurd x)
    go (some Q) (v, w) = both (w D m n) (selects_least Q v D m n)

-- the minimal tree is a tree query in the paper's own sense: a table that reads as that tree, with as many nodes, and the same pairs
pub minimal_query : (e : Expr) (Q : Query) → plain e ≡ some Q
    → (R : Query) × TreeQuery R × (tree_of R ≡ minimal_tree (plain e)) × ((D : Doc) (m n : ℕ) → pairs e D m n ↔ Selects R D m n)
minimal_query e Q eq = (
  table_of F,
  table_query F t,
  tree_of_table F t ∙ ap minimal_tree (sym eq),
  λ D m n.
      both (same_minimal e D m n)
      (subst (λ z. Takes z D m n ↔ Selects (table_of F) D m n) (tree_of_table F t ∙ ap minimal_tree (sym eq)) (flip (tree_means (table_of F) (table_query F t) D m n))),
)
  where
    v : TreeQuery Q
    v = (subst (Means (pairs e)) eq (plain_means e)).0

    F : Forest Tag
    F = ordered (minimal (tree_of Q))

    t : QueryTree F
    t = least_tree Q v

-- ------------------------------------------------------------------ the normal form
pub normal_takes : (f : Forest Tag) → QueryTree f → (D : Doc) (m n : ℕ) → pairs (normal f) D m n ↔ Takes f D m n
normal_takes f t D m n =
    subst (λ g. pairs (normal g) D m n ↔ Takes g D m n) (sym t.top)
    (normal_means t.root t.below (subst (λ g. count src g ≡ 1) t.top t.source) (subst (λ g. count dst g ≡ 1) t.top t.dest) D m n)

pub same_normal : (e : Expr) (D : Doc) (m n : ℕ) → pairs e D m n ↔ pairs (normal_of (plain e)) D m n
unfolding minimal
same_normal e D m n = go (plain e) (plain_means e)
  where
    go : (o : Option Query) → Means (pairs e) o → pairs e D m n ↔ pairs (normal_of o) D m n
    go none w = (λ s. w D m n s, λ x. absurd x)
    go (some Q) (v, w) = both (both (w D m n) (selects_least Q v D m n)) (flip (normal_takes (ordered (minimal (tree_of Q))) (least_tree Q v) D m n))

-- ------------------------------------------------------------------ empty
-- "'Empty' is given exactly when no document yields a pair": gluing fails exactly then
pub empty_exactly : (e : Expr) → (plain e ≡ none) ↔ ((D : Doc) → Document D → (m n : ℕ) → pairs e D m n → ⊥)
empty_exactly e = (λ eq D g m n. (subst (Means (pairs e)) eq (plain_means e)) D m n, λ h. go (plain e) (plain_means e) h)
  where
    go : (o : Option Query) → Means (pairs e) o → ((D : Doc) → Document D → (m n : ℕ) → pairs e D m n → ⊥) → o ≡ none
    go none w h = refl
    go (some Q) (v, w) h = let x = inhabited Q v in absurd (h x.0 x.1 x.2.0 x.2.1 ((w x.0 x.2.0 x.2.1).1 x.2.2))
