-- Demand 3: no tree query of the same meaning has fewer nodes than the minimal one, no Path+ expression of any length with the same meaning has
-- fewer parent and child steps than the normal form, and one meaning has one minimal tree, one image and one normal form.
use mathlib.Core.Path.{◌≡◌, refl, sym, ap, subst, ◌∙◌}
use mathlib.Core.Logic.{◌↔◌}
use mathlib.Core.Option.{Option, none, some}
use Prim.Native.Nat.{ℕ, suc, ◌-◌, ◌≤◌}
use native.Mathlib.Omega.{arith}
use Rattle.meaning.specs.Document.{Doc}
use Rattle.meaning.specs.Expression.{Expr, pairs, steps, Agree}
use Rattle.meaning.specs.TreeQuery.{Query, TreeQuery, Selects, nodes}
use Rattle.meaning.specs.Gluing.{plain}
use Rattle.meaning.specs.Tree.{Forest, Tag, tree_of, plain_tree, size}
use Rattle.meaning.specs.Folding.{Reduced, Sheds, minimal}
use Rattle.meaning.specs.Image.{image, ordered, minimal_tree}
use Rattle.meaning.specs.Normal.{normal, normal_of}
use Rattle.theory.proofs.Look.{never, live_lt}
use Rattle.theory.proofs.Plain.{Means, AtMost, plain_means, few_nodes}
use Rattle.theory.proofs.Bridge.{tree_means}
use Rattle.theory.proofs.Weigh.{size_tree}
use Rattle.theory.proofs.Folding.{folds_trans, Equal, equal_trans}
use Rattle.theory.proofs.Minimal.{minimal_equal, minimal_to, minimal_from, minimal_reduced, minimal_size}
use Rattle.theory.proofs.Unique.{minimal_same, sheds_to_minimal_same, smallest, as_small_same}
use Rattle.theory.proofs.Order.{ordered_size, ordered_equal}
use Rattle.theory.proofs.Records.{image_ordered, same_image, same_ordered}
use Rattle.theory.proofs.Count.{count, src, dst}
use Rattle.theory.proofs.Marks.{QueryTree, query_tree}
use Rattle.theory.proofs.Canon.{agree_equal, inhabited}
use Rattle.theory.proofs.Steps.{normal_steps}
use Rattle.theory.proofs.Same.{least_tree, minimal_query, same_normal, empty_exactly}

-- ------------------------------------------------------------------ tree queries of one meaning
-- their trees fold onto each other
agree_trees : (P Q : Query) → TreeQuery P → TreeQuery Q → Agree (Selects P) (Selects Q) → Equal (tree_of P) (tree_of Q)
agree_trees P Q p q ag = agree_equal (tree_of P) (tree_of Q) (query_tree P p) (query_tree Q q) λ D g m n. (
  λ t. (tree_means Q q D m n).0 ((ag D g m n).0 ((tree_means P p D m n).1 t)),
  λ t. (tree_means P p D m n).0 ((ag D g m n).1 ((tree_means Q q D m n).1 t)),
)

-- "No tree query of the same meaning has fewer nodes than the minimal one"
pub smallest_query : (P Q : Query) → TreeQuery P → TreeQuery Q → Agree (Selects P) (Selects Q) → size (ordered (minimal (tree_of P))) ≤ nodes Q
smallest_query P Q p q ag =
    let w = agree_trees P Q p q ag in
    let s = smallest (minimal (tree_of P)) (tree_of Q) (minimal_reduced (tree_of P))
    (folds_trans (minimal (tree_of P)) (tree_of P) (tree_of Q) (minimal_from (tree_of P)) w.0)
    (folds_trans (tree_of Q) (tree_of P) (minimal (tree_of P)) w.1 (minimal_to (tree_of P))) in
    let o = ordered_size (minimal (tree_of P)) in
    let z = size_tree Q q in omega arith

-- one meaning, one minimal tree
pub one_query : (P Q : Query) → TreeQuery P → TreeQuery Q → Agree (Selects P) (Selects Q)
    → ordered (minimal (tree_of P)) ≡ ordered (minimal (tree_of Q))
one_query P Q p q ag =
    sym (same_ordered (minimal (tree_of Q)) (minimal (tree_of P))
    (minimal_same (tree_of P) (minimal (tree_of Q)) (minimal_reduced (tree_of Q))
    (equal_trans (tree_of P) (tree_of Q) (minimal (tree_of Q)) (agree_trees P Q p q ag) (minimal_equal (tree_of Q)))))

pub one_image : (P Q : Query) → TreeQuery P → TreeQuery Q → Agree (Selects P) (Selects Q) → image (minimal (tree_of P)) ≡ image (minimal (tree_of Q))
one_image P Q p q ag = sym (image_ordered (minimal (tree_of P))) ∙ ap image (one_query P Q p q ag) ∙ image_ordered (minimal (tree_of Q))

-- a tree query of one meaning with P and no more nodes than P's minimal tree is that tree, up to the order of brothers
pub as_few_query : (P Q : Query) → TreeQuery P → TreeQuery Q → Agree (Selects P) (Selects Q) → nodes Q ≤ size (ordered (minimal (tree_of P)))
    → ordered (tree_of Q) ≡ ordered (minimal (tree_of P))
as_few_query P Q p q ag le =
    let one = one_query P Q p q ag in
    let x = ap size one in
    let y = ordered_size (minimal (tree_of Q)) in
    let z = size_tree Q q in same_ordered (tree_of Q) (minimal (tree_of Q)) (as_small_same (tree_of Q) (omega arith)) ∙ sym one

-- whichever foldable brother is taken first, the end has the same image, and is the minimal tree once its brothers are in image order
pub any_order : (f g : Forest Tag) → Sheds f g → Reduced g → (image g ≡ image (minimal f)) × (ordered g ≡ ordered (minimal f))
any_order f g s r = let z = sheds_to_minimal_same f g s r in (same_image g (minimal f) z, same_ordered g (minimal f) z)

-- nor does it matter in which order the brothers stood
pub ordered_first : (f : Forest Tag) → ordered (minimal (ordered f)) ≡ ordered (minimal f)
ordered_first f =
    same_ordered (minimal (ordered f)) (minimal f)
    (minimal_same f (minimal (ordered f)) (minimal_reduced (ordered f))
    (equal_trans f (ordered f) (minimal (ordered f)) ((ordered_equal f).1, (ordered_equal f).0) (minimal_equal (ordered f))))

-- ------------------------------------------------------------------ expressions of one meaning
-- two expressions of one meaning are both empty, or both have tree queries of one meaning
module _ (e f : Expr) (ag : Agree (pairs e) (pairs f)) where
  no_empty : (Q : Query) → Means (pairs e) none → plain f ≡ some Q → ⊥
  no_empty Q w eq =
      let z : plain f ≡ none = (empty_exactly f).1 (λ D g m n x. w D m n ((ag D g m n).1 x)) in
      never cc

  agree_queries : (P Q : Query) → Means (pairs e) (some P) → Means (pairs f) (some Q) → Agree (Selects P) (Selects Q)
  agree_queries P Q (p, w) (q, x) D g m n =
      (λ s. (x D m n).0 ((ag D g m n).0 ((w D m n).1 s)), λ s. (w D m n).0 ((ag D g m n).1 ((x D m n).1 s)))

turned : (e f : Expr) → Agree (pairs e) (pairs f) → Agree (pairs f) (pairs e)
turned e f ag D g m n = ((ag D g m n).1, (ag D g m n).0)

pub one_tree : (e f : Expr) → Agree (pairs e) (pairs f) → minimal_tree (plain e) ≡ minimal_tree (plain f)
one_tree e f ag = go (plain e) (plain f) refl refl (plain_means e) (plain_means f)
  where
    go : (o r : Option Query) → plain e ≡ o → plain f ≡ r → Means (pairs e) o → Means (pairs f) r → minimal_tree o ≡ minimal_tree r
    go none none eo er w x = refl
    go none (some Q) eo er w x = absurd (no_empty e f ag Q w er)
    go (some P) none eo er w x = absurd (no_empty f e (turned e f ag) P x eo)
    go (some P) (some Q) eo er w x = one_query P Q w.0 x.0 (agree_queries e f ag P Q w x)

-- the same for one expression and any tree query of its meaning
agree_query : (e : Expr) (P Q : Query) → ((D : Doc) (m n : ℕ) → pairs e D m n ↔ Selects P D m n) → Agree (pairs e) (Selects Q)
    → Agree (Selects P) (Selects Q)
agree_query e P Q w ag D g m n = (λ s. (ag D g m n).0 ((w D m n).1 s), λ s. (w D m n).0 ((ag D g m n).1 s))

pub smallest_tree : (e : Expr) (Q : Query) → TreeQuery Q → Agree (pairs e) (Selects Q) → size (minimal_tree (plain e)) ≤ nodes Q
unfolding minimal
smallest_tree e Q q ag = go (plain e) (plain_means e)
  where
    go : (o : Option Query) → Means (pairs e) o → size (minimal_tree o) ≤ nodes Q
    go none w = omega arith
    go (some P) (p, w) = smallest_query P Q p q (agree_query e P Q w ag)

-- paper, theorem 7.1 (2): "P_red is isomorphic to any minimal T expression equivalent to P"
pub as_few_nodes : (e : Expr) (Q : Query) → TreeQuery Q → Agree (pairs e) (Selects Q) → nodes Q ≤ size (minimal_tree (plain e))
    → ordered (tree_of Q) ≡ minimal_tree (plain e)
unfolding minimal
as_few_nodes e Q q ag = go (plain e) (plain_means e)
  where
    go : (o : Option Query) → Means (pairs e) o → nodes Q ≤ size (minimal_tree o) → ordered (tree_of Q) ≡ minimal_tree o
    go none w le = let l = live_lt Q.rows Q.s q.s_live in absurd (omega arith)
    go (some P) (p, w) le = as_few_query P Q p q (agree_query e P Q w ag) le

-- .. where "a tree query is minimal if there is no equivalent tree query with fewer nodes"
pub minimal_nodes : (e : Expr) (Q : Query) → TreeQuery Q → Agree (pairs e) (Selects Q)
    → ((R : Query) → TreeQuery R → Agree (pairs e) (Selects R) → nodes Q ≤ nodes R) → ordered (tree_of Q) ≡ minimal_tree (plain e)
minimal_nodes e Q q ag least = as_few_nodes e Q q ag (go (plain e) refl (plain_means e))
  where
    go : (o : Option Query) → plain e ≡ o → Means (pairs e) o → nodes Q ≤ size (minimal_tree (plain e))
    go none eq w = let (D, g, x) = inhabited Q q in let (m, n, s) = x in absurd (w D m n ((ag D g m n).1 s))
    go (some P) eq w =
        let (R, r, t, means) = minimal_query e P eq in
        let x = least R r (λ D g. means D) in
        let y = size_tree R r in
        let z = ap size t in omega arith

-- ------------------------------------------------------------------ steps
-- paper, lemma 7.4: (1) the plain tree has at most as many edges as the expression has steps
pub plain_size : (e : Expr) → size (plain_tree (plain e)) ≤ suc (steps e)
plain_size e = go (plain e) (plain_means e) (few_nodes e)
  where
    go : (o : Option Query) → Means (pairs e) o → AtMost (suc (steps e)) o → size (plain_tree o) ≤ suc (steps e)
    go none w l = omega arith
    go (some Q) (q, w) l = let z = size_tree Q q in omega arith

-- .. and (2) the form of a tree has a step for each edge
tree_steps : (f : Forest Tag) → QueryTree f → suc (steps (normal f)) ≡ size f
tree_steps f t =
    subst (λ g. suc (steps (normal g)) ≡ size g) (sym t.top)
    (normal_steps t.root t.below (subst (λ g. count src g ≡ 1) t.top t.source) (subst (λ g. count dst g ≡ 1) t.top t.dest))

pub query_steps : (Q : Query) → TreeQuery Q → suc (steps (normal (tree_of Q))) ≡ nodes Q
query_steps Q q = tree_steps (tree_of Q) (query_tree Q q) ∙ size_tree Q q

-- "its steps are the minimal node count less one (none for empty)"
pub steps_nodes : (e : Expr) → steps (normal_of (plain e)) ≡ size (minimal_tree (plain e)) - 1
unfolding minimal
steps_nodes e = go (plain e) (plain_means e)
  where
    go : (o : Option Query) → Means (pairs e) o → steps (normal_of o) ≡ size (minimal_tree o) - 1
    go none w = refl
    go (some Q) (q, w) = let z = tree_steps (minimal_tree (some Q)) (least_tree Q q) in omega arith

-- "no Path+ expression of any length with the same meaning has fewer parent and child steps than the normal form"
pub fewest_steps : (e f : Expr) → Agree (pairs e) (pairs f) → steps (normal_of (plain e)) ≤ steps f
fewest_steps e f ag =
    let x = steps_nodes e in
    let y = ap size (one_tree e f ag) in
    let z = ordered_size (minimal (plain_tree (plain f))) in
    let u = minimal_size (plain_tree (plain f)) in
    let v = plain_size f in omega arith

-- paper, theorem 7.2 (2): "If E is a minimal Path+ expression, then Path-T(E) is a minimal T expression"
pub as_few_steps : (e : Expr) → steps e ≤ steps (normal_of (plain e)) → ordered (plain_tree (plain e)) ≡ minimal_tree (plain e)
unfolding minimal
as_few_steps e = go (plain e) (plain_means e) (few_nodes e)
  where
    go : (o : Option Query) → Means (pairs e) o → AtMost (suc (steps e)) o → steps e ≤ steps (normal_of o) → ordered (plain_tree o) ≡ minimal_tree o
    go none w l le = refl
    go (some Q) (q, w) l le =
        let z = tree_steps (minimal_tree (some Q)) (least_tree Q q) in as_few_query Q Q q q (λ D g m n. (λ x. x, λ x. x)) (omega arith)

-- .. where an expression is "minimal in the sense that any equivalent expression has at least as many" steps: the normal form is one
pub minimal_steps : (e : Expr) → ((f : Expr) → Agree (pairs e) (pairs f) → steps e ≤ steps f) → ordered (plain_tree (plain e)) ≡ minimal_tree (plain e)
minimal_steps e least = as_few_steps e (least (normal_of (plain e)) (λ D g. same_normal e D))
