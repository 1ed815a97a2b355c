-- How the tree is read off the rows: the numbers on the list of a row's children are those of the rows whose parent it is,
-- and a tree query's tree has one top.
use mathlib.Core.Path.{◌≡◌, refl, sym, ap, subst}
use mathlib.Core.Logic.{◌⊎◌, inl, inr}
use mathlib.Core.Option.{Option, none, some}
use mathlib.Core.Bool.{Bool, true, false}
use mathlib.Core.List.{List, [], ◌∷◌}
use Prim.Native.Nat.{ℕ, zero, suc, ◌+◌}
use native.Mathlib.Decide.{ℕ_discrete}
use native.Mathlib.Omega.{arith}
use lib.ListN.{length}
use Rattle.meaning.specs.Basics.{is}
use Rattle.meaning.specs.TreeQuery.{Lab, node, Table, at, Query, TreeQuery}
use Rattle.meaning.specs.Tree.{Forest, bare, tree, Tag, same_link, link_is, choose, kids_from, tag_of, plant, grow, tree_of}
use Rattle.theory.proofs.Look.{never}
use Rattle.theory.proofs.Levels.{top_root}

-- ------------------------------------------------------------------ the children of a row
-- j is on the list
abbrev pub Among : ℕ → List ℕ → Type 0
Among j [] = ⊥
Among j (i ∷ js) = (i ≡ j) ⊎ Among j js

is_true : {P : Type 0} (d : Dec P) → is d ≡ true → P
is_true (yes p) e = p
is_true (no n) e = never cc

pub true_is : {P : Type 0} (d : Dec P) → P → is d ≡ true
true_is (yes p) q = refl
true_is (no n) q = absurd (n q)

pub same_link_lem : (u v : Option ℕ) → same_link u v ≡ true → u ≡ v
same_link_lem none none e = refl
same_link_lem none (some j) e = never cc
same_link_lem (some i) none e = never cc
same_link_lem (some i) (some j) e = ap some (is_true (ℕ_discrete i j) e)

pub link_same : (u : Option ℕ) → same_link u u ≡ true
link_same none = refl
link_same (some i) = true_is (ℕ_discrete i i) refl

-- row j has parent u
abbrev ChildRow : Table → Option ℕ → ℕ → Type 0
ChildRow T u j = (l : Lab) × (at T j ≡ some (node u l))

kids_sound : (u : Option ℕ) (T : Table) (b j : ℕ) → Among j (kids_from u T b) → (i : ℕ) × (j ≡ b + i) × ChildRow T u i
kids_sound u [] b j x = absurd x
kids_sound u (node v l ∷ T) b j x = go (kids_sound u T (suc b) j) (same_link u v) refl x
  where
    next : (i : ℕ) × (j ≡ suc b + i) × ChildRow T u i → (i : ℕ) × (j ≡ b + i) × ChildRow (node v l ∷ T) u i
    next (i, e, c) = (suc i, omega arith, c)

    go : (Among j (kids_from u T (suc b)) → (i : ℕ) × (j ≡ suc b + i) × ChildRow T u i)
        → (t : Bool) → same_link u v ≡ t → Among j (choose t b (kids_from u T (suc b))) → (i : ℕ) × (j ≡ b + i) × ChildRow (node v l ∷ T) u i
    go ih true e (inl q) = (0, omega arith, (l, let z = same_link_lem u v e in cc))
    go ih true e (inr y) = next (ih y)
    go ih false e y = next (ih y)

kids_complete : (u : Option ℕ) (T : Table) (b i : ℕ) → ChildRow T u i → Among (b + i) (kids_from u T b)
kids_complete u [] b i (l, e) = never cc
kids_complete u (node v k ∷ T) b zero (l, e) =
    let q : v ≡ u = cc in subst (λ z. Among (b + 0) (choose (same_link u z) b (kids_from u T (suc b)))) (sym q) (rw (link_same u) (inl (omega arith)))
kids_complete u (node v k ∷ T) b (suc i) c =
    go (same_link u v) (subst (λ z. Among z (kids_from u T (suc b))) (let q : suc b + i ≡ b + suc i = omega arith in q) (kids_complete u T (suc b) i c))
  where
    go : (t : Bool) → Among (b + suc i) (kids_from u T (suc b)) → Among (b + suc i) (choose t b (kids_from u T (suc b)))
    go true x = inr x
    go false x = x

pub row_of_kid : (u : Option ℕ) (T : Table) (j : ℕ) → Among j (kids_from u T 0) → (l : Lab) × (at T j ≡ some (node u l))
row_of_kid u T j x = let w = kids_sound u T 0 j x in let e : w.0 ≡ j = (let q = w.1 in omega arith) in subst (ChildRow T u) e w.2

pub kid_of_row : (u : Option ℕ) (T : Table) (j : ℕ) (l : Lab) → at T j ≡ some (node u l) → Among j (kids_from u T 0)
kid_of_row u T j l e = subst (λ z. Among z (kids_from u T 0)) (let q : 0 + j ≡ j = omega arith in q) (kids_complete u T 0 j (l, e))

-- ------------------------------------------------------------------ one top
-- a row that is the only child stands alone on the list
only_kid : (u : Option ℕ) (T : Table) (b j : ℕ) → ((i : ℕ) → Among i (kids_from u T b) → i ≡ j) → Among j (kids_from u T b) → kids_from u T b ≡ j ∷ []
only_kid u [] b j only x = absurd x
only_kid u (r ∷ T) b j only x = go (only_kid u T (suc b) j) (link_is u r) only x
  where
    none_left : (js : List ℕ) → ((i : ℕ) → Among i js → ⊥) → js ≡ []
    none_left [] no-i = refl
    none_left (i ∷ js) no-i = absurd (no-i i (inl refl))

    go : (((i : ℕ) → Among i (kids_from u T (suc b)) → i ≡ j) → Among j (kids_from u T (suc b)) → kids_from u T (suc b) ≡ j ∷ []) → (t : Bool)
        → ((i : ℕ) → Among i (choose t b (kids_from u T (suc b))) → i ≡ j) → Among j (choose t b (kids_from u T (suc b)))
        → choose t b (kids_from u T (suc b)) ≡ j ∷ []
    go ih false o y = ih o y
    go ih true o y =
        let ej : b ≡ j = o b (inl refl) in
        let el : kids_from u T (suc b) ≡ [] = none_left (kids_from u T (suc b)) (λ i m. omega (arith, o i (inr m), (kids_sound u T (suc b) i m).1)) in
        cc

-- the tree of a tree query has one top
pub one_top : (Q : Query) → TreeQuery Q → (a : Tag) × (k : Forest Tag) × (tree_of Q ≡ tree a k bare)
one_top Q q =
    let r = top_root q.tree Q.s q.s_live in
    let e = only_kid none Q.rows 0 q.tree.top (λ i x. q.tree.single i (row_of_kid none Q.rows i x)) (kid_of_row none Q.rows q.tree.top r.0 r.1) in
    (tag_of Q q.tree.top, grow (length Q.rows) Q q.tree.top, ap (plant (tag_of Q) (grow (length Q.rows) Q)) e)
