-- Every row of a tree query stands once in the tree that is read off it: whatever is counted, the tree has as many such nodes as the table
-- has such rows.
-- So the tree has as many nodes as the table has rows, and one node is s and one is d.
use mathlib.Core.Path.{◌≡◌, refl, sym, ap, subst, ◌∙◌}
use mathlib.Core.Logic.{◌≢◌, inl, inr}
use mathlib.Core.Option.{none, some}
use mathlib.Core.Bool.{Bool, true}
use mathlib.Core.List.{List, [], ◌∷◌}
use Prim.Native.Nat.{ℕ, zero, suc, ◌+◌, ◌≤◌, ◌<◌}
use native.Mathlib.Decide.{ℕ_discrete}
use native.Mathlib.Omega.{arith}
use lib.ListN.{length}
use Rattle.meaning.specs.Basics.{is}
use Rattle.meaning.specs.TreeQuery.{Lab, node, Table, at, Query, nodes, Live, TreeQuery}
use Rattle.meaning.specs.Tree.{Forest, Tag, size, choose, kids_from, tag_of, plant, grow, tree_of}
use Rattle.theory.proofs.Count.{bit, count, src, dst, size_count}
use Rattle.theory.proofs.Look.{live_lt, lt_live}
use Rattle.theory.proofs.Levels.{level_bound}
use Rattle.theory.proofs.Children.{Among, row_of_kid}

-- ------------------------------------------------------------------ sums
-- g over the numbers of a list
abbrev sum_over : (ℕ → ℕ) → List ℕ → ℕ
sum_over g [] = 0
sum_over g (j ∷ js) = g j + sum_over g js

-- g over the n numbers from j on
abbrev sum_from : (ℕ → ℕ) → ℕ → ℕ → ℕ
sum_from g j zero = 0
sum_from g j (suc n) = g j + sum_from g (suc j) n

sum_zero : (j n : ℕ) → sum_from (λ _. 0) j n ≡ 0
sum_zero j zero = refl
sum_zero j (suc n) = let z = sum_zero (suc j) n in omega arith

sum_one : (j n : ℕ) → sum_from (λ _. 1) j n ≡ n
sum_one j zero = refl
sum_one j (suc n) = let z = sum_one (suc j) n in omega arith

sum_same : (f g : ℕ → ℕ) (j n : ℕ) → ((i : ℕ) → j ≤ i → i < j + n → f i ≡ g i) → sum_from f j n ≡ sum_from g j n
sum_same f g j zero e = refl
sum_same f g j (suc n) e =
    let x = e j (omega arith) (omega arith) in
    let y = sum_same f g (suc j) n (λ i lo hi. e i (omega arith) (omega arith)) in
    omega arith

sum_add : (f g : ℕ → ℕ) (j n : ℕ) → sum_from (λ i. f i + g i) j n ≡ sum_from f j n + sum_from g j n
sum_add f g j zero = refl
sum_add f g j (suc n) = let z = sum_add f g (suc j) n in omega arith

-- f is x more than g at p and the same elsewhere
sum_more : (f g : ℕ → ℕ) (p x : ℕ) → f p ≡ x + g p → ((i : ℕ) → i ≢ p → f i ≡ g i) → (j n : ℕ) → j ≤ p → p < j + n → sum_from f j n ≡ x + sum_from g j n
sum_more f g p x hit miss j zero lo hi = absurd (omega arith)
sum_more f g p x hit miss j (suc n) lo hi = go (ℕ_discrete j p) (λ lo'. sum_more f g p x hit miss (suc j) n lo' (omega arith))
  where
    go : Dec (j ≡ p) → (suc j ≤ p → sum_from f (suc j) n ≡ x + sum_from g (suc j) n) → sum_from f j (suc n) ≡ x + sum_from g j (suc n)
    go (yes e) ih =
        let y : f j ≡ x + g j = subst (λ z. f z ≡ x + g z) (sym e) hit in
        let z = sum_same f g (suc j) n (λ i lo' hi'. miss i (λ e'. omega arith)) in omega arith
    go (no ne) ih = let y = miss j ne in let z = ih (omega arith) in omega arith

-- ------------------------------------------------------------------ every row but the top is a child of one row
-- the rows of C, numbered from b on, whose parents are below N
partition : (g : ℕ → ℕ) (N : ℕ) (C : Table) (b : ℕ) → ((i p : ℕ) (l : Lab) → at C i ≡ some (node (some p) l) → p < N)
    → sum_from g b (length C) ≡ sum_over g (kids_from none C b) + sum_from (λ p. sum_over g (kids_from (some p) C b)) 0 N
partition g N [] b below = let z = sum_zero 0 N in omega arith
partition g N (node none l ∷ C) b below = let z = partition g N C (suc b) (λ i. below (suc i)) in omega arith
partition g N (node (some q) l ∷ C) b below =
    let y = partition g N C (suc b) (λ i. below (suc i)) in
    let z = sum_more with_b without_b q (g b) (hit (ℕ_discrete q q)) (λ p ne. miss p ne (ℕ_discrete p q)) 0 N (omega arith) (let lt = below 0 q l refl in omega arith) in
    omega arith
  where
    without_b : ℕ → ℕ
    without_b p = sum_over g (kids_from (some p) C (suc b))

    with_b : ℕ → ℕ
    with_b p = sum_over g (kids_from (some p) (node (some q) l ∷ C) b)

    hit : (c : Dec (q ≡ q)) → sum_over g (choose (is c) b (kids_from (some q) C (suc b))) ≡ g b + without_b q
    hit (yes e) = refl
    hit (no ne) = absurd (ne refl)

    miss : (p : ℕ) → p ≢ q → (c : Dec (p ≡ q)) → sum_over g (choose (is c) b (kids_from (some p) C (suc b))) ≡ without_b p
    miss p ne (yes e) = absurd (ne e)
    miss p ne (no ne') = refl

-- ------------------------------------------------------------------ counting in the tree, and in the table
count_plant : (p : Tag → Bool) (tag : ℕ → Tag) (f : ℕ → Forest Tag) (js : List ℕ)
    → count p (plant tag f js) ≡ sum_over (λ j. bit (p (tag j)) + count p (f j)) js
count_plant p tag f [] = refl
count_plant p tag f (j ∷ js) = let z = count_plant p tag f js in omega arith

plant_same : (tag : ℕ → Tag) (f g : ℕ → Forest Tag) (js : List ℕ) → ((j : ℕ) → Among j js → f j ≡ g j) → plant tag f js ≡ plant tag g js
plant_same tag f g [] e = refl
plant_same tag f g (j ∷ js) e = let x = e j (inl refl) in let y = plant_same tag f g js (λ i c. e i (inr c)) in cc

module _ (Q : Query) (q : TreeQuery Q) where
  -- as many rounds as rows are enough
  grow_enough : (f i : ℕ) → Live Q.rows i → nodes Q ≤ f + q.tree.lev i → grow f Q i ≡ grow (suc f) Q i
  grow_enough zero i li le = let lt = level_bound q.tree i li in absurd (omega arith)
  grow_enough (suc f) i li le =
      plant_same (tag_of Q) (grow f Q) (grow (suc f) Q) (kids_from (some i) Q.rows 0) (λ j c.
      let w = row_of_kid (some i) Q.rows j c in
      let o : q.tree.lev j ≡ suc (q.tree.lev i) = (q.tree.linked j i w.0 w.1).1 in
      grow_enough f j (some i, w.0, w.1) (omega arith))

  count_tree : (p : Tag → Bool) → count p (tree_of Q) ≡ sum_from (λ i. bit (p (tag_of Q i))) 0 (nodes Q)
  count_tree p =
      let y = partition below (nodes Q) Q.rows 0 (λ i u l e. live_lt Q.rows u (q.tree.linked i u l e).0) in
      let s = sum_add (λ i. bit (p (tag_of Q i))) (λ i. count p (grow (nodes Q) Q i)) 0 (nodes Q) in
      let t = count_plant p (tag_of Q) (grow (nodes Q) Q) (kids_from none Q.rows 0) in
      let e = sum_same (λ i. count p (grow (nodes Q) Q i)) (λ i. sum_over below (kids_from (some i) Q.rows 0)) 0 (nodes Q) (λ i lo hi. next i (omega arith)) in
      omega arith
    where
      -- a row with all below it
      below : ℕ → ℕ
      below j = bit (p (tag_of Q j)) + count p (grow (nodes Q) Q j)

      next : (i : ℕ) → i < nodes Q → count p (grow (nodes Q) Q i) ≡ sum_over below (kids_from (some i) Q.rows 0)
      next i lt =
          ap (count p) (grow_enough (nodes Q) i (lt_live Q.rows i lt) (omega arith)) ∙ count_plant p (tag_of Q) (grow (nodes Q) Q) (kids_from (some i) Q.rows 0)

-- ------------------------------------------------------------------ nodes, s and d
-- the tree has a node for each row
pub size_tree : (Q : Query) → TreeQuery Q → size (tree_of Q) ≡ nodes Q
size_tree Q q = size_count (tree_of Q) ∙ count_tree Q q (λ _. true) ∙ sum_one 0 (nodes Q)

-- one row has number s
sum_is : (T : Table) (s : ℕ) → Live T s → sum_from (λ i. bit (is (ℕ_discrete i s))) 0 (length T) ≡ 1
sum_is T s live =
    let lt = live_lt T s live in
    let x = sum_more (λ i. bit (is (ℕ_discrete i s))) (λ _. 0) s 1 (hit (ℕ_discrete s s)) (λ i ne. miss i ne (ℕ_discrete i s)) 0 (length T) (omega arith) (omega arith) in
    let z = sum_zero 0 (length T) in omega arith
  where
    hit : (c : Dec (s ≡ s)) → bit (is c) ≡ 1 + 0
    hit (yes p) = refl
    hit (no np) = absurd (np refl)

    miss : (i : ℕ) → i ≢ s → (c : Dec (i ≡ s)) → bit (is c) ≡ 0
    miss i ne (yes p) = absurd (ne p)
    miss i ne (no np) = refl

-- "with a source s and a destination d": one node of the tree is s, one is d
pub one_source : (Q : Query) → TreeQuery Q → count src (tree_of Q) ≡ 1
one_source Q q = count_tree Q q src ∙ sum_is Q.rows Q.s q.s_live

pub one_dest : (Q : Query) → TreeQuery Q → count dst (tree_of Q) ≡ 1
one_dest Q q = count_tree Q q dst ∙ sum_is Q.rows Q.d q.d_live
