-- What a normal form weighs: each of its factors with one sign more, which joins it to those before it. A first projection adds one sign to what it
-- holds, and so does the second projection; so the weight is counted row by row. A row has its label's sign and its step, and one sign more where it is
-- a branch of its own: off the ways, below a node on a way or below one with several children.
use mathlib.Core.Path.{◌≡◌, refl, sym, ap, ◌∙◌}
use mathlib.Core.Bool.{Bool, true, false, cond, ◌&&◌, ◌||◌}
use mathlib.Core.List.{List, [], ◌∷◌, ◌++◌, map}
use Prim.Native.Nat.{ℕ, suc, ◌+◌, ◌≤◌}
use native.Mathlib.Omega.{arith}
use lib.ListN.{length, length-append}
use Rattle.meaning.specs.Expression.{Expr, child, parent}
use Rattle.meaning.specs.TreeQuery.{Lab, any, lab}
use Rattle.meaning.specs.Tree.{Forest, bare, tree, Tag, size}
use Rattle.meaning.specs.Normal.{all, labelled, branch, onward, chains, in_tree, src_in, dst_in, both_in, either_in, some_tree}
use Rattle.meaning.specs.Normal.{off, ups, downs, above_factor, longer, around, factors, word_of}
use Rattle.theory.proofs.Count.{bit, count, src, dst, marks, Tells, in_tells}
use Rattle.theory.proofs.Ways.{on, aside, off_aside, count_ways, aside_count, aside_either, on_dst, either_counts, way_ind, factors_ind}
use Rattle.theory.proofs.Limits.{cost, joined_cost, append_cost}
use Rattle.theory.proofs.Look.{never}
use Rattle.normal.specs.Weights.{lab_weight}

-- there are several brothers
abbrev pub several : Forest Tag → Bool
several bare = false
several (tree b j bare) = false
several (tree b j (tree c i r)) = true

-- the rows of a forest; `branching` tells whether each tree of it that is off the ways is a branch of its own
abbrev pub weigh : Bool → Forest Tag → ℕ
weigh branching bare = 0
weigh branching (tree b j r) = 2 + (lab_weight b.lab + cond (either_in b j) (weigh true j) (bit branching + weigh (several j) j)) + weigh branching r

-- ------------------------------------------------------------------ off the ways
either_none : (b : Tag) (j : Forest Tag) → marks (tree b j bare) ≡ 0 → either_in b j ≡ false
either_none b j e = go (src_in b j) (dst_in b j) (in_tells src b j) (in_tells dst b j)
  where
    go : (x y : Bool) → Tells x (bit (src b) + count src j) → Tells y (bit (dst b) + count dst j) → (x || y) ≡ false
    go true y t u = absurd (omega arith)
    go false true t u = absurd (omega arith)
    go false false t u = refl

cost_labelled : (l : Lab) (xs : List Expr) → cost (labelled l xs) ≡ lab_weight l + cost xs
unfolding lab_weight
cost_labelled any xs = omega arith
cost_labelled (lab l) xs = omega arith

cost_branch : (l : Lab) (xs ys : List Expr) → cost (branch (child ∷ labelled l xs) ∷ ys) ≡ 3 + (lab_weight l + cost xs) + cost ys
cost_branch l xs ys =
    omega (arith, joined_cost child (labelled l xs), cost_labelled l xs, length-append (word_of (all (child ∷ labelled l xs))) (5 ∷ []))

chains_weigh : (f : Forest Tag) → marks f ≡ 0 → (cost (map branch (chains f)) ≡ weigh true f) × (cost (onward (chains f)) ≡ weigh (several f) f)
chains_weigh bare e = (refl, refl)
chains_weigh (tree b j r) e = go r (either_none b j (omega arith)) (chains_weigh j (omega arith)).1 (chains_weigh r (omega arith)).0
  where
    go : (s : Forest Tag) → either_in b j ≡ false → cost (onward (chains j)) ≡ weigh (several j) j → cost (map branch (chains s)) ≡ weigh true s
        → (cost (map branch (chains (tree b j s))) ≡ weigh true (tree b j s)) ×
        (cost (onward (chains (tree b j s))) ≡ weigh (several (tree b j s)) (tree b j s))
    go bare n ij is =
        rw n (omega (arith, cost_branch b.lab (onward (chains j)) []), omega (arith, cost_labelled b.lab (onward (chains j))))
    go (tree c i s) n ij is =
        let all = cost_branch b.lab (onward (chains j)) (map branch (chains (tree c i s))) in rw n (omega (arith, all), omega (arith, all))

-- a node's own factors, and what follows them
cost_own : (p : Tag → Forest Tag → Bool) (l : Lab) (k : Forest Tag) (xs : List Expr) → marks (aside p k) ≡ 0
    → cost (labelled l (off p k xs)) ≡ lab_weight l + (weigh true (aside p k) + cost xs)
cost_own p l k xs e =
    omega (
      arith,
      cost_labelled l (off p k xs),
      ap cost (off_aside p k xs),
      append_cost (map branch (chains (aside p k))) xs,
      (chains_weigh (aside p k) e).0,
    )

weigh_ways : (p : Tag → Forest Tag → Bool) (k : Forest Tag) → weigh true k ≡ weigh true (on p k) + weigh true (aside p k)
weigh_ways p bare = refl
weigh_ways p (tree b j r) = go (p b j) (weigh_ways p r)
  where
    go : (x : Bool) → weigh true r ≡ weigh true (on p r) + weigh true (aside p r)
        → weigh true (tree b j r) ≡ weigh true (cond x (tree b j (on p r)) (on p r)) + weigh true (cond x (aside p r) (tree b j (aside p r)))
    go true ih = omega arith
    go false ih = omega arith

-- ------------------------------------------------------------------ the way to one mark, on which the other mark does not lie
module _ (q other : Tag → Bool) (both : (k : Forest Tag) → marks k ≡ count q k + count other k)
    (W : Forest Tag → List Expr) (next : Tag → Forest Tag → List Expr)
    (way-tree : (b : Tag) (j r : Forest Tag) → W (tree b j r) ≡ cond (in_tree q b j) (next b j) (W r)) (none : W bare ≡ [])
    (either : (b : Tag) (j : Forest Tag) → in_tree q b j ≡ true → either_in b j ≡ true)
    (cost-next : (b : Tag) (j : Forest Tag) → marks (aside (in_tree q) j) ≡ 0 → cost (next b j) ≡ 2 +
    (lab_weight b.lab + (weigh true (aside (in_tree q) j) + cost (W j)))) where
  abbrev p : Tag → Forest Tag → Bool
  p = in_tree q

  abbrev Weighed : List Expr → Bool → Forest Tag → Type 0
  Weighed xs x f = bit x + count q f ≡ 1 → count other f ≡ 0 → cost xs ≡ weigh true f

  higher : (b : Tag) (j : Forest Tag) → Weighed (W j) (q b) (on p j) → Weighed (next b j) false (tree b j bare)
  higher b j ih one no_other = go (p b j) refl (in_tells q b j)
    where
      go : (x : Bool) → p b j ≡ x → Tells x (bit (q b) + count q j) → cost (next b j) ≡ weigh true (tree b j bare)
      go false e t = absurd (omega arith)
      go true e t =
          let c = count_ways q p j in let a = aside_count q j in let d = count_ways other p j in
          let m : marks (aside p j) ≡ 0 = omega (arith, both (aside p j)) in
          rw (either b j e) (omega (arith, ih (omega arith) (omega arith), cost-next b j m, weigh_ways p j))

  way_weigh : (x : Bool) (k : Forest Tag) → bit x + count q k ≡ 1 → count other (on p k) ≡ 0 → cost (W k) ≡ weigh true (on p k)
  way_weigh x k one no_other =
      let c = count_ways q p k in let a = aside_count q k in
      way_ind q W next way-tree Weighed (λ _ _. ap cost none) higher x k one (omega arith) no_other

or_right : (x y : Bool) → y ≡ true → (x || y) ≡ true
or_right true y e = refl
or_right false y e = e

or_left : (x y : Bool) → x ≡ true → (x || y) ≡ true
or_left x y e = rw e

ups_weigh : (x : Bool) (k : Forest Tag) → bit x + count src k ≡ 1 → count dst (on src_in k) ≡ 0 → cost (ups k) ≡ weigh true (on src_in k)
ups_weigh = way_weigh src dst (λ k. refl) ups (λ b j. ups j ++ labelled b.lab (off src_in j (parent ∷ []))) (λ b j r. refl) refl
    (λ b j e. or_left (src_in b j) (dst_in b j) e) (λ b j m. omega
    (arith, append_cost (ups j) (labelled b.lab (off src_in j (parent ∷ []))), cost_own src_in b.lab j (parent ∷ []) m))

downs_weigh : (x : Bool) (k : Forest Tag) → bit x + count dst k ≡ 1 → count src (on dst_in k) ≡ 0 → cost (downs k) ≡ weigh true (on dst_in k)
downs_weigh = way_weigh dst src (λ k. omega arith) downs (λ b j. child ∷ labelled b.lab (off dst_in j (downs j))) (λ b j r. refl) refl
    (λ b j e. or_right (src_in b j) (dst_in b j) e) (λ b j m. omega (arith, cost_own dst_in b.lab j (downs j) m))

-- ------------------------------------------------------------------ the factors
-- the second projection of the way above, where there is one
abbrev above_weight : List Expr → ℕ
above_weight [] = 0
above_weight (x ∷ xs) = suc (cost (x ∷ xs))

cost_above : (way l : List Expr) → cost (above_factor way l) ≡ above_weight way + cost l
cost_above [] l = omega arith
cost_above (x ∷ xs) l = omega (arith, joined_cost x xs, length-append (word_of (all (x ∷ xs))) (6 ∷ []))

above_some : (way : List Expr) → 1 ≤ cost way → above_weight way ≡ suc (cost way)
above_some [] l = absurd (omega arith)
above_some (x ∷ xs) l = refl

-- t is the node a, or lies below it
abbrev lift : List Expr → Forest Tag → ℕ
lift way k = cond (some_tree both_in k) (suc (cost way)) (above_weight way)

cost_around : (way : List Expr) (a : Tag) (k : Forest Tag) → bit (src a) + count src k ≡ 1 → bit (dst a) + count dst k ≡ 1 → some_tree both_in k ≡ false
    → cost (around way a k) ≡ lift way k + (lab_weight a.lab + weigh true k)
cost_around way a k s d e =
    let (cd, cs, m) = either_counts k e in
    rw e
    (omega (
      arith,
      append_cost (ups k) (above_factor way (labelled a.lab (off either_in k (downs k)))),
      cost_above way (labelled a.lab (off either_in k (downs k))),
      cost_own either_in a.lab k (downs k) m,
      ups_weigh (src a) k s cd,
      downs_weigh (dst a) k d cs,
      weigh_ways src_in k,
      weigh_ways dst_in (aside src_in k),
      ap (weigh true) (aside_either k),
      ap (weigh true) (on_dst k e),
    ))

-- the first of the trees that are so is so
on_first : (p : Tag → Forest Tag → Bool) (k : Forest Tag) (b : Tag) (j r : Forest Tag) → on p k ≡ tree b j r → (p b j ≡ true) × (some_tree p k ≡ true)
on_first p bare b j r e = absurd (omega (arith, ap size e))
on_first p (tree c i s) b j r e = go (p c i) refl e (on_first p s b j r)
  where
    first : Forest Tag → Bool
    first bare = false
    first (tree a k f) = p a k

    go : (x : Bool) → p c i ≡ x → cond x (tree c i (on p s)) (on p s) ≡ tree b j r → (on p s ≡ tree b j r → (p b j ≡ true) × (some_tree p s ≡ true))
        → (p b j ≡ true) × ((x || some_tree p s) ≡ true)
    go true y z ih = (sym (ap first z) ∙ y, refl)
    go false y z ih = ih z

both_either : (b : Tag) (j : Forest Tag) → both_in b j ≡ true → either_in b j ≡ true
both_either b j = go (src_in b j) (dst_in b j)
  where
    go : (x y : Bool) → (x && y) ≡ true → (x || y) ≡ true
    go true y e = refl
    go false y e = never cc

cost_longer : (way : List Expr) (a : Tag) (k : Forest Tag) → marks (aside both_in k) ≡ 0
    → cost (longer way a k) ≡ cost way + (lab_weight a.lab + (weigh true (aside both_in k) + 2))
cost_longer way a k m = omega (arith, append_cost way (labelled a.lab (off both_in k (child ∷ []))), cost_own both_in a.lab k (child ∷ []) m)

lift_some : (way : List Expr) (k : Forest Tag) → 1 ≤ cost way → lift way k ≡ suc (cost way)
lift_some way k l = go (some_tree both_in k)
  where
    go : (x : Bool) → cond x (suc (cost way)) (above_weight way) ≡ suc (cost way)
    go true = refl
    go false = above_some way l

abbrev Weighs : List Expr → List Expr → Tag → Forest Tag → Type 0
Weighs xs way a k = cost xs ≡ lift way k + (lab_weight a.lab + weigh true k)

one_higher : (xs way : List Expr) (a : Tag) (k : Forest Tag) (b : Tag) (j : Forest Tag) → bit (src a) ≡ 0 → bit (dst a) ≡ 0
    → on both_in k ≡ tree b j bare → marks (aside both_in k) ≡ 0 → Weighs xs (longer way a k) b j → Weighs xs way a k
one_higher xs way a k b j s d o m w =
    let (so, some) = on_first both_in k b j bare o in
    let l = cost_longer way a k m in
    let v : weigh true (tree b j bare) ≡ 2 + (lab_weight b.lab + weigh true j) + 0 = rw (both_either b j so) refl in
    rw some (omega (arith, w, lift_some (longer way a k) j (omega arith), weigh_ways both_in k, ap (weigh true) o))

-- the factors of a tree with one s and one d
pub factors_weigh : (a : Tag) (k : Forest Tag) → count src (tree a k bare) ≡ 1 → count dst (tree a k bare) ≡ 1
    → cost (factors (tree a k bare) []) ≡ bit (some_tree both_in k) + (lab_weight a.lab + weigh true k)
factors_weigh a k s d = factors_ind Weighs cost_around one_higher a k s d
    ∙ ap (λ (m : ℕ). m + (lab_weight a.lab + weigh true k)) (go (some_tree both_in k))
  where
    go : (x : Bool) → cond x (suc (cost [])) (above_weight []) ≡ bit x
    go true = refl
    go false = refl

-- the word of some factors is one byte shorter than they weigh; "with no factor at all the word is 1"
pub word_weigh : (xs : List Expr) → (cost xs ≡ 0 → length (word_of (all xs)) ≡ 1) × (1 ≤ cost xs → suc (length (word_of (all xs))) ≡ cost xs)
word_weigh [] = (λ _. refl, λ l. absurd (omega arith))
word_weigh (x ∷ xs) = (λ z. absurd (omega arith), λ _. joined_cost x xs)
