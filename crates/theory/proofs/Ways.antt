-- The brothers on a way and the brothers off it (01, Normal form: "each child off those ways"): together they are the forest,
-- in what they select and in number, and a node's own factors are the branches of those off the way. Two inductions walk the ways.
use mathlib.Core.Path.{◌≡◌, refl, sym, ap, subst, ◌∙◌}
use mathlib.Core.Logic.{◌↔◌}
use mathlib.Core.Option.{Option}
use mathlib.Core.Bool.{Bool, true, false, ◌&&◌, ◌||◌, cond}
use mathlib.Core.List.{List, [], ◌∷◌, ◌++◌, map}
use Prim.Native.Nat.{ℕ, ◌+◌, ◌≤◌}
use native.Mathlib.Omega.{arith}
use Rattle.meaning.specs.Document.{Doc}
use Rattle.meaning.specs.Expression.{Expr, child}
use Rattle.meaning.specs.Tree.{Forest, bare, tree, Tag, size, Lays}
use Rattle.meaning.specs.Normal.{labelled, branch, onward, chains, in_tree, src_in, dst_in, both_in, either_in, some_tree, off, longer, around, factors}
use Rattle.theory.proofs.Count.{bit, count, src, dst, marks, size_count, Tells, in_tells, in_true}
use Rattle.theory.proofs.Look.{never}

-- the trees that are so
abbrev pub on : (Tag → Forest Tag → Bool) → Forest Tag → Forest Tag
on p bare = bare
on p (tree b j r) = cond (p b j) (tree b j (on p r)) (on p r)

-- the trees that are not so
abbrev pub aside : (Tag → Forest Tag → Bool) → Forest Tag → Forest Tag
aside p bare = bare
aside p (tree b j r) = cond (p b j) (aside p r) (tree b j (aside p r))

pub off_aside : (p : Tag → Forest Tag → Bool) (k : Forest Tag) (l : List Expr) → off p k l ≡ map branch (chains (aside p k)) ++ l
off_aside p bare l = refl
off_aside p (tree b j r) l = go (p b j) (off_aside p r l)
  where
    e : Expr
    e = branch (child ∷ labelled b.lab (onward (chains j)))

    go : (x : Bool) → off p r l ≡ map branch (chains (aside p r)) ++ l
        → cond x (off p r l) (e ∷ off p r l) ≡ map branch (chains (cond x (aside p r) (tree b j (aside p r)))) ++ l
    go true ih = ih
    go false ih = ap (λ (z : List Expr). e ∷ z) ih

-- ------------------------------------------------------------------ together they are the forest
pub count_ways : (q : Tag → Bool) (p : Tag → Forest Tag → Bool) (k : Forest Tag) → count q k ≡ count q (on p k) + count q (aside p k)
count_ways q p bare = refl
count_ways q p (tree b j r) = go (p b j) (count_ways q p r)
  where
    go : (x : Bool) → count q r ≡ count q (on p r) + count q (aside p r)
        → count q (tree b j r) ≡ count q (cond x (tree b j (on p r)) (on p r)) + count q (cond x (aside p r) (tree b j (aside p r)))
    go true ih = omega arith
    go false ih = omega arith

pub size_ways : (p : Tag → Forest Tag → Bool) (k : Forest Tag) → size k ≡ size (on p k) + size (aside p k)
size_ways p k =
    let x = size_count k in let y = size_count (on p k) in let z = size_count (aside p k) in
    let w = count_ways (λ _. true) p k in omega arith

pub lays_ways : (D : Doc) (On : Tag → ℕ → Type 0) (p : Tag → Forest Tag → Bool) (k : Forest Tag) (v : Option ℕ)
    → Lays D On k v ↔ (Lays D On (on p k) v × Lays D On (aside p k) v)
lays_ways D On p bare v = (λ _. (tt, tt), λ _. tt)
lays_ways D On p (tree b j r) v = go (p b j) (lays_ways D On p r v)
  where
    go : (x : Bool) → Lays D On r v ↔ (Lays D On (on p r) v × Lays D On (aside p r) v)
        → Lays D On (tree b j r) v ↔ (Lays D On (cond x (tree b j (on p r)) (on p r)) v × Lays D On (cond x (aside p r) (tree b j (aside p r))) v)
    go true ih = (λ (s, l). ((s, (ih.0 l).0), (ih.0 l).1), λ (o, a). (o.0, ih.1 (o.1, a)))
    go false ih = (λ (s, l). ((ih.0 l).0, (s, (ih.0 l).1)), λ (o, a). (a.0, ih.1 (o, a.1)))

-- ------------------------------------------------------------------ the way to one mark
-- the mark lies on its way
pub aside_count : (q : Tag → Bool) (k : Forest Tag) → count q (aside (in_tree q) k) ≡ 0
aside_count q bare = refl
aside_count q (tree b j r) = go (in_tree q b j) (in_tells q b j) (aside_count q r)
  where
    go : (x : Bool) → Tells x (bit (q b) + count q j) → count q (aside (in_tree q) r) ≡ 0
        → count q (cond x (aside (in_tree q) r) (tree b j (aside (in_tree q) r))) ≡ 0
    go true t ih = ih
    go false t ih = omega arith

-- without the mark no tree holds it
on_none : (q : Tag → Bool) (p : Tag → Forest Tag → Bool) → ((b : Tag) (j : Forest Tag) → p b j ≡ true → 1 ≤ bit (q b) + count q j)
    → (k : Forest Tag) → count q k ≡ 0 → on p k ≡ bare
on_none q p h bare e = refl
on_none q p h (tree b j r) e = go (p b j) refl (on_none q p h r (omega arith))
  where
    go : (x : Bool) → p b j ≡ x → on p r ≡ bare → cond x (tree b j (on p r)) (on p r) ≡ bare
    go true y ih = let z = h b j y in absurd (omega arith)
    go false y ih = ih

-- ------------------------------------------------------------------ the ways to both
pub aside_either : (k : Forest Tag) → aside either_in k ≡ aside dst_in (aside src_in k)
aside_either bare = refl
aside_either (tree b j r) = go (src_in b j) (dst_in b j) refl (aside_either r)
  where
    A : Forest Tag
    A = aside src_in r

    go : (x y : Bool) → dst_in b j ≡ y → aside either_in r ≡ aside dst_in A
        → cond (x || y) (aside either_in r) (tree b j (aside either_in r)) ≡ aside dst_in (cond x A (tree b j A))
    go true y e ih = ih
    go false true e ih = ih ∙ ap (λ z. cond z (aside dst_in A) (tree b j (aside dst_in A))) (sym e)
    go false false e ih = ap (tree b j) ih ∙ ap (λ z. cond z (aside dst_in A) (tree b j (aside dst_in A))) (sym e)

-- where no tree holds both marks, the way to d is all off the way to s
pub on_dst : (k : Forest Tag) → some_tree both_in k ≡ false → on dst_in (aside src_in k) ≡ on dst_in k
on_dst bare e = refl
on_dst (tree b j r) e = go (src_in b j) (dst_in b j) refl e (λ e'. on_dst r e')
  where
    A : Forest Tag
    A = aside src_in r

    go : (x y : Bool) → dst_in b j ≡ y → ((x && y) || some_tree both_in r) ≡ false → (some_tree both_in r ≡ false → on dst_in A ≡ on dst_in r)
        → on dst_in (cond x A (tree b j A)) ≡ cond y (tree b j (on dst_in r)) (on dst_in r)
    go true true d z ih = never cc
    go true false d z ih = ih z
    go false y d z ih = ap (λ x. cond x (tree b j (on dst_in A)) (on dst_in A)) d ∙ ap (λ l. cond y (tree b j l) l) (ih z)

-- then each way holds its own mark alone, and off both there is none
pub either_counts : (k : Forest Tag) → some_tree both_in k ≡ false
    → (count dst (on src_in k) ≡ 0) × (count src (on dst_in k) ≡ 0) × (marks (aside either_in k) ≡ 0)
either_counts k e =
    let A : Forest Tag = aside src_in k in
    let o = on_dst k e in
    let os = ap (count src) o in let od = ap (count dst) o in let oa = ap marks (aside_either k) in
    let s = aside_count src k in let s₁ = count_ways src dst_in A in
    let d = aside_count dst k in
    let d₁ = aside_count dst A in
    let d₂ = count_ways dst src_in k in
    let d₃ = count_ways dst dst_in k in
    let d₄ = count_ways dst dst_in A in
    (omega arith, omega arith, omega arith)

-- a tree that holds both marks has them
both_true : (a : Tag) (k : Forest Tag) → both_in a k ≡ true → (1 ≤ bit (src a) + count src k) × (1 ≤ bit (dst a) + count dst k)
both_true a k = go (src_in a k) (dst_in a k) (in_tells src a k) (in_tells dst a k)
  where
    go : (x y : Bool) → Tells x (bit (src a) + count src k) → Tells y (bit (dst a) + count dst k) → (x && y) ≡ true
        → (1 ≤ bit (src a) + count src k) × (1 ≤ bit (dst a) + count dst k)
    go true true t u e = (t, u)
    go true false t u e = never cc
    go false y t u e = never cc

-- where a tree holds both marks, it alone does
on_both : (k : Forest Tag) → count src k ≤ 1 → count dst k ≤ 1 → some_tree both_in k ≡ true
    → (b : Tag) × (j : Forest Tag) × (on both_in k ≡ tree b j bare) × (1 ≤ count src k) × (1 ≤ count dst k) × (marks (aside both_in k) ≡ 0)
on_both bare s d e = never cc
on_both (tree b j r) s d e = go (both_in b j) refl e (on_both r (omega arith) (omega arith))
  where
    go : (x : Bool) → both_in b j ≡ x → (x || some_tree both_in r) ≡ true
        → (some_tree both_in r ≡ true → (c : Tag) × (i : Forest Tag) × (on both_in r ≡ tree c i bare) × (1 ≤ count src r) × (1 ≤ count dst r) × (marks (aside both_in r) ≡ 0))
        → (c : Tag) × (i : Forest Tag) × (cond x (tree b j (on both_in r)) (on both_in r) ≡ tree c i bare)
        × (1 ≤ count src (tree b j r)) × (1 ≤ count dst (tree b j r)) × (marks (cond x (aside both_in r) (tree b j (aside both_in r))) ≡ 0)
    go true y t ih =
        let (u, v) = both_true b j y in
        let w = count_ways src both_in r in let z = count_ways dst both_in r in
        (b, j, ap (tree b j) (on_none src both_in (λ c i q. (both_true c i q).0) r (omega arith)), omega arith, omega arith, omega arith)
    go false y t ih = let (c, i, o, u, v, w) = ih t in (c, i, o, omega arith, omega arith, omega arith)

-- a tree that has both marks holds them
top_both : (a : Tag) (k : Forest Tag) → count src (tree a k bare) ≡ 1 → count dst (tree a k bare) ≡ 1 → both_in a k ≡ true
top_both a k s d = go (src_in a k) (dst_in a k) (in_tells src a k) (in_tells dst a k)
  where
    go : (x y : Bool) → Tells x (bit (src a) + count src k) → Tells y (bit (dst a) + count dst k) → (x && y) ≡ true
    go true true t u = refl
    go true false t u = absurd (omega arith)
    go false y t u = absurd (omega arith)

-- ------------------------------------------------------------------ walking a way
-- W are the factors of the way to the one node marked q. What G says of them is so
-- where that node is the one above the forest, and, one node higher, where it was so below that node
module _
    (q : Tag → Bool) (W : Forest Tag → List Expr) (next : Tag → Forest Tag → List Expr)
    (way-tree : (b : Tag) (j r : Forest Tag) → W (tree b j r) ≡ cond (in_tree q b j) (next b j) (W r))
    (G : List Expr → Bool → Forest Tag → Type 0)
    (here : G (W bare) true bare)
    (higher : (b : Tag) (j : Forest Tag) → G (W j) (q b) (on (in_tree q) j) → G (next b j) false (tree b j bare))
  where
    -- the marked node is the one above the forest (x), or in the forest
    pub way_ind : (x : Bool) (k : Forest Tag) → bit x + count q k ≡ 1 → G (W k) x (on (in_tree q) k)
    way_ind true bare e = here
    way_ind false bare e = absurd (omega arith)
    way_ind x (tree b j r) e = rw (way-tree b j r) (go x (in_tree q b j) (in_tells q b j) e (way_ind (q b) j) (way_ind x r))
      where
        p : Tag → Forest Tag → Bool
        p = in_tree q

        go : (x' y : Bool) → Tells y (bit (q b) + count q j) → bit x' + count q (tree b j r) ≡ 1
            → (bit (q b) + count q j ≡ 1 → G (W j) (q b) (on p j)) → (bit x' + count q r ≡ 1 → G (W r) x' (on p r))
            → G (cond y (next b j) (W r)) x' (cond y (tree b j (on p r)) (on p r))
        go x' false t e' ij ir = ir (omega arith)
        go true true t e' ij ir = absurd (omega arith)
        go false true t e' ij ir = rw (on_none q p (in_true q) r (omega arith)) (higher b j (ij (omega arith)))

-- What G says of the factors of a tree behind a way from the top is so
-- where the tree's node is "the lowest node above or at both s and d", and, one node higher, where it was so of the child that holds both
module _
    (G : List Expr → List Expr → Tag → Forest Tag → Type 0)
    (lowest : (way : List Expr) (a : Tag) (k : Forest Tag) → bit (src a) + count src k ≡ 1 → bit (dst a) + count dst k ≡ 1
    → some_tree both_in k ≡ false → G (around way a k) way a k)
    (higher : (xs way : List Expr) (a : Tag) (k : Forest Tag) (b : Tag) (j : Forest Tag) → bit (src a) ≡ 0 → bit (dst a) ≡ 0
    → on both_in k ≡ tree b j bare → marks (aside both_in k) ≡ 0 → G xs (longer way a k) b j → G xs way a k)
  where
    abbrev First : List Expr → List Expr → Forest Tag → Type 0
    First xs way bare = ⊥
    First xs way (tree a k r) = G xs way a k

    walk : (f : Forest Tag) (way : List Expr) → count src f ≤ 1 → count dst f ≤ 1 → some_tree both_in f ≡ true → First (factors f way) way (on both_in f)
    walk bare way s d e = never cc
    walk (tree a k r) way s d e =
        go (both_in a k) refl e (walk k (longer way a k) (omega arith) (omega arith)) (walk r way (omega arith) (omega arith))
      where
        F : List Expr
        F = factors k (longer way a k)

        Below : Type 0
        Below = some_tree both_in k ≡ true → First F (longer way a k) (on both_in k)

        below : both_in a k ≡ true → Below → (y : Bool) → some_tree both_in k ≡ y → G (cond y F (around way a k)) way a k
        below x ih false e' = let (u, v) = both_true a k x in lowest way a k (omega arith) (omega arith) e'
        below x ih true e' =
            let (b, j, o, cs, cd, ca) = on_both k (omega arith) (omega arith) e' in
            higher F way a k b j (omega arith) (omega arith) o ca (subst (First F (longer way a k)) o (ih e'))

        go : (x : Bool) → both_in a k ≡ x → (x || some_tree both_in r) ≡ true → Below
            → (some_tree both_in r ≡ true → First (factors r way) way (on both_in r))
            → First (cond x (cond (some_tree both_in k) F (around way a k)) (factors r way)) way (cond x (tree a k (on both_in r)) (on both_in r))
        go true x e' ik ir = below x ik (some_tree both_in k) refl
        go false x e' ik ir = ir e'

    pub factors_ind : (a : Tag) (k : Forest Tag) → count src (tree a k bare) ≡ 1 → count dst (tree a k bare) ≡ 1
        → G (factors (tree a k bare) []) [] a k
    factors_ind a k s d =
        let b = top_both a k s d in
        let F : List Expr = factors (tree a k bare) [] in
        subst (λ x. First F [] (cond x (tree a k bare) bare)) b (walk (tree a k bare) [] (omega arith) (omega arith) (rw b refl))
