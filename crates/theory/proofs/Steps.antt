-- The normal form of a tree has a step for each edge of the tree (01, Normal form: "its steps are the minimal node count less one").
use mathlib.Core.Path.{◌≡◌, refl, ap}
use mathlib.Core.Bool.{Bool, false}
use mathlib.Core.List.{List, [], ◌∷◌, ◌++◌, map}
use Prim.Native.Nat.{ℕ, suc, ◌+◌}
use native.Mathlib.Omega.{arith}
use Rattle.meaning.specs.Expression.{Expr, child, parent, comp, steps}
use Rattle.meaning.specs.TreeQuery.{Lab, any, lab}
use Rattle.meaning.specs.Tree.{Forest, bare, tree, Tag, size}
use Rattle.meaning.specs.Normal.{joined, all, labelled, branch, onward, chains, src_in, dst_in, both_in, either_in, some_tree, off, ups, downs, above_factor, longer, around, factors, normal}
use Rattle.theory.proofs.Count.{bit, count, src, dst, marks}
use Rattle.theory.proofs.Ways.{on, aside, off_aside, size_ways, aside_either, on_dst, way_ind, factors_ind}

-- ------------------------------------------------------------------ steps of a list of factors
abbrev total : List Expr → ℕ
total [] = 0
total (x ∷ xs) = steps x + total xs

joined_steps : (x : Expr) (ys : List Expr) → steps (joined x ys) ≡ steps x + total ys
joined_steps x [] = omega arith
joined_steps x (y ∷ ys) = let z = joined_steps (comp x y) ys in omega arith

all_steps_lem : (xs : List Expr) → steps (all xs) ≡ total xs
all_steps_lem [] = refl
all_steps_lem (x ∷ xs) = joined_steps x xs

app_steps : (xs ys : List Expr) → total (xs ++ ys) ≡ total xs + total ys
app_steps [] ys = omega arith
app_steps (x ∷ xs) ys = let z = app_steps xs ys in omega arith

labelled_steps : (l : Lab) (xs : List Expr) → total (labelled l xs) ≡ total xs
labelled_steps any xs = refl
labelled_steps (lab l) xs = omega arith

-- ------------------------------------------------------------------ branches and chains
abbrev totals : List (List Expr) → ℕ
totals [] = 0
totals (c ∷ cs) = total c + totals cs

branches_steps : (cs : List (List Expr)) → total (map branch cs) ≡ totals cs
branches_steps [] = refl
branches_steps (c ∷ cs) = let x = all_steps_lem c in let y = branches_steps cs in omega arith

onward_steps : (cs : List (List Expr)) → total (onward cs) ≡ totals cs
onward_steps [] = refl
onward_steps (c ∷ []) = omega arith
onward_steps (c ∷ (d ∷ cs)) = branches_steps (c ∷ (d ∷ cs))

chains_steps : (j : Forest Tag) → totals (chains j) ≡ size j
chains_steps bare = refl
chains_steps (tree b j r) =
    let x = labelled_steps b.lab (onward (chains j)) in let y = onward_steps (chains j) in
    let z = chains_steps j in let w = chains_steps r in omega arith

-- a node's own factors have the steps of the children off the way
own_steps : (l : Lab) (p : Tag → Forest Tag → Bool) (k : Forest Tag) (xs : List Expr) → total (labelled l (off p k xs)) ≡ size (aside p k) + total xs
own_steps l p k xs =
    let A : Forest Tag = aside p k in
    let w = labelled_steps l (off p k xs) in let o = ap total (off_aside p k xs) in
    let x = app_steps (map branch (chains A)) xs in let y = branches_steps (chains A) in let z = chains_steps A in omega arith

-- a node's own factors behind others, and then one step
step_steps : (xs : List Expr) (l : Lab) (p : Tag → Forest Tag → Bool) (k : Forest Tag) (x : Expr) → steps x ≡ 1
    → total (xs ++ labelled l (off p k (x ∷ []))) ≡ suc (total xs + size (aside p k))
step_steps xs l p k x e = let y = app_steps xs (labelled l (off p k (x ∷ []))) in let z = own_steps l p k (x ∷ []) in omega arith

-- ------------------------------------------------------------------ the ways
ups_steps : (x : Bool) (k : Forest Tag) → bit x + count src k ≡ 1 → total (ups k) ≡ size (on src_in k)
ups_steps =
    way_ind src ups (λ b j. ups j ++ labelled b.lab (off src_in j (parent ∷ []))) (λ b j r. refl) (λ xs x f. total xs ≡ size f) refl
    (λ b j e. let y = step_steps (ups j) b.lab src_in j parent refl in let z = size_ways src_in j in omega arith)

downs_steps : (x : Bool) (k : Forest Tag) → bit x + count dst k ≡ 1 → total (downs k) ≡ size (on dst_in k)
downs_steps =
    way_ind dst downs (λ b j. child ∷ labelled b.lab (off dst_in j (downs j))) (λ b j r. refl) (λ xs x f. total xs ≡ size f) refl
    (λ b j e. let y = own_steps b.lab dst_in j (downs j) in let z = size_ways dst_in j in omega arith)

above_steps : (way l : List Expr) → total (above_factor way l) ≡ total way + total l
above_steps [] l = omega arith
above_steps (x ∷ xs) l = let z = joined_steps x xs in omega arith

around_steps : (way : List Expr) (a : Tag) (k : Forest Tag) → bit (src a) + count src k ≡ 1 → bit (dst a) + count dst k ≡ 1
    → some_tree both_in k ≡ false
    → total (around way a k) ≡ total way + size k
around_steps way a k s d e =
    let own : List Expr = labelled a.lab (off either_in k (downs k)) in
    let x = app_steps (ups k) (above_factor way own) in let y = above_steps way own in let z = own_steps a.lab either_in k (downs k) in
    let u = ups_steps (src a) k s in let w = downs_steps (dst a) k d in
    let v = size_ways src_in k in let v₁ = size_ways dst_in (aside src_in k) in
    let o = ap size (on_dst k e) in let o₁ = ap size (aside_either k) in omega arith

-- "its steps are the minimal node count less one"; the premises say that the tree has one s and one d
pub normal_steps : (a : Tag) (k : Forest Tag) → count src (tree a k bare) ≡ 1 → count dst (tree a k bare) ≡ 1
    → suc (steps (normal (tree a k bare))) ≡ size (tree a k bare)
normal_steps a k s d =
    let x : total (factors (tree a k bare) []) ≡ 0 + size k = factors_ind (λ xs way b j. total xs ≡ total way + size j) around_steps higher a k s d in
    let y = all_steps_lem (factors (tree a k bare) []) in omega arith
  where
    higher : (xs way : List Expr) (c : Tag) (i : Forest Tag) (b : Tag) (j : Forest Tag) → bit (src c) ≡ 0 → bit (dst c) ≡ 0
        → on both_in i ≡ tree b j bare → marks (aside both_in i) ≡ 0 → total xs ≡ total (longer way c i) + size j → total xs ≡ total way + size i
    higher xs way c i b j cs cd o ca e =
        let x = step_steps way c.lab both_in i child refl in let y = size_ways both_in i in let z = ap size o in omega arith
