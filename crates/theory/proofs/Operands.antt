-- How many operands are pending while the word of a normal form is read: never more than 256 for a tree of at most 256 nodes
-- (01, refusal 4). In truth it is about half as many as there are nodes; 132 is what comes out here.
use mathlib.Core.List.{List, [], ◌∷◌, map}
use Prim.Native.Nat.{ℕ, zero, suc, ◌+◌, ◌≤◌, max}
use native.Mathlib.Omega.{arith}
use Rattle.meaning.specs.Expression.{Expr, empty, self, child, parent, label, comp, inter, proj1, proj2, inv}
use Rattle.meaning.specs.TreeQuery.{Lab, any, lab}
use Rattle.meaning.specs.Tree.{Forest, bare, tree, Tag, size}
use Rattle.meaning.specs.Normal.{joined, all, labelled, branch, onward, chains, factors, normal}
use Rattle.theory.proofs.Factors.{Each, Parts, labelled_each, factors_each}

-- the most operands pending while the signs of an expression are read
abbrev pub need : Expr → ℕ
need empty = 1
need self = 1
need child = 1
need parent = 1
need (label l) = 1
need (comp e f) = max (need e) (suc (need f))
need (inter e f) = max (need e) (suc (need f))
need (proj1 e) = need e
need (proj2 e) = need e
need (inv e) = need e

-- h operands are enough
abbrev Small : ℕ → Expr → Type 0
Small h e = need e ≤ h

-- factors joined from the left need one operand more than one of them
joined_need : (h : ℕ) (x : Expr) (ys : List Expr) → need x ≤ suc h → Each (Small h) ys → need (joined x ys) ≤ suc h
joined_need h x [] p q = p
joined_need h x (y ∷ ys) p (q, qs) = joined_need h (comp x y) ys (omega arith) qs

all_need : (h : ℕ) (xs : List Expr) → Each (Small h) xs → need (all xs) ≤ suc h
all_need h [] p = omega arith
all_need h (x ∷ xs) (p, ps) = joined_need h x xs (omega arith) ps

lab_need : (h : ℕ) (l : Lab) → 1 ≤ h → Each (Small h) (labelled l [])
lab_need h any p = tt
lab_need h (lab l) p = (p, tt)

-- brothers below a node: as branches, one projection each, and as what goes on in the node's chain.
-- Only where brothers are several does the chain need one operand more than a brother's own: so h operands are enough for 2 h nodes or so
abbrev AsBranches : Forest Tag → Type 0
AsBranches j = (h : ℕ) → size j + 3 ≤ h + h → Each (Small h) (map branch (chains j))

abbrev AsOnward : Forest Tag → Type 0
AsOnward j = (h : ℕ) → size j + 2 ≤ h + h → Each (Small h) (onward (chains j))

chain_need : (h : ℕ) (b : Tag) (j : Forest Tag) → AsOnward j → size j + 2 ≤ h + h → Each (Small h) (child ∷ labelled b.lab (onward (chains j)))
chain_need h b j ih e = (omega arith, labelled_each (Small h) b.lab (onward (chains j)) (lab_need h b.lab (omega arith)) (ih h e))

branch_need : (h : ℕ) (b : Tag) (j : Forest Tag) → AsOnward j → size j + 4 ≤ h + h → need (branch (child ∷ labelled b.lab (onward (chains j)))) ≤ h
branch_need zero b j ih e = absurd (omega arith)
branch_need (suc h) b j ih e = all_need h (child ∷ labelled b.lab (onward (chains j))) (chain_need h b j ih (omega arith))

chains_need : (j : Forest Tag) → AsBranches j × AsOnward j
chains_need bare = (λ h e. tt, λ h e. tt)
chains_need (tree b j r) = go r (chains_need j).1 (chains_need r).0
  where
    go : (r' : Forest Tag) → AsOnward j → AsBranches r' → AsBranches (tree b j r') × AsOnward (tree b j r')
    go bare ij ir = (λ h e. (branch_need h b j ij (omega arith), tt), λ h e. chain_need h b j ij (omega arith))
    go (tree c i s) ij ir =
        (λ h e. (branch_need h b j ij (omega arith), ir h (omega arith)), λ h e. (branch_need h b j ij (omega arith), ir h (omega arith)))

parts_need : (h : ℕ) (f : Forest Tag) → size f + 3 ≤ h + h → Parts (Small h) f
parts_need h bare e = tt
parts_need h (tree b j r) e =
    (lab_need h b.lab (omega arith), branch_need h b j (chains_need j).1 (omega arith), parts_need h j (omega arith), parts_need h r (omega arith))

-- "it is always accepted as a word": refusal 4 never comes
pub normal_need : (f : Forest Tag) → size f ≤ 256 → need (normal f) ≤ 256
normal_need bare e = omega arith
normal_need (tree a k r) e =
    let f : Forest Tag = tree a k r in
    let parts : Parts (Small 130) f = parts_need 130 f (omega arith) in
    let each : Each (Small 131) (factors f []) = factors_each (Small 130) (Small 131) (omega arith) (omega arith) (λ x p. omega arith) (all_need 130) f [] parts tt in
    let x = all_need 131 (factors f []) each in omega arith
