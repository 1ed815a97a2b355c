-- Which labels an expression and a tree bear.
use Prim.Native.Nat.{ℕ}
use Rattle.meaning.specs.Expression.{Expr, empty, self, child, parent, label, comp, inter, proj1, proj2, inv}
use Rattle.meaning.specs.TreeQuery.{Lab, any, lab}
use Rattle.meaning.specs.Tree.{Forest, bare, tree, Tag}

-- every label of the expression is so
abbrev pub LabelsIn : (ℕ → Type 0) → Expr → Type 0
LabelsIn P empty = Unit {0}
LabelsIn P self = Unit {0}
LabelsIn P child = Unit {0}
LabelsIn P parent = Unit {0}
LabelsIn P (label l) = P l
LabelsIn P (comp e f) = LabelsIn P e × LabelsIn P f
LabelsIn P (inter e f) = LabelsIn P e × LabelsIn P f
LabelsIn P (proj1 e) = LabelsIn P e
LabelsIn P (proj2 e) = LabelsIn P e
LabelsIn P (inv e) = LabelsIn P e

-- a wildcard bears none
abbrev pub LabIn : (ℕ → Type 0) → Lab → Type 0
LabIn P any = Unit {0}
LabIn P (lab l) = P l

-- every label of the forest is so
abbrev pub LabsIn : (ℕ → Type 0) → Forest Tag → Type 0
LabsIn P bare = Unit {0}
LabsIn P (tree a k r) = LabIn P a.lab × LabsIn P k × LabsIn P r
