-- The normal form (01, Normal form), as an expression and as bytes.
use Rattle.std.specs.Prelude.{Bool, false, ◌&&◌, ◌||◌, cond, List, [], ◌∷◌, ◌++◌, map, ℕ, ◌+◌}
use Rattle.std.proofs.Math.Option.{Option}
use Rattle.meaning.specs.Expression.{Expr, empty, self, child, parent, label, comp, inter, proj1, proj2, inv}
use Rattle.meaning.specs.TreeQuery.{Lab, any, lab, Query}
use Rattle.meaning.specs.Tree.{Forest, bare, tree, Tag}
use Rattle.meaning.specs.Number.{num}
use Rattle.meaning.specs.Image.{minimal_tree}

-- "Factors are joined from the left (x y 4 z 4)."
abbrev pub joined : Expr → List Expr → Expr
joined x [] = x
joined x (y ∷ ys) = joined (comp x y) ys

-- "With no factor at all the word is 1."
abbrev pub all : List Expr → Expr
all [] = self
all (x ∷ xs) = joined x xs

-- ------------------------------------------------------------------ branches and chains
-- "its label, if any, and then" the rest
abbrev pub labelled : Lab → List Expr → List Expr
labelled any xs = xs
labelled (lab l) xs = label l ∷ xs

-- "A branch is written as a chain", under one first projection
abbrev pub branch : List Expr → Expr
branch c = proj1 (all c)

-- "if it has exactly one child, the chain goes on with that child; if it has more, one first projection each, in image order"
abbrev pub onward : List (List Expr) → List Expr
onward [] = []
onward (c ∷ []) = c
onward (c ∷ (d ∷ cs)) = map branch (c ∷ (d ∷ cs))

-- the chain of each tree: "child, the node's label, and then" what goes on below it
abbrev pub chains : Forest Tag → List (List Expr)
chains bare = []
chains (tree b j r) = (child ∷ labelled b.lab (onward (chains j))) ∷ chains r

-- ------------------------------------------------------------------ where s and d stand
-- some node of the forest is so
abbrev pub holds : (Tag → Bool) → Forest Tag → Bool
holds p bare = false
holds p (tree a k r) = p a || (holds p k || holds p r)

-- the node or one below it is so
abbrev pub in_tree : (Tag → Bool) → Tag → Forest Tag → Bool
in_tree p a k = p a || holds p k

abbrev pub src_in : Tag → Forest Tag → Bool
src_in a k = in_tree (λ t. t.src) a k

abbrev pub dst_in : Tag → Forest Tag → Bool
dst_in a k = in_tree (λ t. t.dst) a k

abbrev pub both_in : Tag → Forest Tag → Bool
both_in a k = src_in a k && dst_in a k

abbrev pub either_in : Tag → Forest Tag → Bool
either_in a k = src_in a k || dst_in a k

-- some tree of the forest is so
abbrev pub some_tree : (Tag → Forest Tag → Bool) → Forest Tag → Bool
some_tree p bare = false
some_tree p (tree b j r) = p b j || some_tree p r

-- ------------------------------------------------------------------ the factors
-- "one first projection for each child off those ways, in image order", and then the rest
abbrev pub off : (Tag → Forest Tag → Bool) → Forest Tag → List Expr → List Expr
off p bare l = l
off p (tree b j r) l = cond (p b j) (off p r l) (branch (child ∷ labelled b.lab (onward (chains j))) ∷ off p r l)

-- "for each node from s up to just below t, its own factors and then parent"; the forest is what lies below t
abbrev pub ups : Forest Tag → List Expr
ups bare = []
ups (tree b j r) = cond (src_in b j) (ups j ++ labelled b.lab (off src_in j (parent ∷ []))) (ups r)

-- "for each node below t down to d, child and its own factors"
abbrev pub downs : Forest Tag → List Expr
downs bare = []
downs (tree c i r) = cond (dst_in c i) (child ∷ labelled c.lab (off dst_in i (downs i))) (downs r)

-- "if t is not the top, one second projection of the way from the top down to t"
abbrev pub above_factor : List Expr → List Expr → List Expr
above_factor [] l = l
above_factor (x ∷ xs) l = proj2 (all (x ∷ xs)) ∷ l

-- the way above, one node longer: "own factors of each node above t, each followed by child"
abbrev pub longer : List Expr → Tag → Forest Tag → List Expr
longer way a k = way ++ labelled a.lab (off both_in k (child ∷ []))

-- the factors where the node is t: up from s, the way above, t's own factors, down to d
abbrev pub around : List Expr → Tag → Forest Tag → List Expr
around way a k = ups k ++ above_factor way (labelled a.lab (off either_in k (downs k)))

-- the factors in order. "t is the lowest node above or at both s and d": where a child holds both, t lies there or below
abbrev pub factors : Forest Tag → List Expr → List Expr
factors bare way = []
factors (tree a k r) way = cond (both_in a k) (cond (some_tree both_in k) (factors k (longer way a k)) (around way a k)) (factors r way)

-- "Empty is the word 0."
abbrev pub normal : Forest Tag → Expr
normal bare = empty
normal (tree a k r) = all (factors (tree a k r) [])

-- the normal form of a query as an expression
abbrev pub normal_of : Option Query → Expr
normal_of Q = normal (minimal_tree Q)

-- ------------------------------------------------------------------ bytes
-- the word of an expression, in postfix order
abbrev pub word_of : Expr → List ℕ
word_of empty = 0 ∷ []
word_of self = 1 ∷ []
word_of child = 2 ∷ []
word_of parent = 3 ∷ []
word_of (label l) = num (9 + l)
word_of (comp e f) = word_of e ++ (word_of f ++ (4 ∷ []))
word_of (proj1 e) = word_of e ++ (5 ∷ [])
word_of (proj2 e) = word_of e ++ (6 ∷ [])
word_of (inter e f) = word_of e ++ (word_of f ++ (7 ∷ []))
word_of (inv e) = word_of e ++ (8 ∷ [])

abbrev pub normal_form : Option Query → List ℕ
normal_form Q = word_of (normal_of Q)
