-- Building the tree query of an expression by gluing (01, Tree queries; paper, figures 9 and 10). None is empty.
-- "Gluing two nodes glues their parents too, level by level: between two trees until one of them has no further ancestor, inside one tree
-- until the two ancestors are the same node. It fails, giving empty, on two different labels, or inside one tree when the two lie at
-- different depths."
use Rattle.std.specs.Prelude.{◌≡◌, [], ◌∷◌, ◌++◌, map, ℕ, zero, suc, ◌+◌, ◌-◌, length, set}
use Rattle.std.proofs.Math.Option.{Option, none, some}
use Rattle.std.proofs.Math.Decide.{ℕ_discrete, dec_lt}
use Rattle.meaning.specs.Basics.{pick, mapped}
use Rattle.meaning.specs.Expression.{Expr, empty, self, child, parent, label, comp, inter, proj1, proj2, inv}
use Rattle.meaning.specs.TreeQuery.{Lab, any, lab, Row, node, Table, at, Query}

-- "Wildcard glued to a label is that label"; two different labels do not meet
abbrev pub meet : Lab → Lab → Option Lab
meet any b = some b
meet (lab a) any = some (lab a)
meet (lab a) (lab b) = pick (ℕ_discrete a b) (some (lab a)) none

-- ------------------------------------------------------------------ one row stands for two
-- the table without row y
abbrev pub without : Table → ℕ → Table
without [] y = []
without (r ∷ T) zero = T
without (r ∷ T) (suc y) = r ∷ without T y

-- x stands for y
abbrev pub move : ℕ → ℕ → ℕ → ℕ
move x y i = pick (ℕ_discrete i y) x i

-- the number of row i once row y is out and x stands for it: the rows behind y count one less
abbrev pub moved : ℕ → ℕ → ℕ → ℕ
moved x y i = pick (dec_lt y (move x y i)) (move x y i - 1) (move x y i)

abbrev pub relink : (ℕ → ℕ) → Row → Row
relink f (node u l) = node (mapped f u) l

-- the parent of whichever has one
abbrev pub or_else : Option ℕ → Option ℕ → Option ℕ
or_else none v = v
or_else (some p) v = some p

-- y is taken out, x stands for it with parent u and label l
abbrev pub merged : Table → ℕ → ℕ → Option ℕ → Lab → Table
merged T x y u l = set (map (relink (moved x y)) (without T y)) (moved x y x) (node (mapped (moved x y) u) l)

-- ------------------------------------------------------------------ level by level
-- a table after gluing, and where each old row went
pub record Glued : Type 0 where
  pub rows : Table
  pub to : ℕ → ℕ

abbrev pub after : (ℕ → ℕ) → Option Glued → Option Glued
after f none = none
after f (some g) = some (record { rows = g.rows; to = λ i. g.to (f i) })

-- the parents: where both have one, those are glued next
abbrev pub glue_link : (Table → ℕ → ℕ → Option Glued) → Table → ℕ → ℕ → Option ℕ → Option ℕ → Option Glued
glue_link rec T x y (some p) (some q) = after (moved x y) (rec T (moved x y p) (moved x y q))
glue_link rec T x y (some p) none = some (record { rows = T; to = moved x y })
glue_link rec T x y none v = some (record { rows = T; to = moved x y })

-- the labels: they meet, or gluing fails
abbrev pub glue_lab : (Table → ℕ → ℕ → Option Glued) → Table → ℕ → ℕ → Option ℕ → Option ℕ → Option Lab → Option Glued
glue_lab rec T x y u v none = none
glue_lab rec T x y u v (some m) = glue_link rec (merged T x y (or_else u v) m) x y u v

abbrev pub glue_pair : (Table → ℕ → ℕ → Option Glued) → Table → ℕ → ℕ → Option Row → Option Row → Option Glued
glue_pair rec T x y none r = none
glue_pair rec T x y (some (node u l)) none = none
glue_pair rec T x y (some (node u l)) (some (node v k)) = glue_lab rec T x y u v (meet l k)

-- the same node: done; two nodes: y is glued to x
abbrev pub glue_step : (Table → ℕ → ℕ → Option Glued) → Table → (x y : ℕ) → Dec (x ≡ y) → Option Glued
glue_step rec T x y (yes e) = some (record { rows = T; to = λ i. i })
glue_step rec T x y (no n) = glue_pair rec T x y (at T x) (at T y)

-- x and y glued in one table; each step takes a row out, so the number of rows is enough fuel
abbrev pub glue : ℕ → Table → ℕ → ℕ → Option Glued
glue zero T x y = none
glue (suc n) T x y = glue_step (glue n) T x y (ℕ_discrete x y)

-- ------------------------------------------------------------------ between two trees, and inside one
-- two tables side by side: the rows of the second are numbered behind those of the first
abbrev pub shift : Table → ℕ → ℕ
shift A j = length A + j

abbrev pub join : Table → Table → Table
join A B = A ++ map (relink (shift A)) B

-- node b of B glued to node a of A
abbrev pub across : Table → ℕ → Table → ℕ → Option Glued
across A a B b = glue (length (join A B)) (join A B) a (length A + b)

-- how many edges lead from a row up to the top; there are fewer than rows
abbrev pub depth_row : (ℕ → ℕ) → Option Row → ℕ
depth_row rec none = 0
depth_row rec (some (node none l)) = 0
depth_row rec (some (node (some p) l)) = suc (rec p)

abbrev pub depth : ℕ → Table → ℕ → ℕ
depth zero T i = 0
depth (suc n) T i = depth_row (depth n T) (at T i)

-- y glued to x in one tree, if they lie at one depth
abbrev pub within : Table → ℕ → ℕ → Option Glued
within T x y = pick (ℕ_discrete (depth (length T) T x) (depth (length T) T y)) (glue (length T) T x y) none

-- ------------------------------------------------------------------ the ten signs
-- a glued table with its two marks
abbrev pub placed : Option Glued → ℕ → ℕ → Option Query
placed none s d = none
placed (some g) s d = some (record { rows = g.rows; s = g.to s; d = g.to d })

-- "Composition glues the first's d to the second's s"
abbrev pub composed : Query → Query → Option Query
composed P Q = placed (across P.rows P.d Q.rows Q.s) P.s (length P.rows + Q.d)

abbrev pub then_within : Option Glued → ℕ → ℕ → ℕ → Option Query
then_within none s d d' = none
then_within (some g) s d d' = placed (within g.rows (g.to d) (g.to d')) (g.to s) (g.to d)

-- "intersection glues s to s, then d to d in that result"
abbrev pub intersected : Query → Query → Option Query
intersected P Q = then_within (across P.rows P.s Q.rows Q.s) P.s P.d (length P.rows + Q.d)

-- "Empty in any operand gives empty."
abbrev pub two : (Query → Query → Option Query) → Option Query → Option Query → Option Query
two f none q = none
two f (some P) none = none
two f (some P) (some Q) = f P Q

-- "self and a label give one node"
abbrev pub one_node : Lab → Query
one_node l = record { rows = node none l ∷ []; s = 0; d = 0 }

-- "child a top s with one child d; parent the same with s and d exchanged"
abbrev pub two_nodes : ℕ → ℕ → Query
two_nodes s d = record { rows = node none any ∷ node (some 0) any ∷ []; s = s; d = d }

-- "Projections move one mark to the other's node, inverse exchanges them."
abbrev pub both_at_s : Query → Query
both_at_s Q = record { rows = Q.rows; s = Q.s; d = Q.s }

abbrev pub both_at_d : Query → Query
both_at_d Q = record { rows = Q.rows; s = Q.d; d = Q.d }

abbrev pub exchanged : Query → Query
exchanged Q = record { rows = Q.rows; s = Q.d; d = Q.s }

-- the plain tree query of an expression
abbrev pub plain : Expr → Option Query
plain empty = none
plain self = some (one_node any)
plain (label l) = some (one_node (lab l))
plain child = some (two_nodes 0 1)
plain parent = some (two_nodes 1 0)
plain (comp e f) = two composed (plain e) (plain f)
plain (inter e f) = two intersected (plain e) (plain f)
plain (proj1 e) = mapped both_at_s (plain e)
plain (proj2 e) = mapped both_at_d (plain e)
plain (inv e) = mapped exchanged (plain e)
