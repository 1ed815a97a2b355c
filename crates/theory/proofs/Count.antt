-- How many nodes of a tree bear what is asked for, and that the normal form's Boolean tests say whether it is any.
use mathlib.Core.Path.{◌≡◌, refl, subst}
use mathlib.Core.Bool.{Bool, true, false, ◌||◌, cond}
use Prim.Native.Nat.{ℕ, ◌+◌, ◌≤◌}
use native.Mathlib.Omega.{arith}
use Rattle.meaning.specs.Tree.{Forest, bare, tree, Tag, size}
use Rattle.meaning.specs.Normal.{holds, in_tree}

abbrev pub bit : Bool → ℕ
bit x = cond x 1 0

-- the number of nodes whose tag is so
abbrev pub count : (Tag → Bool) → Forest Tag → ℕ
count p bare = 0
count p (tree a k r) = cond (p a) 1 0 + (count p k + count p r)

-- the node is s, the node is d
abbrev pub src : Tag → Bool
src t = t.src

abbrev pub dst : Tag → Bool
dst t = t.dst

-- the number of marks
abbrev pub marks : Forest Tag → ℕ
marks f = count src f + count dst f

pub size_count : (f : Forest Tag) → size f ≡ count (λ _. true) f
size_count bare = refl
size_count (tree a k r) = let x = size_count k in let y = size_count r in omega arith

-- the truth value says whether the number is above 0
abbrev pub Tells : Bool → ℕ → Type 0
Tells true n = 1 ≤ n
Tells false n = n ≡ 0

tells_one : (x : Bool) → Tells x (bit x)
tells_one true = omega arith
tells_one false = refl

tells_or : (x y : Bool) (m n : ℕ) → Tells x m → Tells y n → Tells (x || y) (m + n)
tells_or true true m n s t = omega arith
tells_or true false m n s t = omega arith
tells_or false true m n s t = omega arith
tells_or false false m n s t = omega arith

holds_tells : (q : Tag → Bool) (f : Forest Tag) → Tells (holds q f) (count q f)
holds_tells q bare = refl
holds_tells q (tree a k r) =
    tells_or (q a) (holds q k || holds q r) (bit (q a)) (count q k + count q r) (tells_one (q a))
    (tells_or (holds q k) (holds q r) (count q k) (count q r) (holds_tells q k) (holds_tells q r))

pub in_tells : (q : Tag → Bool) (a : Tag) (k : Forest Tag) → Tells (in_tree q a k) (bit (q a) + count q k)
in_tells q a k = tells_or (q a) (holds q k) (bit (q a)) (count q k) (tells_one (q a)) (holds_tells q k)

pub in_true : (q : Tag → Bool) (a : Tag) (k : Forest Tag) → in_tree q a k ≡ true → 1 ≤ bit (q a) + count q k
in_true q a k e = subst (λ x. Tells x (bit (q a) + count q k)) e (in_tells q a k)
