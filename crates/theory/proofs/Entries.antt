-- The nodes of a tree numbered in preorder, each with its parent's number; the tree's own document (Canon) and its own table (Tables) are written
-- from them. Every node but the top has its parent before it, and a mark that one node bears stands at one number.
use mathlib.Core.Path.{◌≡◌, refl, ap, subst, ◌∙◌}
use mathlib.Core.Logic.{◌⊎◌, inl, inr}
use mathlib.Core.Option.{Option, none, some}
use mathlib.Core.Bool.{Bool, true, false, cond}
use mathlib.Core.List.{List, [], ◌∷◌, ◌++◌}
use Prim.Native.Nat.{ℕ, zero, suc, ◌+◌, ◌≤◌, ◌<◌}
use native.Mathlib.Omega.{arith}
use lib.ListN.{length, length-append}
use Rattle.meaning.specs.Basics.{look}
use Rattle.meaning.specs.Tree.{Forest, bare, tree, Tag, size, Any}
use Rattle.theory.proofs.Count.{bit, count}
use Rattle.theory.proofs.Look.{never, look_lt, look_left, look_right}

-- a node: its parent's number, what it bears, what lies below it
pub record Entry : Type 0 where
  pub up : Option ℕ
  pub tag : Tag
  pub kids : Forest Tag

-- the nodes of a forest below p, numbered from b on
abbrev pub entries : Forest Tag → Option ℕ → ℕ → List Entry
entries bare p b = []
entries (tree a k r) p b = record { up = p; tag = a; kids = k } ∷ (entries k (some b) (suc b) ++ entries r p (suc b + size k))

pub length_entries : (f : Forest Tag) (p : Option ℕ) (b : ℕ) → length (entries f p b) ≡ size f
length_entries bare p b = refl
length_entries (tree a k r) p b =
    let x = length_entries k (some b) (suc b) in let y = length_entries r p (suc b + size k) in
    let z = length-append (entries k (some b) (suc b)) (entries r p (suc b + size k)) in omega arith

-- ------------------------------------------------------------------ two lists
look_split : {A : Type 0} (xs ys : List A) (i : ℕ) (x : A) → look (xs ++ ys) i ≡ some x
    → (look xs i ≡ some x) ⊎ ((j : ℕ) × (i ≡ length xs + j) × (look ys j ≡ some x))
look_split [] ys i x e = inr (i, omega arith, e)
look_split (y ∷ xs) ys zero x e = inl e
look_split (y ∷ xs) ys (suc i) x e = go (look_split xs ys i x e)
  where
    go : (look xs i ≡ some x) ⊎ ((j : ℕ) × (i ≡ length xs + j) × (look ys j ≡ some x))
        → (look xs i ≡ some x) ⊎ ((j : ℕ) × (suc i ≡ suc (length xs) + j) × (look ys j ≡ some x))
    go (inl q) = inl q
    go (inr (j, q, e')) = inr (j, omega arith, e')

-- a later node of a forest stands among the first one's children's nodes, or among the later brothers'
abbrev pub Later : Tag → Forest Tag → Forest Tag → Option ℕ → ℕ → ℕ → Entry → Type 0
Later a k r p b i x = (look (entries k (some b) (suc b)) i ≡ some x) ⊎ ((j : ℕ) × (i ≡ size k + j) × (look (entries r p (suc b + size k)) j ≡ some x))

pub entry_later : (a : Tag) (k r : Forest Tag) (p : Option ℕ) (b i : ℕ) (x : Entry) → look (entries (tree a k r) p b) (suc i) ≡ some x
    → Later a k r p b i x
entry_later a k r p b i x e = rw (length_entries k (some b) (suc b)) at (look_split (entries k (some b) (suc b)) (entries r p (suc b + size k)) i x e)

-- ------------------------------------------------------------------ the part of a list that a forest's nodes make up
-- the nodes of f stand in S from number b on
abbrev pub Part : List Entry → Forest Tag → Option ℕ → ℕ → Type 0
Part S f p b = (i : ℕ) (x : Entry) → look (entries f p b) i ≡ some x → look S (b + i) ≡ some x

module _ (S : List Entry) (a : Tag) (k r : Forest Tag) (p : Option ℕ) (b : ℕ) (part : Part S (tree a k r) p b) where
  pub part_head : look S b ≡ some (record { up = p; tag = a; kids = k })
  part_head =
      subst (λ z. look S z ≡ some (record { up = p; tag = a; kids = k })) (let q : b + 0 ≡ b = omega arith in q) (part 0 (record { up = p; tag = a; kids = k }) refl)

  pub part_kids : Part S k (some b) (suc b)
  part_kids i x e =
      let q : b + suc i ≡ suc b + i = omega arith in
      subst (λ z. look S z ≡ some x) q
      (part (suc i) x (look_left (entries k (some b) (suc b)) (entries r p (suc b + size k)) i (look_lt (entries k (some b) (suc b)) i e) ∙ e))

  pub part_rest : Part S r p (suc b + size k)
  part_rest i x e =
      let l = length_entries k (some b) (suc b) in
      let q : b + suc (length (entries k (some b) (suc b)) + i) ≡ suc b + size k + i = omega arith in
      subst (λ z. look S z ≡ some x) q
      (part (suc (length (entries k (some b) (suc b)) + i)) x (look_right (entries k (some b) (suc b)) (entries r p (suc b + size k)) i ∙ e))

pub part_self : (f : Forest Tag) (p : Option ℕ) → Part (entries f p 0) f p 0
part_self f p i x e = let q : 0 + i ≡ i = omega arith in rw q e

-- ------------------------------------------------------------------ parents
-- (a, k) is one of the trees of the forest
abbrev pub Has : Tag → Forest Tag → Forest Tag → Type 0
Has a k f = Any (λ b j. (a ≡ b) × (k ≡ j)) f

-- x's parent y stands in S, before number i, and x is one of its children
abbrev pub Below : List Entry → ℕ → Entry → Type 0
Below S i x = (j : ℕ) × (y : Entry) × (j < i) × (look S j ≡ some y) × (x.up ≡ some j) × Has x.tag x.kids y.kids

below_later : (S : List Entry) (i j : ℕ) (x : Entry) → i ≤ j → Below S i x → Below S j x
below_later S i j x le (n, y, lt, e, u, h) = (n, y, omega arith, e, u, h)

entry_above : (S : List Entry) (f : Forest Tag) (p : Option ℕ) (b : ℕ) → Part S f p b → (i : ℕ) (x : Entry) → look (entries f p b) i ≡ some x
    → ((x.up ≡ p) × Has x.tag x.kids f) ⊎ Below S (b + i) x
entry_above S bare p b part i x e = never cc
entry_above S (tree a k r) p b part zero x e =
    let q : x ≡ record { up = p; tag = a; kids = k } = cc in inl (ap (λ z. z.up) q, inl (ap (λ z. z.tag) q, ap (λ z. z.kids) q))
entry_above S (tree a k r) p b part (suc i) x e =
    go (entry_above S k (some b) (suc b) (part_kids S a k r p b part) i x) (λ j. entry_above S r p (suc b + size k) (part_rest S a k r p b part) j x)
    (entry_later a k r p b i x e)
  where
    Out : Type 0
    Out = ((x.up ≡ p) × Has x.tag x.kids (tree a k r)) ⊎ Below S (b + suc i) x

    in_kids : ((x.up ≡ some b) × Has x.tag x.kids k) ⊎ Below S (suc b + i) x → Out
    in_kids (inl (u, h)) = inr (b, record { up = p; tag = a; kids = k }, omega arith, part_head S a k r p b part, u, h)
    in_kids (inr y) = inr (below_later S (suc b + i) (b + suc i) x (omega arith) y)

    in_rest : (j : ℕ) → i ≡ size k + j → ((x.up ≡ p) × Has x.tag x.kids r) ⊎ Below S (suc b + size k + j) x → Out
    in_rest j q (inl (u, h)) = inl (u, inr h)
    in_rest j q (inr y) = inr (below_later S (suc b + size k + j) (b + suc i) x (omega arith) y)

    go : (look (entries k (some b) (suc b)) i ≡ some x → ((x.up ≡ some b) × Has x.tag x.kids k) ⊎ Below S (suc b + i) x)
        → ((j : ℕ) → look (entries r p (suc b + size k)) j ≡ some x → ((x.up ≡ p) × Has x.tag x.kids r) ⊎ Below S (suc b + size k + j) x)
        → Later a k r p b i x → Out
    go ik ir (inl e') = in_kids (ik e')
    go ik ir (inr (j, q, e')) = in_rest j q (ir j e')

-- a tree with one top: every other node has its parent before it
pub entry_parent : (a : Tag) (k : Forest Tag) (i : ℕ) (x : Entry) → look (entries (tree a k bare) none 0) (suc i) ≡ some x
    → Below (entries (tree a k bare) none 0) (suc i) x
entry_parent a k i x e = go (entry_later a k bare none 0 i x e)
  where
    S : List Entry
    S = entries (tree a k bare) none 0

    top : ((x.up ≡ some 0) × Has x.tag x.kids k) ⊎ Below S (1 + i) x → Below S (suc i) x
    top (inl (u, h)) = (0, record { up = none; tag = a; kids = k }, omega arith, refl, u, h)
    top (inr y) = below_later S (1 + i) (suc i) x (omega arith) y

    go : Later a k bare none 0 i x → Below S (suc i) x
    go (inl e') = top (entry_above S k (some 0) 1 (part_kids S a k bare none 0 (part_self (tree a k bare) none)) i x e')
    go (inr (j, q, e')) = never cc

-- ------------------------------------------------------------------ a node somewhere
-- some node of the forest, with what lies below it, is so
abbrev pub Deep : (Tag → Forest Tag → Type 0) → Forest Tag → Type 0
Deep P bare = ⊥
Deep P (tree a k r) = P a k ⊎ (Deep P k ⊎ Deep P r)

pub entry_deep : (P : Tag → Forest Tag → Type 0) (f : Forest Tag) (p : Option ℕ) (b i : ℕ) (x : Entry) → look (entries f p b) i ≡ some x
    → P x.tag x.kids → Deep P f
entry_deep P bare p b i x e y = never cc
entry_deep P (tree a k r) p b zero x e y =
    let q : x ≡ record { up = p; tag = a; kids = k } = cc in inl (subst (λ z. P z.tag z.kids) q y)
entry_deep P (tree a k r) p b (suc i) x e y =
    go (λ e'. entry_deep P k (some b) (suc b) i x e' y) (λ j e'. entry_deep P r p (suc b + size k) j x e' y) (entry_later a k r p b i x e)
  where
    go : (look (entries k (some b) (suc b)) i ≡ some x → Deep P k) → ((j : ℕ) → look (entries r p (suc b + size k)) j ≡ some x → Deep P r)
        → Later a k r p b i x → Deep P (tree a k r)
    go ik ir (inl e') = inr (inl (ik e'))
    go ik ir (inr (j, q, e')) = inr (inr (ir j e'))

-- ------------------------------------------------------------------ the number of a marked node
-- the first that is so, and how many are
abbrev first : (Tag → Bool) → List Entry → ℕ
first q [] = 0
first q (x ∷ xs) = cond (q x.tag) 0 (suc (first q xs))

abbrev tally : (Tag → Bool) → List Entry → ℕ
tally q [] = 0
tally q (x ∷ xs) = bit (q x.tag) + tally q xs

tally_append : (q : Tag → Bool) (xs ys : List Entry) → tally q (xs ++ ys) ≡ tally q xs + tally q ys
tally_append q [] ys = omega arith
tally_append q (x ∷ xs) ys = let z = tally_append q xs ys in omega arith

tally_entries : (q : Tag → Bool) (f : Forest Tag) (p : Option ℕ) (b : ℕ) → tally q (entries f p b) ≡ count q f
tally_entries q bare p b = refl
tally_entries q (tree a k r) p b =
    let x = tally_entries q k (some b) (suc b) in let y = tally_entries q r p (suc b + size k) in
    let z = tally_append q (entries k (some b) (suc b)) (entries r p (suc b + size k)) in omega arith

-- an entry that is so, at number i
abbrev pub Marked : (Tag → Bool) → List Entry → ℕ → Type 0
Marked q xs i = (x : Entry) × (look xs i ≡ some x) × (q x.tag ≡ true)

first_marked : (q : Tag → Bool) (xs : List Entry) → 1 ≤ tally q xs → Marked q xs (first q xs)
first_marked q [] le = absurd (omega arith)
first_marked q (x ∷ xs) le = go (q x.tag) refl (first_marked q xs) le
  where
    go : (t : Bool) → q x.tag ≡ t → (1 ≤ tally q xs → Marked q xs (first q xs)) → 1 ≤ bit t + tally q xs
        → Marked q (x ∷ xs) (cond t 0 (suc (first q xs)))
    go true e ih le' = (x, refl, e)
    go false e ih le' = ih (omega arith)

marked_tally : (q : Tag → Bool) (xs : List Entry) (i : ℕ) → Marked q xs i → 1 ≤ tally q xs
marked_tally q [] i (x, e, t) = never cc
marked_tally q (y ∷ xs) zero (x, e, t) =
    let z : y ≡ x = cc in let c : bit (q y.tag) ≡ 1 = rw (z, t) in omega arith
marked_tally q (y ∷ xs) (suc i) m = let z = marked_tally q xs i m in omega arith

marked_first : (q : Tag → Bool) (xs : List Entry) → tally q xs ≤ 1 → (i : ℕ) → Marked q xs i → i ≡ first q xs
marked_first q [] le i (x, e, t) = never cc
marked_first q (y ∷ xs) le zero (x, e, t) = let z : y ≡ x = cc in rw (z, t)
marked_first q (y ∷ xs) le (suc i) m = go (q y.tag) (marked_first q xs) (marked_tally q xs i m) le
  where
    go : (t : Bool) → (tally q xs ≤ 1 → (j : ℕ) → Marked q xs j → j ≡ first q xs) → 1 ≤ tally q xs → bit t + tally q xs ≤ 1
        → suc i ≡ cond t 0 (suc (first q xs))
    go true ih one le' = absurd (omega arith)
    go false ih one le' = ap suc (ih (omega arith) i m)

-- the number of the node that bears the mark
abbrev pub place_of : (Tag → Bool) → Forest Tag → ℕ
place_of q f = first q (entries f none 0)

pub place_marked : (q : Tag → Bool) (f : Forest Tag) → count q f ≡ 1 → Marked q (entries f none 0) (place_of q f)
place_marked q f one = let z = tally_entries q f none 0 in first_marked q (entries f none 0) (omega arith)

pub marked_place : (q : Tag → Bool) (f : Forest Tag) → count q f ≡ 1 → (i : ℕ) → Marked q (entries f none 0) i → i ≡ place_of q f
marked_place q f one = let z = tally_entries q f none 0 in marked_first q (entries f none 0) (omega arith)
