-- "At most 1,538 bytes", "The normal form has at most 2,048 bytes": how long images and normal forms get for a tree of at most 256 nodes
-- whose labels are at most 65,535. A node takes at most 6 bytes of the image and at most 7 of the normal form.
use mathlib.Core.Path.{◌≡◌, refl, ap}
use mathlib.Core.Bool.{Bool, true, false, cond}
use mathlib.Core.List.{List, [], ◌∷◌, ◌++◌, map}
use Prim.Native.Nat.{ℕ, suc, ◌+◌, ◌*◌, ◌≤◌}
use native.Mathlib.Omega.{arith}
use lib.ListN.{length, length-append}
use Rattle.meaning.specs.Basics.{pick}
use Rattle.meaning.specs.Expression.{Expr, child, parent, comp}
use Rattle.meaning.specs.TreeQuery.{Lab, any, lab}
use Rattle.meaning.specs.Tree.{Forest, bare, tree, Tag, size}
use Rattle.meaning.specs.Number.{num, largest_label}
use Rattle.meaning.specs.Image.{LeL, dec_l, insert, lab_code, mark_code, flat, record_of, records, image}
use Rattle.meaning.specs.Normal.{joined, all, labelled, branch, onward, chains, src_in, dst_in, both_in, either_in, some_tree, off, ups, downs, above_factor, longer, around, factors, normal, word_of}
use Rattle.theory.proofs.Numbers.{num_short}
use Rattle.theory.proofs.Labels.{LabIn, LabsIn}
use Rattle.theory.proofs.Ways.{on, aside, off_aside, size_ways, aside_either, on_dst}

-- "Labels are 0 to 65,535"
abbrev pub InRange : ℕ → Type 0
InRange l = l ≤ largest_label

-- ------------------------------------------------------------------ images
lab_short : (l : Lab) → LabIn InRange l → length (num (lab_code l)) ≤ 3
lab_short any h = num_short 2 0 (omega arith)
lab_short (lab l) h = num_short 2 (suc l) (omega arith)

mark_short : (s d : Bool) → length (num (mark_code s d)) ≤ 1
mark_short false false = num_short 0 0 (omega arith)
mark_short true false = num_short 0 1 (omega arith)
mark_short false true = num_short 0 2 (omega arith)
mark_short true true = num_short 0 3 (omega arith)

length_record : (a : Tag) (rs : List (List ℕ))
    → length (record_of a rs) ≡ length (num (lab_code a.lab)) + (length (num (mark_code a.src a.dst)) + (length (num (length rs)) + length (flat rs)))
length_record a rs = simp length-append

-- a record more takes its bytes, wherever it goes
insert_lengths : (r : List ℕ) (l : List (List ℕ)) → (length (flat (insert r l)) ≡ length r + length (flat l)) × (length (insert r l) ≡ suc (length l))
insert_lengths r [] = (length-append r [], refl)
insert_lengths r (s ∷ l) = go (dec_l r s) (insert_lengths r l)
  where
    Longer : List (List ℕ) → List (List ℕ) → Type 0
    Longer i l = (length (flat i) ≡ length r + length (flat l)) × (length i ≡ suc (length l))

    go : (d : Dec (LeL r s)) → Longer (insert r l) l → Longer (pick d (r ∷ (s ∷ l)) (s ∷ insert r l)) (s ∷ l)
    go (yes p) ih = (length-append r (s ++ flat l), refl)
    go (no n) (eb, el) = (omega (arith, length-append s (flat (insert r l)), length-append s (flat l)), ap suc el)

few_records : (f : Forest Tag) → length (records f) ≤ size f
few_records bare = omega arith
few_records (tree a k r) = omega (arith, (insert_lengths (record_of a (records k)) (records r)).1, few_records r)

records_short : (f : Forest Tag) → LabsIn InRange f → size f ≤ 256 → length (flat (records f)) ≤ 6 * size f
records_short bare h le = omega arith
records_short (tree a k r) (h, hk, hr) le =
    omega (
      arith,
      records_short k hk (omega arith),
      records_short r hr (omega arith),
      (insert_lengths (record_of a (records k)) (records r)).0,
      length_record a (records k),
      lab_short a.lab h,
      mark_short a.src a.dst,
      num_short 1 (length (records k)) (omega (arith, few_records k)),
    )

-- "At most 1,538 bytes."
pub image_short : (f : Forest Tag) → LabsIn InRange f → size f ≤ 256 → length (image f) ≤ 1538
image_short f h le = omega (arith, records_short f h le, num_short 1 (size f) (omega arith), length-append (num (size f)) (flat (records f)))

-- ------------------------------------------------------------------ normal forms
-- what a list of factors takes, with one sign to join each
abbrev pub cost : List Expr → ℕ
cost [] = 0
cost (x ∷ xs) = suc (length (word_of x)) + cost xs

pub joined_cost : (x : Expr) (ys : List Expr) → suc (length (word_of (joined x ys))) ≡ cost (x ∷ ys)
joined_cost x [] = omega arith
joined_cost x (y ∷ ys) = omega (arith, joined_cost (comp x y) ys, length-append (word_of x) (word_of y ++ (4 ∷ [])), length-append (word_of y) (4 ∷ []))

all_cost : (xs : List Expr) → length (word_of (all xs)) ≤ suc (cost xs)
all_cost [] = omega arith
all_cost (x ∷ xs) = omega (arith, joined_cost x xs)

pub append_cost : (xs ys : List Expr) → cost (xs ++ ys) ≡ cost xs + cost ys
append_cost [] ys = omega arith
append_cost (x ∷ xs) ys = omega (arith, append_cost xs ys)

labelled_cost : (l : Lab) (xs : List Expr) → LabIn InRange l → cost (labelled l xs) ≤ 4 + cost xs
labelled_cost any xs h = omega arith
labelled_cost (lab l) xs h = omega (arith, num_short 2 (9 + l) (omega arith))

branch_cost : (l : Lab) (xs : List Expr) → LabIn InRange l → length (word_of (branch (child ∷ labelled l xs))) ≤ 6 + cost xs
branch_cost l xs h =
    omega (arith, joined_cost child (labelled l xs), labelled_cost l xs h, length-append (word_of (all (child ∷ labelled l xs))) (5 ∷ []))

-- the branches of a forest, and the way on below a node
branches_cost : (j : Forest Tag) → LabsIn InRange j → (cost (map branch (chains j)) ≤ 7 * size j) × (cost (onward (chains j)) ≤ 7 * size j)
branches_cost bare h = (omega arith, omega arith)
branches_cost (tree b j r) (h, hj, hr) = (both (branches_cost j hj) (branches_cost r hr), go r (branches_cost j hj) (branches_cost r hr))
  where
    Cheap : Forest Tag → Type 0
    Cheap f = (cost (map branch (chains f)) ≤ 7 * size f) × (cost (onward (chains f)) ≤ 7 * size f)

    both : Cheap j → Cheap r → cost (map branch (chains (tree b j r))) ≤ 7 * size (tree b j r)
    both (bj, oj) (br, or) = omega (arith, branch_cost b.lab (onward (chains j)) h)

    go : (r : Forest Tag) → Cheap j → Cheap r → cost (onward (chains (tree b j r))) ≤ 7 * size (tree b j r)
    go bare (bj, oj) c = omega (arith, labelled_cost b.lab (onward (chains j)) h)
    go (tree d i s) (bj, oj) (br, or) = omega (arith, branch_cost b.lab (onward (chains j)) h)

aside_labs : (p : Tag → Forest Tag → Bool) (k : Forest Tag) → LabsIn InRange k → LabsIn InRange (aside p k)
aside_labs p bare h = tt
aside_labs p (tree b j r) (h, hj, hr) = go (p b j) (aside_labs p r hr)
  where
    go : (x : Bool) → LabsIn InRange (aside p r) → LabsIn InRange (cond x (aside p r) (tree b j (aside p r)))
    go true ih = ih
    go false ih = (h, hj, ih)

off_cost : (p : Tag → Forest Tag → Bool) (k : Forest Tag) (l : List Expr) → LabsIn InRange k → cost (off p k l) ≤ 7 * size (aside p k) + cost l
off_cost p k l h =
    rw (off_aside p k l) (omega (arith, append_cost (map branch (chains (aside p k))) l, (branches_cost (aside p k) (aside_labs p k h)).0))

-- a node on a way: its label, the branches off the way, and what follows
own_cost : (p : Tag → Forest Tag → Bool) (b : Tag) (j : Forest Tag) (l : List Expr) → LabIn InRange b.lab → LabsIn InRange j
    → cost (labelled b.lab (off p j l)) ≤ 4 + 7 * size (aside p j) + cost l
own_cost p b j l h hj = omega (arith, labelled_cost b.lab (off p j l) h, off_cost p j l hj)

ups_cost : (k : Forest Tag) → LabsIn InRange k → cost (ups k) ≤ 7 * size (on src_in k)
ups_cost bare h = omega arith
ups_cost (tree b j r) (h, hj, hr) = go (src_in b j) (ups_cost j hj) (ups_cost r hr)
  where
    go : (x : Bool) → cost (ups j) ≤ 7 * size (on src_in j) → cost (ups r) ≤ 7 * size (on src_in r)
        → cost (cond x (ups j ++ labelled b.lab (off src_in j (parent ∷ []))) (ups r)) ≤ 7 * size (cond x (tree b j (on src_in r)) (on src_in r))
    go true ij ir =
        let own = labelled b.lab (off src_in j (parent ∷ [])) in
        omega (arith, append_cost (ups j) own, own_cost src_in b j (parent ∷ []) h hj, size_ways src_in j)
    go false ij ir = ir

downs_cost : (k : Forest Tag) → LabsIn InRange k → cost (downs k) ≤ 7 * size (on dst_in k)
downs_cost bare h = omega arith
downs_cost (tree b j r) (h, hj, hr) = go (dst_in b j) (downs_cost j hj) (downs_cost r hr)
  where
    go : (x : Bool) → cost (downs j) ≤ 7 * size (on dst_in j) → cost (downs r) ≤ 7 * size (on dst_in r)
        → cost (cond x (child ∷ labelled b.lab (off dst_in j (downs j))) (downs r)) ≤ 7 * size (cond x (tree b j (on dst_in r)) (on dst_in r))
    go true ij ir = omega (arith, own_cost dst_in b j (downs j) h hj, size_ways dst_in j)
    go false ij ir = ir

above_cost : (way l : List Expr) → cost (above_factor way l) ≤ suc (cost way) + cost l
above_cost [] l = omega arith
above_cost (x ∷ xs) l = omega (arith, joined_cost x xs, length-append (word_of (joined x xs)) (6 ∷ []))

around_cost : (way : List Expr) (a : Tag) (k : Forest Tag) → LabIn InRange a.lab → LabsIn InRange k → some_tree both_in k ≡ false
    → cost (around way a k) ≤ 5 + cost way + 7 * size k
around_cost way a k h hk e =
    omega (
      arith,
      append_cost (ups k) (above_factor way (labelled a.lab (off either_in k (downs k)))),
      ups_cost k hk,
      above_cost way (labelled a.lab (off either_in k (downs k))),
      own_cost either_in a k (downs k) h hk,
      downs_cost k hk,
      size_ways src_in k,
      size_ways dst_in (aside src_in k),
      ap size (aside_either k),
      ap size (on_dst k e),
    )

longer_cost : (way : List Expr) (a : Tag) (k : Forest Tag) → LabIn InRange a.lab → LabsIn InRange k
    → cost (longer way a k) ≤ 6 + cost way + 7 * size (aside both_in k)
longer_cost way a k h hk = omega (arith, append_cost way (labelled a.lab (off both_in k (child ∷ []))), own_cost both_in a k (child ∷ []) h hk)

factors_cost : (f : Forest Tag) (way : List Expr) → LabsIn InRange f → cost (factors f way) ≤ suc (cost way) + 7 * size (on both_in f)
factors_cost bare way h = omega arith
factors_cost (tree a k r) way (h, hk, hr) = go (both_in a k) (some_tree both_in k) refl (factors_cost k (longer way a k) hk) (factors_cost r way hr)
  where
    go : (x y : Bool) → some_tree both_in k ≡ y
        → cost (factors k (longer way a k)) ≤ suc (cost (longer way a k)) + 7 * size (on both_in k)
        → cost (factors r way) ≤ suc (cost way) + 7 * size (on both_in r)
        → cost (cond x (cond y (factors k (longer way a k)) (around way a k)) (factors r way))
        ≤ suc (cost way) + 7 * size (cond x (tree a k (on both_in r)) (on both_in r))
    go true true e ik ir = omega (arith, longer_cost way a k h hk, size_ways both_in k)
    go true false e ik ir = omega (arith, around_cost way a k h hk e)
    go false y e ik ir = ir

-- "The normal form has at most 2,048 bytes."
pub form_short : (f : Forest Tag) → LabsIn InRange f → size f ≤ 256 → length (word_of (normal f)) ≤ 2048
form_short bare h le = omega arith
form_short (tree a k r) h le = omega (arith, all_cost (factors (tree a k r) []), factors_cost (tree a k r) [] h, size_ways both_in (tree a k r))
