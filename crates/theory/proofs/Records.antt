-- Records can be read back: no record is the beginning of another. So an image decides its tree up to the order of brothers, and trees that are
-- the same up to that order have one image. "The children's records in ascending byte order" are those of the forest in image order.
use mathlib.Core.Path.{◌≡◌, refl, sym, ap, ◌∙◌}
use mathlib.Core.Logic.{◌⊎◌, inl, inr}
use mathlib.Core.Bool.{Bool, true, false}
use mathlib.Core.List.{List, [], ◌∷◌, ◌++◌, append_assoc}
use Prim.Native.Nat.{ℕ, zero, suc}
use native.Mathlib.Omega.{arith}
use lib.ListN.{length}
use Rattle.meaning.specs.Basics.{pick}
use Rattle.meaning.specs.TreeQuery.{Lab, any, lab}
use Rattle.meaning.specs.Tree.{Forest, bare, tree, Tag, Any, size}
use Rattle.meaning.specs.Folding.{cut}
use Rattle.meaning.specs.Number.{num}
use Rattle.meaning.specs.Image.{LeL, dec_l, insert, lab_code, mark_code, flat, record_of, records, image, place, ordered}
use Rattle.theory.proofs.ByteOrder.{insert_before, insert_behind, insert_comm}
use Rattle.theory.proofs.Numbers.{num_back}
use Rattle.theory.proofs.Order.{ordered_size}
use Rattle.theory.proofs.Unique.{Same, same_size}

-- ------------------------------------------------------------------ image order
-- the record of a tree
abbrev pub record_at : Tag → Forest Tag → List ℕ
record_at a k = record_of a (records k)

records_place : (a : Tag) (k r : Forest Tag) → records (place a k r) ≡ insert (record_at a k) (records r)
records_place a k bare = refl
records_place a k (tree b j r) = go (dec_l (record_at a k) (record_at b j)) (records_place a k r)
  where
    go : (d : Dec (LeL (record_at a k) (record_at b j))) → records (place a k r) ≡ insert (record_at a k) (records r)
        → records (pick d (tree a k (tree b j r)) (tree b j (place a k r))) ≡ insert (record_at a k) (insert (record_at b j) (records r))
    go (yes p) ih = refl
    go (no n) ih = rw ih (insert_comm (record_at b j) (record_at a k) (records r))

pub records_ordered : (f : Forest Tag) → records (ordered f) ≡ records f
records_ordered bare = refl
records_ordered (tree a k r) = rw (records_place a (ordered k) (ordered r), records_ordered k, records_ordered r)

pub image_ordered : (f : Forest Tag) → image (ordered f) ≡ image f
image_ordered f = rw (ordered_size f, records_ordered f)

-- the brothers are in image order, here and below: each record goes in front of the later ones
abbrev pub Sorted : Forest Tag → Type 0
Sorted bare = Unit {0}
Sorted (tree a k r) = (insert (record_at a k) (records r) ≡ record_at a k ∷ records r) × Sorted k × Sorted r

sorted_place : (a : Tag) (k r : Forest Tag) → Sorted k → Sorted r → Sorted (place a k r)
sorted_place a k bare sk sr = (refl, sk, tt)
sorted_place a k (tree b j r) sk (e, sj, sr) = go (dec_l (record_at a k) (record_at b j)) (sorted_place a k r sk sr)
  where
    go : (d : Dec (LeL (record_at a k) (record_at b j))) → Sorted (place a k r) → Sorted (pick d (tree a k (tree b j r)) (tree b j (place a k r)))
    go (yes p) ih = (cc (insert_before (record_at a k) (record_at b j) (records r) p), sk, (e, sj, sr))
    go (no n) ih = (
      cc (
        records_place a k r,
        insert_comm (record_at b j) (record_at a k) (records r),
        insert_behind (record_at a k) (record_at b j) (records r) n,
      ),
      sj,
      ih,
    )

pub sorted_ordered : (f : Forest Tag) → Sorted (ordered f)
sorted_ordered bare = tt
sorted_ordered (tree a k r) = sorted_place a (ordered k) (ordered r) (sorted_ordered k) (sorted_ordered r)

-- ------------------------------------------------------------------ reading records back
-- the marks of their code
abbrev marks_from : ℕ → Bool × Bool
marks_from zero = (false, false)
marks_from (suc zero) = (true, false)
marks_from (suc (suc zero)) = (false, true)
marks_from (suc (suc (suc n))) = (true, true)

lab_back : (l m : Lab) → lab_code l ≡ lab_code m → l ≡ m
lab_back any any e = refl
lab_back any (lab m) e = absurd (omega arith)
lab_back (lab l) any e = absurd (omega arith)
lab_back (lab l) (lab m) e = ap lab (omega arith)

marks_from_lem : (s d : Bool) → marks_from (mark_code s d) ≡ (s, d)
marks_from_lem false false = refl
marks_from_lem true false = refl
marks_from_lem false true = refl
marks_from_lem true true = refl

tag_back : (a b : Tag) → lab_code a.lab ≡ lab_code b.lab → mark_code a.src a.dst ≡ mark_code b.src b.dst → a ≡ b
tag_back a b el em = λ i. record { lab = lab_back a.lab b.lab el i; src = (m i).0; dst = (m i).1 }
  where
    m : ◌≡◌ {A = Bool × Bool} (a.src, a.dst) (b.src, b.dst)
    m = sym (marks_from_lem a.src a.dst) ∙ ap marks_from em ∙ marks_from_lem b.src b.dst

-- the three numbers that a record begins with, and what follows them
abbrev headed : Tag → ℕ → List ℕ → List ℕ
headed a n x = num (lab_code a.lab) ++ (num (mark_code a.src a.dst) ++ (num n ++ x))

headed_back : (a b : Tag) (m n : ℕ) (x y : List ℕ) → headed a m x ≡ headed b n y → (a ≡ b) × (m ≡ n) × (x ≡ y)
headed_back a b m n x y e =
    let ma = mark_code a.src a.dst in
    let mb = mark_code b.src b.dst in
    let (el, e₁) = num_back (lab_code a.lab) (lab_code b.lab) (num ma ++ (num m ++ x)) (num mb ++ (num n ++ y)) e in
    let (em, e₂) = num_back ma mb (num m ++ x) (num n ++ y) e₁ in
    let (en, e₃) = num_back m n x y e₂ in
    (tag_back a b el em, en, e₃)

-- the bytes of brothers in image order begin with the record of the first
first_headed : (a : Tag) (k r : Forest Tag) (x : List ℕ) → Sorted (tree a k r)
    → flat (records (tree a k r)) ++ x ≡ headed a (length (records k)) (flat (records k) ++ (flat (records r) ++ x))
first_headed a k r x (e, sk, sr) = rw e (simp append_assoc)

-- what is known of two lists of brothers beforehand: as many trees, or as many nodes
abbrev Alike : Forest Tag → Forest Tag → Type 0
Alike f g = (length (records f) ≡ length (records g)) ⊎ (size f ≡ size g)

not_alike : (b : Tag) (j s : Forest Tag) → Sorted (tree b j s) → ¬ Alike (tree b j s) bare
not_alike b j s (e, sj, ss) (inl l) = let z = ap length e in omega arith
not_alike b j s (e, sj, ss) (inr l) = omega arith

alike_rest : (a : Tag) (k r : Forest Tag) (b : Tag) (j s : Forest Tag) → Sorted (tree a k r) → Sorted (tree b j s) → k ≡ j
    → Alike (tree a k r) (tree b j s) → Alike r s
alike_rest a k r b j s (e, sk, sr) (e', sj, ss) ek (inl l) = let z = ap length e in let z' = ap length e' in inl (omega arith)
alike_rest a k r b j s sf sg ek (inr l) = let z = ap size ek in inr (omega arith)

alike_sym : (f g : Forest Tag) → Alike f g → Alike g f
alike_sym f g (inl l) = inl (sym l)
alike_sym f g (inr l) = inr (sym l)

-- no record is the beginning of another: brothers in image order are read back from their bytes, whatever follows
flat_back : (f g : Forest Tag) (x y : List ℕ) → Sorted f → Sorted g → Alike f g → flat (records f) ++ x ≡ flat (records g) ++ y → (f ≡ g) × (x ≡ y)
flat_back bare bare x y sf sg l e = (refl, e)
flat_back bare (tree b j s) x y sf sg l e = absurd (not_alike b j s sg (alike_sym bare (tree b j s) l))
flat_back (tree a k r) bare x y sf sg l e = absurd (not_alike a k r sf l)
flat_back (tree a k r) (tree b j s) x y sf sg l e =
    let x' = flat (records r) ++ x in
    let y' = flat (records s) ++ y in
    let e' = sym (first_headed a k r x sf) ∙ e ∙ first_headed b j s y sg in
    let (ea, en, ez) = headed_back a b (length (records k)) (length (records j)) (flat (records k) ++ x') (flat (records j) ++ y') e' in
    let (ek, ey) = flat_back k j x' y' sf.1 sg.1 (inl en) ez in
    let (er, ex) = flat_back r s x y sf.2 sg.2 (alike_rest a k r b j s sf sg ek l) ey in
    ((λ i. tree (ea i) (ek i) (er i)), ex)

-- equal records of two forests in image order are records of one forest
pub records_back : (f g : Forest Tag) → Sorted f → Sorted g → records f ≡ records g → f ≡ g
records_back f g sf sg e = (flat_back f g [] [] sf sg (inl (ap length e)) (ap (λ l. flat l ++ []) e)).0

-- the forest in image order is decided by the records
pub ordered_of_records : (f g : Forest Tag) → records f ≡ records g → ordered f ≡ ordered g
ordered_of_records f g e =
    records_back (ordered f) (ordered g) (sorted_ordered f) (sorted_ordered g) (records_ordered f ∙ e ∙ sym (records_ordered g))

-- an image is the image of one tree, up to the order of brothers
pub image_back : (f g : Forest Tag) → image f ≡ image g → ordered f ≡ ordered g
image_back f g e =
    let f' = ordered f in
    let g' = ordered g in
    let (es, er) = num_back (size f') (size g') (flat (records f')) (flat (records g')) (image_ordered f ∙ e ∙ sym (image_ordered g)) in
    (flat_back f' g' [] [] (sorted_ordered f) (sorted_ordered g) (inr es) (ap (λ l. l ++ []) er)).0

-- ------------------------------------------------------------------ the order of brothers leaves no trace
records_cut : (P : Tag → Forest Tag → Type 0) (g : Forest Tag) (x : Any P g)
    → (b : Tag) × (j : Forest Tag) × P b j × (records g ≡ insert (record_at b j) (records (cut P g x)))
records_cut P bare x = absurd x
records_cut P (tree b j r) (inl p) = (b, j, p, refl)
records_cut P (tree b j r) (inr x) =
    let (c, i, p, e) = records_cut P r x in (c, i, p, rw e (insert_comm (record_at b j) (record_at c i) (records (cut P r x))))

pub same_records : (f g : Forest Tag) → Same f g → records f ≡ records g
same_records bare bare s = refl
same_records bare (tree b j r) s = absurd s
same_records (tree a k r) g (x, s) =
    let (b, j, p, e) = records_cut (λ b j. (a ≡ b) × Same k j) g x in
    (λ i. insert (record_of (p.0 i) (same_records k j p.1 i)) (same_records r (cut (λ b j. (a ≡ b) × Same k j) g x) s i)) ∙ sym e

-- trees that are the same up to the order of brothers have one image, and are one tree in image order
pub same_image : (f g : Forest Tag) → Same f g → image f ≡ image g
same_image f g s = rw (same_size f g s, same_records f g s)

pub same_ordered : (f g : Forest Tag) → Same f g → ordered f ≡ ordered g
same_ordered f g s = ordered_of_records f g (same_records f g s)
