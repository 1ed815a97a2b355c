-- "Numbers in groups of seven bits .. Only the shortest writing of a number is read": what is written is read back whatever follows it,
-- nothing else is read, and so two numbers that are written alike are equal. Besides: how long a number is.
use mathlib.Core.Path.{◌≡◌, refl, sym, ap, ◌∙◌}
use mathlib.Core.Bool.{Bool, true, false, cond}
use mathlib.Core.List.{List, [], ◌∷◌, ◌++◌, append_cancel_left}
use Prim.Native.Nat.{ℕ, zero, suc, ◌+◌, ◌-◌, ◌*◌, ◌/◌, ◌%◌, ◌≤◌, ◌<◌}
use native.Mathlib.Decide.{dec_lt}
use native.Mathlib.Numerals.{add-one}
use native.Mathlib.Omega.{arith}
use lib.ListN.{length, drop}
use lib.Dec.{ltb, eqb}
use borrow.Author.Tests.{lt-ltb, le-ltb, ne_eqb, ltb-true, ltb-false, eqb-false}
use Rattle.meaning.specs.Number.{num_f, num, Got, got, broken, more, lone, groups}
use Rattle.theory.proofs.Look.{never, pick_yes, pick_no}
use Rattle.theory.proofs.Once.{Bytes}

-- ------------------------------------------------------------------ writing
-- a number of one group, and one of several
pub num_f_one : (f n : ℕ) → n < 128 → num_f (suc f) n ≡ n ∷ []
num_f_one f n lt = pick_yes (dec_lt n 128) _ _ lt

pub num_f_more : (f n : ℕ) → 128 ≤ n → num_f (suc f) n ≡ (128 + n % 128) ∷ num_f f (n / 128)
num_f_more f n le = pick_no (dec_lt n 128) _ _ (λ lt. omega arith)

pub num_one : (n : ℕ) → n < 128 → num n ≡ n ∷ []
num_one n lt = num_f_one n n lt

-- the first number that needs more than g + 1 groups
abbrev pub reach : ℕ → ℕ
reach zero = 128
reach (suc g) = 128 * reach g

num_f_short : (f n g : ℕ) → n < reach g → length (num_f f n) ≤ suc g
num_f_short zero n g lt = omega arith
num_f_short (suc f) n g lt = go g lt (dec_lt n 128) (num_f_short f (n / 128))
  where
    go : (g : ℕ) → n < reach g → Dec (n < 128) → ((h : ℕ) → n / 128 < reach h → length (num_f f (n / 128)) ≤ suc h)
        → length (num_f (suc f) n) ≤ suc g
    go g l (yes p) ih = rw (num_f_one f n p) (omega arith)
    go zero l (no q) ih = absurd (q l)
    go (suc g) l (no q) ih = rw (num_f_more f n (omega arith)) (let r = ih g (omega arith) in omega arith)

pub num_short : (g n : ℕ) → n < reach g → length (num n) ≤ suc g
num_short g n lt = num_f_short (suc n) n g lt

-- ------------------------------------------------------------------ what is written is read
-- a last group behind others is not 0
abbrev pub Ends : Bool → ℕ → Type 0
Ends true n = Unit {0}
Ends false n = 0 < n

ends_more : (first : Bool) (b n : ℕ) → 0 < n → Ends first (b - 128 + 128 * n)
ends_more true b n p = tt
ends_more false b n p = omega arith

groups_one : (first : Bool) (n : ℕ) (rest : List ℕ) → n < 128 → Ends first n → groups first (n ∷ rest) ≡ got n 1
unfolding groups
groups_one true n rest lt h = rw (lt-ltb n 128 lt)
groups_one false n rest lt h = rw (lt-ltb n 128 lt, ne_eqb n 0 (λ z. omega arith))

groups_more : (first : Bool) (b : ℕ) (rest : List ℕ) → 128 ≤ b → groups first (b ∷ rest) ≡ more b (groups false rest)
unfolding groups
groups_more first b rest le = rw (le-ltb b 128 le)

read_num_f : (f n : ℕ) (first : Bool) (rest : List ℕ) → n < f → Ends first n → groups first (num_f f n ++ rest) ≡ got n (length (num_f f n))
read_num_f zero n first rest lt h = absurd (omega arith)
read_num_f (suc f) n first rest lt h = go (dec_lt n 128) (read_num_f f (n / 128) false rest)
  where
    go : Dec (n < 128)
        → (n / 128 < f → 0 < n / 128 → groups false (num_f f (n / 128) ++ rest) ≡ got (n / 128) (length (num_f f (n / 128))))
        → groups first (num_f (suc f) n ++ rest) ≡ got n (length (num_f (suc f) n))
    go (yes p) ih = rw (num_f_one f n p) (groups_one first n rest p h)
    go (no q) ih =
        rw (num_f_more f n (omega arith), groups_more first (128 + n % 128) (num_f f (n / 128) ++ rest) (omega arith), ih (omega arith) (omega arith))
        (λ i. got ((let z : 128 + n % 128 - 128 + 128 * (n / 128) ≡ n = omega arith in z) i) (add-one (length (num_f f (n / 128))) i))

-- a number is read as it was written
pub read_num : (n : ℕ) (rest : List ℕ) → groups true (num n ++ rest) ≡ got n (length (num n))
read_num n rest = read_num_f (suc n) n true rest (omega arith) tt

-- two numbers written alike are equal, and so is what follows
pub num_back : (m n : ℕ) (x y : List ℕ) → num m ++ x ≡ num n ++ y → (m ≡ n) × (x ≡ y)
num_back m n x y e = (same, append_cancel_left (num m) x y (e ∙ ap (λ k. num k ++ y) (sym same)))
  where
    same : m ≡ n
    same = let a = read_num m x in let b = read_num n y in cc

-- ------------------------------------------------------------------ nothing else is read
lone_back : (first : Bool) (b v k : ℕ) → lone first b ≡ got v k → Ends first b × (b ≡ v) × (1 ≡ k)
lone_back true b v k e = (tt, cc, cc)
lone_back false b v k e = go (eqb b 0) refl e
  where
    go : (t : Bool) → eqb b 0 ≡ t → cond t broken (got b 1) ≡ got v k → (0 < b) × (b ≡ v) × (1 ≡ k)
    go true q e' = never cc
    go false q e' = (omega (arith, eqb-false b 0 q), cc, cc)

more_back : (b : ℕ) (g : Got) (v k : ℕ) → more b g ≡ got v k → (w : ℕ) × (j : ℕ) × (g ≡ got w j) × (b - 128 + 128 * w ≡ v) × (j + 1 ≡ k)
more_back b (got w j) v k e = (w, j, refl, cc, cc)
more_back b broken v k e = never cc

-- a number takes a byte or more, and no more than there are; groups behind others stand for more than 0
pub groups_got : (first : Bool) (bs : List ℕ) (v k : ℕ) → groups first bs ≡ got v k → (0 < k) × (k ≤ length bs) × Ends first v
unfolding groups
groups_got first [] v k e = never cc
groups_got first (b ∷ bs) v k e = go (ltb b 128) e (groups_got false bs)
  where
    go : (t : Bool) → cond t (lone first b) (more b (groups false bs)) ≡ got v k
        → ((w j : ℕ) → groups false bs ≡ got w j → (0 < j) × (j ≤ length bs) × (0 < w)) → (0 < k) × (k ≤ suc (length bs)) × Ends first v
    go true e' ih = let (h, ev, ek) = lone_back first b v k e' in (omega arith, omega arith, rw (← ev) h)
    go false e' ih =
        let (w, j, eg, ev, ek) = more_back b (groups false bs) v k e' in
        let (p, q, l) = ih w j eg in (omega arith, omega arith, rw (← ev) (ends_more first b w l))

-- the bytes begin with v in its shortest writing, and k bytes were read
record Begins (first : Bool) (bs : List ℕ) (v k : ℕ) : Type 0 where
  ends : Ends first v
  bytes : (f : ℕ) → v < f → bs ≡ num_f f v ++ drop k bs

one_begins : (first : Bool) (b : ℕ) (bs : List ℕ) → b < 128 → Ends first b → Begins first (b ∷ bs) b 1
one_begins first b bs lt h = record { ends = h; bytes = write }
  where
    write : (f : ℕ) → b < f → b ∷ bs ≡ num_f f b ++ bs
    write zero l = absurd (omega arith)
    write (suc f) l = rw (num_f_one f b lt)

more_begins : (first : Bool) (b : ℕ) (bs : List ℕ) (w j : ℕ) → b < 256 → 128 ≤ b → Begins false bs w j
    → Begins first (b ∷ bs) (b - 128 + 128 * w) (suc j)
more_begins first b bs w j lt le h = record { ends = ends_more first b w pos; bytes = write }
  where
    pos : 0 < w
    pos = h.ends

    write : (f : ℕ) → b - 128 + 128 * w < f → b ∷ bs ≡ num_f f (b - 128 + 128 * w) ++ drop j bs
    write zero l = absurd (omega arith)
    write (suc f) l =
        let d : (b - 128 + 128 * w) / 128 ≡ w = omega arith in
        let m : 128 + (b - 128 + 128 * w) % 128 ≡ b = omega arith in
        rw (num_f_more f (b - 128 + 128 * w) (omega (arith, pos)), d, m, ← (h.bytes f (omega (arith, pos))))

groups_begins : (first : Bool) (bs : List ℕ) (v k : ℕ) → Bytes bs → groups first bs ≡ got v k → Begins first bs v k
unfolding groups
groups_begins first [] v k h e = never cc
groups_begins first (b ∷ bs) v k h e = go (ltb b 128) refl e (λ w j. groups_begins false bs w j (λ i l. h (suc i) (omega arith)))
  where
    go : (t : Bool) → ltb b 128 ≡ t → cond t (lone first b) (more b (groups false bs)) ≡ got v k
        → ((w j : ℕ) → groups false bs ≡ got w j → Begins false bs w j) → Begins first (b ∷ bs) v k
    go true q e' ih = let (h, ev, ek) = lone_back first b v k e' in rw (← ev, ← ek) (one_begins first b bs (ltb-true b 128 q) h)
    go false q e' ih = on (more_back b (groups false bs) v k e')
      where
        on : (w : ℕ) × (j : ℕ) × (groups false bs ≡ got w j) × (b - 128 + 128 * w ≡ v) × (j + 1 ≡ k) → Begins first (b ∷ bs) v k
        on (w, j, eg, ev, ek) = rw (← ev, ← ek, add-one) (more_begins first b bs w j (h 0 (omega arith)) (ltb-false b 128 q) (ih w j eg))

-- "Only the shortest writing of a number is read."
pub read_shortest : (bs : List ℕ) (v k : ℕ) → Bytes bs → groups true bs ≡ got v k → bs ≡ num v ++ drop k bs
read_shortest bs v k h e = (groups_begins true bs v k h e).bytes (suc v) (omega arith)
