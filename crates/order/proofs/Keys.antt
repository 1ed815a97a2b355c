-- "the children's records in ascending byte order": the key of a row is one number, and keys compare as the first three numbers of two records
-- compare byte by byte.
use mathlib.Core.Path.{◌≡◌, refl, sym, ap, ◌∙◌}
use mathlib.Core.List.{List, [], ◌∷◌, ◌++◌}
use Prim.Native.Nat.{ℕ, zero, suc, ◌+◌, ◌*◌, ◌/◌, ◌%◌, ◌<◌, ◌≤◌}
use native.Mathlib.Omega.{arith}
use native.Mathlib.Decide.{dec_lt}
use native.Mathlib.Nat.{mul-le-mul_right}
use Rattle.std.specs.Ordering.{ordering_then, nat_cmp}
use Rattle.std.specs.declared.cmp.Ordering.TheVariants.{Equal}
use Rattle.meaning.specs.Number.{num_f, num}
use Rattle.theory.proofs.Numbers.{num_f_one, num_f_more, num_one, reach, num_back}
use Rattle.order.specs.Keys.{weight, filled, three_bytes, key_of}
use Rattle.order.proofs.Comparing.{then_assoc, cmp_lt, cmp_gt, cmp_eq, digit_cmp, cmp_l, cmp_same}

-- ------------------------------------------------------------------ bytes of numbers
-- at most k bytes, of which the last one alone is below 128
data Bytes : ℕ → List ℕ → Type 0 where
  last : {k b : ℕ} → b < 128 → Bytes (suc k) (b ∷ [])
  more : {k b : ℕ} {bs : List ℕ} → 128 ≤ b → b < 256 → Bytes k bs → Bytes (suc k) (b ∷ bs)

bytes_num_f : (g f n : ℕ) → n < reach g → n < f → Bytes (suc g) (num_f f n)
bytes_num_f g zero n h l = absurd (omega arith)
bytes_num_f g (suc f) n h l = go g h (dec_lt n 128) (λ g' h'. bytes_num_f g' f (n / 128) h')
  where
    go : (g : ℕ) → n < reach g → Dec (n < 128) → ((g' : ℕ) → n / 128 < reach g' → n / 128 < f → Bytes (suc g') (num_f f (n / 128))) → Bytes (suc g) (num_f (suc f) n)
    go g h (yes p) ih = rw (num_f_one f n p) (last p)
    go zero h (no q) ih = absurd (q h)
    go (suc g) h (no q) ih = rw (num_f_more f n (omega arith)) (more {b = 128 + n % 128} (omega arith) (omega arith) (ih g (omega arith) (omega arith)))

bytes : (n : ℕ) → n < 2097152 → Bytes 3 (num n)
bytes n l = bytes_num_f 2 (suc n) n l (omega arith)

-- nothing, filled up
filled_none : (k : ℕ) → (filled k [] ≡ 0) × (0 < weight k)
unfolding filled
filled_none zero = (refl, omega arith)
filled_none (suc k) = (refl, let z = (filled_none k).1 in omega arith)

filled_lt : {k : ℕ} {bs : List ℕ} → Bytes k bs → filled k bs < weight k
unfolding filled
filled_lt (last {k = k} h) = let z = filled_none k in let m = mul-le-mul_right (weight k) h in omega (arith, z.0, z.1)
filled_lt (more {k = k} h g r) = let z = filled_lt r in let m = mul-le-mul_right (weight k) g in omega arith

-- with what follows them: the numbers in which they are filled up compare as the bytes
bytes_cmp : {k : ℕ} {bs cs : List ℕ} (x y : List ℕ) → Bytes k bs → Bytes k cs → cmp_l (bs ++ x) (cs ++ y) ≡ ordering_then (nat_cmp (filled k bs) (filled k cs)) (cmp_l x y)
unfolding cmp_l filled
bytes_cmp x y (last {k = k} {b = b} h) (last {b = c} h') =
    let z = filled_none k in
    rw (digit_cmp (weight k) b c (filled k []) (filled k []) (omega (arith, z.0, z.1)) (omega (arith, z.0, z.1)), cmp_eq (filled k []) (filled k []) (omega arith) (omega arith))
    (sym (then_assoc (nat_cmp b c) Equal (cmp_l x y)))
bytes_cmp x y (last {k = k} {b = b} h) (more {b = c} {bs = cs} h' g' r') =
    let z = filled_none k in
    rw (digit_cmp (weight k) b c (filled k []) (filled k cs) (omega (arith, z.0, z.1)) (filled_lt r'), cmp_lt b c (omega arith))
bytes_cmp x y (more {k = k} {b = b} {bs = bs} h g r) (last {b = c} h') =
    let z = filled_none k in
    rw (digit_cmp (weight k) b c (filled k bs) (filled k []) (filled_lt r) (omega (arith, z.0, z.1)), cmp_gt b c (omega arith))
bytes_cmp x y (more {k = k} {b = b} {bs = bs} h g r) (more {b = c} {bs = cs} h' g' r') =
    rw (digit_cmp (weight k) b c (filled k bs) (filled k cs) (filled_lt r) (filled_lt r'), bytes_cmp x y r r')
    (sym (then_assoc (nat_cmp b c) (nat_cmp (filled k bs) (filled k cs)) (cmp_l x y)))

num_cmp : (n m : ℕ) (x y : List ℕ) → n < 2097152 → m < 2097152 → cmp_l (num n ++ x) (num m ++ y) ≡ ordering_then (nat_cmp (three_bytes n) (three_bytes m)) (cmp_l x y)
unfolding three_bytes
num_cmp n m x y ln lm = bytes_cmp x y (bytes n ln) (bytes m lm)

three_lt : (n : ℕ) → n < 2097152 → three_bytes n < 16777216
unfolding three_bytes
three_lt n l = filled_lt (bytes n l)

three_back : (n m : ℕ) → n < 2097152 → m < 2097152 → three_bytes n ≡ three_bytes m → n ≡ m
unfolding cmp_l
three_back n m ln lm h =
    (num_back n m [] []
    (cmp_same (num n ++ []) (num m ++ []) (num_cmp n m [] [] ln lm ∙ rw (cmp_eq (three_bytes n) (three_bytes m) (omega arith) (omega arith))))).0

-- ------------------------------------------------------------------ keys
module _ (l m c l' m' c' : ℕ) (ll : l < 2097152) (lm : m < 128) (lc : c < 2097152) (ll' : l' < 2097152) (lm' : m' < 128) (lc' : c' < 2097152) where
  key_cmp : nat_cmp (key_of l m c) (key_of l' m' c') ≡ ordering_then (ordering_then (nat_cmp (three_bytes l) (three_bytes l')) (nat_cmp m m')) (nat_cmp (three_bytes c) (three_bytes c'))
  unfolding key_of
  key_cmp =
      digit_cmp 16777216 (three_bytes l * 256 + m) (three_bytes l' * 256 + m') (three_bytes c) (three_bytes c') (three_lt c lc) (three_lt c' lc')
      ∙ rw (digit_cmp 256 (three_bytes l) (three_bytes l') m m' (omega arith) (omega arith))

  -- the first three numbers of two records, with what follows them
  pub head_cmp : (x y : List ℕ) → cmp_l (num l ++ (num m ++ (num c ++ x))) (num l' ++ (num m' ++ (num c' ++ y))) ≡ ordering_then (nat_cmp (key_of l m c) (key_of l' m' c')) (cmp_l x y)
  unfolding cmp_l
  head_cmp x y =
      rw (
        num_cmp l l' (num m ++ (num c ++ x)) (num m' ++ (num c' ++ y)) ll ll',
        num_one m lm,
        num_one m' lm',
        num_cmp c c' x y lc lc',
        key_cmp,
      ) (simp then_assoc)

  -- equal keys have equally many children
  pub key_back : key_of l m c ≡ key_of l' m' c' → c ≡ c'
  unfolding key_of
  key_back e = let a = three_lt c lc in let a' = three_lt c' lc' in three_back c c' lc lc' (omega arith)

-- ------------------------------------------------------------------ the bytes in the making
num_two : (x : ℕ) → 128 ≤ x → x < 16384 → num x ≡ (128 + x % 128) ∷ (x / 128) ∷ []
num_two zero h g = absurd (omega arith)
num_two (suc f) h g = num_f_more (suc f) (suc f) h ∙ ap (λ z. (128 + suc f % 128) ∷ z) (num_f_one f (suc f / 128) (omega arith))

num_three : (x : ℕ) → 16384 ≤ x → x < 2097152 → num x ≡ (128 + x % 128) ∷ (128 + x / 128 % 128) ∷ (x / 16384) ∷ []
num_three zero h g = absurd (omega arith)
num_three (suc zero) h g = absurd (omega arith)
num_three (suc (suc f)) h g =
    let x = suc (suc f) in
    let q : x / 128 / 128 ≡ x / 16384 = omega arith in
    num_f_more x x (omega arith) ∙ ap (λ z. (128 + x % 128) ∷ z) (num_f_more (suc f) (x / 128) (omega arith)
    ∙ ap (λ z. (128 + x / 128 % 128) ∷ z) (num_f_one f (x / 128 / 128) (omega arith) ∙ ap (λ z. z ∷ []) q))

pub three_one : (x : ℕ) → x < 128 → (65536 * x ≡ three_bytes x) × (65536 * x < 16777216)
unfolding three_bytes filled
three_one x h = (rw (num_one x h) (omega arith), omega arith)

pub three_two : (x : ℕ) → 128 ≤ x → x < 16384 → (65536 * (128 + x % 128) + 256 * (x / 128) ≡ three_bytes x) × (65536 * (128 + x % 128) + 256 * (x / 128) < 16777216)
unfolding three_bytes filled
three_two x h g = (rw (num_two x h g) (omega arith), omega arith)

pub three_three : (x : ℕ) → 16384 ≤ x → x < 2097152
    → (65536 * (128 + x % 128) + 256 * (128 + x / 128 % 128) + x / 16384 ≡ three_bytes x) × (65536 * (128 + x % 128) + 256 * (128 + x / 128 % 128) + x / 16384 < 16777216)
unfolding three_bytes filled
three_three x h g = (rw (num_three x h g) (omega arith), omega arith)
