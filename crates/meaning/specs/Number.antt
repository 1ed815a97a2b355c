-- Numbers "in groups of seven bits, low group first; a byte's top bit is set when another group follows. Only the shortest writing is read."
use Rattle.std.specs.Prelude.{Bool, true, false, cond, List, [], ◌∷◌, ℕ, zero, suc, ◌+◌, ◌-◌, ◌*◌, ◌/◌, ◌%◌, drop, ltb, leb, eqb}
use Rattle.std.proofs.Math.Decide.{dec_lt}
use Rattle.meaning.specs.Basics.{pick}

-- ------------------------------------------------------------------ writing
-- at most f groups of n
abbrev pub num_f : ℕ → ℕ → List ℕ
num_f zero n = []
num_f (suc f) n = let more : List ℕ = (128 + n % 128) ∷ num_f f (n / 128) in pick (dec_lt n 128) (n ∷ []) more

-- the shortest writing of n; a number has fewer groups than n + 1
abbrev pub num : ℕ → List ℕ
num n = num_f (suc n) n

-- ------------------------------------------------------------------ reading
-- a number and the bytes that it took, or none that can be read
pub data Got : Type 0 where
  got : (value bytes : ℕ) → Got
  broken : Got

abbrev pub more : ℕ → Got → Got
more b (got v n) = got (b - 128 + 128 * v) (n + 1)
more b broken = broken

-- the last group; after other groups 0 would not be the shortest writing
abbrev pub lone : Bool → ℕ → Got
lone true b = got b 1
lone false b = cond (eqb b 0) broken (got b 1)

-- the groups at the front of the bytes; `first`: no group stands before them. Bytes that end too early are cut off
unfoldable pub groups : Bool → List ℕ → Got
groups first [] = broken
groups first (b ∷ bs) = let rest = more b (groups false bs) in cond (ltb b 128) (lone first b) rest

-- "Labels are 0 to 65,535"
abbrev pub largest_label : ℕ
largest_label = 65535

-- "so the largest sign is 65,544": label L is the sign 9 + L
abbrev pub largest_sign : ℕ
largest_sign = 9 + largest_label

abbrev pub not_above : ℕ → Got → Got
not_above top (got v n) = cond (leb v top) (got v n) broken
not_above top broken = broken

-- the number at a place of the bytes; one above `top` cannot be read
abbrev pub read_up_to : ℕ → List ℕ → ℕ → Got
read_up_to top bytes at = not_above top (groups true (drop at bytes))

-- the sign at a place of the word
unfoldable pub read_number : List ℕ → ℕ → Got
read_number = read_up_to largest_sign
