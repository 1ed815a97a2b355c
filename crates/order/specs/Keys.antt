-- One number for each row, its key: rows compare by their keys as the first three numbers of their records compare byte by byte.
-- Byte order is not number order: the labels 127, 255, 128 stand in this order.
use Rattle.std.specs.Prelude.{List, [], ◌∷◌, ℕ, zero, suc, ◌+◌, ◌*◌}
use Rattle.meaning.specs.Number.{num}

-- what the first of k + 1 bytes weighs
abbrev pub weight : ℕ → ℕ
weight zero = 1
weight (suc k) = 256 * weight k

-- at most k bytes, filled up to k, as one number
unfoldable pub filled : ℕ → List ℕ → ℕ
filled zero bs = 0
filled (suc k) [] = 0
filled (suc k) (b ∷ bs) = b * weight k + filled k bs

-- a number below 128 * 128 * 128 has at most three bytes
unfoldable pub three_bytes : ℕ → ℕ
three_bytes n = filled 3 (num n)

-- the key of a row with label code l, mark m (one byte) and c children
unfoldable pub key_of : ℕ → ℕ → ℕ → ℕ
key_of l m c = (three_bytes l * 256 + m) * 16777216 + three_bytes c
