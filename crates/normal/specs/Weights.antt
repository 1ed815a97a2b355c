-- What each row adds to the length of the normal form, counted with one sign more for each factor, which joins it to those before it.
use Rattle.std.specs.Prelude.{Bool, ◌||◌, cond, List, ℕ, zero, suc, ◌+◌, length, get_or, ltb, eqb}
use Rattle.meaning.specs.Number.{num}
use Rattle.meaning.specs.TreeQuery.{Lab, any, lab}
use Rattle.rows.specs.Rows.{lab_of, covers}

-- a label's sign and the sign that joins it; a wildcard has none
unfoldable pub lab_weight : Lab → ℕ
lab_weight any = 0
lab_weight (lab l) = suc (length (num (9 + l)))

-- row c is on the way from the top to s or to d
unfoldable pub on_way : List ℕ → ℕ → ℕ → ℕ → Bool
on_way span s d c = covers span c s || covers span c d

-- the children of row p that are off the ways are branches of their own: "one first projection for each child off those ways", and in a chain, if the
-- node has more than one child, "one first projection each"
unfoldable pub branching : List ℕ → List ℕ → ℕ → ℕ → ℕ → Bool
branching kids span s d p = on_way span s d p || ltb 1 (get_or kids p 0)

-- row u: its label, and, but for the top, its step and the projection of a branch
unfoldable pub row_weight : List ℕ → List ℕ → List ℕ → List ℕ → ℕ → ℕ → ℕ → ℕ
row_weight code kids span up s d u =
    lab_weight (lab_of (get_or code u 0)) + cond (eqb u 0) 0 (cond (on_way span s d u) 2 (2 + cond (branching kids span s d (get_or up u 0)) 1 0))

-- k rows from row u on
unfoldable pub rows_weight : List ℕ → List ℕ → List ℕ → List ℕ → ℕ → ℕ → ℕ → ℕ → ℕ
rows_weight code kids span up s d zero u = 0
rows_weight code kids span up s d (suc k) u = row_weight code kids span up s d u + rows_weight code kids span up s d k (suc u)
