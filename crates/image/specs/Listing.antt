-- The bytes of n rows, one row after the other. Where the rows are a tree in image order this is the tree's image (proofs/Image).
use Rattle.std.specs.Prelude.{List, [], ◌++◌, ℕ, zero, suc, get_or}
use Rattle.meaning.specs.Number.{num}
use Rattle.rows.specs.declared.TreeRows.{TreeRows}

-- what a record begins with: "label code .., mark .., number of children"
unfoldable pub head : ℕ → ℕ → ℕ → List ℕ
head code mark kids = num code ++ (num mark ++ num kids)

-- k rows from row u on
unfoldable pub rows_from : List ℕ → List ℕ → List ℕ → ℕ → ℕ → List ℕ
rows_from code mark kids zero u = []
rows_from code mark kids (suc k) u = head (get_or code u 0) (get_or mark u 0) (get_or kids u 0) ++ rows_from code mark kids k (suc u)

-- "First the number of nodes, 0 for empty." Then the rows
unfoldable pub listing : List ℕ → List ℕ → List ℕ → ℕ → List ℕ
listing code mark kids n = num n ++ rows_from code mark kids n 0

-- the same of the rows in one value
abbrev pub listing_of : TreeRows → List ℕ
listing_of t = listing t.code t.mark t.kids t.len
