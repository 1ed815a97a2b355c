-- Factors as bytes, "joined from the left (x y 4 z 4)", in a room that has some of them already.
use Rattle.std.specs.Prelude.{Bool, true, cond, List, [], ◌∷◌, ◌++◌, ℕ, ltb}
use Rattle.meaning.specs.Expression.{Expr}
use Rattle.meaning.specs.Normal.{word_of}
use Rattle.groups.specs.declared.Writer.{Writer}
use Rattle.groups.specs.Filled.{filled, Fits}

-- the sign that joins a factor to those before it; the first of all is joined to nothing
abbrev pub joint : Bool → List ℕ
joint after = cond after (4 ∷ []) []

-- the bytes of some factors; `after` tells whether others stand before them
unfoldable pub run : Bool → List Expr → List ℕ
run after [] = []
run after (x ∷ xs) = word_of x ++ (joint after ++ run true xs)

-- the bytes of some factors that go to place `at`, where the first factor of all went to place `from`. No word is without bytes, so others stand
-- before them exactly if from < at
unfoldable pub fill : ℕ → ℕ → List Expr → List ℕ
fill from at xs = run (ltb from at) xs

-- the bytes of one such factor and the sign that joins it
abbrev pub factor : ℕ → ℕ → List ℕ → List ℕ
factor from at bs = bs ++ joint (ltb from at)

-- the room has so many bytes more as some factors take, where the first factor of all went to place `from`
abbrev pub Takes : ℕ → Writer → List Expr → Type 0
Takes from w xs = Fits w (fill from w.length xs)

-- what the writer is with them behind what it has
abbrev pub filled_by : ℕ → Writer → List Expr → Writer
filled_by from w xs = filled w (fill from w.length xs)
