-- "That no second answer fits is itself a proved statement": one row is the lowest above or at both s and d.
use mathlib.Core.Path.{◌≡◌}
use mathlib.Core.List.{List}
use Prim.Native.Nat.{ℕ}
use native.Mathlib.Omega.{arith}
use Rattle.ways.specs.Ways.{Lowest}

pub lowest_unique : (span : List ℕ) (s d t t' : ℕ) → Lowest span s d t → Lowest span s d t' → t ≡ t'
lowest_unique span s d t t' L L' = omega (arith, L.least t' L'.to_s L'.to_d, L'.least t L.to_s L.to_d)
