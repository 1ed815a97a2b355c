-- Writing the factors: what is left of the four parts when some of them stand in the room.
use mathlib.Core.List.{List, [], ◌++◌}
use Prim.Native.Nat.{ℕ}
use native.Mathlib.Omega.{arith}
use mathlib.Core.Path.{◌≡◌}
use Rattle.meaning.specs.Expression.{Expr}
use Rattle.meaning.specs.Normal.{above_factor}
use Rattle.groups.specs.declared.Writer.{Writer}
use Rattle.branches.specs.Joining.{Takes, filled_by}
use Rattle.branches.specs.Factors.{own_at}
use Rattle.branches.proofs.Joining.{Left, left_start, left_step}
use Rattle.ways.specs.Ways.{ups_at, downs_at, way_at}
use Rattle.normal.specs.Forms.{form_at}

module _ (code span : List ℕ) (s d t : ℕ) (w : Writer) (l : Takes w.length w (form_at code span s d t)) where
  abbrev Rest : Writer → List Expr → Type 0
  Rest = Left (filled_by w.length w (form_at code span s d t)) w.length

  pub form_start : Rest w (ups_at code span s t ++ (above_factor (way_at code span t 0) [] ++ (own_at code span s d t ++ downs_at code span d t)))
  unfolding form_at
  form_start = left_start (omega arith) l

  module _ {w₁ : Writer} (u : w₁ ≡ filled_by w.length w (ups_at code span s t)) where
    pub risen : Rest w₁ (above_factor (way_at code span t 0) [] ++ (own_at code span s d t ++ downs_at code span d t))
    risen = left_step _ _ form_start u

    module _ {w₂ : Writer} (v : w₂ ≡ filled_by w.length w₁ (above_factor (way_at code span t 0) [])) where
      pub met : Rest w₂ (own_at code span s d t ++ downs_at code span d t)
      met = left_step _ _ risen v

      pub owned : {w₃ : Writer} → w₃ ≡ filled_by w.length w₂ (own_at code span s d t) → Rest w₃ (downs_at code span d t)
      owned e = left_step _ _ met e
