-- Outcomes: answered and refused are never the same.
use mathlib.Core.Path.{◌≡◌}
use Prim.Native.Nat.{ℕ}
use Rattle.meaning.specs.Word.{refused, answered}
use Rattle.theory.proofs.Look.{never}

pub refused_answered : {A : Type 0} {n p : ℕ} {a : A} → refused n p ≡ answered a → ⊥
refused_answered e = never cc
