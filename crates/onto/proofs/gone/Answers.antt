-- The bit is set and no other changes, for every byte.
use native.Mathlib.Omega.{arith}
use Rattle.onto.proofs.Onto.{goes_away}
use Rattle.onto.proofs.gone.Goals as goal

pub returns : goal.returns
returns c = goes_away _ (omega arith)
