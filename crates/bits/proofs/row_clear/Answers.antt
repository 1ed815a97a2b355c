use mathlib.Core.Path.{◌≡◌, refl}
use Prim.Native.Nat.{ℕ}
use native.Mathlib.Omega.{arith}
use Rattle.std.proofs.lemmas.List.{length-take, length-drop}
use Rattle.bits.specs.Bits.{all_to, row_clear}
use Rattle.bits.proofs.Bits.{more_clear}
use Rattle.bits.proofs.row_clear.Goals as goal

pub loop-b-init : goal.loop-b-init
unfolding all_to
loop-b-init c = refl

pub loop-b-preserved : goal.loop-b-preserved
loop-b-preserved c =
    rw c.loop-b.invariant (more_clear c.args.w.now c.args.u c.loop-b.b-index (omega (arith, length-take {A = ℕ}, length-drop {A = ℕ})))

pub returns : goal.returns
unfolding row_clear
returns c =
    let e : c.loop-b.b-index ≡ 128 = omega (arith, length-take {A = ℕ}, length-drop {A = ℕ}) in
    rw e at c.loop-b.invariant
