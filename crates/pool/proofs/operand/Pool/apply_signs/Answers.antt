use mathlib.Core.Path.{refl}
use native.Mathlib.Omega.{arith}
use Rattle.word.proofs.Numbers.{number_at}
use Rattle.pool.proofs.Reading.{reading_start, reading_some, reading_passes, reading_next, reading_last}
use Rattle.pool.proofs.Slices.{slices_then}
use Rattle.pool.proofs.operand.Pool.apply_signs.Goals as goal

pub loop-cursor-init : goal.loop-cursor-init
loop-cursor-init c = (refl, rw c.requires.2 (reading_start _ _ (c.requires.0, c.requires.1)))

pub unwrap-read-requires : goal.unwrap-read-requires
unwrap-read-requires c = reading_some _ _ _ _ c.loop-cursor.invariant.1 c.loop-cursor-test.true _ c.read_sign.ensures.0

pub apply_sign-requires : goal.apply_sign-requires
apply_sign-requires c =
    let (got, past) = rw c.unwrap-read.ensures at c.read_sign.ensures in
    reading_passes _ _ _ _ c.loop-cursor.invariant.1 c.loop-cursor-test.true _ got

pub loop-cursor-smaller : goal.loop-cursor-smaller
loop-cursor-smaller c =
    let (got, past) = rw c.unwrap-read.ensures at c.read_sign.ensures in
    omega (arith, past, (number_at _ _ got).moved)

pub loop-cursor-preserved : goal.loop-cursor-preserved
loop-cursor-preserved c =
    let (got, past) = rw c.unwrap-read.ensures at c.read_sign.ensures in
    let h = c.loop-cursor.invariant in (
      slices_then c.args.self.now c.loop-cursor.self c.apply_sign.new.self h.0 c.apply_sign.ensures.slices,
      rw past (reading_next _ _ _ _ h.1 c.loop-cursor-test.true _ got c.apply_sign.ensures.sign),
    )

pub returns-clause-only : goal.returns-clause-only
returns-clause-only c = reading_last _ _ _ _ c.loop-cursor.invariant.1 c.loop-cursor-test.false
