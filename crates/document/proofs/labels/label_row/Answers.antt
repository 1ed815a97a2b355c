use native.Mathlib.Omega.{arith}
use Rattle.bits.proofs.Bits.{only_then, store_only}
use Rattle.document.specs.Nodes.{Suits}
use Rattle.document.proofs.Nodes.{row_byte}
use Rattle.document.proofs.labels.label_row.Goals as goal

pub loop-i-preserved : goal.loop-i-preserved
loop-i-preserved c = (
  only_then _ _ _ _ c.loop-i.invariant.0
      (store_only _ _ c.loop-i.i _ (omega (arith, c.requires.2)) (omega (arith, c.loop-i.invariant.0.same, c.requires.1))),
  row_byte _ (Suits c.args.code c.args.labels.now) c.loop-i.i _ _ (omega (arith, c.requires.2))
      (omega (arith, c.loop-i.invariant.0.same, c.requires.1)) c.label_byte.ensures c.loop-i.invariant.1,
)
