-- What stood `gap` further on stands there still, and goes by the rule.
use Prim.Native.Nat.{◌+◌}
use native.Mathlib.Omega.{arith}
use Rattle.std.proofs.Common.{rules}
use Rattle.glue.proofs.Sweeping.{swept_step}
use Rattle.glue.proofs.merging.sweep.Goals as goal

pub rule-requires : goal.rule-requires
rule-requires g c =
    let r = c.index-entries-i in let q = c.requires.callable r.result c.loop-i.i (omega arith) (omega arith) in
    let e = (c.loop-i.invariant.2 r.result).rest (c.loop-i.i + c.args.gap) (omega arith) in let p = rw (← e, ← r.is) at q in search (rules, p)

pub loop-i-preserved : goal.loop-i-preserved
loop-i-preserved g c = (omega arith, omega arith, λ z. swept_step (c.loop-i.invariant.2 z) (omega arith) (omega arith) _ c.index-entries-i.is (omega arith) c.rule.ensures)

pub returns : goal.returns
returns g c z = let v = c.loop-i.invariant.2 z in search (rules, arith, v)
