-- What the test says of the k-th item is what bit k is kept by.
use mathlib.Core.Path.{refl}
use Prim.Native.Nat.{◌+◌}
use native.Mathlib.Omega.{arith}
use Rattle.std.proofs.Common.{rules}
use Rattle.std.proofs.lemmas.List.{get_or_read_under}
use Rattle.bits.proofs.Bits.{sift_none, sift_more}
use Rattle.bits.proofs.sift.Goals as goal

pub returns-then-b-eq0 : goal.returns-then-b-eq0
returns-then-b-eq0 q c z g f = sift_none _ g 8 c.if-b-eq0.true

pub loop-k-preserved : goal.loop-k-preserved
loop-k-preserved q c z g f =
    let r = c.index-items-from in
    let e = get_or_read_under c.args.items.now (c.args.from + c.loop-k.k) _ r.result z r.is (omega arith) refl in
    sift_more (c.loop-k.invariant z g f) c.loop-k-test.true c.keep_bit-r.ensures (f c.loop-k.k c.keeps.result c.loop-k-test.true (rw (← e) c.keeps.ensures))

pub returns : goal.returns
returns q c z g f = let v = c.loop-k.invariant z g f in search (rules, arith, v)
