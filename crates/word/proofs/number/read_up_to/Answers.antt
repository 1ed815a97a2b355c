use Rattle.std.proofs.Common.{arith}
use Rattle.word.proofs.Reading.{reading_cut, reading_zero, reading_last, reading_above, reading_far, reading_more}
use Rattle.word.proofs.number.read_up_to.Goals as goal

-- not the shortest writing
pub returns-then-weight-gt1 : goal.returns-then-weight-gt1
returns-then-weight-gt1 c =
    reading_zero _ _ _ _ _ _ c.loop-i.invariant _ c.from-group.ensures c.loop-i-test.true c.if-group-eq0.true c.if-weight-gt1.true

-- the last group makes it too large
pub returns-then-most-value : goal.returns-then-most-value
returns-then-most-value c =
    reading_above _ _ _ _ _ _ c.loop-i.invariant _ c.from-group.ensures
    c.loop-i-test.true c.if-group-lt-GROUP.true c.else-group-eq0.either (omega arith)

-- the number and the place behind it
pub returns-then-group-lt-GROUP : goal.returns-then-group-lt-GROUP
returns-then-group-lt-GROUP c =
    reading_last _ _ _ _ _ _ c.loop-i.invariant _ c.from-group.ensures
    c.loop-i-test.true c.if-group-lt-GROUP.true c.else-group-eq0.either (omega arith)

-- a further group would make it too large
pub returns-then-most-weight : goal.returns-then-most-weight
returns-then-most-weight c =
    reading_far _ _ _ _ _ _ c.loop-i.invariant _ c.from-group.ensures
    c.loop-i-test.true c.if-group-lt-GROUP.false (omega arith)

pub loop-i-preserved : goal.loop-i-preserved
loop-i-preserved c =
    reading_more c.args.top _ _ _ _ _ c.loop-i.invariant _ c.from-group.ensures
    c.loop-i-test.true c.if-group-lt-GROUP.false (omega arith) (omega arith) (omega arith)

-- cut off
pub returns : goal.returns
returns c = reading_cut _ _ _ _ _ _ c.loop-i.invariant c.loop-i-test.false
