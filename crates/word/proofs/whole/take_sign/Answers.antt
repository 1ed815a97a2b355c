-- One answer for each way that a sign can go: `Counting` has the law of each.
use Rattle.std.proofs.Common.{sym, arith}
use Rattle.word.proofs.Counting.{operand_refused, operand_taken, step_refused, step_256th, step_taken, unary_refused, unary_taken, binary_refused, binary_taken}
use Rattle.word.proofs.whole.take_sign.Goals as goal

-- an operand: refusal 4
pub returns-in-Operand : goal.returns-in-Operand
returns-in-Operand c st e = rw c.at.ensures (operand_refused _ st _ e (sym c.in-Operand.ensures) (omega arith))

-- an operand that is taken
pub returns-in-Operand-2 : goal.returns-in-Operand-2
returns-in-Operand-2 c st e = operand_taken _ st _ e (sym c.in-Operand-2.ensures) (omega arith)

-- a step: refusal 4
pub returns-in-Step : goal.returns-in-Step
returns-in-Step c st e = rw c.at-in-Step.ensures (step_refused _ st _ e (sym c.in-Step.ensures) (omega arith))

-- a step: refusal 5
pub returns-in-Step-2 : goal.returns-in-Step-2
returns-in-Step-2 c st e = rw c.at-in-Step-2.ensures (step_256th _ st _ e (sym c.in-Step-2.ensures) (omega arith) (omega arith))

-- a step that is taken
pub returns-in-Step-3 : goal.returns-in-Step-3
returns-in-Step-3 c st e = step_taken _ st _ e (sym c.in-Step-3.ensures) (omega arith) (omega arith)

-- an operator on one operand: refusal 3
pub returns-in-Unary : goal.returns-in-Unary
returns-in-Unary c st e = rw c.at-in-Unary.ensures (unary_refused _ st _ e (sym c.in-Unary.ensures) (omega arith))

-- an operator on one operand that is taken
pub returns-in-Unary-2 : goal.returns-in-Unary-2
returns-in-Unary-2 c st e = unary_taken _ st _ e (sym c.in-Unary-2.ensures) (omega arith)

-- an operator on two operands: refusal 3
pub returns-in-Binary : goal.returns-in-Binary
returns-in-Binary c st e = rw c.at-in-Binary.ensures (binary_refused _ st _ e (sym c.in-Binary.ensures) (omega arith))

-- an operator on two operands that is taken
pub returns-in-Binary-2 : goal.returns-in-Binary-2
returns-in-Binary-2 c st e = binary_taken _ st _ e (sym c.in-Binary-2.ensures) (omega arith)
