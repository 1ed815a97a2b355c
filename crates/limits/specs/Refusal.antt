-- "When an answer is an enum, a definition tells you this paper's number and values for each of its cases": the number of each refusal, and what
-- an answer that may be a refusal stands for in the definitions of `meaning`.
use Rattle.std.specs.Prelude.{ℕ, Result, Ok, Err}
use Rattle.meaning.specs.Limits.{word_too_long, bad_number, missing_operand, too_many_pending, too_many_steps, not_one_operand, room_too_short, bad_table, no_such_node, workspace_too_short}
use Rattle.meaning.specs.Word.{Outcome, refused, answered}
use Rattle.limits.specs.declared.refusal.Refusal.{Refusal}
use Rattle.limits.specs.declared.refusal.Refusal.TheVariants.{WordTooLong, BadNumber, MissingOperand, TooManyPending, TooManySteps, NotOneOperand, RoomTooShort, BadTable, NoSuchNode, WorkspaceTooShort}
use Rattle.limits.specs.declared.refusal.Refused.{Refused}

abbrev pub number_of : Refusal → ℕ
number_of WordTooLong = word_too_long
number_of BadNumber = bad_number
number_of MissingOperand = missing_operand
number_of TooManyPending = too_many_pending
number_of TooManySteps = too_many_steps
number_of NotOneOperand = not_one_operand
number_of RoomTooShort = room_too_short
number_of BadTable = bad_table
number_of NoSuchNode = no_such_node
number_of WorkspaceTooShort = workspace_too_short

-- a call is answered, or refused with a number and a place
abbrev pub outcome_of : {A : Type 0} → Result A Refused → Outcome A
outcome_of (Ok answer) = answered answer
outcome_of (Err refusal) = refused (number_of refusal.why) refusal.place
