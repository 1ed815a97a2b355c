-- The table "Limits and refusal numbers": each number stands here once, under the name that it has in code, header and second implementation too.
-- A request's refusals and limits are added here. The largest label stands with the reading of numbers (Number).
use Rattle.std.specs.Prelude.{ℕ}

-- ------------------------------------------------------------------ limits
-- "the word has more than 4,096 bytes"
abbrev pub longest_word : ℕ
longest_word = 4096

-- "an operand sign would make 257 pending operands"
abbrev pub most_pending : ℕ
most_pending = 256

-- "a step sign is the 256th step"
abbrev pub most_steps : ℕ
most_steps = 255

-- the nodes of a tree query: one, and one more for each step
abbrev pub most_nodes : ℕ
most_nodes = 256

-- the rows of a document table: "two lists of equal length, 1 to 1,024"
abbrev pub most_rows : ℕ
most_rows = 1024

-- ------------------------------------------------------------------ refusals of a word
-- "the word has more than 4,096 bytes"
abbrev pub word_too_long : ℕ
word_too_long = 1

-- "a number is cut off, not shortest, or above 65,544"
abbrev pub bad_number : ℕ
bad_number = 2

-- "an operator lacks operands"
abbrev pub missing_operand : ℕ
missing_operand = 3

-- "an operand sign would make 257 pending operands"
abbrev pub too_many_pending : ℕ
too_many_pending = 4

-- "a step sign is the 256th step"
abbrev pub too_many_steps : ℕ
too_many_steps = 5

-- "at the end, pending operands are not exactly one"
abbrev pub not_one_operand : ℕ
not_one_operand = 6

-- ------------------------------------------------------------------ refusals of a call
-- "the output room is shorter than the answer"
abbrev pub room_too_short : ℕ
room_too_short = 7

-- "the table is bad"
abbrev pub bad_table : ℕ
bad_table = 8

-- "a node of the pair is not in the table"
abbrev pub no_such_node : ℕ
no_such_node = 9

-- "the workspace has under 32,768 bytes"
abbrev pub workspace_too_short : ℕ
workspace_too_short = 10
