-- The reading place: where it stands after a number was read.
use Rattle.std.specs.Prelude.{ℕ, Option, Some, None}
use Rattle.word.specs.declared.number.Read.{Read}

-- the place after what was read at place `at`; a broken number moves nothing
abbrev pub place_past : ℕ → Option Read → ℕ
place_past at (Some read) = read.next
place_past at None = at
