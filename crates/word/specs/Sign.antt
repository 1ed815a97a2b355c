-- The number of each sign, and what a sign does to the pending operands: the table of signs of `meaning`, sign by sign, as a case of Kind.
use Rattle.std.specs.Prelude.{Bool, true, false, ℕ, ◌+◌, ◌<◌}
use Rattle.meaning.specs.Word as meaning
use Rattle.meaning.specs.Word.{operand, unary, binary, sign_of, is_step}
use Rattle.word.specs.declared.sign.Sign.{Sign}
use Rattle.word.specs.declared.sign.Sign.TheVariants.{Empty, Itself, Child, Parent, Composition, FirstProjection, SecondProjection, Intersection, Inverse, Label}
use Rattle.word.specs.declared.sign.Kind.{Kind}
use Rattle.word.specs.declared.sign.Kind.TheVariants.{Operand, Step, Unary, Binary}

-- "The signs, in postfix order", by their numbers: `sign_of` says what each of them is
abbrev pub number_of : Sign → ℕ
number_of Empty = 0
number_of Itself = 1
number_of Child = 2
number_of Parent = 3
number_of Composition = 4
number_of FirstProjection = 5
number_of SecondProjection = 6
number_of Intersection = 7
number_of Inverse = 8
number_of (Label l) = 9 + l

-- 32 bits hold its number: so it is of each sign that is made of a number
abbrev pub Numbered : Sign → Type 0
Numbered s = number_of s < 4294967296

abbrev pub kind_by : meaning.Sign → Bool → Kind
kind_by (operand e) false = Operand
kind_by (operand e) true = Step
kind_by (unary f) step = Unary
kind_by (binary f) step = Binary

unfoldable pub kind_of : ℕ → Kind
kind_of n = kind_by (sign_of n) (is_step n)
