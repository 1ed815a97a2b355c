-- The text that the program writes, from the bytes that it has read (01, The program). Characters are their numbers in ASCII.
-- "It .. writes three lines, each a name, a blank and lower-case hex: plain image, minimal image, normal form. Each line ends with a line feed.
-- A refusal is one line, `refused N P`, number and place in decimal."
use Rattle.std.specs.Prelude.{cond, List, [], ◌∷◌, ◌++◌, ℕ, zero, suc, ◌+◌, ◌/◌, ◌%◌, ltb}
use Rattle.meaning.specs.Expression.{Expr}
use Rattle.meaning.specs.Gluing.{plain}
use Rattle.meaning.specs.Image.{plain_image, minimal_image}
use Rattle.meaning.specs.Normal.{normal_form}
use Rattle.meaning.specs.Word.{Outcome, refused, answered, read_word}

-- ------------------------------------------------------------------ digits
-- "lower-case hex": 0 to 9 are 48 to 57, a to f are 97 to 102
abbrev pub hex_digit : ℕ → ℕ
hex_digit n = cond (ltb n 10) (48 + n) (87 + n)

-- two digits a byte, the higher first
unfoldable pub hex : List ℕ → List ℕ
hex [] = []
hex (b ∷ bs) = hex_digit (b / 16) ∷ (hex_digit (b % 16) ∷ hex bs)

-- the last f digits of n, or all where there are fewer
unfoldable pub decimal_f : ℕ → ℕ → List ℕ
decimal_f zero n = []
decimal_f (suc f) n = let more : List ℕ = decimal_f f (n / 10) ++ ((48 + n % 10) ∷ []) in cond (ltb n 10) ((48 + n) ∷ []) more

-- "in decimal", with no zero in front; a number n has at most n + 1 digits
abbrev pub decimal : ℕ → List ℕ
decimal n = decimal_f (suc n) n

-- ------------------------------------------------------------------ lines
-- "a name, a blank and lower-case hex"; "Each line ends with a line feed."
unfoldable pub line : List ℕ → List ℕ → List ℕ
line name bytes = name ++ (32 ∷ (hex bytes ++ (10 ∷ [])))

-- plain, minimal, normal
abbrev pub plain_name : List ℕ
plain_name = 112 ∷ 108 ∷ 97 ∷ 105 ∷ 110 ∷ []

abbrev pub minimal_name : List ℕ
minimal_name = 109 ∷ 105 ∷ 110 ∷ 105 ∷ 109 ∷ 97 ∷ 108 ∷ []

abbrev pub normal_name : List ℕ
normal_name = 110 ∷ 111 ∷ 114 ∷ 109 ∷ 97 ∷ 108 ∷ []

-- "plain image, minimal image, normal form"
abbrev pub three_lines : Expr → List ℕ
three_lines e = line plain_name (plain_image (plain e)) ++ (line minimal_name (minimal_image (plain e)) ++ line normal_name (normal_form (plain e)))

-- refused
abbrev pub refused_name : List ℕ
refused_name = 114 ∷ 101 ∷ 102 ∷ 117 ∷ 115 ∷ 101 ∷ 100 ∷ []

-- "`refused N P`, number and place in decimal"
unfoldable pub refusal_line : ℕ → ℕ → List ℕ
refusal_line n p = refused_name ++ (32 ∷ (decimal n ++ (32 ∷ (decimal p ++ (10 ∷ [])))))

-- ------------------------------------------------------------------ the whole text
abbrev pub reported : Outcome Expr → List ℕ
reported (refused n p) = refusal_line n p
reported (answered e) = three_lines e

unfoldable pub program_text : List ℕ → List ℕ
program_text word = reported (read_word word)
