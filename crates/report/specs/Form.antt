-- The bytes of a form of a word, as the program writes them.
use Rattle.std.specs.Prelude.{List, [], ℕ}
use Rattle.meaning.specs.Expression.{Expr}
use Rattle.meaning.specs.Gluing.{plain}
use Rattle.meaning.specs.Word.{Outcome, refused, answered, read_word}
use Rattle.forms.specs.declared.Form.{Form}
use Rattle.forms.specs.Form.{form_of}

-- the form of what was read; a refused word has none
abbrev pub of_read : Form → Outcome Expr → List ℕ
of_read form (refused n p) = []
of_read form (answered e) = form_of form (plain e)

unfoldable pub form_bytes : Form → List ℕ → List ℕ
form_bytes form word = of_read form (read_word word)
