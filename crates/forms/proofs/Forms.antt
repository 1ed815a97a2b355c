-- What the bytes of a form are over the rows of its tree, and how many there are at most.
use mathlib.Core.Path.{◌≡◌, ap}
use mathlib.Core.List.{List}
use mathlib.Core.Option.{Option}
use Prim.Native.Nat.{ℕ, ◌≤◌}
use native.Mathlib.Omega.{arith}
use lib.ListN.{length}
use Rattle.meaning.specs.Expression.{Expr}
use Rattle.meaning.specs.TreeQuery.{Query}
use Rattle.meaning.specs.Gluing.{plain}
use Rattle.meaning.specs.Tree.{plain_tree}
use Rattle.meaning.specs.Folding.{minimal}
use Rattle.meaning.specs.Normal.{normal, word_of}
use Rattle.meaning.specs.Word.{answered, read_word}
use Rattle.theory.proofs.Index.{images_short, form_accepted}
use Rattle.rows.specs.declared.TreeRows.{TreeRows}
use Rattle.rows.specs.Trees.{IsTree, tree_of}
use Rattle.image.proofs.Image.{image_rows}
use Rattle.forms.specs.declared.Form.{Form}
use Rattle.forms.specs.declared.Form.TheVariants.{Plain, Minimal, Normal}
use Rattle.forms.specs.Form.{form_of, form_tree, bytes_of}

pub form_rows : (form : Form) (Q : Option Query) (t : TreeRows) → IsTree t → tree_of t ≡ form_tree form Q → bytes_of form t ≡ form_of form Q
unfolding bytes_of
form_rows Plain Q t R e = image_rows t.code t.mark t.kids t.span t.up t.len R (plain_tree Q) e
form_rows Minimal Q t R e = image_rows t.code t.mark t.kids t.span t.up t.len R (minimal (plain_tree Q)) e
form_rows Normal Q t R e = ap (λ f. word_of (normal f)) e

-- "At most 1,538 bytes." "The normal form has at most 2,048 bytes"
pub form_short : (form : Form) (word : List ℕ) (e : Expr) → read_word word ≡ answered e → length (form_of form (plain e)) ≤ 2048
form_short Plain word e r = omega (arith, (images_short word e r).0)
form_short Minimal word e r = omega (arith, (images_short word e r).1)
form_short Normal word e r = (form_accepted word e r).0
