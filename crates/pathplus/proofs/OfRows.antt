-- What the rows of a form of an accepted word give: the form's bytes, and what the writer and the pair question ask of them.
use mathlib.Core.Path.{◌≡◌, refl, sym, ap, subst, ◌∙◌}
use mathlib.Core.Bool.{Bool}
use mathlib.Core.Option.{Option, none, some}
use mathlib.Core.List.{List}
use Prim.Native.Nat.{ℕ, ◌<◌}
use native.Mathlib.Omega.{arith}
use Rattle.meaning.specs.Expression.{Expr, pairs}
use Rattle.meaning.specs.TreeQuery.{Query, TreeQuery}
use Rattle.meaning.specs.Gluing.{plain}
use Rattle.meaning.specs.Tree.{tree_of, size}
use Rattle.meaning.specs.Folding.{minimal}
use Rattle.meaning.specs.Word.{Outcome, refused, answered, read_word}
use Rattle.theory.proofs.Look.{never}
use Rattle.theory.proofs.Marks.{QueryTree, query_tree, ordered_query_tree}
use Rattle.theory.proofs.Plain.{Means, plain_means}
use Rattle.theory.proofs.Same.{least_tree}
use Rattle.rows.specs.Trees.{IsTree, tree_of as tree_at}
use Rattle.rows.specs.declared.TreeRows.{TreeRows}
use Rattle.rows.specs.Table.{image_tree}
use Rattle.rows.proofs.Rows.{size_rows}
use Rattle.normal.specs.Forms.{IsQuery}
use Rattle.word.specs.Answer.{verdict}
use Rattle.query.specs.Trees.{RowsOf}
use Rattle.forms.specs.declared.Form.{Form}
use Rattle.forms.specs.declared.Form.TheVariants.{Plain, Minimal, Normal}
use Rattle.forms.specs.Form.{form_of, is_folded, form_tree, bytes_of}
use Rattle.forms.proofs.Forms.{form_rows}

-- a word that is told to be refused is refused so
pub word_refused : (word : List ℕ) {n p : ℕ} → refused n p ≡ verdict (read_word word) → read_word word ≡ refused n p
word_refused word {n} {p} v = go (read_word word) refl v
  where
    go : (o : Outcome Expr) → read_word word ≡ o → refused n p ≡ verdict o → read_word word ≡ refused n p
    go (refused n' p') r e = r ∙ (let a : n' ≡ n = cc in let b : p' ≡ p = cc in λ i. refused (a i) (b i))
    go (answered f) r e = never cc

-- the tree of a tree query's form has one top, one s and one d
form_tree_lem : (form : Form) (Q : Query) → TreeQuery Q → QueryTree (form_tree form (some Q))
form_tree_lem Plain Q v = ordered_query_tree (tree_of Q) (query_tree Q v)
form_tree_lem Minimal Q v = least_tree Q v
form_tree_lem Normal Q v = least_tree Q v

-- the tree that a form is of, folded or not
pub tree_form : (form : Form) {folded : Bool} → folded ≡ is_folded form → (o : Option Query) → image_tree folded o ≡ form_tree form o
tree_form form q o = ap (λ b. image_tree b o) q

-- and its rows
pub rows_form : (form : Form) {folded : Bool} {word : List ℕ} {t : TreeRows} → folded ≡ is_folded form
    → RowsOf (λ e. image_tree folded (plain e)) word t → RowsOf (λ e. form_tree form (plain e)) word t
rows_form form q R = record { rows = R.rows; tree = λ e w. R.tree e w ∙ tree_form form q (plain e); room = R.room }

-- of an accepted word's expression `RowsOf` gives both halves; the length of the tables is not asked for
module _ (form : Form) (e : Expr) {t : TreeRows} (rows : IsTree t) (tree : tree_at t ≡ form_tree form (plain e)) where
  pub form_written : bytes_of form t ≡ form_of form (plain e)
  form_written = form_rows form (plain e) _ rows tree

  -- where there are rows they are a tree query's tree
  rows_tree : 0 < t.len → QueryTree (tree_at t)
  unfolding minimal
  rows_tree pos = subst QueryTree (sym tree) (go (plain e) refl (plain_means e))
    where
      empty : (form : Form) → size (form_tree form none) ≡ 0
      empty Plain = refl
      empty Minimal = refl
      empty Normal = refl

      go : (o : Option Query) → plain e ≡ o → Means (pairs e) o → QueryTree (form_tree form (plain e))
      go none q w =
          let z = size_rows t.span t.len rows.laid t.code t.mark in
          let y : size (tree_at t) ≡ 0 = ap size (tree ∙ ap (form_tree form) q) ∙ empty form in
          absurd (omega arith)
      go (some Q) q (v, w) = subst (λ o. QueryTree (form_tree form o)) (sym q) (form_tree_lem form Q v)

  pub query_rows : IsQuery t
  query_rows = record { rows = rows; one_src = λ pos. (rows_tree pos).source; one_dst = λ pos. (rows_tree pos).dest }
