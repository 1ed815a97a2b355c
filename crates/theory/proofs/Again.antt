-- Demand 2, read in again: the normal form of an accepted word is accepted, within its limits, and gives the same minimal tree and normal form.
use mathlib.Core.Path.{◌≡◌, sym, ap}
use mathlib.Core.Option.{Option, none, some}
use mathlib.Core.List.{List}
use Prim.Native.Nat.{ℕ, suc, ◌≤◌}
use native.Mathlib.Omega.{arith}
use lib.ListN.{length}
use Rattle.meaning.specs.Expression.{Expr, pairs, steps}
use Rattle.meaning.specs.TreeQuery.{Query}
use Rattle.meaning.specs.Gluing.{plain}
use Rattle.meaning.specs.Tree.{Forest, Tag, plain_tree, size}
use Rattle.meaning.specs.Folding.{minimal}
use Rattle.meaning.specs.Image.{ordered, plain_image, minimal_image, minimal_tree}
use Rattle.meaning.specs.Normal.{normal, normal_of, word_of, normal_form}
use Rattle.meaning.specs.Word.{answered, read_word}
use Rattle.theory.proofs.Plain.{Means, AtMost, RowsIn, plain_means, few_nodes, plain_labels}
use Rattle.theory.proofs.Weigh.{size_tree}
use Rattle.theory.proofs.Minimal.{minimal_size}
use Rattle.theory.proofs.Order.{ordered_size, ordered_labels}
use Rattle.theory.proofs.Labels.{LabsIn}
use Rattle.theory.proofs.Marks.{tree_labels, minimal_labels}
use Rattle.theory.proofs.Factors.{normal_labels}
use Rattle.theory.proofs.Operands.{normal_need}
use Rattle.theory.proofs.Limits.{InRange, image_short, form_short}
use Rattle.theory.proofs.Reread.{read_word_lem}
use Rattle.theory.proofs.Accepted.{accepted}
use Rattle.theory.proofs.Same.{same_normal}
use Rattle.theory.proofs.Least.{one_tree, steps_nodes}

-- a tree within the limits of an accepted word: at most 256 nodes, and labels of the range
pub record Within (f : Forest Tag) : Type 0 where
  pub few : size f ≤ 256
  pub labels : LabsIn InRange f

pub minimal_within : (f : Forest Tag) → Within f → Within (minimal f)
minimal_within f w = record { few = let z = minimal_size f in let y = w.few in omega arith; labels = minimal_labels InRange f w.labels }

pub ordered_within : (f : Forest Tag) → Within f → Within (ordered f)
ordered_within f w = record { few = let z = ordered_size f in let y = w.few in omega arith; labels = (ordered_labels InRange f).1 w.labels }

-- an accepted word keeps its plain tree within them
pub plain_within : (word : List ℕ) (e : Expr) → read_word word ≡ answered e → Within (plain_tree (plain e))
plain_within word e r = go (plain e) (plain_means e) (few_nodes e) (plain_labels InRange e (accepted word e r).1)
  where
    go : (o : Option Query) → Means (pairs e) o → AtMost (suc (steps e)) o → RowsIn InRange o → Within (plain_tree o)
    go none w l i = record { few = omega arith; labels = tt }
    go (some Q) (v, w) l i = record { few = let z = size_tree Q v in let s = (accepted word e r).0 in omega arith; labels = tree_labels InRange Q i }

pub minimal_tree_within : (word : List ℕ) (e : Expr) → read_word word ≡ answered e → Within (minimal_tree (plain e))
minimal_tree_within word e r = ordered_within (minimal (plain_tree (plain e))) (minimal_within (plain_tree (plain e)) (plain_within word e r))

-- "At most 1,538 bytes."
pub images_short : (word : List ℕ) (e : Expr) → read_word word ≡ answered e
    → (length (plain_image (plain e)) ≤ 1538) × (length (minimal_image (plain e)) ≤ 1538)
images_short word e r =
    let p = plain_within word e r in
    let m = minimal_within (plain_tree (plain e)) p in
    (image_short (plain_tree (plain e)) p.labels p.few, image_short (minimal (plain_tree (plain e))) m.labels m.few)

-- "The normal form has at most 2,048 bytes .. and it is always accepted as a word."
pub form_accepted : (word : List ℕ) (e : Expr) → read_word word ≡ answered e
    → (length (normal_form (plain e)) ≤ 2048) × (read_word (normal_form (plain e)) ≡ answered (normal_of (plain e)))
form_accepted word e r =
    let w = minimal_tree_within word e r in
    let F = minimal_tree (plain e) in
    let short = form_short F w.labels w.few in
    let few = w.few in
    let s = steps_nodes e in
    (short, read_word_lem (normal_of (plain e)) (normal_labels InRange F w.labels) (omega arith) (normal_need F few) (omega arith))

-- "the normal form read in again gives the same minimal tree", and the same normal form
pub same_again : (e : Expr)
    → (minimal_tree (plain (normal_of (plain e))) ≡ minimal_tree (plain e)) × (normal_form (plain (normal_of (plain e))) ≡ normal_form (plain e))
same_again e =
    let z : minimal_tree (plain (normal_of (plain e))) ≡ minimal_tree (plain e) = sym (one_tree e (normal_of (plain e)) (λ D g m n. same_normal e D m n)) in
    (z, ap (λ f. word_of (normal f)) z)
