-- "That no second answer fits is itself a proved statement", for each public call and the answers that it gives.
use mathlib.Core.Path.{◌≡◌, sym, ap, ◌∙◌}
use mathlib.Core.Option.{Option}
use mathlib.Core.List.{List}
use Prim.Native.Nat.{ℕ}
use Rattle.meaning.specs.TreeQuery.{Query}
use Rattle.meaning.specs.Promise.{Writes, Question, Selected, PlainImage, MinimalImage, NormalForm}
use Rattle.theory.proofs.Once.{Bytes}
use Rattle.theory.proofs.Promise.{one_writing, one_reply}
use Rattle.std.specs.Prelude.{Bool, Result}
use Rattle.limits.specs.declared.refusal.Refused.{Refused}
use Rattle.limits.specs.Refusal.{outcome_of}
use Rattle.limits.proofs.Unique.{outcome_same}
use Rattle.pathplus.specs.Answer.{number_of, yes_of, WritesC, SelectedC}

-- ------------------------------------------------------------------ the calls
-- the form of a word
pub writer_unique : (form : Option Query → List ℕ) (word room : List ℕ) (r r' : Result ℕ Refused) (a a' : List ℕ)
    → Writes form word room (outcome_of r) a → Writes form word room (outcome_of r') a' → (r ≡ r') × (a ≡ a')
writer_unique form word room r r' a a' w w' =
    let u = one_writing form word room (outcome_of r) (outcome_of r') a a' w w' in (outcome_same r r' u.0, u.1)

pub plain_image_unique : (word room : List ℕ) (r r' : Result ℕ Refused) (a a' : List ℕ)
    → PlainImage word room (outcome_of r) a → PlainImage word room (outcome_of r') a' → (r ≡ r') × (a ≡ a')
plain_image_unique = writer_unique _

pub minimal_image_unique : (word room : List ℕ) (r r' : Result ℕ Refused) (a a' : List ℕ)
    → MinimalImage word room (outcome_of r) a → MinimalImage word room (outcome_of r') a' → (r ≡ r') × (a ≡ a')
minimal_image_unique = writer_unique _

pub normal_form_unique : (word room : List ℕ) (r r' : Result ℕ Refused) (a a' : List ℕ)
    → NormalForm word room (outcome_of r) a → NormalForm word room (outcome_of r') a' → (r ≡ r') × (a ≡ a')
normal_form_unique = writer_unique _

-- the workspace holds bytes, before and after
pub selects_unique : (q : Question) (r r' : Result Bool Refused) (a a' : List ℕ) → Bytes a → Bytes a' → Selected q (outcome_of r) a → Selected q (outcome_of r') a'
    → (r ≡ r') × (a ≡ a')
selects_unique q r r' a a' b b' s s' = let u = one_reply q (outcome_of r) (outcome_of r') a a' b b' s s' in (outcome_same r r' u.0, u.1)

-- ------------------------------------------------------------------ the numbers that C is given
pub writes_c_unique : (form : Option Query → List ℕ) (word room : List ℕ) (r r' : ℕ) (a a' : List ℕ)
    → WritesC form word room r a → WritesC form word room r' a' → (r ≡ r') × (a ≡ a')
writes_c_unique form word room r r' a a' (o, e, s, w) (o', e', s', w') =
    let u = one_writing form word room o o' a a' w w' in (e ∙ ap number_of u.0 ∙ sym e', u.1)

pub selects_c_unique : (q : Question) (r r' : ℕ) (a a' : List ℕ) → Bytes a → Bytes a' → SelectedC q r a → SelectedC q r' a'
    → (r ≡ r') × (a ≡ a')
selects_c_unique q r r' a a' b b' (o, e, s, w) (o', e', s', w') =
    let u = one_reply q o o' a a' b b' w w' in (e ∙ ap (λ x. number_of (yes_of x)) u.0 ∙ sym e', u.1)
