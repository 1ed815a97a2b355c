-- The table of signs: each by its number, the labels from 9 on, and no two signs by one number.
use mathlib.Core.Path.{◌≡◌, refl, sym, ap, ◌∙◌}
use mathlib.Core.Logic.{◌⊎◌, inl, inr, ⊎_elim}
use mathlib.Core.List.{List, [], ◌∷◌}
use Prim.Native.Nat.{ℕ, ◌+◌, ◌-◌, ◌<◌, ◌≤◌}
use native.Mathlib.Decide.{ℕ_discrete}
use native.Mathlib.Omega.{arith}
use lib.ListN.{get_or, get_or-eq_default}
use borrow.Author.Tests.{ne_eqb}
use Rattle.meaning.specs.Expression.{label}
use Rattle.meaning.specs.Word.{operand, signs, sign_of, is_step}
use Rattle.word.specs.Sign.{number_of, kind_of}
use Rattle.word.specs.declared.sign.Sign.{Sign}
use Rattle.word.specs.declared.sign.Sign.TheVariants.{Empty, Itself, Child, Parent, Composition, FirstProjection, SecondProjection, Intersection, Inverse, Label}
use Rattle.word.specs.declared.sign.Kind.{Kind}
use Rattle.word.specs.declared.sign.Kind.TheVariants.{Operand}

-- ------------------------------------------------------------------ numbers and signs
-- the sign that has a number
abbrev names : List Sign
names = Empty ∷ Itself ∷ Child ∷ Parent ∷ Composition ∷ FirstProjection ∷ SecondProjection ∷ Intersection ∷ Inverse ∷ []

abbrev named : ℕ → Sign
named n = get_or names n (Label (n - 9))

named_number : (s : Sign) → named (number_of s) ≡ s
named_number Empty = refl
named_number Itself = refl
named_number Child = refl
named_number Parent = refl
named_number Composition = refl
named_number FirstProjection = refl
named_number SecondProjection = refl
named_number Intersection = refl
named_number Inverse = refl
named_number (Label l) = let q : (9 + l) - 9 ≡ l = omega arith in get_or-eq_default names (Label ((9 + l) - 9)) {n = 9 + l} (omega arith) ∙ ap Label q

-- "That no second answer fits": what `Sign::from` gives is the one sign of that number
pub number_unique : (s t : Sign) → number_of s ≡ number_of t → s ≡ t
number_unique s t e = sym (named_number s) ∙ ap named e ∙ named_number t

-- ------------------------------------------------------------------ kinds
pub one_of_two : (j n : ℕ) → j ≤ n → n < j + 2 → (n ≡ j) ⊎ (n ≡ j + 1)
one_of_two j n h k = elim (ℕ_discrete n j) [
  | yes e ↦ inl e
  | no e ↦ inr (omega arith)
]

pub kind_of_two : {K : Kind} (j k n : ℕ) → K ≡ kind_of j → K ≡ kind_of k → (n ≡ j) ⊎ (n ≡ k) → K ≡ kind_of n
kind_of_two j k n p q = ⊎_elim (λ e. p ∙ ap kind_of (sym e)) (λ e. q ∙ ap kind_of (sym e))

-- "9+L: label L"
pub sign_label : (n : ℕ) → 9 ≤ n → sign_of n ≡ operand (label (n - 9))
unfolding sign_of
sign_label n h = get_or-eq_default signs (operand (label (n - 9))) h

pub kind_label : (n : ℕ) → 9 ≤ n → Operand ≡ kind_of n
unfolding kind_of is_step
kind_label n h = rw (sign_label n h, ne_eqb n 2 (λ e. omega arith), ne_eqb n 3 (λ e. omega arith))
