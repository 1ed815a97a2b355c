-- An answer is what it stands for: no two refusals have one number.
use mathlib.Core.Path.{◌≡◌, refl, sym, ap, ◌∙◌}
use mathlib.Core.List.{List, [], ◌∷◌}
use Prim.Native.Nat.{ℕ, ◌-◌}
use native.Mathlib.Omega.{arith}
use lib.ListN.{get_or}
use Rattle.std.specs.Prelude.{Result, Ok, Err}
use Rattle.limits.specs.declared.refusal.Refusal.{Refusal}
use Rattle.limits.specs.declared.refusal.Refusal.TheVariants.{WordTooLong, BadNumber, MissingOperand, TooManyPending, TooManySteps, NotOneOperand, RoomTooShort, BadTable, NoSuchNode, WorkspaceTooShort}
use Rattle.limits.specs.declared.refusal.Refused.{Refused}
use Rattle.limits.specs.Refusal.{number_of, outcome_of}

-- the refusal of a number from 1 to 10
abbrev refusals : List Refusal
refusals =
    WordTooLong
    ∷ BadNumber
    ∷ MissingOperand
    ∷ TooManyPending
    ∷ TooManySteps
    ∷ NotOneOperand
    ∷ RoomTooShort
    ∷ BadTable
    ∷ NoSuchNode
    ∷ WorkspaceTooShort
    ∷ []

abbrev named : ℕ → Refusal
named n = get_or refusals (n - 1) WordTooLong

named_number : (why : Refusal) → named (number_of why) ≡ why
named_number WordTooLong = refl
named_number BadNumber = refl
named_number MissingOperand = refl
named_number TooManyPending = refl
named_number TooManySteps = refl
named_number NotOneOperand = refl
named_number RoomTooShort = refl
named_number BadTable = refl
named_number NoSuchNode = refl
named_number WorkspaceTooShort = refl

pub outcome_same : {A : Type 0} (r r' : Result A Refused) → outcome_of r ≡ outcome_of r' → r ≡ r'
outcome_same (Ok a) (Ok a') e = let q : a ≡ a' = cc in ap Ok q
outcome_same (Ok a) (Err r) e = let z : ◌≡◌ {A = ℕ} 0 1 = cc in absurd (omega arith)
outcome_same (Err r) (Ok a) e = let z : ◌≡◌ {A = ℕ} 0 1 = cc in absurd (omega arith)
outcome_same (Err r) (Err r') e =
    let n : number_of r.why ≡ number_of r'.why = cc in
    let p : r.place ≡ r'.place = cc in
    let w : r.why ≡ r'.why = sym (named_number r.why) ∙ ap named n ∙ named_number r'.why in
    λ i. Err (record { why = w i; place = p i })
