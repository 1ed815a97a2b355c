-- Words of the definitions that belong to no sentence of 01: a choice by a decision, and an entry of a list.
use Rattle.std.specs.Prelude.{Bool, true, false, List, [], ◌∷◌, ℕ, zero, suc}
use Rattle.std.proofs.Math.Option.{Option, none, some}

-- a decision chooses one of two values
abbrev pub pick {ℓ κ} : {P : Type ℓ} {A : Type κ} → Dec P → A → A → A
pick (yes p) a b = a
pick (no n) a b = b

-- a decision as a truth value
abbrev pub is : {P : Type 0} → Dec P → Bool
is (yes p) = true
is (no n) = false

-- both of two decided statements
abbrev pub dec_both : {P Q : Type 0} → Dec P → Dec Q → Dec (P × Q)
dec_both (yes p) (yes q) = yes (p, q)
dec_both (yes p) (no nq) = no (λ (a, b). nq b)
dec_both (no np) q = no (λ (a, b). np a)

-- entry i of a list, none where the list has ended
abbrev pub look : {A : Type 0} → List A → ℕ → Option A
look [] i = none
look (x ∷ xs) zero = some x
look (x ∷ xs) (suc i) = look xs i

-- what may be missing, changed by f
abbrev pub mapped : {A B : Type 0} → (A → B) → Option A → Option B
mapped f none = none
mapped f (some a) = some (f a)
