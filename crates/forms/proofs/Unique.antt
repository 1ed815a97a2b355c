-- "That no second answer fits is itself a proved statement": of `fit`.
use mathlib.Core.Path.{◌≡◌, sym, ◌∙◌}
use mathlib.Core.List.{List}
use Prim.Native.Nat.{ℕ}
use Rattle.std.specs.Prelude.{Result}
use Rattle.limits.specs.declared.refusal.Refused.{Refused}
use Rattle.limits.specs.Refusal.{outcome_of}
use Rattle.limits.proofs.Unique.{outcome_same}
use Rattle.forms.specs.Form.{Fitted}

pub fit_unique : {bytes room : List ℕ} (r r' : Result ℕ Refused) {a a' : List ℕ} → Fitted bytes room (outcome_of r) a → Fitted bytes room (outcome_of r') a'
    → (r ≡ r') × (a ≡ a')
fit_unique r r' F F' = (outcome_same r r' (F.returned ∙ sym F'.returned), F.left ∙ sym F'.left)
