-- What the pair question is handed, and the numbers that C is given. What each answer of the public calls stands for is `outcome_of` (limits).
use Rattle.std.specs.Prelude.{◌≡◌, Bool, true, false, List, ℕ, ◌+◌, ◌*◌, ◌<◌}
use Rattle.std.proofs.Math.Option.{Option}
use Rattle.meaning.specs.TreeQuery.{Query}
use Rattle.meaning.specs.Word.{Outcome, refused, answered}
use Rattle.meaning.specs.Promise.{Writes, Question, Selected}

-- what the pair question is handed
abbrev pub question : List ℕ → List ℕ → List ℕ → ℕ → ℕ → List ℕ → Question
question word parents labels m n workspace = record { word = word; parents = parents; labels = labels; m = m; n = n; workspace = workspace }

-- ------------------------------------------------------------------ what C is given
-- "the upper 32 bits are the refusal number, 0 where the call is answered; the lower 32 bits are the place, or the length written, or 1 for yes and 0 for no"
abbrev pub upper : ℕ
upper = 4294967296

abbrev pub number_of : Outcome ℕ → ℕ
number_of (refused number place) = number * upper + place
number_of (answered value) = value

abbrev pub yes_of : Outcome Bool → Outcome ℕ
yes_of (refused number place) = refused number place
yes_of (answered true) = answered 1
yes_of (answered false) = answered 0

-- the number and the place, or the answer, fit into the 32 bits each
abbrev pub Short : Outcome ℕ → Type 0
Short (refused number place) = (number < upper) × (place < upper)
Short (answered value) = value < upper

-- the promises over the number that C is given
abbrev pub WritesC : (Option Query → List ℕ) → List ℕ → List ℕ → ℕ → List ℕ → Type 0
WritesC form word room r after = (o : Outcome ℕ) × (r ≡ number_of o) × Short o × Writes form word room o after

abbrev pub SelectedC : Question → ℕ → List ℕ → Type 0
SelectedC q r after = (o : Outcome Bool) × (r ≡ number_of (yes_of o)) × Short (yes_of o) × Selected q o after
