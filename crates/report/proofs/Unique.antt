-- "That no second answer fits is itself a proved statement": of the text.
use mathlib.Core.Path.{◌≡◌}
use mathlib.Core.List.{List}
use Prim.Native.Nat.{ℕ}
use Rattle.meaning.specs.Program.{program_text}
use Rattle.groups.specs.Put.{Written}
use Rattle.groups.proofs.Put.{written_unique}

pub program_text_unique : (word text : List ℕ) (r r' : ℕ) (a a' : List ℕ)
    → Written text 0 (program_text word) a r → Written text 0 (program_text word) a' r' → (r ≡ r') × (a ≡ a')
program_text_unique word text r r' a a' = written_unique
