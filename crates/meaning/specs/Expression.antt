-- Path+ expressions and the pairs that each selects on a document (paper, definition 3.2 and figure 4; 01, the table of signs).
use Rattle.std.specs.Prelude.{◌≡◌, ◌↔◌, ℕ, ◌+◌}
use Rattle.meaning.specs.Document.{Doc, In, Child, label_of, Document}

-- the ten signs
pub data Expr : Type 0 where
  empty self child parent : Expr
  label : ℕ → Expr
  comp inter : Expr → Expr → Expr
  proj1 proj2 inv : Expr → Expr

-- "Pairs selected on a document", row for row
abbrev pub pairs : Expr → Doc → ℕ → ℕ → Type 0
pairs empty D m n = ⊥
pairs self D m n = (m ≡ n) × In D m
pairs child D m n = Child D m n
pairs parent D m n = Child D n m
pairs (label l) D m n = (m ≡ n) × In D m × (l ≡ label_of D m)
pairs (comp e f) D m n = (k : ℕ) × pairs e D m k × pairs f D k n
pairs (inter e f) D m n = pairs e D m n × pairs f D m n
pairs (proj1 e) D m n = (m ≡ n) × ((k : ℕ) × pairs e D m k)
pairs (proj2 e) D m n = (m ≡ n) × ((k : ℕ) × pairs e D k m)
pairs (inv e) D m n = pairs e D n m

-- "Signs 2 and 3 are steps": how many an expression has
abbrev pub steps : Expr → ℕ
steps empty = 0
steps self = 0
steps child = 1
steps parent = 1
steps (label l) = 0
steps (comp e f) = steps e + steps f
steps (inter e f) = steps e + steps f
steps (proj1 e) = steps e
steps (proj2 e) = steps e
steps (inv e) = steps e

-- the expression has no intersection and no inverse
abbrev pub Simple : Expr → Type 0
Simple empty = Unit {0}
Simple self = Unit {0}
Simple child = Unit {0}
Simple parent = Unit {0}
Simple (label l) = Unit {0}
Simple (comp e f) = Simple e × Simple f
Simple (inter e f) = ⊥
Simple (proj1 e) = Simple e
Simple (proj2 e) = Simple e
Simple (inv e) = ⊥

-- two ways to select pairs that agree on every document
abbrev pub Agree : (Doc → ℕ → ℕ → Type 0) → (Doc → ℕ → ℕ → Type 0) → Type 0
Agree S R = (D : Doc) → Document D → (m n : ℕ) → S D m n ↔ R D m n
