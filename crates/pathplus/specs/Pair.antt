-- What the pair question asks of a document table once nothing is left to refuse, and its answer over rows.
use Rattle.std.specs.Prelude.{◌≡◌, ◌↔◌, Bool, true, List, ℕ, ◌≤◌, ◌<◌, length}
use Rattle.meaning.specs.Document.{Doc}
use Rattle.meaning.specs.Tree.{Forest, Tag, Takes}
use Rattle.meaning.specs.Matching.{good_table, MatchTable, table_bytes}

-- refusals 8, 9 and 10 are not due
pub record NotRefused (parents labels : List ℕ) (m n : ℕ) (workspace : List ℕ) : Type 0 where
  pub table : good_table parents labels ≡ true
  pub first : m < length parents
  pub second : n < length parents
  pub space : table_bytes ≤ length workspace

-- yes or no, and the workspace afterwards
pub record Taken (F : Forest Tag) (D : Doc) (m n : ℕ) (yes : Bool) (before after : List ℕ) : Type 0 where
  pub pair : (yes ≡ true) ↔ Takes F D m n
  pub table : MatchTable F D before after
