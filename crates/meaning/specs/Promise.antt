-- What each public call owes: its result, its place or length, and every byte of every lent buffer.
-- Each promise is one definition over all that is handed in; that no second answer fits is proved in theory (Promise).
use Rattle.std.specs.Prelude.{◌≡◌, Bool, true, ◌&&◌, cond, ◌↔◌, List, ◌++◌, ℕ, length, drop, leb, ltb}
use Rattle.std.proofs.Math.Option.{Option}
use Rattle.meaning.specs.Expression.{Expr, pairs}
use Rattle.meaning.specs.Limits.{room_too_short, bad_table, no_such_node, workspace_too_short}
use Rattle.meaning.specs.TreeQuery.{Query}
use Rattle.meaning.specs.Gluing.{plain}
use Rattle.meaning.specs.Image.{plain_image, minimal_image, minimal_tree}
use Rattle.meaning.specs.Normal.{normal_form}
use Rattle.meaning.specs.Word.{Outcome, refused, answered, and_then, read_word}
use Rattle.meaning.specs.Matching.{good_table, doc_of, MatchTable, table_bytes}

-- ------------------------------------------------------------------ the three writers
-- refusal 7: "the output room is shorter than the answer", with the bytes needed
abbrev pub fitting : List ℕ → List ℕ → Outcome (List ℕ)
fitting room bytes = cond (ltb (length room) (length bytes)) (refused room_too_short (length bytes)) (answered bytes)

-- the bytes that a writer of `form` owes, or its refusal: 1 to 6, then 7
unfoldable pub written : (Option Query → List ℕ) → List ℕ → List ℕ → Outcome (List ℕ)
written form word room = and_then (read_word word) (λ e. fitting room (form (plain e)))

-- "A writer that accepts returns the length n"
abbrev pub length_of : Outcome (List ℕ) → Outcome ℕ
length_of (refused n p) = refused n p
length_of (answered bytes) = answered (length bytes)

-- "the first n bytes of the room are the answer and the later ones keep their values"; a refusal "changes nothing in any buffer"
abbrev pub room_after : List ℕ → Outcome (List ℕ) → List ℕ
room_after room (refused n p) = room
room_after room (answered bytes) = bytes ++ drop (length bytes) room

-- the promise of a writer: what it returns, and the room afterwards
pub record Writes (form : Option Query → List ℕ) (word room : List ℕ) (result : Outcome ℕ) (after : List ℕ) : Type 0 where
  pub returned : result ≡ length_of (written form word room)
  pub left : after ≡ room_after room (written form word room)

abbrev pub PlainImage : List ℕ → List ℕ → Outcome ℕ → List ℕ → Type 0
PlainImage = Writes plain_image

abbrev pub MinimalImage : List ℕ → List ℕ → Outcome ℕ → List ℕ → Type 0
MinimalImage = Writes minimal_image

abbrev pub NormalForm : List ℕ → List ℕ → Outcome ℕ → List ℕ → Type 0
NormalForm = Writes normal_form

-- ------------------------------------------------------------------ the pair question
-- what was asked
pub record Question : Type 0 where
  pub word : List ℕ
  pub parents : List ℕ
  pub labels : List ℕ
  pub m : ℕ
  pub n : ℕ
  pub workspace : List ℕ

-- refusal 10: "the workspace has under 32,768 bytes"
abbrev pub spaced : Question → Expr → Outcome Expr
spaced q e = cond (leb table_bytes (length q.workspace)) (answered e) (refused workspace_too_short table_bytes)

-- refusal 9: "a node of the pair is not in the table"
abbrev pub paired : Question → Expr → Outcome Expr
paired q e = cond (ltb q.m (length q.parents) && ltb q.n (length q.parents)) (spaced q e) (refused no_such_node 0)

-- refusal 8: "the table is bad"; "then .. 8, 9, 10 for the pair question"
abbrev pub tabled : Question → Expr → Outcome Expr
tabled q e = cond (good_table q.parents q.labels) (paired q e) (refused bad_table 0)

-- the query that is answered, or the refusal: 1 to 6, then 8, 9, 10
unfoldable pub asked : Question → Outcome Expr
asked q = and_then (read_word q.word) (tabled q)

-- yes or no, and the workspace afterwards
pub record Told (q : Question) (e : Expr) (yes : Bool) (after : List ℕ) : Type 0 where
  pub pair : (yes ≡ true) ↔ pairs e (doc_of q.parents q.labels) q.m q.n
  pub table : MatchTable (minimal_tree (plain e)) (doc_of q.parents q.labels) q.workspace after

-- a refusal is returned as it is and changes no byte; else the answer is told
abbrev pub Replies : Question → Outcome Expr → Outcome Bool → List ℕ → Type 0
Replies q (refused n p) result after = (result ≡ refused n p) × (after ≡ q.workspace)
Replies q (answered e) result after = (yes : Bool) × (result ≡ answered yes) × Told q e yes after

-- the promise of the pair question
unfoldable pub Selected : Question → Outcome Bool → List ℕ → Type 0
Selected q result after = Replies q (asked q) result after
