-- "That no second answer fits is itself a proved statement": what each call owes determines its result and every byte of every lent buffer.
use mathlib.Core.Path.{◌≡◌, sym, ap, ◌∙◌}
use mathlib.Core.Logic.{◌⊎◌, inl, inr}
use mathlib.Core.Bool.{Bool}
use mathlib.Core.Option.{Option}
use mathlib.Core.List.{List}
use Prim.Native.Nat.{ℕ, ◌/◌, ◌<◌}
use native.Mathlib.Decide.{dec_lt}
use native.Mathlib.Omega.{arith}
use lib.ListN.{get_or}
use Rattle.meaning.specs.Document.{Doc}
use Rattle.meaning.specs.Expression.{Expr}
use Rattle.meaning.specs.TreeQuery.{Query}
use Rattle.meaning.specs.Tree.{Forest, Tag}
use Rattle.meaning.specs.Word.{Outcome, refused, answered}
use Rattle.meaning.specs.Matching.{bit_at, MatchTable, table_bytes}
use Rattle.meaning.specs.Promise.{Writes, Question, asked, Replies, Selected}
use Rattle.theory.proofs.Once.{value_same, bool_same, Bytes, bytes_same}

-- ------------------------------------------------------------------ writers
pub one_writing : (form : Option Query → List ℕ) (word room : List ℕ) (r r' : Outcome ℕ) (a a' : List ℕ)
    → Writes form word room r a → Writes form word room r' a' → (r ≡ r') × (a ≡ a')
one_writing form word room r r' a a' w w' = (value_same w.returned w'.returned, value_same w.left w'.left)

-- ------------------------------------------------------------------ the match table
-- one match table fits a tree, a document and the workspace before
pub one_table : (F : Forest Tag) (D : Doc) (before a a' : List ℕ) → Bytes a → Bytes a' → MatchTable F D before a → MatchTable F D before a' → a ≡ a'
one_table F D before a a' b b' t t' = bytes_same a a' b b' (value_same t.same t'.same) (λ i. told i (dec_lt i table_bytes))
  where
    told : (i : ℕ) → Dec (i < table_bytes) → (get_or a i 0 ≡ get_or a' i 0) ⊎ ((v : ℕ) → v < 1024 → bit_at a (i / 128) v ≡ bit_at a' (i / 128) v)
    told i (yes l) = inr (λ v m. bool_same _ _ _ (t.bits (i / 128) v (omega arith) m) (t'.bits (i / 128) v (omega arith) m))
    told i (no l) = inl (value_same (t.later i (omega arith)) (t'.later i (omega arith)))

-- ------------------------------------------------------------------ the pair question
-- the buffers hold bytes, as every buffer of the caller's does
pub one_reply : (q : Question) (r r' : Outcome Bool) (a a' : List ℕ) → Bytes a → Bytes a' → Selected q r a → Selected q r' a' → (r ≡ r') × (a ≡ a')
unfolding Selected
one_reply q r r' a a' ba ba' w w' = go (asked q) w w'
  where
    go : (o : Outcome Expr) → Replies q o r a → Replies q o r' a' → (r ≡ r') × (a ≡ a')
    go (refused n p) (x, y) (x', y') = (value_same x x', value_same y y')
    go (answered e) (b, x, t) (b', x', t') =
        (x ∙ ap answered (bool_same _ b b' t.pair t'.pair) ∙ sym x', one_table _ _ _ a a' ba ba' t.table t'.table)
