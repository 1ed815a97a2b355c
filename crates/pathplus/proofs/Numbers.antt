-- What C is given fits into 64 bits: a refusal's number in the upper 32, its place or the answer in the lower 32.
use mathlib.Core.Path.{◌≡◌, refl, sym, ap, subst}
use mathlib.Core.Bool.{Bool, true, false, ◌&&◌, cond}
use mathlib.Core.List.{List}
use Prim.Native.Nat.{ℕ, ◌≤◌}
use native.Mathlib.Omega.{arith}
use lib.ListN.{length}
use lib.Dec.{ltb, leb}
use Rattle.std.specs.Prelude.{Result, Ok, Err, MatchResult, IsOkAnd}
use Rattle.std.specs.Int.{from_bool}
use Rattle.limits.specs.declared.refusal.Refused.{Refused}
use Rattle.limits.specs.Refusal.{outcome_of}
use Rattle.meaning.specs.Expression.{Expr}
use Rattle.meaning.specs.Gluing.{plain}
use Rattle.meaning.specs.Limits.{room_too_short, bad_table, no_such_node, workspace_too_short}
use Rattle.meaning.specs.Word.{Outcome, refused, answered, and_then, read_word}
use Rattle.meaning.specs.Matching.{good_table, table_bytes}
use Rattle.meaning.specs.Promise.{fitting, written, length_of, Writes, Question, spaced, paired, tabled, asked, Replies, Selected}
use Rattle.theory.proofs.Refused.{Small, small_word}
use Rattle.forms.specs.declared.Form.{Form}
use Rattle.forms.specs.Form.{form_of}
use Rattle.forms.proofs.Forms.{form_short}
use Rattle.pathplus.specs.Answer.{Short, yes_of}

pub short_writes : (form : Form) {word room : List ℕ} {o : Outcome ℕ} {after : List ℕ} → Writes (form_of form) word room o after → Short o
unfolding written
short_writes form {word} {room} w = subst Short (sym w.returned) (go (read_word word) refl (small_word word))
  where
    fit : (b : Bool) (bytes : List ℕ) → length bytes ≤ 2048 → Short (length_of (cond b (refused room_too_short (length bytes)) (answered bytes)))
    fit true bytes l = (omega arith, omega arith)
    fit false bytes l = omega arith

    go : (x : Outcome Expr) → read_word word ≡ x → Small 6 4096 x → Short (length_of (and_then x (λ e. fitting room (form_of form (plain e)))))
    go (refused n p) r (a, b) = (omega arith, omega arith)
    go (answered e) r s = let bytes = form_of form (plain e) in fit (ltb (length room) (length bytes)) bytes (form_short form word e r)

-- ------------------------------------------------------------------ the pair question
small_tabled : (q : Question) (e : Expr) → Small workspace_too_short table_bytes (tabled q e)
small_tabled q e = table (good_table q.parents q.labels)
  where
    space : (b : Bool) → Small {A = Expr} workspace_too_short table_bytes (cond b (answered e) (refused workspace_too_short table_bytes))
    space true = tt
    space false = (omega arith, omega arith)

    node : (b : Bool) → Small {A = Expr} workspace_too_short table_bytes (cond b (spaced q e) (refused no_such_node 0))
    node true = space (leb table_bytes (length q.workspace))
    node false = (omega arith, omega arith)

    table : (b : Bool) → Small {A = Expr} workspace_too_short table_bytes (cond b (paired q e) (refused bad_table 0))
    table true = node (ltb q.m (length q.parents) && ltb q.n (length q.parents))
    table false = (omega arith, omega arith)

pub short_selects : (q : Question) (o : Outcome Bool) (after : List ℕ) → Selected q o after → Short (yes_of o)
unfolding Selected asked
short_selects q o after s = go (read_word q.word) (small_word q.word) s
  where
    one : (b : Bool) → Short (yes_of (answered b))
    one true = omega arith
    one false = omega arith

    told : (x : Outcome Expr) → Small workspace_too_short table_bytes x → Replies q x o after → Short (yes_of o)
    told (refused n p) (a, b) (e, k) = subst (λ z. Short (yes_of z)) (sym e) (omega arith, omega arith)
    told (answered f) l (b, e, t) = subst (λ z. Short (yes_of z)) (sym e) (one b)

    go : (x : Outcome Expr) → Small 6 4096 x → Replies q (and_then x (tabled q)) o after → Short (yes_of o)
    go (refused n p) (a, b) r = told (refused n p) (omega arith, omega arith) r
    go (answered e) l r = told (tabled q e) (small_tabled q e) r

-- yes is given as 1 and no as 0
pub yes_counted : (told : Result Bool Refused) (number : Result ℕ Refused)
    → MatchResult told (λ b. IsOkAnd number (λ n. n ≡ from_bool b)) (λ refusal. number ≡ Err refusal)
    → outcome_of number ≡ yes_of (outcome_of told)
yes_counted (Ok true) (Ok n) e = ap answered e
yes_counted (Ok false) (Ok n) e = ap answered e
yes_counted (Ok b) (Err refusal) e = absurd e
yes_counted (Err refusal) number e = ap outcome_of e
