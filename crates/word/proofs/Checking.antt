-- The check from sign to sign: its counts are those of the definition's pending operands, so its refusals, places and acceptance are too.
use mathlib.Core.Path.{◌≡◌, refl, sym, ap, ◌∙◌}
use mathlib.Core.Bool.{cond}
use mathlib.Core.List.{List, [], ◌∷◌}
use Prim.Native.Nat.{ℕ, suc, ◌<◌, ◌≤◌}
use native.Mathlib.Nat.{sub-zero}
use native.Mathlib.Omega.{arith}
use lib.ListN.{length}
use lib.Dec.{eqb}
use borrow.Author.Tests.{le-ltb, eq-eqb, ne_eqb}
use Rattle.std.specs.Prelude.{Some, Ok}
use Rattle.meaning.specs.Expression.{Expr}
use Rattle.meaning.specs.Number.{broken, read_number}
use Rattle.meaning.specs.Word.{Outcome, refused, answered, Pending, takes, only_one, at_end, run, read_word}
use Rattle.word.specs.Answer.{got_of, counts_of, counting, at_last, all_signs, verdict}
use Rattle.word.specs.declared.number.Read.{Read}
use Rattle.word.specs.declared.whole.Counts.{Counts}
use Rattle.word.proofs.Numbers.{number_at}
use Rattle.word.proofs.Outcomes.{refused_answered}
use Rattle.word.proofs.Run.{run_from, nothing_pending, run_long, run_end, run_broken, run_refused, run_sign}

counting_answered : (o : Outcome Pending) {c : Counts} → answered c ≡ counting o → (st : Pending) × (o ≡ answered st) × (counts_of st ≡ c)
counting_answered (answered st) e = (st, refl, (cc))
counting_answered (refused n p) e = absurd (refused_answered (sym e))

counting_refused : (o : Outcome Pending) {n p : ℕ} → refused n p ≡ counting o → o ≡ refused n p
counting_refused (answered st) e = absurd (refused_answered e)
counting_refused (refused n p) e = cc

verdict_only_one : (es : List Expr) (end : ℕ) → verdict (only_one es end) ≡ cond (eqb (length es) 1) (answered tt) (refused 6 end)
verdict_only_one [] end = refl
verdict_only_one (e ∷ []) end = refl
verdict_only_one (e ∷ (d ∷ es)) end = rw (ne_eqb (suc (suc (length es))) 1 (λ z. omega arith))

-- the signs before `at` left pending operands that `counts` counts, and the word is what the signs from `at` on make of them
pub record Checking (w : List ℕ) (counts : Counts) (at : ℕ) : Type 0 where
  pub left : Pending
  pub same : counts_of left ≡ counts
  pub whole : all_signs w ≡ run_from w at left

pub checking_start : (w : List ℕ) → Checking w (record { pending = 0; steps = 0 }) 0
checking_start w = record { left = nothing_pending; same = refl; whole = ap (λ k. run k w 0 nothing_pending) (sym (sub-zero (length w))) }

module _ {w : List ℕ} {counts : Counts} {at : ℕ} (r : Checking w counts at) where
  -- after the loop
  pub checking_last : length w ≤ at → at_last (Ok counts) (length w) ≡ verdict (all_signs w)
  unfolding at_end
  checking_last h =
      let e : length r.left.operands ≡ counts.pending = ap (λ c. c.pending) r.same in
      rw (r.whole, run_end w at r.left h, verdict_only_one, e)

  module _ (h : at < length w) where
    -- refusal 2
    pub checking_broken : broken ≡ read_number w at → refused 2 at ≡ verdict (all_signs w)
    checking_broken g = rw (r.whole, run_broken w at r.left h (sym g))

    module _ (read : Read) (g : got_of at (Some read) ≡ read_number w at) where
      -- refusals 3, 4 and 5
      pub checking_refused : {n p : ℕ} → ((st : Pending) → counts_of st ≡ counts → refused n p ≡ counting (takes read.value st at))
          → refused n p ≡ verdict (all_signs w)
      checking_refused k =
          rw (r.whole, run_refused w at r.left h (number_at w at g).read (counting_refused (takes read.value r.left at) (k r.left r.same)))

      -- a sign that is taken: the place moves past it
      pub checking_next : {more : Counts} → ((st : Pending) → counts_of st ≡ counts → answered more ≡ counting (takes read.value st at))
          → Checking w more read.next
      checking_next k =
          let N = number_at w at g in
          let (st, a, b) = counting_answered (takes read.value r.left at) (k r.left r.same) in
          record { left = st; same = b; whole = r.whole ∙ run_sign w at r.left h N.read N.behind a }

      pub checking_moves : at < read.next
      checking_moves = (number_at w at g).moved

-- the whole word: refusal 1 before all others
pub checking_long : (w : List ℕ) → 4096 < length w → refused 1 4096 ≡ verdict (read_word w)
checking_long w h = rw (run_long w h)

module _ (w : List ℕ) (h : length w ≤ 4096) where
  -- refusals 2 to 5
  pub checking_stop : {o : Outcome (Unit {0})} → o ≡ verdict (all_signs w) → o ≡ verdict (read_word w)
  unfolding read_word
  checking_stop e = rw (le-ltb 4096 (length w) h) e

  module _ (counts : Counts) (e : at_last (Ok counts) (length w) ≡ verdict (all_signs w)) where
    pub checking_one : counts.pending ≡ 1 → answered tt ≡ verdict (read_word w)
    checking_one q = checking_stop (rw (eq-eqb counts.pending 1 q) at e)

    -- refusal 6
    pub checking_other : (counts.pending ≡ 1 → ⊥) → refused 6 (length w) ≡ verdict (read_word w)
    checking_other q = checking_stop (rw (ne_eqb counts.pending 1 q) at e)
