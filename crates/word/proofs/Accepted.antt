-- An accepted word read once more, sign by sign: no number is broken, no sign is refused, and at the end its expression alone is pending.
use mathlib.Core.Path.{◌≡◌, refl, sym, ◌∙◌}
use mathlib.Core.List.{List, [], ◌∷◌}
use Prim.Native.Nat.{ℕ, ◌<◌, ◌≤◌}
use native.Mathlib.Omega.{arith}
use native.Mathlib.Decide.{dec_lt}
use lib.ListN.{length}
use Rattle.meaning.specs.Expression.{Expr}
use Rattle.meaning.specs.Number.{broken, read_number}
use Rattle.meaning.specs.Word.{Outcome, refused, answered, Pending, takes, only_one, at_end, read_word}
use Rattle.word.specs.Answer.{verdict}
use Rattle.word.proofs.Numbers.{NumberAt}
use Rattle.word.proofs.Outcomes.{refused_answered}
use Rattle.word.proofs.Run.{run_from, nothing_pending, run_long, run_start, run_end, run_broken, run_refused, run_sign}

verdict_answered : {A : Type 0} (o : Outcome A) → answered tt ≡ verdict o → (a : A) × (o ≡ answered a)
verdict_answered (answered a) q = (a, refl)
verdict_answered (refused n p) q = absurd (refused_answered (sym q))

-- the check's answer: the word has an expression
pub accepted_word : (w : List ℕ) → answered tt ≡ verdict (read_word w) → (e : Expr) × (read_word w ≡ answered e)
accepted_word w q = verdict_answered (read_word w) q

module _ (w : List ℕ) {e : Expr} where
  pub accepted_short : read_word w ≡ answered e → length w ≤ 4096
  accepted_short q = go (dec_lt 4096 (length w))
    where
      go : Dec (4096 < length w) → length w ≤ 4096
      go (yes h) = absurd (refused_answered (sym (run_long w h) ∙ q))
      go (no h) = omega arith

  pub accepted_start : read_word w ≡ answered e → run_from w 0 nothing_pending ≡ answered e
  accepted_start q = sym (run_start w (accepted_short q)) ∙ q

  module _ (at : ℕ) (st : Pending) (q : run_from w at st ≡ answered e) where
    pub accepted_end : length w ≤ at → st.operands ≡ e ∷ []
    unfolding at_end
    accepted_end h = go st.operands (sym (run_end w at st h) ∙ q)
      where
        go : (es : List Expr) → only_one es (length w) ≡ answered e → es ≡ e ∷ []
        go [] p = absurd (refused_answered p)
        go (d ∷ []) p = cc
        go (d ∷ (c ∷ es)) p = absurd (refused_answered p)

    module _ (h : at < length w) where
      pub accepted_number : read_number w at ≡ broken → ⊥
      accepted_number b = refused_answered (sym (run_broken w at st h b) ∙ q)

      pub accepted_sign : {v next : ℕ} → NumberAt w at v next → (st' : Pending) × (takes v st at ≡ answered st') × (run_from w next st' ≡ answered e)
      accepted_sign {v} {next} n = go (takes v st at) refl
        where
          go : (o : Outcome Pending) → takes v st at ≡ o → (st' : Pending) × (takes v st at ≡ answered st') × (run_from w next st' ≡ answered e)
          go (answered st') p = (st', p, sym (run_sign w at st h n.read n.behind p) ∙ q)
          go (refused x y) p = absurd (refused_answered (sym (run_refused w at st h n.read p) ∙ q))
