-- What acceptance says of a word: it has at most 4,096 bytes (refusal 1), its expression at most 255 steps (refusal 5) and no label
-- above 65,535 (refusal 2).
use mathlib.Core.Path.{◌≡◌, refl, subst}
use mathlib.Core.Bool.{Bool, true, false, cond}
use mathlib.Core.List.{List, [], ◌∷◌}
use Prim.Native.Nat.{ℕ, zero, suc, ◌+◌, ◌≤◌}
use native.Mathlib.Omega.{arith}
use lib.ListN.{length}
use lib.Dec.{ltb}
use borrow.Author.Tests.{ltb-true, ltb-false}
use Rattle.meaning.specs.Expression.{Expr, steps}
use Rattle.meaning.specs.Number.{Got, got, broken, read_number, largest_label, largest_sign}
use Rattle.meaning.specs.Word.{Outcome, refused, answered, and_then, Sign, operand, unary, binary, sign_of, is_step, Pending, on_one, on_two, counted, applied, takes, only_one, at_end, on_number, run, read_word}
use Rattle.theory.proofs.Labels.{LabelsIn}
use Rattle.theory.proofs.Factors.{Each}
use Rattle.theory.proofs.Limits.{InRange}
use Rattle.theory.proofs.Reread.{number_read, sign_label, step_label, pend}
use Rattle.theory.proofs.Look.{never}

-- what is answered is so
abbrev Holds : {A : Type 0} → (A → Type 0) → Outcome A → Type 0
Holds P (refused n p) = Unit {0}
Holds P (answered a) = P a

abbrev pub all_steps : List Expr → ℕ
all_steps [] = 0
all_steps (e ∷ es) = steps e + all_steps es

-- the steps counted are those of the pending operands, and no more than 255; every label was read from a sign
record Sound (st : Pending) : Type 0 where
  count : all_steps st.operands ≡ st.steps
  few : st.steps ≤ 255
  labels : Each (LabelsIn InRange) st.operands

-- an operand is a step if it is counted as one, and an operator keeps steps and labels
abbrev SignOk : Sign → Bool → Type 0
SignOk (operand e) b = (steps e ≡ cond b 1 0) × LabelsIn InRange e
SignOk (unary f) b = (e : Expr) → (steps (f e) ≡ steps e) × (LabelsIn InRange e → LabelsIn InRange (f e))
SignOk (binary f) b = (d e : Expr) → (steps (f d e) ≡ steps d + steps e) × (LabelsIn InRange d → LabelsIn InRange e → LabelsIn InRange (f d e))

label_ok : (l : ℕ) → l ≤ largest_label → SignOk (sign_of (9 + l)) (is_step (9 + l))
label_ok l le = rw (sign_label l, step_label l) (refl, le)

sign_ok : (n : ℕ) → n ≤ largest_sign → SignOk (sign_of n) (is_step n)
unfolding sign_of is_step
sign_ok zero le = (refl, tt)
sign_ok (suc zero) le = (refl, tt)
sign_ok (suc (suc zero)) le = (refl, tt)
sign_ok (suc (suc (suc zero))) le = (refl, tt)
sign_ok (suc (suc (suc (suc zero)))) le = λ d e. (refl, λ h g. (h, g))
sign_ok (suc (suc (suc (suc (suc zero))))) le = λ e. (refl, λ h. h)
sign_ok (suc (suc (suc (suc (suc (suc zero)))))) le = λ e. (refl, λ h. h)
sign_ok (suc (suc (suc (suc (suc (suc (suc zero))))))) le = λ d e. (refl, λ h g. (h, g))
sign_ok (suc (suc (suc (suc (suc (suc (suc (suc zero)))))))) le = λ e. (refl, λ h. h)
sign_ok (suc (suc (suc (suc (suc (suc (suc (suc (suc l))))))))) le =
    let e : 9 + l ≡ suc (suc (suc (suc (suc (suc (suc (suc (suc l)))))))) = omega arith in
    subst (λ n. SignOk (sign_of n) (is_step n)) e (label_ok l (omega arith))

applied_sound : (s : Sign) (b : Bool) (st : Pending) (at : ℕ) → SignOk s b → Sound st → Holds Sound (applied s b st at)
applied_sound (operand e) b st at (q, l) h = go (ltb (length st.operands) 256)
  where
    next : (b : Bool) (t : Bool) → steps e ≡ cond b 1 0 → ltb st.steps 255 ≡ t → Holds Sound (counted b e st.operands at st.steps)
    next false t q' lt = record { count = omega (arith, h.count); few = h.few; labels = (l, h.labels) }
    next true true q' lt =
        rw lt (record { count = omega (arith, h.count); few = omega (arith, ltb-true st.steps 255 lt); labels = (l, h.labels) })
    next true false q' lt = rw lt tt

    go : (t : Bool) → Holds Sound (cond t (counted b e st.operands at st.steps) (refused 4 at))
    go true = next b (ltb st.steps 255) q refl
    go false = tt
applied_sound (unary f) b st at ok h = go st.operands h.count h.labels
  where
    go : (es : List Expr) → all_steps es ≡ st.steps → Each (LabelsIn InRange) es → Holds Sound (on_one f es at st.steps)
    go [] c l = tt
    go (e ∷ es) c (le, ls) = record { count = omega (arith, (ok e).0); few = h.few; labels = ((ok e).1 le, ls) }
applied_sound (binary f) b st at ok h = go st.operands h.count h.labels
  where
    go : (es : List Expr) → all_steps es ≡ st.steps → Each (LabelsIn InRange) es → Holds Sound (on_two f es at st.steps)
    go [] c l = tt
    go (e ∷ []) c l = tt
    go (e ∷ (d ∷ es)) c (le, (ld, ls)) = record { count = omega (arith, (ok d e).0); few = h.few; labels = ((ok d e).1 ld le, ls) }

-- the limits that an expression keeps
abbrev Within : Expr → Type 0
Within e = (steps e ≤ 255) × LabelsIn InRange e

end_within : (word : List ℕ) (st : Pending) → Sound st → Holds Within (at_end word st)
unfolding at_end
end_within word st h = go st.operands h.count h.labels
  where
    go : (es : List Expr) → all_steps es ≡ st.steps → Each (LabelsIn InRange) es → Holds Within (only_one es (length word))
    go [] c l = tt
    go (e ∷ []) c (le, ls) = (omega (arith, h.few), le)
    go (e ∷ (d ∷ es)) c l = tt

run_within : (k : ℕ) (word : List ℕ) (at : ℕ) (st : Pending) → Sound st → Holds Within (run k word at st)
unfolding run takes
run_within zero word at st h = end_within word st h
run_within (suc k) word at st h = go (ltb at (length word)) (λ next u s. run_within k word next u s)
  where
    on : ((next : ℕ) (u : Pending) → Sound u → Holds Within (run k word next u)) → (n : ℕ) (o : Outcome Pending) → Holds Sound o
        → Holds Within (and_then o (λ u. run k word (at + n) u))
    on ih n (refused x p) s = tt
    on ih n (answered u) s = ih (at + n) u s

    number : ((next : ℕ) (u : Pending) → Sound u → Holds Within (run k word next u)) → (g : Got) → read_number word at ≡ g
        → Holds Within (on_number (λ next u. run k word next u) at st g)
    number ih (got v n) e = on ih n (takes v st at) (applied_sound (sign_of v) (is_step v) st at (sign_ok v (number_read word at v n e).2) h)
    number ih broken e = tt

    go : (t : Bool) → ((next : ℕ) (u : Pending) → Sound u → Holds Within (run k word next u))
        → Holds Within (cond t (on_number (λ next u. run k word next u) at st (read_number word at)) (at_end word st))
    go true ih = number ih (read_number word at) refl
    go false ih = end_within word st h

-- an accepted word has at most 4,096 bytes, and its expression at most 255 steps and no label above 65,535
pub accepted : (word : List ℕ) (e : Expr) → read_word word ≡ answered e → (steps e ≤ 255) × LabelsIn InRange e × (length word ≤ 4096)
unfolding read_word
accepted word e q = go (ltb 4096 (length word)) refl q
  where
    go : (t : Bool) → ltb 4096 (length word) ≡ t → cond t (refused 1 4096) (run (length word) word 0 (pend [] 0)) ≡ answered e
        → (steps e ≤ 255) × LabelsIn InRange e × (length word ≤ 4096)
    go true b q' = never cc
    go false b q' =
        let s : Sound (pend [] 0) = record { count = refl; few = omega arith; labels = tt } in
        let w : Holds Within (answered e) = subst (Holds Within) q' (run_within (length word) word 0 (pend [] 0) s) in
        (w.0, w.1, ltb-false 4096 (length word) b)
