-- `Swept` entry by entry, and by another rule.
use mathlib.Core.Path.{◌≡◌, refl, sym, ap, subst, ◌∙◌}
use mathlib.Core.Logic.{by_cases}
use mathlib.Core.List.{List}
use Prim.Native.Nat.{ℕ, ◌+◌, ◌≤◌, ◌<◌}
use native.Mathlib.Decide.{ℕ_discrete}
use native.Mathlib.Omega.{arith}
use lib.ListN.{length, get_or, set, length-set}
use lib.Seq.{get_or-set_same, get_or-set_other}
use Rattle.std.proofs.lemmas.List.{get_or_read_under}
use Rattle.glue.specs.Rows.{Swept}

-- ------------------------------------------------------------------ entry by entry where it stands
no_gap : (P : List ℕ) (k : ℕ) → get_or P k 0 ≡ get_or P (k + 0) 0
no_gap P k = ap (λ z. get_or P z 0) (omega arith)

pub here_done : (R : ℕ → ℕ → Type 0) (a i : ℕ) (P₀ P : List ℕ) → Swept 0 R 0 a i P₀ P → (k : ℕ) → a ≤ k → k < i → R (get_or P₀ k 0) (get_or P k 0)
here_done R a i P₀ P h k ge lt = subst (λ z. R z (get_or P k 0)) (sym (no_gap P₀ k)) (h.done k ge lt)

-- ------------------------------------------------------------------ one rule for another
pub swept_by : {R S : ℕ → ℕ → Type 0} {gap a i : ℕ} {P₀ P : List ℕ} → ((p r : ℕ) → R p r → S p r) → Swept 0 R gap a i P₀ P → Swept 0 S gap a i P₀ P
swept_by f h = record { same = h.same; low = h.low; done = λ k ge lt. f _ _ (h.done k ge lt); rest = h.rest }

-- ------------------------------------------------------------------ one entry more
pub swept_step : {A : Type 0} {z r : A} {R : A → A → Type 0} {gap a i : ℕ} {P₀ P : List A} → Swept z R gap a i P₀ P → a ≤ i → i < length P
    → (x : A) → x ≡ get_or P (i + gap) x → i + gap < length P → R x r → Swept z R gap a (i + 1) P₀ (set P i r)
swept_step {z = z} {r = r} {R = R} {gap = gap} {i = i} {P₀ = P₀} {P = P} h le lt x v vl e = record {
  same = length-set P i r ∙ h.same;
  low = λ k l. get_or-set_other P i k r z (λ q. omega arith) ∙ h.low k l;
  done = λ k ge l. by_cases (ℕ_discrete k i)
      (λ q. rw (q, get_or-set_same P i r z lt, ← h.rest (i + gap) (omega arith), ← get_or_read_under P (i + gap) _ x z v vl refl) e)
      (λ n. rw (get_or-set_other P i k r z n) (h.done k ge (omega arith)));
  rest = λ k l. get_or-set_other P i k r z (λ q. omega arith) ∙ h.rest k (omega arith);
}
