-- The check keeps counts where the definition keeps the pending operands themselves: what one sign does to the counts.
use mathlib.Core.Path.{◌≡◌, refl}
use mathlib.Core.Bool.{Bool, true, false, cond}
use mathlib.Core.List.{List, [], ◌∷◌}
use Prim.Native.Nat.{ℕ, suc, ◌+◌, ◌-◌, ◌<◌, ◌≤◌}
use native.Mathlib.Numerals.{add-one}
use native.Mathlib.Omega.{arith}
use lib.ListN.{length}
use lib.Dec.{ltb}
use borrow.Author.Tests.{lt-ltb, le-ltb}
use Rattle.meaning.specs.Expression.{Expr}
use Rattle.meaning.specs.Word.{Outcome, refused, answered, and_then, Sign, operand, unary, binary, sign_of, is_step, Pending, on_one, on_two, applied, takes}
use Rattle.word.specs.Sign.{kind_of, kind_by}
use Rattle.word.specs.Answer.{counts_of, counting}
use Rattle.word.specs.declared.sign.Kind.{Kind}
use Rattle.word.specs.declared.sign.Kind.TheVariants.{Operand, Step, Unary, Binary}
use Rattle.word.specs.declared.whole.Counts.{Counts}

-- one sign, on the counts
abbrev pub count_by : Kind → Counts → ℕ → Outcome Counts
count_by Operand c at = cond (ltb c.pending 256) (answered (record { pending = c.pending + 1; steps = c.steps })) (refused 4 at)
count_by Step c at =
    cond (ltb c.pending 256) (cond (ltb c.steps 255) (answered (record { pending = c.pending + 1; steps = c.steps + 1 })) (refused 5 at)) (refused 4 at)
count_by Unary c at = cond (ltb c.pending 1) (refused 3 at) (answered c)
count_by Binary c at = cond (ltb c.pending 2) (refused 3 at) (answered (record { pending = c.pending - 1; steps = c.steps }))

and_then_cond : {A B : Type 0} (t : Bool) (a b : Outcome A) (f : A → Outcome B) → and_then (cond t a b) f ≡ cond t (and_then a f) (and_then b f)
and_then_cond true a b f = refl
and_then_cond false a b f = refl

-- counting before a sign is counting after it
count_applied : (s : Sign) (step : Bool) (st : Pending) (at : ℕ) → counting (applied s step st at) ≡ count_by (kind_by s step) (counts_of st) at
count_applied (operand e) false st at = simp (and_then_cond, add-one)
count_applied (operand e) true st at = simp (and_then_cond, add-one)
count_applied (unary f) step st at = onto st.operands
  where
    onto : (es : List Expr) → counting (on_one f es at st.steps) ≡ count_by Unary (record { pending = length es; steps = st.steps }) at
    onto [] = refl
    onto (e ∷ es) = rw (le-ltb (suc (length es)) 1 (omega arith))
count_applied (binary f) step st at = onto st.operands
  where
    onto : (es : List Expr) → counting (on_two f es at st.steps) ≡ count_by Binary (record { pending = length es; steps = st.steps }) at
    onto [] = refl
    onto (e ∷ []) = refl
    onto (e ∷ (d ∷ es)) = let k : suc (suc (length es)) - 1 ≡ suc (length es) = omega arith in rw (le-ltb (suc (suc (length es))) 2 (omega arith), k)

module _ (sign : ℕ) (st : Pending) (at : ℕ) {counts : Counts} (e : counts_of st ≡ counts) where
  pub count_takes : {K : Kind} → kind_of sign ≡ K → counting (takes sign st at) ≡ count_by K counts at
  unfolding takes kind_of
  count_takes k = rw (← k, ← e) (count_applied (sign_of sign) (is_step sign) st at)

  module _ (k : kind_of sign ≡ Operand) where
    -- refusal 4: "an operand sign would make 257 pending operands"
    pub operand_refused : 256 ≤ counts.pending → refused 4 at ≡ counting (takes sign st at)
    operand_refused h = rw (count_takes k, le-ltb counts.pending 256 h)

    pub operand_taken : counts.pending < 256
        → answered (record { pending = counts.pending + 1; steps = counts.steps }) ≡ counting (takes sign st at)
    operand_taken h = rw (count_takes k, lt-ltb counts.pending 256 h)

  module _ (k : kind_of sign ≡ Step) where
    pub step_refused : 256 ≤ counts.pending → refused 4 at ≡ counting (takes sign st at)
    step_refused h = rw (count_takes k, le-ltb counts.pending 256 h)

    -- refusal 5: "a step sign is the 256th step"; "at one sign 4 goes before 5"
    pub step_256th : counts.pending < 256 → 255 ≤ counts.steps → refused 5 at ≡ counting (takes sign st at)
    step_256th h l = rw (count_takes k, lt-ltb counts.pending 256 h, le-ltb counts.steps 255 l)

    pub step_taken : counts.pending < 256 → counts.steps < 255
        → answered (record { pending = counts.pending + 1; steps = counts.steps + 1 }) ≡ counting (takes sign st at)
    step_taken h l = rw (count_takes k, lt-ltb counts.pending 256 h, lt-ltb counts.steps 255 l)

  module _ (k : kind_of sign ≡ Unary) where
    -- refusal 3: "an operator lacks operands"
    pub unary_refused : counts.pending < 1 → refused 3 at ≡ counting (takes sign st at)
    unary_refused h = rw (count_takes k, lt-ltb counts.pending 1 h)

    pub unary_taken : 1 ≤ counts.pending → answered counts ≡ counting (takes sign st at)
    unary_taken h = rw (count_takes k, le-ltb counts.pending 1 h)

  module _ (k : kind_of sign ≡ Binary) where
    pub binary_refused : counts.pending < 2 → refused 3 at ≡ counting (takes sign st at)
    binary_refused h = rw (count_takes k, lt-ltb counts.pending 2 h)

    pub binary_taken : 2 ≤ counts.pending → answered (record { pending = counts.pending - 1; steps = counts.steps }) ≡ counting (takes sign st at)
    binary_taken h = rw (count_takes k, le-ltb counts.pending 2 h)
