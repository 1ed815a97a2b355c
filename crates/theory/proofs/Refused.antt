-- The refusals of a word are small numbers: 1 to 6, at a place of a word of at most 4,096 bytes. (So a number and a place fit into one result.)
use mathlib.Core.Path.{◌≡◌, refl}
use mathlib.Core.Bool.{Bool, true, false, cond}
use mathlib.Core.List.{List, [], ◌∷◌}
use Prim.Native.Nat.{ℕ, zero, suc, ◌+◌, ◌≤◌, ◌<◌}
use native.Mathlib.Omega.{arith}
use lib.ListN.{length}
use lib.Dec.{ltb, ltb→lt, nltb→le}
use Rattle.meaning.specs.Expression.{Expr}
use Rattle.meaning.specs.Number.{Got, got, broken, read_number}
use Rattle.meaning.specs.Word.{Outcome, refused, answered, and_then, Sign, operand, unary, binary, sign_of, is_step, Pending, on_one, on_two, counted, applied, takes, only_one, at_end, on_number, run, read_word}

-- a refusal has a number up to n and a place up to p
abbrev pub Small : {A : Type 0} → ℕ → ℕ → Outcome A → Type 0
Small n p (refused k q) = (k ≤ n) × (q ≤ p)
Small n p (answered a) = Unit {0}

small_cond : {A : Type 0} (n p : ℕ) (b : Bool) (x y : Outcome A) → (b ≡ true → Small n p x) → (b ≡ false → Small n p y) → Small n p (cond b x y)
small_cond n p true x y f g = f refl
small_cond n p false x y f g = g refl

small_then : {A B : Type 0} (n p : ℕ) (o : Outcome A) (f : A → Outcome B) → Small n p o → ((a : A) → Small n p (f a)) → Small n p (and_then o f)
small_then n p (refused k q) f s t = s
small_then n p (answered a) f s t = t a

-- ------------------------------------------------------------------ one sign
small_one : (f : Expr → Expr) (es : List Expr) (at k : ℕ) → Small 6 at (on_one f es at k)
small_one f [] at k = (omega arith, omega arith)
small_one f (e ∷ es) at k = tt

small_two : (f : Expr → Expr → Expr) (es : List Expr) (at k : ℕ) → Small 6 at (on_two f es at k)
small_two f [] at k = (omega arith, omega arith)
small_two f (e ∷ []) at k = (omega arith, omega arith)
small_two f (e ∷ (d ∷ es)) at k = tt

small_counted : (step : Bool) (e : Expr) (es : List Expr) (at k : ℕ) → Small 6 at (counted step e es at k)
small_counted false e es at k = tt
small_counted true e es at k = small_cond 6 at (ltb k 255) _ _ (λ _. tt) (λ _. (omega arith, omega arith))

small_applied : (s : Sign) (step : Bool) (st : Pending) (at : ℕ) → Small 6 at (applied s step st at)
small_applied (operand e) step st at =
    small_cond 6 at (ltb (length st.operands) 256) _ _ (λ _. small_counted step e st.operands at st.steps) (λ _. (omega arith, omega arith))
small_applied (unary f) step st at = small_one f st.operands at st.steps
small_applied (binary f) step st at = small_two f st.operands at st.steps

small_takes : (v : ℕ) (st : Pending) (at : ℕ) → Small 6 at (takes v st at)
unfolding takes
small_takes v st at = small_applied (sign_of v) (is_step v) st at

-- ------------------------------------------------------------------ the whole word
wider : {A : Type 0} (n p q : ℕ) → p ≤ q → (o : Outcome A) → Small n p o → Small n q o
wider n p q le (refused k x) (a, b) = (a, omega arith)
wider n p q le (answered a) s = tt

small_only : (es : List Expr) (end : ℕ) → Small 6 end (only_one es end)
small_only [] end = (omega arith, omega arith)
small_only (e ∷ []) end = tt
small_only (e ∷ (d ∷ es)) end = (omega arith, omega arith)

small_end : (word : List ℕ) (st : Pending) → Small 6 (length word) (at_end word st)
unfolding at_end
small_end word st = small_only st.operands (length word)

small_run : (k : ℕ) (word : List ℕ) (at : ℕ) (st : Pending) → Small 6 (length word) (run k word at st)
unfolding run
small_run zero word at st = small_end word st
small_run (suc k) word at st =
    small_cond 6 (length word) (ltb at (length word)) _ _ (λ l. number (λ next st'. small_run k word next st') (lt l) (read_number word at)) (λ _. small_end word st)
  where
    lt : ltb at (length word) ≡ true → at ≤ length word
    lt l = let z : at < length word = ltb→lt at (length word) (rw l tt) in omega arith

    number : ((next : ℕ) (st' : Pending) → Small 6 (length word) (run k word next st')) → at ≤ length word → (g : Got)
        → Small 6 (length word) (on_number (λ next st'. run k word next st') at st g)
    number go le (got v n) =
        small_then 6 (length word) (takes v st at) (run k word (at + n)) (wider 6 at (length word) le (takes v st at) (small_takes v st at)) (go (at + n))
    number go le broken = (omega arith, le)

pub small_word : (word : List ℕ) → Small 6 4096 (read_word word)
unfolding read_word
small_word word = small_cond 6 4096 (ltb 4096 (length word)) _ _ (λ _. (omega arith, omega arith))
    (λ l. wider 6 (length word) 4096 (nltb→le 4096 (length word) (rw l tt)) (run (length word) word 0 start) (small_run (length word) word 0 start))
  where
    start : Pending
    start = record { operands = []; steps = 0 }
