-- The table of signs: the steps and the plain tree query of what each sign makes.
use mathlib.Core.Path.{◌≡◌, refl, sym, ap, subst}
use mathlib.Core.Logic.{◌≢◌}
use mathlib.Core.Bool.{Bool, true, false, true≢false, cond}
use mathlib.Core.Option.{Option, none, some}
use Prim.Native.Nat.{ℕ, zero, suc, ◌+◌, ◌-◌, ◌≤◌}
use native.Mathlib.Omega.{arith}
use lib.Dec.{eqb}
use borrow.Author.Tests.{eq-eqb, ne_eqb}
use Rattle.meaning.specs.Basics.{mapped}
use Rattle.meaning.specs.Expression.{Expr, steps}
use Rattle.meaning.specs.TreeQuery.{Query}
use Rattle.meaning.specs.Gluing.{two, one_node, two_nodes, both_at_s, both_at_d, exchanged, plain}
use Rattle.meaning.specs.Word.{Sign, operand, unary, binary, sign_of, is_step}
use Rattle.rows.specs.Rows.{lab_of}
use Rattle.word.specs.Sign.{number_of, kind_by, kind_of}
use Rattle.word.specs.declared.sign.Sign as word
use Rattle.word.specs.declared.sign.Sign.TheVariants.{Intersection}
use Rattle.word.specs.declared.sign.Kind.{Kind}
use Rattle.word.specs.declared.sign.Kind.TheVariants.{Operand, Step, Unary, Binary}
use Rattle.word.proofs.Signs.{number_unique, sign_label}
use Rattle.glue.specs.Trees.{chosen}

-- ------------------------------------------------------------------ what a sign makes
abbrev pub new_query : ℕ → Option Query
new_query v = cond (eqb v 0) none (cond (eqb v 2) (some (two_nodes 0 1)) (cond (eqb v 3) (some (two_nodes 1 0)) (some (one_node (lab_of (v - 8))))))

abbrev pub moving : ℕ → Query → Query
moving v = cond (eqb v 5) both_at_s (cond (eqb v 6) both_at_d exchanged)

abbrev Means : Sign → ℕ → Type 0
Means (operand e) v = (steps e ≡ cond (is_step v) 1 0) × (plain e ≡ new_query v)
Means (unary f) v = (e : Expr) → (steps (f e) ≡ steps e) × (plain (f e) ≡ mapped (moving v) (plain e))
Means (binary f) v = (d e : Expr) → (steps (f d e) ≡ steps d + steps e) × (plain (f d e) ≡ two (chosen (eqb v 7)) (plain d) (plain e))

label_means : (v : ℕ) → 9 ≤ v → Means (sign_of v) v
unfolding is_step
label_means v h =
    let c : v - 8 ≡ suc (v - 9) = omega arith in
    rw (sign_label v h, ne_eqb v 0 (λ e. omega arith), ne_eqb v 2 (λ e. omega arith), ne_eqb v 3 (λ e. omega arith), c) (refl, refl)

sign_means : (v : ℕ) → Means (sign_of v) v
unfolding sign_of is_step
sign_means zero = (refl, refl)
sign_means (suc zero) = (refl, refl)
sign_means (suc (suc zero)) = (refl, refl)
sign_means (suc (suc (suc zero))) = (refl, refl)
sign_means (suc (suc (suc (suc zero)))) = λ d e. (refl, refl)
sign_means (suc (suc (suc (suc (suc zero))))) = λ e. (refl, refl)
sign_means (suc (suc (suc (suc (suc (suc zero)))))) = λ e. (refl, refl)
sign_means (suc (suc (suc (suc (suc (suc (suc zero))))))) = λ d e. (refl, refl)
sign_means (suc (suc (suc (suc (suc (suc (suc (suc zero)))))))) = λ e. (refl, refl)
sign_means (suc (suc (suc (suc (suc (suc (suc (suc (suc l))))))))) = label_means (suc (suc (suc (suc (suc (suc (suc (suc (suc l))))))))) (omega arith)

module _ (v : ℕ) where
  pub operand_means : {e : Expr} → sign_of v ≡ operand e → (steps e ≡ cond (is_step v) 1 0) × (plain e ≡ new_query v)
  operand_means q = subst (λ s. Means s v) q (sign_means v)

  pub unary_means : {f : Expr → Expr} → sign_of v ≡ unary f → (e : Expr) → (steps (f e) ≡ steps e) × (plain (f e) ≡ mapped (moving v) (plain e))
  unary_means q = subst (λ s. Means s v) q (sign_means v)

  pub binary_means : {f : Expr → Expr → Expr} → sign_of v ≡ binary f → (d e : Expr)
      → (steps (f d e) ≡ steps d + steps e) × (plain (f d e) ≡ two (chosen (eqb v 7)) (plain d) (plain e))
  binary_means q = subst (λ s. Means s v) q (sign_means v)

-- whether it is sign 7
pub glues_both : (s : word.Sign) (b : Bool) → (b ≡ true → s ≡ Intersection) → (s ≡ Intersection → b ≡ true) → b ≡ eqb (number_of s) 7
glues_both s true h k = sym (eq-eqb (number_of s) 7 (ap number_of (h refl)))
glues_both s false h k = sym (ne_eqb (number_of s) 7 (λ e. true≢false (sym (k (number_unique s Intersection e)))))

-- ------------------------------------------------------------------ the kinds of signs
abbrev OfKind : Kind → Sign → Type 0
OfKind Operand s = (e : Expr) × (s ≡ operand e)
OfKind Step s = (e : Expr) × (s ≡ operand e)
OfKind Unary s = (f : Expr → Expr) × (s ≡ unary f)
OfKind Binary s = (f : Expr → Expr → Expr) × (s ≡ binary f)

pub of_kind : (v : ℕ) (k : Kind) → k ≡ kind_of v → OfKind k (sign_of v)
unfolding kind_of
of_kind v k q = rw q (go (sign_of v) (is_step v))
  where
    go : (s : Sign) (b : Bool) → OfKind (kind_by s b) s
    go (operand e) true = (e, refl)
    go (operand e) false = (e, refl)
    go (unary f) b = (f, refl)
    go (binary f) b = (f, refl)

-- neither an operator on one nor on two
pub operand_kind : (v : ℕ) (k : Kind) → k ≡ kind_of v → k ≢ Unary → k ≢ Binary → (e : Expr) × (sign_of v ≡ operand e)
operand_kind v Operand q u b = of_kind v Operand q
operand_kind v Step q u b = of_kind v Step q
operand_kind v Unary q u b = absurd (u refl)
operand_kind v Binary q u b = absurd (b refl)
