-- The two latest operands, lent from the first row of the earlier on: what the lent part holds, and that the rows before it stay.
use Rattle.std.specs.Prelude as code
use mathlib.Core.Path.{◌≡◌, refl, sym, ap, subst, ◌∙◌}
use mathlib.Core.Bool.{Bool}
use mathlib.Core.List.{List, [], ◌++◌, append-nil}
use Prim.Native.Nat.{ℕ, ◌+◌, ◌-◌, ◌≤◌}
use native.Mathlib.Omega.{arith}
use lib.ListN.{length, get_or, take, drop, length-drop, length-append}
use lib.Seq.{take_all, drop-drop, drop-length, drop_at, length-take-le}
use borrow.Rule.Slice.PartMut.{put_mid, take_put}
use Rattle.meaning.specs.Expression.{Expr}
use Rattle.meaning.specs.Gluing.{two, plain}
use Rattle.theory.proofs.Plain.{TreeO}
use Rattle.glue.specs.declared.trees.Built.{Built}
use Rattle.glue.specs.Rows.{RowsFit}
use Rattle.glue.specs.Trees.{rows_in, built_of, built_from, chosen}
use Rattle.pool.specs.Pool.{Pool, built, operand_at, InOrder, Trees}
use Rattle.pool.specs.Latest.{Made}
use Rattle.pool.proofs.Operands.{rows_stored, rises}

-- the list from a on, as it is lent
abbrev lent : ℕ → List ℕ → List ℕ
lent a P = take (length P - a) (drop a P)

lent_is : (a : ℕ) (P : List ℕ) → lent a P ≡ drop a P
lent_is a P = take_all (length P - a) (drop a P) (let z = length-drop a P in omega arith)

put_tail : (a : ℕ) (P X : List ℕ) → a ≤ length P → drop a (put_mid a (length P - a) P X) ≡ X
put_tail a P X le =
    drop_at (take a P) (X ++ drop (length P - a) (drop a P)) a (length-take-le a P le) ∙ ap (λ z. X ++ z) none_left ∙ append-nil X
  where
    none_left : drop (length P - a) (drop a P) ≡ []
    none_left = ap (λ z. drop z (drop a P)) (sym (length-drop a P)) ∙ drop-length (drop a P)

pub length_put : (a : ℕ) (P X : List ℕ) → a ≤ length P → length X ≡ length (lent a P) → length (put_mid a (length P - a) P X) ≡ length P
length_put a P X le e =
    let d = length-drop a P in
    let r = length-drop (length P - a) (drop a P) in
    let m = e ∙ ap length (lent_is a P) ∙ d in
    rw (length-append, length-append, length-take-le a P le, m, r, d) (omega arith)

module _ (p : Pool) (n : ℕ) (le : 2 ≤ n) (order : InOrder p n) (a : ℕ) (ea : a ≡ get_or p.first (n - 2) 0)
    (q₁ q₂ : code.Option Built) (e₁ : q₁ ≡ built p (n - 2)) (e₂ : q₂ ≡ built p (n - 2 + 1)) where
  abbrev P : List ℕ
  P = p.parent

  abbrev L : List ℕ
  L = p.label

  on : n - 2 + 1 ≡ n - 1
  on = omega arith

  last : n - 2 + 1 + 1 ≡ n
  last = omega arith

  -- where the second starts
  behind : a + rows_in q₁ ≡ get_or p.first (n - 1) 0
  behind = let z = ap rows_in e₁ ∙ rows_stored p (n - 2) in let w = ap (λ k. get_or p.first k 0) on in omega (arith, order.up (n - 2) (omega arith))

  ends : a + (rows_in q₁ + rows_in q₂) ≡ get_or p.first n 0
  ends =
      let z = ap rows_in e₂ ∙ rows_stored p (n - 2 + 1) in
      let w = ap (λ k. get_or p.first k 0) on in
      let v = ap (λ k. get_or p.first k 0) last in
      omega (arith, behind, rises p n order (n - 1) n (omega arith) (omega arith))

  pub lent_fits : a ≤ length P × (a ≤ length L) × RowsFit (rows_in q₁ + rows_in q₂) (lent a P) (lent a L)
  lent_fits =
      let e = order.end in
      let f = order.parents in
      let g = order.labels in (
        omega (arith, ends),
        omega (arith, ends),
        rw (lent_is a P, lent_is a L) (record {
          small = omega (arith, ends);
          parents = omega (arith, ends, length-drop a P);
          labels = omega (arith, ends, length-drop a L);
        }),
      )

  first_is : operand_at p (n - 2) ≡ built_of q₁ (lent a P) (lent a L)
  unfolding operand_at
  first_is = rw (lent_is a P, lent_is a L, e₁, ea) refl

  second_is : operand_at p (n - 1) ≡ built_from (rows_in q₁) q₂ (lent a P) (lent a L)
  unfolding operand_at
  second_is = rw (lent_is a P, lent_is a L, drop-drop (rows_in q₁) a P, drop-drop (rows_in q₁) a L, behind, e₂, on) refl

  pub lent_trees : Trees p n → TreeO (built_of q₁ (lent a P) (lent a L)) × TreeO (built_from (rows_in q₁) q₂ (lent a P) (lent a L))
  lent_trees trees = (subst TreeO first_is (trees (n - 2) (omega arith)), subst TreeO second_is (trees (n - 1) (omega arith)))

  pub lent_made : (both : Bool) (r : code.Option Built) (P' L' : List ℕ) → built_of r P' L' ≡ two (chosen both) (built_of q₁ (lent a P) (lent a L)) (built_from (rows_in q₁) q₂ (lent a P) (lent a L))
      → (e g h : Expr) → plain h ≡ two (chosen both) (plain e) (plain g) → operand_at p (n - 2) ≡ plain e → operand_at p (n - 1) ≡ plain g
      → Made (n - 2) (get_or p.first (n - 2) 0) P L (record { at = n - 2; built = r })
      (put_mid a (length P - a) P P') (put_mid a (length L - a) L L') (plain h)
  lent_made both r P' L' q e g h m o₁ o₂ =
      let (lp, ll, f) = lent_fits in
      rw (← ea) (record {
        place = refl;
        whole = rw (put_tail a P P' lp, put_tail a L L' ll) (q ∙ rw (← first_is, ← second_is, o₁, o₂) (sym m));
        parents = take_put a (length P - a) P P' lp;
        labels = take_put a (length L - a) L L' ll;
      })
