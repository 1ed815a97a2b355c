-- The slices of the code's pool stay the same ones, whatever they hold.
use mathlib.Core.Path.{refl, sym, ap, subst, ◌∙◌}
use Prim.Native.Nat.{ℕ, ◌+◌}
use Rattle.meaning.specs.Word.{Pending}
use Rattle.pool.specs.declared.operand.Latest.{Latest}
use Rattle.pool.specs.declared.operand.Pool as lent
use Rattle.pool.specs.Pool.{held, holding, SameSlices, OnlyRows, Applies}
use Rattle.pool.specs.Latest.{Makes, Gives, PutFits, with_latest}
use Rattle.pool.proofs.Taking.{gives_fits, gives_holds}

pub slices_then : (x y z : lent.Pool) → SameSlices x y → SameSlices y z → SameSlices x z
slices_then x y z s t = t ∙ ap (λ w. holding w (held z) z.pending) s

module _ (x y : lent.Pool) (r : OnlyRows x y) (l : Latest) (sign : ℕ) where
  pub latest_slices : SameSlices x (with_latest y l)
  latest_slices = subst (λ w. SameSlices x (with_latest w l)) (sym r.same) refl

  pub latest_fits : (st : Pending) → Gives (held x) l y.parent.now y.label.now st → PutFits l y.first.now y.s.now y.d.now
  latest_fits st = subst (λ w. Gives (held x) l w.parent.now w.label.now st → PutFits l w.first.now w.s.now w.d.now) (sym r.same) (gives_fits (held x) l r.parent r.label st)

  pub latest_applies : Makes (held x) x.pending sign l y.parent.now y.label.now → Applies (held x) x.pending sign (held (with_latest y l)) (l.at + 1)
  latest_applies = subst (λ w. Makes (held x) x.pending sign l w.parent.now w.label.now → Applies (held x) x.pending sign (held (with_latest w l)) (l.at + 1)) (sym r.same)
      (λ m st st' at h t. gives_holds (held x) l r.parent r.label st' (m st st' at h t) r.parents r.labels _ _ _ _ refl refl refl refl)
