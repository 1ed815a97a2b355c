use Prim.Native.Nat.{◌≤◌}
use mathlib.Core.Path.{sym, ◌∙◌}
use native.Mathlib.Omega.{arith}
use lib.ListN.{length}
use Rattle.meaning.specs.Limits.{most_nodes}
use Rattle.onto.proofs.Left.{remarked_none}
use Rattle.brothers.proofs.Children.{searched_none, searched_all, searchable, listed_inside, goes, goes_clear, clear_on}
use Rattle.brothers.proofs.fold_children.Goals as goal

pub returns-then-k-lt2 : goal.returns-then-k-lt2
returns-then-k-lt2 c = (
  searched_all c.requires (searched_none _ _) c.list_children-k.ensures (λ x a f. f.2 (omega (arith, f.1, c.if-k-lt2.true))),
  remarked_none _,
  c.list_children-k.array_long ∙ sym c.told-child,
)

pub loop-next-init : goal.loop-next-init
loop-next-init c = (c.list_children-k.array_long, remarked_none _, searched_none _ _, c.list_children-k.ensures, λ x a. absurd (omega arith))

pub first_foldable-requires : goal.first_foldable-requires
first_foldable-requires c = let v = c.loop-next.invariant in rw (v.1.code, v.1.span) (searchable c.requires v.2 v.3)

pub take_out-requires : goal.take_out-requires
take_out-requires c =
    let v = c.loop-next.invariant in let f = c.in-Some.ensures in
    (omega (arith, v.3.few, f.1), omega (arith, v.3.few, f.1), omega (arith, listed_inside c.requires v.2 v.3 _ f.1, c.requires.few))

pub loop-next-preserved : goal.loop-next-preserved
loop-next-preserved c =
    let v = c.loop-next.invariant in
    let f = c.in-Some.ensures in
    let r : most_nodes ≤ length c.loop-next.child = omega (arith, v.0) in
    let w = goes c.requires v.2 v.3 (omega (arith, f.1)) f.1 r c.take_out.ensures (rw (v.1.code, v.1.span) at f.3) in (
      c.take_out.array_long2,
      record { code = v.1.code; kids = v.1.kids; span = v.1.span; up = v.1.up; len = v.1.len },
      w.0,
      w.1,
      goes_clear c.requires v.2 v.3 (omega (arith, f.1)) f.1 r c.take_out.ensures (clear_on _ _ _ _ _ v.4 (rw (v.1.code, v.1.span) at f.2)),
    )

pub returns : goal.returns
returns c =
    let v = c.loop-next.invariant in (
      searched_all c.requires v.2 v.3 (clear_on _ _ _ _ _ v.4 (rw (v.1.code, v.1.span) at c.in_default.ensures)),
      v.1,
      v.0 ∙ sym c.told-child,
    )
