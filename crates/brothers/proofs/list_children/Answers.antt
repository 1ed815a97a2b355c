use Prim.Native.Nat.{◌<◌}
use mathlib.Core.Path.{sym, ◌∙◌}
use native.Mathlib.Omega.{arith}
use lib.ListN.{length-set}
use lib.Seq.{get_or-set_same}
use Rattle.meaning.specs.Limits.{most_nodes}
use Rattle.onto.proofs.Brothers.{over_start, over_passes, over_next}
use Rattle.onto.proofs.Onto.{stands_reaches}
use Rattle.brothers.proofs.Listing.{lists_store, list_start, list_child, list_gone, list_all}
use Rattle.brothers.proofs.list_children.Goals as goal

pub children-c-items-requires : goal.children-c-items-requires
children-c-items-requires c = stands_reaches c.requires

pub loop-c-init : goal.loop-c-init
loop-c-init c =
    let h = c.requires.held in rw c.into_iter-c-iterator.ensures.into_iter_gives (
      c.told-child,
      omega (arith, c.children-c-items.ensures.0),
      over_start h c.children-c-items.ensures,
      rw c.children-c-items.ensures.0 (list_start _ _ _ _ h),
    )

pub loop-c-preserved-then-not-is_gone : goal.loop-c-preserved-then-not-is_gone
loop-c-preserved-then-not-is_gone c =
    let v = c.loop-c.invariant in let G = c.in-Some.ensures.steps in
    let m : c.loop-c.k < most_nodes = omega (arith, c.requires.few, v.1, v.2.ends, G.1) in (
      simp length-set v.0,
      omega (arith, v.1, G.0, over_passes v.2 c.next.new.self G),
      over_next v.2 c.next.new.self G tt,
      list_child v.2 (lists_store c.in-Some.c v.3) c.next.new.self G (sym c.is_gone.ensures ∙ c.if-not-is_gone.true) m
          (get_or-set_same c.loop-c.child _ _ 0 (omega (arith, m, v.0))),
    )

pub loop-c-preserved : goal.loop-c-preserved
loop-c-preserved c =
    let v = c.loop-c.invariant in let G = c.in-Some.ensures.steps in (
      simp length-set v.0,
      omega (arith, v.1, G.0, over_passes v.2 c.next.new.self G),
      over_next v.2 c.next.new.self G tt,
      list_gone v.2 (lists_store c.in-Some.c v.3) c.next.new.self G (sym c.is_gone.ensures ∙ c.if-not-is_gone.false),
    )

pub returns : goal.returns
returns c = list_all c.loop-c.invariant.2 c.loop-c.invariant.3 c.in-None.ensures.steps.0
