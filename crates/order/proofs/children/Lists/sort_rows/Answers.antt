use borrow.Author.Rules.{rules}
use Prim.Native.Nat.{suc, ◌-◌}
use mathlib.Core.Path.{◌≡◌, ap, ◌∙◌}
use native.Mathlib.Omega.{arith}
use Rattle.order.specs.Links.{slot_of}
use Rattle.order.proofs.Placing.{sorting_none, row_ready, count_fits, sorting_turn, sorted_all}
use Rattle.order.proofs.children.Lists.sort_rows.Goals as goal

pub loop-i-init : goal.loop-i-init
loop-i-init c = let p = c.requires in sorting_none (record { table = p.0; order = p.1; lent = c.clear.ensures.1; keys = search rules }) c.clear.ensures

pub place-q-requires : goal.place-q-requires
place-q-requires c =
    let v = c.loop-i in let z : suc (v.i - 1) ≡ v.i = omega arith in
    row_ready v.invariant.0 (v.i - 1) (omega arith) (rw z v.invariant.1) (c.slot-p.ensures.0 ∙ ap (slot_of _) c.link.ensures.0) c.key_of.result c.at-h.ensures.0 c.at-h.ensures.1

pub overflow_add-self : goal.overflow_add-self
overflow_add-self c =
    let v = c.loop-i in let z : suc (v.i - 1) ≡ v.i = omega arith in
    record { fits = count_fits v.invariant.0 (v.i - 1) (omega arith) (rw z v.invariant.1) (c.slot-p.ensures.0 ∙ ap (slot_of _) c.link.ensures.0) c.key_of.result c.at-h.ensures.0 c.place-q.ensures.1 }

pub loop-i-preserved : goal.loop-i-preserved
loop-i-preserved c =
    let v = c.loop-i in let z : suc (v.i - 1) ≡ v.i = omega arith in
    rw c.place-q.ensures.0 (sorting_turn v.invariant.0 (v.i - 1) (omega arith) (rw z v.invariant.1) (c.slot-p.ensures.0 ∙ ap (slot_of _) c.link.ensures.0) c.key_of.result c.at-h.ensures.0 c.place-q.ensures.1 c.key_of.ensures)

pub returns : goal.returns
returns c = let v = c.loop-i in let z : v.i ≡ 0 = omega arith in sorted_all c.requires.0 c.requires.1 (rw z at v.invariant.1)
