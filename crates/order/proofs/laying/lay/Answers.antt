use mathlib.Core.Path.{refl}
use borrow.Author.Rules.{rules}
use Rattle.order.proofs.LaidOut.{laying_none, fits, down_less, laying_down, climbs, laid_rows}
use Rattle.order.proofs.laying.lay.Goals as goal

pub loop-x-init : goal.loop-x-init
loop-x-init c =
    laying_none (c.requires.0, c.requires.1, record { codes = search rules; marks = search rules; counts = search rules; spans = search rules; ups = search rules }) c.at-x.ensures.0

pub bounds-rows-v : goal.bounds-rows-v
bounds-rows-v c = fits c.loop-x.invariant c.if-x-n.true

pub bounds-rows-v-then-x-n : goal.bounds-rows-v-then-x-n
bounds-rows-v-then-x-n c = fits c.loop-x.invariant c.if-x-n.true

pub bounds-rows-v-then-x-n-2 : goal.bounds-rows-v-then-x-n-2
bounds-rows-v-then-x-n-2 c = fits c.loop-x.invariant c.if-x-n.true

pub bounds-rows-v-then-x-n-3 : goal.bounds-rows-v-then-x-n-3
bounds-rows-v-then-x-n-3 c = fits c.loop-x.invariant c.if-x-n.true

pub bounds-rows-v-then-x-n-4 : goal.bounds-rows-v-then-x-n-4
bounds-rows-v-then-x-n-4 c = fits c.loop-x.invariant c.if-x-n.true

pub loop-x-smaller-then-x-n : goal.loop-x-smaller-then-x-n
loop-x-smaller-then-x-n c = down_less c.loop-x.invariant c.if-x-n.true

pub loop-x-preserved-then-x-n : goal.loop-x-preserved-then-x-n
loop-x-preserved-then-x-n c = laying_down c.loop-x.invariant c.if-x-n.true c.at-x-then-x-n.ensures.0

pub returns-then-u-eq-TOP : goal.returns-then-u-eq-TOP
returns-then-u-eq-TOP c = let r = laid_rows c.loop-x.invariant c.if-x-n.false c.if-u-eq-TOP.true in (r.0, r.1, refl, c.loop-x.invariant.room)

pub loop-x-preserved : goal.loop-x-preserved
loop-x-preserved c =
    let k = climbs c.loop-x.invariant c.if-x-n.false c.if-u-eq-TOP.false in
    rw (c.wide-u.ensures.0, c.at-x-in-loop-x.ensures.0, c.wide.ensures.0) k.laying_on
