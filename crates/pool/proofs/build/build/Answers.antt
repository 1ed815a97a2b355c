-- The pool holds nothing before the first sign; after the last it holds the word's expression, whose rows and marks `Reading` knows.
use mathlib.Core.Path.{refl, ap}
use Rattle.std.proofs.Common.{rules}
use Rattle.pool.specs.declared.operand.Pool as lent
use Rattle.pool.proofs.Reading.{holds_start, reading_end}
use Rattle.pool.proofs.build.build.Goals as goal

pub apply_signs-requires : goal.apply_signs-requires
apply_signs-requires c = (c.requires.accepted, holds_start _ _ c.args.first.now _ _ c.requires.sizes, refl)

pub returns : goal.returns
returns c =
    let s = c.apply_signs in
    let p = ap (λ (x : lent.Pool). x.parent.ghost_name) s.ensures.slices in
    let l = ap (λ (x : lent.Pool). x.label.ghost_name) s.ensures.slices in
    let q = reading_end _ _ s.ensures.only c.operand.result c.operand.ensures in
    search (rules, p, l, q)
