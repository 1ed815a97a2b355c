use mathlib.Core.Path.{◌≡◌, sym, ◌∙◌}
use native.Mathlib.Omega.{arith}
use Rattle.document.proofs.Tables.{good_table_lem}
use Rattle.matching.proofs.Flags.{whole_byte}
use Rattle.matching.proofs.kinship.mark_parents.Goals as goal

pub bounds-has-parent_at : goal.bounds-has-parent_at
bounds-has-parent_at c =
    let G = good_table_lem _ _ c.args.document.now.good in
    let i = c.requires.1 _ (sym c.bit_of.ensures ∙ c.if-bit_of.true) in
    omega (arith, i, c.parent_at.ensures, G.few, G.up_to _ i)

pub returns : goal.returns
returns c =
    let z : c.loop-k.k ≡ 8 = omega arith in
    whole_byte c.args.document.now.parents.now _ _ c.args.byte c.args.first (omega arith) (rw z at c.loop-k.invariant)
