use Prim.Native.Nat.{◌+◌, ◌*◌, ◌<◌}
use native.Mathlib.Omega.{arith}
use lib.ListN.{get_or}
use Rattle.document.proofs.Tables.{good_table_lem}
use Rattle.matching.proofs.Flags.{byte_inside, first_inside, added_first, added_byte, added_row}
use Rattle.matching.proofs.kinship.mark_row.Goals as goal

pub mark_parents-requires : goal.mark_parents-requires
mark_parents-requires c =
    let lb : get_or c.args.w.now (128 * c.args.c) 0 < 256 = omega (arith, c.type_inv.w (128 * c.args.c)) in
    (omega arith, first_inside _ _ _ c.requires.2 lb)

pub bounds-w-at-in-loop-i : goal.bounds-w-at-in-loop-i
bounds-w-at-in-loop-i c = let G = good_table_lem _ _ c.args.document.now.good in omega (arith, G.few)

pub mark_byte-requires : goal.mark_byte-requires
mark_byte-requires c =
    let G = good_table_lem _ _ c.args.document.now.good in
    let lb : get_or c.args.w.now (128 * c.args.c + c.loop-i.i) 0 < 256 = omega
    (arith, c.type_inv.w (128 * c.args.c + c.loop-i.i)) in
    (omega (arith, G.few), byte_inside _ _ _ c.requires.2 c.loop-i.i (omega (arith, G.few)) lb)

pub loop-i-preserved : goal.loop-i-preserved
loop-i-preserved c =
    let lb : get_or c.args.w.now (128 * c.args.c + c.loop-i.i) 0 < 256 = omega
    (arith, c.type_inv.w (128 * c.args.c + c.loop-i.i)) in
    λ h a. added_byte _ _ _ c.requires.2 _ _ _ c.loop-i.i (omega arith) lb (c.loop-i.invariant h a) c.mark_byte.ensures

pub returns : goal.returns
returns c =
    let G = good_table_lem _ _ c.args.document.now.good in
    let lb : get_or c.args.w.now (128 * c.args.c) 0 < 256 = omega (arith, c.type_inv.w (128 * c.args.c)) in
    added_row _ _ _ c.requires.2 _ _ c.loop-i.i (omega arith) (omega (arith, G.few))
    (c.loop-i.invariant _ (added_first _ _ _ c.requires.2 _ _ lb c.mark_parents.ensures))
