-- No flag is set at first, so the flags are the parents.
use native.Mathlib.Omega.{arith}
use lib.ListN.{get_or-replicate}
use Rattle.meaning.specs.Limits.{most_rows}
use Rattle.document.proofs.Tables.{good_table_lem}
use Rattle.matching.proofs.Flags.{kept}
use Rattle.matching.proofs.kinship.keep_parents.Goals as goal

pub meet-requires : goal.meet-requires
meet-requires c = let G = good_table_lem _ _ c.args.document.now.good in (omega arith, omega arith, omega arith, omega (arith, G.few))

pub returns : goal.returns
returns c =
    kept _ _ _ _ _ _ _ (λ i l. get_or-replicate most_rows i 0 0 l)
    (λ v l t. let z = c.requires.4 v l t in omega arith) c.mark_row.ensures
    c.meet.ensures
