-- The digits of the bytes that are left are owed.
use lib.ListN.{drop}
use Rattle.meaning.specs.Program.{hex}
use Rattle.groups.specs.Filled.{filled}
use Rattle.groups.proofs.Filled.{Owes}
use Rattle.report.proofs.put_hex.Given as goal

abbrev pub invariant-loop-b : goal.invariant-loop-b
invariant-loop-b l = Owes (filled l.fn.w (hex l.bytes)) l.w (hex (drop l.b-index l.bytes))
