-- The bytes that are left are owed.
use lib.ListN.{drop}
use Rattle.groups.specs.Filled.{filled}
use Rattle.groups.proofs.Filled.{Owes}
use Rattle.report.proofs.put_bytes.Given as goal

abbrev pub invariant-loop-b : goal.invariant-loop-b
invariant-loop-b l = Owes (filled l.fn.w l.bytes) l.w (drop l.b-index l.bytes)
