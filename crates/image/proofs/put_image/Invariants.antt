-- The rows that are left are owed.
use Prim.Native.Nat.{◌-◌, ◌≤◌}
use Rattle.groups.specs.Filled.{filled}
use Rattle.groups.proofs.Filled.{Owes}
use Rattle.image.specs.Listing.{listing_of}
use Rattle.image.proofs.Listing.{left}
use Rattle.image.proofs.put_image.Given as goal

abbrev pub invariant-loop-u : goal.invariant-loop-u
invariant-loop-u l = (l.u ≤ l.rows.len) × Owes (filled l.fn.w (listing_of l.rows)) l.w (left l.rows.code l.rows.mark l.rows.kids l.rows.len l.u)

abbrev pub decreases-loop-u : goal.decreases-loop-u
decreases-loop-u l = l.rows.len - l.u
