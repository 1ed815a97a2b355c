-- The bytes counted and those of the rows that are left make up the image's.
use mathlib.Core.Path.{◌≡◌}
use Prim.Native.Nat.{◌+◌, ◌-◌, ◌*◌, ◌≤◌}
use lib.ListN.{length}
use Rattle.image.specs.Listing.{listing_of}
use Rattle.image.proofs.Listing.{left}
use Rattle.image.proofs.image_length.Given as goal

abbrev pub invariant-loop-u : goal.invariant-loop-u
invariant-loop-u l = (l.u ≤ l.rows.len) × (l.bytes ≤ 5 + 15 * l.u)
    × (l.bytes + length (left l.rows.code l.rows.mark l.rows.kids l.rows.len l.u) ≡ length (listing_of l.rows))

abbrev pub decreases-loop-u : goal.decreases-loop-u
decreases-loop-u l = l.rows.len - l.u
