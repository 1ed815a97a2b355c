-- The first k bits are sifted.
use mathlib.Core.Path.{◌≡◌}
use mathlib.Core.Bool.{Bool}
use Prim.Native.Nat.{ℕ, ◌+◌, ◌<◌}
use lib.ListN.{get_or}
use Rattle.bits.specs.Bits.{Sifted}
use Rattle.bits.proofs.sift.Given as goal

abbrev pub invariant-loop-k : goal.invariant-loop-k
invariant-loop-k q l =
    (z : _) (g : ℕ → Bool) → ((k : ℕ) (on : Bool) → k < 8 → goal.F-post q l.keeps (get_or l.items (l.from + k) z) on → on ≡ g k)
    → Sifted l.b g l.k l.r
