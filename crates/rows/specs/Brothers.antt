-- The brothers from one row on, each given in its turn.
use Rattle.std.specs.Prelude.{◌≡◌, Option, None, Some, ℕ, ◌+◌, ◌≤◌, ◌<◌, get_or}
use Rattle.rows.specs.declared.brothers.Brothers.{Brothers}

-- the next brother is given, and the one behind it is next; or none is left
abbrev pub GivesBrother : Brothers → Option ℕ → Brothers → Type 0
GivesBrother old None new = (old.end ≤ old.next) × (new ≡ old)
GivesBrother old (Some c) new = (c ≡ old.next) × (old.next < old.end)
    × (new.span ≡ old.span) × (new.next ≡ c + get_or old.span.now c 0) × (new.end ≡ old.end)
