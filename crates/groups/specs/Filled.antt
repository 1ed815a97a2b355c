-- What a writer is once it has written, and what it has room for.
use Rattle.std.specs.Prelude.{List, ℕ, ◌+◌, ◌≤◌, length}
use denote.Ref.{at_last}
use Rattle.groups.specs.declared.Writer.{Writer}
use Rattle.groups.specs.Put.{put}

-- the same room with the bytes bs behind those already filled, and as many more filled
abbrev pub filled : Writer → List ℕ → Writer
filled w bs = record { room = at_last w.room (put w.room.now w.length bs); length = w.length + length bs }

-- the room has the bytes bs free behind those already filled
abbrev pub Fits : Writer → List ℕ → Type 0
Fits w bs = w.length + length bs ≤ length w.room.now
