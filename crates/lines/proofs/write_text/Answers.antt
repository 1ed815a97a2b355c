-- The text lies in its buffer.
use Rattle.std.proofs.Common.{arith}
use Rattle.report.proofs.Room.{text_in_front}
use Rattle.lines.proofs.write_text.Goals as goal

pub slice_bounds-text-end : goal.slice_bounds-text-end
slice_bounds-text-end g c = (text_in_front _ c.program_text-length.ensures (omega arith)).0

pub slice_bounds-write_all-end : goal.slice_bounds-write_all-end
slice_bounds-write_all-end g c = (text_in_front _ c.program_text-length.ensures (omega arith)).1
