-- No text has more bytes than the buffer.
use native.Mathlib.Omega.{arith}
use Rattle.theory.proofs.Index.{program_text_short}
use Rattle.report.proofs.program_text.Goals as goal

pub put_text-requires : goal.put_text-requires
put_text-requires c = omega (arith, program_text_short c.args.word.now)
