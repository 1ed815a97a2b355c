-- The check of the word decides: one line of the refusal, or three.
use Rattle.report.proofs.Forms.{refused_text}
use Rattle.report.proofs.put_text.Goals as goal

pub put_refusal-requires : goal.put_refusal-requires
put_refusal-requires c = rw (c.number.ensures, ← refused_text _ c.in-Err.ensures) c.requires

pub returns-in-Err : goal.returns-in-Err
returns-in-Err c = rw (refused_text _ c.in-Err.ensures, ← c.number.ensures) c.put_refusal.ensures
