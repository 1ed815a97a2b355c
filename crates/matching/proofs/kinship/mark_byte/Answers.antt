-- A byte without bits stands for no node.
use Rattle.matching.proofs.Flags.{empty_byte}
use Rattle.matching.proofs.kinship.mark_byte.Goals as goal

pub returns-in-0 : goal.returns-in-0
returns-in-0 c = empty_byte c.args.document.now.parents.now _ c.args.byte c.args.first c.in-0.is
