-- A wildcard writes nothing; code L + 1 is the sign 9 + L.
use Rattle.std.proofs.Common.{sym, ap, ◌∙◌, length, arith}
use Rattle.groups.specs.Filled.{filled}
use Rattle.branches.specs.Factors.{label_at}
use Rattle.branches.proofs.Joining.{filled_by_nil}
use Rattle.branches.proofs.Chains.{label_some}
use Rattle.branches.proofs.put_label.Goals as goal

pub put_sign-requires : goal.put_sign-requires
unfolding label_at
put_sign-requires c = omega (arith, ap length (label_some c.args.from c.args.w.now.length _ c.if-x-ne0.true), c.requires.2)

pub returns-then-x-ne0 : goal.returns-then-x-ne0
unfolding label_at
returns-then-x-ne0 c = c.put_sign.ensures ∙ ap (filled c.args.w.now) (sym (label_some _ _ _ c.if-x-ne0.true))

pub returns-else-x-ne0 : goal.returns-else-x-ne0
unfolding label_at
returns-else-x-ne0 c = rw c.if-x-ne0.false (sym (filled_by_nil c.args.from c.args.w.now))
