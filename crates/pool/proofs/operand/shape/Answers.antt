-- One law for each way out.
use borrow.Author.Rules.{rules}
use Rattle.std.proofs.Common.{ap, arith}
use mathlib.Core.Logic.{◌≢◌}
use mathlib.Core.Path.{◌≡◌}
use Rattle.word.specs.Sign.{number_of}
use Rattle.word.specs.declared.sign.Sign.TheVariants.{Empty, Child, Parent}
use Rattle.word.proofs.Signs.{number_unique}
use Rattle.pool.proofs.Laying.{shape_empty, shape_child, shape_parent, shape_node}
use Rattle.pool.proofs.operand.shape.Goals as goal

pub returns-then-eq : goal.returns-then-eq
returns-then-eq c = let e : c.args.sign ≡ Empty = search rules in (omega arith, shape_empty _ (ap number_of e))

pub returns-then-eq-2 : goal.returns-then-eq-2
returns-then-eq-2 c = let e : c.args.sign ≡ Child = search rules in (omega arith, shape_child _ (ap number_of e))

pub returns-then-eq-3 : goal.returns-then-eq-3
returns-then-eq-3 c = let e : c.args.sign ≡ Parent = search rules in (omega arith, shape_parent _ (ap number_of e))

pub returns : goal.returns
returns c =
    let s = number_unique c.args.sign in
    let e : c.args.sign ≢ Empty = search rules in
    let d : c.args.sign ≢ Child = search rules in
    let p : c.args.sign ≢ Parent = search rules in
    (omega arith, shape_node _ (λ z. e (s Empty z)) (λ z. d (s Child z)) (λ z. p (s Parent z)))
