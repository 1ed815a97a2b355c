-- A wildcard fits all eight nodes; else the nodes that bear the label are left.
use Prim.Native.Nat.{◌+◌, ◌-◌}
use lib.ListN.{get_or}
use lib.Dec.{eqb}
use Rattle.std.proofs.Common.{rules}
use Rattle.document.proofs.Nodes.{byte_any, byte_code}
use Rattle.document.proofs.labels.label_byte.Goals as goal

pub returns-then-code-eq0 : goal.returns-then-code-eq0
returns-then-code-eq0 c =
    byte_any c.args.code c.args.labels.now c.args.from c.requires c.if-code-eq0.true

pub returns : goal.returns
returns c =
    let s = c.sift.ensures 0 (λ k. eqb (get_or c.args.labels.now (c.args.from + k) 0) (c.args.code - 1)) (λ k on l e. search rules) in
    byte_code c.args.code c.args.labels.now c.args.from _ c.requires c.if-code-eq0.false s
