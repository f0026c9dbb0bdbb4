use Rattle.std.proofs.Common.{ap, ◌∙◌, ◌<◌, length, arith}
use Rattle.std.proofs.lemmas.Grind.{common_steps}
use Rattle.sw_tree.specs.NodeKey.{expr_key}
use Rattle.sw_tree.proofs.NodeKeyLemmas.{key-last, key-alone}
use Rattle.sw_tree.proofs.expr.Expr.+key.Goals as goal

pub returns-in-Some : goal.returns-in-Some
returns-in-Some t c =
    let item = c.in-Some.ensures.item in
    let some : 0 < length c.as_slice.result.now = grind (arith, common_steps) in
    key-last c.args.self.now c.in-Chain.first c.in-Chain.rest c.as_slice.result.now
    c.in-Some.link.now c.in-Chain.is c.as_slice.ensures some item.1

pub returns-in-None : goal.returns-in-None
returns-in-None t c =
    c.key.ensures ∙ ap expr_key c.get.ensures
    ∙ key-alone c.args.self.now c.in-Chain.first c.in-Chain.rest c.as_slice.result.now
    c.in-Chain.is c.as_slice.ensures c.in-None.ensures.value
