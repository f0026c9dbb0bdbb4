use Rattle.std.proofs.Common.{arith}
use Rattle.std.proofs.lemmas.Result.{IfOk-weaker}
use Rattle.sw_cert_making.proofs.Whole.{blocks_of_next, few_blocks, function_within}
use Rattle.sw_cert_making.proofs.making.add_function.Goals as goal

pub overflow_cast-blocks : goal.overflow_cast-blocks
overflow_cast-blocks g c = omega (
  arith,
  few_blocks c.args.graph.now c.args.function c.as_slice.result.now c.index-as_slice-function.result
      c.len-blocks.result c.in_ok-states.states c.requires.function c.as_slice.ensures
      c.len-blocks.ensures c.in_ok-states.ensures.blocks,
)

pub returns : goal.returns
returns g c = IfOk-weaker c.add_lines.result _ _
    (λ within lines body at. function_within c.args.graph.now c.args.function body
    c.in_ok-states.states c.len-blocks.result c.args.text.now.items c.add_lines.new.text.items
    (c.in_ok-states.ensures.blocks body at)
    (blocks_of_next c.args.graph.now c.args.function c.as_slice.result.now
    c.index-as_slice-function.result c.len-blocks.result c.as_slice.ensures c.len-blocks.ensures
    body at) within lines) c.add_lines.ensures
