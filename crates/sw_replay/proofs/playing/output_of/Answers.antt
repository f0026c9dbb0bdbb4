use Rattle.std.proofs.Common.{◌∙◌, ap}
use Rattle.sw_replay.specs.Left.{items_left}
use Rattle.sw_replay.specs.Output.{output_of}
use Rattle.sw_replay.proofs.LineLemmas.{output_is, played_none, played_push}
use Rattle.sw_replay.proofs.TurnLemmas.{few_cells, few_played, taken_all, taken_push}
use Rattle.sw_replay.proofs.playing.output_of.Goals as goal

pub loop-item-init : goal.loop-item-init
loop-item-init c = (
  rw c.into_iter-item-iterator.ensures.into_iter_gives c.iter-item-items.ensures.value,
  played_none c.args.graph.now _ _ c.in_ok-played.ensures.state c.in_ok-played.ensures.lines,
)

pub take-requires : goal.take-requires
take-requires c =
    few_cells c.args.graph.now c.loop-item.yielded (items_left c.loop-item.item-iterator)
    c.args.schedule.now _ _ c.loop-item.invariant.1 c.loop-item.invariant.0
    c.iter-item-items.ensures.few

pub loop-item-preserved : goal.loop-item-preserved
loop-item-preserved c = (
  taken_push c.loop-item.yielded _ _ _ c.in-Some.item c.loop-item.invariant.0
      c.in-Some.ensures.steps,
  played_push c.args.graph.now c.loop-item.yielded c.in-Some.item _ _ _ _
      c.loop-item.invariant.1 c.in_ok-take.ensures.state c.in_ok-take.ensures.lines,
)

pub into_output-requires : goal.into_output-requires
into_output-requires c =
    few_played c.args.graph.now c.loop-item.yielded _ _ c.loop-item.invariant.1

pub returns : goal.returns
returns c =
    c.into_output.ensures
    ∙ output_is c.args.graph.now c.loop-item.yielded _ _ c.loop-item.invariant.1
    ∙ ap (output_of c.args.graph.now)
    (taken_all c.loop-item.yielded _ _ c.loop-item.invariant.0 c.in-None.ensures.steps.0)
