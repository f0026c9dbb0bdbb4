use Rattle.std.proofs.Common.{◌∙◌, ap, arith, ◌++◌}
use Rattle.sw_replay.specs.Left.{items_left}
use Rattle.sw_replay.specs.Output.{line_of}
use Rattle.sw_replay.proofs.TurnLemmas.{few_cells, few_played, taken_all, taken_push}
use Rattle.sw_owners.proofs.Turns.{colored_none, colored_push, replay_is}
use Rattle.sw_owners.proofs.replaying.color_replay.Goals as goal

pub loop-item-init : goal.loop-item-init
loop-item-init c = (
  rw c.into_iter-item-iterator.ensures.into_iter_gives c.iter-item-items.ensures.value,
  colored_none c.args.graph.now _ _ c.in_ok-colored.ensures c.new-lines.ensures.items,
)

pub color_step-requires : goal.color_step-requires
color_step-requires c = record {
  cells = few_cells c.args.graph.now c.loop-item.yielded (items_left c.loop-item.item-iterator)
      c.args.schedule.now _ _ c.loop-item.invariant.1.played c.loop-item.invariant.0
      c.iter-item-items.ensures.few;
}

pub loop-item-preserved : goal.loop-item-preserved
loop-item-preserved c = (
  taken_push c.loop-item.yielded _ _ _ c.in-Some.item c.loop-item.invariant.0
      c.in-Some.ensures.steps,
  colored_push c.args.graph.now c.loop-item.yielded c.in-Some.item _ _ c.loop-item.lines.items _
      c.loop-item.invariant.1 c.in_ok-event.ensures.steps
      (c.in_ok-add_line.ensures
      ∙ ap (λ e. c.loop-item.lines.items ++ line_of e) c.in_ok-event.ensures.event),
)

pub owners_of-requires : goal.owners_of-requires
owners_of-requires c =
    let few = few_cells c.args.graph.now c.loop-item.yielded
    (items_left c.loop-item.item-iterator) c.args.schedule.now _ _
    c.loop-item.invariant.1.played c.loop-item.invariant.0 c.iter-item-items.ensures.few in
    omega (arith, few)

pub output_by-requires : goal.output_by-requires
output_by-requires c =
    few_played c.args.graph.now c.loop-item.yielded _ _ c.loop-item.invariant.1.played

pub returns : goal.returns
returns c =
    replay_is c.args.graph.now c.loop-item.yielded c.args.schedule.now c.loop-item.colored
    c.loop-item.lines.items _ c.loop-item.invariant.1
    (taken_all c.loop-item.yielded _ _ c.loop-item.invariant.0 c.in-None.ensures.steps.0)
    (λ i. record { output = c.output_by.ensures i; owners = c.in_ok-owners_of.ensures i })
