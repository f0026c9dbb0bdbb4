use Rattle.std.proofs.Common.{◌∙◌, ap, ◌++◌}
use Rattle.sw_replay.specs.Left.{items_left}
use Rattle.sw_replay.specs.Output.{line_of}
use Rattle.sw_replay.proofs.TurnLemmas.{few_cells, taken_push}
use Rattle.sw_hb.specs.Replay.{many}
use Rattle.sw_hb.proofs.TurnLemmas.{few_items, many_stay, turns_none, turns_push}
use Rattle.sw_hb.proofs.ordering.order_replay.Goals as goal

pub loop-item-init : goal.loop-item-init
loop-item-init c = (
  rw c.into_iter-item-iterator.ensures.into_iter_gives c.iter-item-items.ensures.value,
  turns_none c.args.graph.now c.in_ok-clocked.clocked _ c.in_ok-clocked.ensures.items
      c.in_ok-clocked.ensures.clocked c.new-lines.ensures.items,
)

pub clock_step-requires : goal.clock_step-requires
clock_step-requires c = record {
  clocked = c.loop-item.invariant.1.clocked_is;
  cells = few_cells c.args.graph.now c.loop-item.yielded (items_left c.loop-item.item-iterator)
      c.args.schedule.now _ _ c.loop-item.invariant.1.played c.loop-item.invariant.0
      c.iter-item-items.ensures.few;
  items = few_items c.args.graph.now c.loop-item.yielded (items_left c.loop-item.item-iterator)
      c.args.schedule.now c.loop-item.clocked c.loop-item.lines.items c.loop-item.invariant.1
      c.loop-item.invariant.0 c.iter-item-items.ensures.few;
}

pub loop-item-preserved : goal.loop-item-preserved
loop-item-preserved c = (
  taken_push c.loop-item.yielded _ _ _ c.in-Some.item c.loop-item.invariant.0
      c.in-Some.ensures.steps,
  turns_push c.args.graph.now c.loop-item.yielded c.in-Some.item c.loop-item.clocked
      c.clock_step.new.clocked c.loop-item.lines.items _ c.loop-item.invariant.1
      c.in-Ok.ensures.steps c.in-Ok.ensures.items c.clock_step.ensures.clocked
      (c.in_ok-add_line-in-Ok.ensures
      ∙ ap (λ e. c.loop-item.lines.items ++ line_of e) c.in-Ok.ensures.event),
)

pub returns-in-Err-ManyJobs : goal.returns-in-Err-ManyJobs
returns-in-Err-ManyJobs c =
    many (many_stay c.args.graph.now c.loop-item.yielded (items_left c.next.new.self)
    c.args.schedule.now c.in-Some.item c.loop-item.clocked c.loop-item.lines.items
    c.loop-item.invariant.1 (c.in-Err-ManyJobs.ensures.many c.in-Err-ManyJobs.field-0-is)
    (taken_push c.loop-item.yielded _ _ _ c.in-Some.item c.loop-item.invariant.0
    c.in-Some.ensures.steps))
