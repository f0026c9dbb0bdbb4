use Rattle.std.proofs.Common.{◌<◌, ◌∙◌, [], ◌∷◌, ◌++◌, Some, None, length, subst}
use Rattle.sw_replay.specs.Left.{items_left}
use Rattle.sw_replay.specs.Output.{IsPlayed}
use Rattle.sw_replay.specs.Replay.{IsReplay}
use Rattle.sw_replay.specs.Replay as replays
use Rattle.sw_replay.proofs.LineLemmas.{output_is, played_none, played_push}
use Rattle.sw_replay.proofs.TurnLemmas.{few_cells, few_played, taken_all, taken_push}
use Rattle.sw_replay.proofs.WatchLemmas.{on_way_none, on_way_push, stops}
use Rattle.sw_replay.proofs.replaying.replay.Goals as goal
use Rattle.sw_replay.proofs.replaying.replay.Goals.{In_ok-take}

-- the items with the one that was taken last
played : (c : In_ok-take) → IsPlayed c.args.graph.now (c.loop-item.yielded ++ c.in-Some.item ∷ [])
    c.take.new.self.state c.take.new.self.lines.items
played c =
    played_push c.args.graph.now c.loop-item.yielded c.in-Some.item _ _ _ _
    c.loop-item.invariant.1.played c.in_ok-take.ensures.state c.in_ok-take.ensures.lines

few_jobs : (c : In_ok-take) → length c.take.new.self.state.jobs < 4294967296
few_jobs c =
    few_played c.args.graph.now (c.loop-item.yielded ++ c.in-Some.item ∷ []) _ _ (played c)

pub new-requires-2 : goal.new-requires-2
new-requires-2 c = record {
  jobs = few_played c.args.graph.now [] _ _
      (played_none c.args.graph.now _ _ c.in_ok-played.ensures.state c.in_ok-played.ensures.lines);
}

pub loop-item-init : goal.loop-item-init
loop-item-init c = (
  rw c.into_iter-item-iterator.ensures.into_iter_gives c.iter-item-items.ensures.value,
  on_way_none c.args.graph.now _ _ _ c.in_ok-played.ensures.state c.in_ok-played.ensures.lines
      c.in_ok-index.ensures,
)

pub take-requires : goal.take-requires
take-requires c =
    few_cells c.args.graph.now c.loop-item.yielded (items_left c.loop-item.item-iterator)
    c.args.schedule.now _ _ c.loop-item.invariant.1.played c.loop-item.invariant.0
    c.iter-item-items.ensures.few

pub update-requires-clause-jobs : goal.update-requires-clause-jobs
update-requires-clause-jobs c = few_jobs (goal.at.update-requires-clause-jobs c).In_ok-take

pub least_race-requires-clause-jobs : goal.least_race-requires-clause-jobs
least_race-requires-clause-jobs c = few_jobs (goal.at.least_race-requires-clause-jobs c).In_ok-take

pub into_output-requires : goal.into_output-requires
into_output-requires c = few_jobs (goal.at.into_output-requires c).In_ok-take

pub returns-in-Some-least_race : goal.returns-in-Some-least_race
returns-in-Some-least_race c =
    let race = c.in-Some-least_race.race in
    let splits = taken_push c.loop-item.yielded _ _ _ c.in-Some.item c.loop-item.invariant.0
    c.in-Some.ensures.steps in
    subst (λ items. IsReplay c.args.graph.now items
    (record { output = c.into_output.result; race = Some race })) splits
    (rw c.into_output.ensures (stops c.args.graph.now c.loop-item.yielded c.in-Some.item
    c.loop-item.invariant.1.free _ _ (played (goal.at.returns-in-Some-least_race c).In_ok-take)
    (items_left c.next.new.self) race c.in-Some-least_race.ensures))

pub loop-item-preserved : goal.loop-item-preserved
loop-item-preserved c = (
  taken_push c.loop-item.yielded _ _ _ c.in-Some.item c.loop-item.invariant.0
      c.in-Some.ensures.steps,
  on_way_push c.args.graph.now c.loop-item.yielded c.in-Some.item
      c.loop-item.invariant.1.free _ _ (played (goal.at.loop-item-preserved c).In_ok-take) _
      c.in_ok-update.ensures.stands c.in_default.ensures,
)

pub into_output-requires-2 : goal.into_output-requires-2
into_output-requires-2 c =
    few_played c.args.graph.now c.loop-item.yielded _ _ c.loop-item.invariant.1.played

pub returns : goal.returns
returns c =
    let all = taken_all c.loop-item.yielded _ _ c.loop-item.invariant.0 c.in-None.ensures.steps.0 in
    subst (λ items. IsReplay c.args.graph.now items
    (record { output = c.into_output-2.result; race = None })) all
    (rw (c.into_output-2.ensures
    ∙ output_is c.args.graph.now c.loop-item.yielded _ _ c.loop-item.invariant.1.played)
    (replays.whole c.loop-item.invariant.1.free))
