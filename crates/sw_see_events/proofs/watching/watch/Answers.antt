use Rattle.std.proofs.Common.{◌≡◌, ◌<◌, ◌∙◌, [], ◌∷◌, ◌++◌, Some, None, length, subst}
use Rattle.sw_replay.specs.Left.{items_left}
use Rattle.sw_replay.specs.Output.{IsPlayed}
use Rattle.sw_replay.proofs.LineLemmas.{played_none, played_push}
use Rattle.sw_replay.proofs.TurnLemmas.{few_cells, few_played, taken_all, taken_push}
use Rattle.sw_replay.proofs.WatchLemmas.{on_way_none, on_way_push}
use Rattle.sw_value.specs.Racing.{IsLeastRace}
use Rattle.sw_see_events.specs.Happenings.{happenings}
use Rattle.sw_see_events.specs.Watches.{Watches, whole}
use Rattle.sw_see_events.proofs.HappeningLemmas.{few_events, happenings_none, happenings_push}
use Rattle.sw_see_events.proofs.WatchLemmas.{stops_at, watched_of}
use Rattle.sw_see_events.proofs.watching.watch.Goals as goal
use Rattle.sw_see_events.proofs.watching.watch.Goals.{In_ok-take}

-- the items with the one that was taken last
played : (c : In_ok-take) → IsPlayed c.args.graph.now (c.loop-item.yielded ++ c.in-Some.item ∷ [])
    c.take.new.self.state c.take.new.self.lines.items
played c =
    played_push c.args.graph.now c.loop-item.yielded c.in-Some.item _ _ _ _
    c.loop-item.invariant.1.played c.in_ok-take.ensures.state c.in_ok-take.ensures.lines

-- and their events
events : (c : In_ok-take) → c.take.new.self.happenings
    ≡ happenings c.args.graph.now (c.loop-item.yielded ++ c.in-Some.item ∷ [])
events c =
    happenings_push c.args.graph.now c.loop-item.yielded c.in-Some.item _ _ _
    c.loop-item.invariant.1.played.state_is c.loop-item.invariant.2
    c.in_ok-take.ensures.happenings

few_jobs : (c : In_ok-take) → length c.take.new.self.state.jobs < 4294967296
few_jobs c =
    few_played c.args.graph.now (c.loop-item.yielded ++ c.in-Some.item ∷ []) _ _ (played c)

pub new-requires-2 : goal.new-requires-2
new-requires-2 c = record {
  jobs = few_played c.args.graph.now [] _ _
      (played_none c.args.graph.now _ _ c.in_ok-walk.ensures.state c.in_ok-walk.ensures.lines);
}

pub loop-item-init : goal.loop-item-init
loop-item-init c = (
  rw c.into_iter-item-iterator.ensures.into_iter_gives c.iter-item-items.ensures.value,
  on_way_none c.args.graph.now _ _ _ c.in_ok-walk.ensures.state c.in_ok-walk.ensures.lines
      c.in_ok-index.ensures,
  happenings_none c.args.graph.now _ c.in_ok-walk.ensures.happenings,
)

pub take-requires : goal.take-requires
take-requires c =
    few_cells c.args.graph.now c.loop-item.yielded (items_left c.loop-item.item-iterator)
    c.args.schedule.now _ _ c.loop-item.invariant.1.played c.loop-item.invariant.0
    c.iter-item-items.ensures.few

pub update-requires-clause-jobs : goal.update-requires-clause-jobs
update-requires-clause-jobs c = few_jobs (goal.at.update-requires-clause-jobs c).In_ok-take

pub least_race-requires-clause-jobs : goal.least_race-requires-clause-jobs
least_race-requires-clause-jobs c = few_jobs (goal.at.least_race-requires-clause-jobs c).In_ok-take

pub into_watched-requires : goal.into_watched-requires
into_watched-requires c = few_jobs (goal.at.into_watched-requires c).In_ok-take

pub returns-in-Some-least_race-clause-watched : goal.returns-in-Some-least_race-clause-watched
returns-in-Some-least_race-clause-watched c =
    let before = (goal.at.returns-in-Some-least_race-clause-watched c).In_ok-take in
    let race = c.in-Some-least_race.race in
    let taken = c.loop-item.yielded ++ c.in-Some.item ∷ [] in
    let splits = taken_push c.loop-item.yielded _ _ _ c.in-Some.item c.loop-item.invariant.0
    c.in-Some.ensures.steps in
    watched_of c.args.graph.now c.args.schedule.now taken c.into_watched.result _ _ (Some race)
    (played before)
    (subst (λ items. Watches c.args.graph.now items taken (Some race)) splits
    (stops_at c.args.graph.now c.loop-item.yielded c.in-Some.item c.loop-item.invariant.1.free
    (items_left c.next.new.self) race
    (subst (λ state. IsLeastRace c.args.graph.now state race) (played before).state_is
    c.in-Some-least_race.ensures)))
    c.into_watched.ensures.replay (c.into_watched.ensures.happenings ∙ events before)

pub loop-item-preserved : goal.loop-item-preserved
loop-item-preserved c = (
  taken_push c.loop-item.yielded _ _ _ c.in-Some.item c.loop-item.invariant.0
      c.in-Some.ensures.steps,
  on_way_push c.args.graph.now c.loop-item.yielded c.in-Some.item
      c.loop-item.invariant.1.free _ _ (played (goal.at.loop-item-preserved c).In_ok-take) _
      c.in_ok-update.ensures.stands c.in_default.ensures,
  events (goal.at.loop-item-preserved c).In_ok-take,
)

pub into_watched-requires-2 : goal.into_watched-requires-2
into_watched-requires-2 c =
    few_played c.args.graph.now c.loop-item.yielded _ _ c.loop-item.invariant.1.played

pub returns-clause-watched : goal.returns-clause-watched
returns-clause-watched c =
    let taken = c.loop-item.yielded in
    let all = taken_all taken _ _ c.loop-item.invariant.0 c.in-None.ensures.steps.0 in
    watched_of c.args.graph.now c.args.schedule.now taken c.into_watched-2.result _ _ None
    c.loop-item.invariant.1.played
    (subst (λ items. Watches c.args.graph.now items taken None) all
    (whole c.loop-item.invariant.1.free))
    c.into_watched-2.ensures.replay
    (c.into_watched-2.ensures.happenings ∙ c.loop-item.invariant.2)

pub returns-in-Some-least_race-clause-few : goal.returns-in-Some-least_race-clause-few
returns-in-Some-least_race-clause-few c =
    let before = (goal.at.returns-in-Some-least_race-clause-few c).In_ok-take in
    few_events c.args.graph.now (c.loop-item.yielded ++ c.in-Some.item ∷ [])
    (items_left c.next.new.self) c.args.schedule.now c.into_watched.result.happenings
    (c.into_watched.ensures.happenings ∙ events before)
    (taken_push c.loop-item.yielded _ _ _ c.in-Some.item c.loop-item.invariant.0
    c.in-Some.ensures.steps) c.iter-item-items.ensures.few

pub returns-clause-few : goal.returns-clause-few
returns-clause-few c =
    few_events c.args.graph.now c.loop-item.yielded (items_left c.loop-item.item-iterator)
    c.args.schedule.now c.into_watched-2.result.happenings
    (c.into_watched-2.ensures.happenings ∙ c.loop-item.invariant.2) c.loop-item.invariant.0
    c.iter-item-items.ensures.few
