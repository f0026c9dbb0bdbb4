-- Where a watched replay stops.
use Rattle.std.proofs.Common.{◌≡◌, ℕ, ◌+◌, ◌≤◌, Option, Some, List, [], ◌∷◌, ◌++◌, length}
use Rattle.std.proofs.Common.{take, sym, ap, subst, ◌∙◌, arith, length-append}
use Rattle.std.proofs.lemmas.List.{take-append-le, take_all}
use Rattle.sw_graph.specs.declared.graph.Graph.{Graph}
use Rattle.sw_replay.specs.declared.output.Output.{Output}
use Rattle.sw_replay.specs.declared.output.Replay.{Replay}
use Rattle.sw_replay.specs.Output.{IsPlayed, output_by, output_of}
use Rattle.sw_replay.specs.Replay.{IsRacingAt, IsReplay}
use Rattle.sw_replay.specs.Replay as replays
use Rattle.sw_replay.proofs.LineLemmas.{output_is}
use Rattle.sw_value.specs.declared.race.Race.{Race}
use Rattle.sw_value.specs.declared.state.State.{State}
use Rattle.sw_value.specs.Racing.{IsLeastRace, Racing}
use Rattle.sw_value.specs.Reach.{reach}
use Rattle.sw_see_events.specs.Happenings.{happenings}
use Rattle.sw_see_events.specs.Watches.{IsWatched, Watches, raced, whole}
use Rattle.sw_see_events.specs.declared.watching.Watched.{Watched}

-- a prefix of the first of two lists
prefix : (xs ys : List ℕ) (n : ℕ) → n ≤ length xs → take n (xs ++ ys) ≡ take n xs
prefix xs ys n few = take-append-le n xs ys few

-- the item with which the first race comes is the last that is taken, whatever items are left
pub stops_at : (graph : Graph) (items : List ℕ) (item : ℕ)
    → ((n : ℕ) → IsRacingAt graph items n → ⊥) → (left : List ℕ) (race : Race)
    → IsLeastRace graph (reach graph (items ++ item ∷ [])) race
    → Watches graph ((items ++ item ∷ []) ++ left) (items ++ item ∷ []) (Some race)
stops_at graph items item free left race least =
    let taken = items ++ item ∷ [] in
    let count = length-append items (item ∷ []) in
    let all : take (length items + 1) (taken ++ left) ≡ taken =
    prefix taken left (length items + 1) (omega (arith, count))
    ∙ take_all (length items + 1) taken (omega (arith, count)) in
    subst (λ first. Watches graph (taken ++ left) first (Some race)) all
    (raced (length items + 1) race (omega (arith, count, length-append taken left))
    (λ k less here. free k (subst (λ l. Racing graph (reach graph l))
    (prefix taken left k (omega (arith, less, count))
    ∙ prefix items (item ∷ []) k (omega (arith, less))) here))
    (subst (λ l. IsLeastRace graph (reach graph l) race) (sym all) least))

-- what is known of a walk that stops, from what it gives
pub watched_of : (graph : Graph) (items taken : List ℕ) (watched : Watched) (state : State)
    (lines : List ℕ) (race : Option Race) → IsPlayed graph taken state lines
    → Watches graph items taken race
    → watched.replay ≡ record { output = output_by state lines; race = race }
    → watched.happenings ≡ happenings graph taken → IsWatched graph items watched
watched_of graph items taken watched state lines race played watches replay events = record {
  taken = taken;
  watches = subst (Watches graph items taken) (sym (ap (λ (r : Replay). r.race) replay)) watches;
  output = ap (λ (r : Replay). r.output) replay ∙ output_is graph taken state lines played;
  events = events;
}

of_output : (graph : Graph) (items taken : List ℕ) (output : Output) (race : Option Race)
    → Watches graph items taken race → output ≡ output_of graph taken
    → IsReplay graph items (record { output = output; race = race })
of_output graph items _ output _ (whole calm) is = rw is (replays.whole calm)
of_output graph items _ output _ (raced n race within calm least) is =
    rw is (replays.raced n race within calm least)

-- it is the replay of the items
pub is_replay : (graph : Graph) (items : List ℕ) (watched : Watched)
    → IsWatched graph items watched → IsReplay graph items watched.replay
is_replay graph items watched is =
    of_output graph items is.taken watched.replay.output watched.replay.race is.watches is.output
