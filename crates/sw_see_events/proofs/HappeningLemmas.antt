-- The events of one item more, and of all items.
use Rattle.std.proofs.Common.{◌≡◌, ℕ, Option, Some, None, List, [], ◌∷◌, ◌++◌, map, option_map}
use Rattle.std.proofs.Common.{◌≤◌, length, refl, sym, ap, ◌∙◌, arith, append-nil, append_assoc}
use Rattle.std.proofs.Common.{length-append}
use Rattle.std.specs.Prelude.{option_to_list}
use Rattle.std.specs.List.{fold}
use Rattle.sw_before.specs.Events.{events_from, events_of}
use Rattle.sw_graph.specs.declared.graph.Graph.{Graph}
use Rattle.sw_replay.specs.declared.items.TheConstants.{MAX_ITEMS}
use Rattle.sw_step.proofs.StepLemmas.{event_act, event_nothing, step_act, step_nothing}
use Rattle.sw_value.specs.declared.effect.Act.{Act}
use Rattle.sw_value.specs.declared.state.State.{State}
use Rattle.sw_value.specs.Act.{act_of}
use Rattle.sw_value.specs.Reach.{reach, step_of}
use Rattle.sw_value.specs.Start.{start_of}
use Rattle.sw_value.specs.Transition.{Transition, transition_by, transition_of}
use Rattle.sw_see_events.specs.declared.happening.Happening.{Happening}
use Rattle.sw_see_events.specs.Happenings.{happening_by, happening_of, happenings, happenings_from}
use Rattle.sw_see_events.specs.Happenings.{noted, noted_of}

-- nothing happens
pub happening_nothing : (graph : Graph) (state : State) (item : ℕ)
    → act_of graph state item ≡ None → happening_of graph state item ≡ None
unfolding happening_of transition_of
happening_nothing graph state item e =
    ap (λ act. option_map (happening_by graph state)
    (option_map (transition_by graph state item) act)) e

-- the job does an act
pub happening_act : (graph : Graph) (state : State) (item : ℕ) (act : Act)
    → act_of graph state item ≡ Some act
    → happening_of graph state item
    ≡ Some (happening_by graph state (transition_by graph state item act))
unfolding happening_of transition_of
happening_act graph state item act e =
    ap (λ act. option_map (happening_by graph state)
    (option_map (transition_by graph state item) act)) e

pub ruleset acts = (
  happening_nothing,
  happening_act,
  step_nothing,
  event_nothing,
  step_act,
  event_act,
)

happenings_from_push : (graph : Graph) (state : State) (items : List ℕ) (item : ℕ)
    → happenings_from graph state (items ++ item ∷ []) ≡ happenings_from graph state items
    ++ option_to_list (happening_of graph (fold (step_of graph) state items) item)
happenings_from_push graph state [] item =
    append-nil (option_to_list (happening_of graph state item))
happenings_from_push graph state (i ∷ items) item =
    ap (λ rest. option_to_list (happening_of graph state i) ++ rest)
    (happenings_from_push graph (step_of graph state i) items item)
    ∙ sym (append_assoc (option_to_list (happening_of graph state i)) _ _)

-- one item more
pub happenings_push : (graph : Graph) (items : List ℕ) (item : ℕ) (state : State)
    (before after : List Happening) → state ≡ reach graph items → before ≡ happenings graph items
    → after ≡ before ++ option_to_list (happening_of graph state item)
    → after ≡ happenings graph (items ++ item ∷ [])
unfolding happenings reach
happenings_push graph items item state before after is are one =
    one ∙ rw (are, is) (sym (happenings_from_push graph (start_of graph) items item))

-- no item
pub happenings_none : (graph : Graph) (before : List Happening) → before ≡ []
    → before ≡ happenings graph []
unfolding happenings
happenings_none graph before none = none

noted_from : (graph : Graph) (state : State) (items : List ℕ)
    → map noted (happenings_from graph state items) ≡ map noted_of (events_from graph state items)
unfolding happening_of
noted_from graph state [] = refl
noted_from graph state (item ∷ items) =
    by (transition_of graph state item) (noted_from graph (step_of graph state item) items) where
      by : (t : Option Transition)
          → map noted (happenings_from graph (step_of graph state item) items)
          ≡ map noted_of (events_from graph (step_of graph state item) items)
          → map noted (option_to_list (option_map (happening_by graph state) t)
          ++ happenings_from graph (step_of graph state item) items)
          ≡ map noted_of (option_to_list t
          ++ events_from graph (step_of graph state item) items)
      by None rest = rest
      by (Some t) rest = ap (λ others. noted_of t ∷ others) rest

pub noted_events : (graph : Graph) (items : List ℕ)
    → map noted (happenings graph items) ≡ map noted_of (events_of graph items)
unfolding happenings events_of
noted_events graph items = noted_from graph (start_of graph) items

few_from : (graph : Graph) (state : State) (items : List ℕ)
    → length (happenings_from graph state items) ≤ length items
few_from graph state [] = omega arith
few_from graph state (item ∷ items) =
    let rest = few_from graph (step_of graph state item) items in
    let one = at_most_one (happening_of graph state item) in
    omega (
      arith,
      rest,
      one,
      length-append (option_to_list (happening_of graph state item))
          (happenings_from graph (step_of graph state item) items),
    ) where
      at_most_one : (happening : Option Happening) → length (option_to_list happening) ≤ 1
      at_most_one None = omega arith
      at_most_one (Some happening) = omega arith

-- there are no more events than items
pub few_events : (graph : Graph) (taken left all : List ℕ) (events : List Happening)
    → events ≡ happenings graph taken → taken ++ left ≡ all → length all ≤ MAX_ITEMS
    → length events ≤ MAX_ITEMS
unfolding happenings
few_events graph taken left all events are splits few =
    omega (
      arith,
      ap length are,
      few_from graph (start_of graph) taken,
      length-append taken left,
      ap length splits,
      few,
    )
