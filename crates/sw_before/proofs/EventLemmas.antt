-- The events of a list of items, one item after the other.
use Rattle.std.proofs.Common.{◌≡◌, ℕ, zero, suc, ◌≤◌, Option, Some, None, List, [], ◌∷◌, ◌++◌, length}
use Rattle.std.proofs.Common.{refl, sym, subst, ap, ◌∙◌, append_assoc, append-nil, option_to_list, arith}
use Rattle.std.specs.List.{fold, slice_get}
use Rattle.std.specs.Option.{option_map}
use Rattle.sw_graph.specs.declared.graph.Graph.{Graph}
use Rattle.sw_list.proofs.ListLemmas.{some_injective}
use Rattle.sw_value.specs.declared.effect.Act.{Act}
use Rattle.sw_value.specs.declared.race.Access.{Access}
use Rattle.sw_value.specs.declared.state.State.{State}
use Rattle.sw_value.specs.Access.{next_access}
use Rattle.sw_value.specs.Act.{act_of}
use Rattle.sw_value.specs.Reach.{step_of, reach}
use Rattle.sw_value.specs.Start.{start_of}
use Rattle.sw_value.specs.Transition.{Transition, transition_of, transition_by}
use Rattle.sw_value.proofs.AccessLemmas.{next_names_its_job}
use Rattle.sw_before.specs.Events.{events_from, events_of}
use Rattle.sw_before.specs.Unordered.{AreNamed}

from_push : (graph : Graph) (state : State) (items : List ℕ) (item : ℕ)
    → events_from graph state (items ++ item ∷ [])
    ≡ events_from graph state items
    ++ option_to_list (transition_of graph (fold (step_of graph) state items) item)
from_push graph state [] item = append-nil (option_to_list (transition_of graph state item))
from_push graph state (i ∷ items) item =
    ap (λ l. option_to_list (transition_of graph state i) ++ l)
    (from_push graph (step_of graph state i) items item)
    ∙ sym (append_assoc (option_to_list (transition_of graph state i))
    (events_from graph (step_of graph state i) items)
    (option_to_list (transition_of graph
    (fold (step_of graph) (step_of graph state i) items) item)))

pub events_push : (graph : Graph) (items : List ℕ) (item : ℕ)
    → events_of graph (items ++ item ∷ [])
    ≡ events_of graph items ++ option_to_list (transition_of graph (reach graph items) item)
unfolding events_of reach
events_push graph items item = from_push graph (start_of graph) items item

few_from : (graph : Graph) (items : List ℕ) (state : State)
    → length (events_from graph state items) ≤ length items
few_from graph [] state = omega arith
few_from graph (item ∷ items) state =
    by (transition_of graph state item) (few_from graph items (step_of graph state item))
  where
    by : (o : Option Transition) → length (events_from graph (step_of graph state item) items)
        ≤ length items
        → length (option_to_list o ++ events_from graph (step_of graph state item) items)
        ≤ length (item ∷ items)
    by None few = omega (arith, few)
    by (Some t) few = omega (arith, few)

-- there are no more events than items
pub events_few : (graph : Graph) (items : List ℕ) → length (events_of graph items) ≤ length items
unfolding events_of
events_few graph items = few_from graph items (start_of graph)

-- what holds of each transition holds of each event
each_event : (P : Transition → Type 0) (graph : Graph)
    → ((state : State) (item : ℕ) (t : Transition) → transition_of graph state item ≡ Some t → P t)
    → (items : List ℕ) (state : State) (p : ℕ) (t : Transition)
    → slice_get (events_from graph state items) p ≡ Some t → P t
each_event P graph each [] state p t is = cc
each_event P graph each (item ∷ items) state p t is =
    by (λ p. each_event P graph each items (step_of graph state item) p t)
    (transition_of graph state item) refl p is
  where
    by : ((p : ℕ) → slice_get (events_from graph (step_of graph state item) items) p ≡ Some t
        → P t) → (o : Option Transition) → transition_of graph state item ≡ o → (p : ℕ)
        → slice_get (option_to_list o ++ events_from graph (step_of graph state item) items) p
        ≡ Some t
        → P t
    by later None none p is = later p is
    by later (Some x) some zero is = subst P (some_injective is) (each state item x some)
    by later (Some x) some (suc p) is = later p is

-- an access of a transition is one of its job
Names : Transition → Type 0
Names t = (a : Access) → t.accesses ≡ Some a → a.job ≡ t.job

transition_names : (graph : Graph) (state : State) (item : ℕ) (t : Transition)
    → transition_of graph state item ≡ Some t → Names t
unfolding Names transition_of
transition_names graph state item t is = by (act_of graph state item) is
  where
    by : (o : Option Act) → option_map (transition_by graph state item) o ≡ Some t
        → (a : Access) → t.accesses ≡ Some a → a.job ≡ t.job
    by None e a accesses = cc
    by (Some act) e a accesses =
        let same : transition_by graph state item act ≡ t = some_injective e in
        let next : next_access graph state item ≡ Some a =
        ap (λ (x : Transition). x.accesses) same ∙ accesses in
        next_names_its_job graph state item a next ∙ ap (λ (x : Transition). x.job) same

pub events_named : (graph : Graph) (items : List ℕ) → AreNamed (events_of graph items)
unfolding events_of Names
events_named graph items p t a is accesses =
    each_event Names graph (transition_names graph) items (start_of graph) p t is a accesses
