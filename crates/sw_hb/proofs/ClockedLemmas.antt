-- The clocked state after one more item.
use Rattle.std.proofs.Common.{◌≡◌, ℕ, ◌+◌, ◌<◌, ◌≤◌, Bool, true, false, not, ltb, Option}
use Rattle.std.proofs.Common.{Some, None, List, [], ◌∷◌, ◌++◌, length, option_to_list, refl, sym}
use Rattle.std.proofs.Common.{subst, ap, ◌∙◌, arith, append-nil}
use Rattle.std.specs.Bool.{Decides}
use Rattle.std.specs.Prelude.{IfSome}
use Rattle.std.proofs.lemmas.Bool.Decides.{Decides-ltb, not_from_Decides}
use Rattle.sw_graph.specs.declared.graph.Graph.{Graph}
use Rattle.sw_value.specs.declared.effect.Act.{Act}
use Rattle.sw_value.specs.declared.race.Access.{Access}
use Rattle.sw_value.specs.declared.state.State.{State}
use Rattle.sw_value.specs.Access.{next_access}
use Rattle.sw_value.specs.Act.{act_of}
use Rattle.sw_value.specs.Reach.{step_of, reach}
use Rattle.sw_value.specs.Start.{start_of}
use Rattle.sw_value.specs.Transition.{Transition, made_by, transition_by, transition_of}
use Rattle.sw_value.proofs.ReachLemmas.{reach_none, reach_push}
use Rattle.sw_before.specs.Events.{events_of}
use Rattle.sw_before.specs.Unordered.{AreNamed}
use Rattle.sw_before.proofs.EventLemmas.{events_push, events_named, events_few}
use Rattle.sw_clocks.specs.declared.links.TheConstants.{MOST_JOBS}
use Rattle.sw_clocks.specs.declared.links.Links.{Links}
use Rattle.sw_clocks.specs.Links.{links_of, HasFewJobs}
use Rattle.sw_hb.specs.declared.clocked.Clocked.{Clocked}
use Rattle.sw_hb.specs.declared.history.History.{History}
use Rattle.sw_hb.specs.Clocked.{HasManyJobs, IsClocked, is_one_too_many}
use Rattle.sw_hb.specs.History.{IsHistory, HasRoomFor, IsNext}
use Rattle.sw_hb.proofs.JobLemmas.{count_made, jobs_by_act, made_is_next, acts_within, transition_is}
use Rattle.sw_hb.proofs.JobLemmas.{transition_none, step_none}

pub clocked_none : (graph : Graph) (clocked : Clocked) → clocked.state ≡ start_of graph
    → clocked.items ≡ [] → IsHistory [] clocked.history → IsClocked graph clocked
unfolding start_of events_of
clocked_none graph clocked starts none is = record {
  state_is = starts ∙ sym (ap (reach graph) none ∙ reach_none graph);
  few_jobs = subst (λ (s : State). length s.jobs ≤ MOST_JOBS) (sym starts) (omega arith);
  history_is = subst (λ i. IsHistory (events_of graph i) clocked.history) (sym none) is;
}

-- an item that does nothing
pub clocked_still : (graph : Graph) (before after : Clocked) (item : ℕ) → IsClocked graph before
    → act_of graph before.state item ≡ None → after.state ≡ before.state
    → after.items ≡ before.items ++ item ∷ [] → after.history ≡ before.history
    → IsClocked graph after
clocked_still graph before after item is none same items history =
    let still : transition_of graph (reach graph before.items) item ≡ None =
    subst (λ s. transition_of graph s item ≡ None) is.state_is
    (transition_none graph before.state item none) in
    let events : events_of graph after.items ≡ events_of graph before.items =
    ap (events_of graph) items ∙ events_push graph before.items item
    ∙ ap (λ o. events_of graph before.items ++ option_to_list o) still
    ∙ append-nil (events_of graph before.items) in
    record {
      state_is = same ∙ is.state_is
          ∙ sym (ap (reach graph) items ∙ reach_push graph before.items item
          ∙ ap (λ s. step_of graph s item) (sym is.state_is)
          ∙ step_none graph before.state item none ∙ is.state_is);
      few_jobs = subst (λ (s : State). length s.jobs ≤ MOST_JOBS) (sym same) is.few_jobs;
      history_is = subst (λ h. IsHistory (events_of graph after.items) h) (sym history)
          (subst (λ l. IsHistory l before.history) (sym events) is.history_is);
    }

pub idle_few : (graph : Graph) (before : Clocked) (item : ℕ) → IsClocked graph before
    → act_of graph before.state item ≡ None → ¬ HasManyJobs (step_of graph before.state item)
idle_few graph before item is none many = omega (
  arith,
  is.few_jobs,
  subst (λ (s : State). HasManyJobs s) (step_none graph before.state item none) many,
)

module _ (graph : Graph) (before : Clocked) (item : ℕ) (act : Act) (is : IsClocked graph before)
    (acts : act_of graph before.state item ≡ Some act) where
  abbrev event : Transition
  event = transition_by graph before.state item act

  abbrev events : List Transition
  events = events_of graph before.items

  events_after : events_of graph (before.items ++ item ∷ []) ≡ events ++ event ∷ []
  events_after = events_push graph before.items item
      ∙ ap (λ s. events ++ option_to_list (transition_of graph s item)) (sym is.state_is)
      ∙ ap (λ o. events ++ option_to_list o) (transition_is graph before.state item act acts)

  named_after : AreNamed (events ++ event ∷ [])
  named_after = subst AreNamed events_after (events_named graph (before.items ++ item ∷ []))

  abbrev jobs_before : ℕ
  jobs_before = length before.state.jobs

  jobs_after : length (step_of graph before.state item).jobs ≡ jobs_before + count_made (made_by act)
  jobs_after = jobs_by_act graph before.state item act acts

  -- whether there is one job too many
  pub made_many : is_one_too_many (made_by act) ≡ true
      → HasManyJobs (step_of graph before.state item)
  made_many many = by (made_by act) refl many jobs_after
    where
      by : (o : Option ℕ) → made_by act ≡ o → is_one_too_many o ≡ true
          → length (step_of graph before.state item).jobs ≡ jobs_before + count_made o
          → HasManyJobs (step_of graph before.state item)
      by None none many after = cc
      by (Some made) some many after =
          test (made_is_next graph before.state item act acts made some) (ltb made MOST_JOBS)
          (Decides-ltb made MOST_JOBS) many
        where
          test : made ≡ jobs_before → (b : Bool) → Decides b (made < MOST_JOBS) → not b ≡ true
              → HasManyJobs (step_of graph before.state item)
          test number true decides many = cc
          test number false decides many =
              let past = not_from_Decides false decides refl in
              omega (arith, past, after, number)

  made_few : is_one_too_many (made_by act) ≡ false
      → (length (step_of graph before.state item).jobs ≤ MOST_JOBS)
      × IfSome (made_by act) (λ made. made < MOST_JOBS)
  made_few few = by (made_by act) refl few jobs_after
    where
      by : (o : Option ℕ) → made_by act ≡ o → is_one_too_many o ≡ false
          → length (step_of graph before.state item).jobs ≡ jobs_before + count_made o
          → (length (step_of graph before.state item).jobs ≤ MOST_JOBS)
          × IfSome o (λ made. made < MOST_JOBS)
      by None none few after = (omega (arith, after, is.few_jobs), tt)
      by (Some made) some few after =
          test (made_is_next graph before.state item act acts made some) (ltb made MOST_JOBS)
          (Decides-ltb made MOST_JOBS) few
        where
          test : made ≡ jobs_before → (b : Bool) → Decides b (made < MOST_JOBS) → not b ≡ false
              → (length (step_of graph before.state item).jobs ≤ MOST_JOBS) × (made < MOST_JOBS)
          test number true decides few =
              let below = decides.0 refl in (omega (arith, below, after, number), below)
          test number false decides few = cc

  pub still_few : is_one_too_many (made_by act) ≡ false
      → ¬ HasManyJobs (step_of graph before.state item)
  still_few few many = omega (arith, (made_few few).0, many)

  -- there is room for the event
  pub is_next : (history : History) (links : Links) (access : Option Access)
      → IsHistory events history → links ≡ links_of event
      → access ≡ next_access graph before.state item → HasRoomFor history links access
      → is_one_too_many (made_by act) ≡ false → length before.items < 4294967295
      → IsNext history links access
  is_next history links access holds links_are access_is room few items = record {
    events = events;
    event = event;
    is_history = holds;
    links_are = sym links_are;
    access_is = sym access_is;
    named = named_after;
    few_events = omega (arith, items, events_few graph before.items);
    few_jobs = subst HasFewJobs (sym links_are) (record {
      own = omega (arith, acts_within graph before.state item act acts, is.few_jobs);
      made = (made_few few).1;
    });
    has_room = room;
  }

  -- the item was taken
  pub clocked_push : (after : Clocked) → is_one_too_many (made_by act) ≡ false
      → after.state ≡ step_of graph before.state item
      → after.items ≡ before.items ++ item ∷ []
      → (AreNamed (events ++ event ∷ []) → IsHistory (events ++ event ∷ []) after.history)
      → IsClocked graph after
  clocked_push after few steps items history = record {
    state_is = steps ∙ ap (λ s. step_of graph s item) is.state_is
        ∙ sym (ap (reach graph) items ∙ reach_push graph before.items item);
    few_jobs = subst (λ (s : State). length s.jobs ≤ MOST_JOBS) (sym steps) (made_few few).0;
    history_is = subst (λ l. IsHistory l after.history)
        (sym (ap (events_of graph) items ∙ events_after)) (history named_after);
  }
