-- What is known after a step by the job that steps, by those that take from it, and by owners.
use Rattle.std.proofs.Common.{◌≡◌, ◌<◌, inl, inr, ℕ, Option, Some, None, List}
use Rattle.std.proofs.Common.{[], ◌∷◌, ◌++◌, length, refl, sym, subst, ◌∙◌}
use Rattle.std.specs.Prelude.{IsSomeAnd}
use Rattle.std.proofs.lemmas.Bool.{cases_eq}
use Rattle.sw_graph.specs.declared.graph.Graph.{Graph}
use Rattle.sw_value.specs.declared.effect.Act.{Act}
use Rattle.sw_value.specs.declared.race.Access.{Access}
use Rattle.sw_value.specs.declared.race.Place.{Place}
use Rattle.sw_value.specs.declared.race.Place.TheVariants.{Prop, Global, BoxOf}
use Rattle.sw_value.specs.declared.state.State.{State}
use Rattle.sw_value.specs.Access.{next_access}
use Rattle.sw_value.specs.Reach.{step_of}
use Rattle.sw_value.specs.Transition.{Transition, transition_by}
use Rattle.sw_partition.specs.Regions.{Regions}
use Rattle.sw_owner_facts.specs.Colours.{Colour, OfActor, OfJob}
use Rattle.sw_view_facts.specs.Views.{Colours}
use Rattle.sw_before.specs.Channels as channel
use Rattle.sw_secure_facts.specs.Secure.{IsSecure}
use Rattle.sw_machine_access_facts.specs.Location.{IsLocation}
use Rattle.sw_machine_access_facts.proofs.AccessLemmas.{access_location}
use Rattle.sw_machine_name_facts.specs.Given.{ActGives, IsStepped, Source, in_cell, in_global}
use Rattle.sw_machine_name_facts.specs.Given.{in_location, in_register}
use Rattle.sw_machine_name_facts.specs.Names.{PlaceNames}
use Rattle.sw_order_facts.specs.Informed.{IsInformed, IsOfColour, IsOwnable}
use Rattle.sw_order_facts.specs.Knowing.{HasMaking, JobKnows, OwnerKnows, RunsOn}
use Rattle.sw_order_facts.specs.Knowing.{executor_of}
use Rattle.sw_order_facts.specs.Taking.{IsHolders, IsTakers, heir, maker, own, runner}
use Rattle.sw_order_facts.proofs.Growing.{IsReached, cell_learns, end_reaches, heir_learns, job_grows}
use Rattle.sw_order_facts.proofs.Growing.{job_reaches, keeps_grows, known_before, left_learns}
use Rattle.sw_order_facts.proofs.Growing.{making_among, own_learns}
use Rattle.sw_order_facts.proofs.Holding.{accessed_holders, one_colour, one_runs}
use Rattle.sw_order_facts.proofs.Running.{other_runs, own_leaves}
use Rattle.sw_order_facts.proofs.Stepping.{Steps}

-- a location may be owned
pub ownable : (graph : Graph) (state : State) (place : Place) → IsLocation graph state place
    → IsOwnable graph state place
ownable graph state (Prop c i) is = tt
ownable graph state (BoxOf c) is = tt
ownable graph state (Global g) is = is

-- an access that is asked for is there
pub some_access : (P : Access → Type 0) (o : Option Access) → IsSomeAnd o P
    → (a : Access) × (o ≡ Some a) × P a
some_access P None is = absurd is
some_access P (Some a) is = (a, refl, is)

module _ (graph : Graph) (states : ℕ → List (Option Regions)) (state : State) (colours : Colours)
    (s : IsSecure graph states state colours) (events : List Transition)
    (informed : IsInformed graph state colours events) (j : ℕ) where
  -- who holds a colour knows what its owner knows
  pub holders_know : (colour : Colour) → IsHolders state j colour → (p : ℕ)
      → OwnerKnows state events colour p → JobKnows events j p
  holders_know colour (inl (n, is)) p knows = subst (λ c. OwnerKnows state events c p) is knows
  holders_know colour (inr (a, runs, is)) p knows =
      elim (subst (λ c. OwnerKnows state events c p) is knows) [
        | inl keeps ↦ informed.runs j p a runs keeps
        | inr other ↦ subst (λ i. JobKnows events i p)
            (one_runs graph states state colours s other.job j a other.runs runs) other.knows
      ]

  -- a colour of a place that the job is about to access is a taker's
  pub accessed_takers : (act : Act) (access : Access) → next_access graph state j ≡ Some access
      → (colour : Colour) → IsOfColour graph state colours access.place colour
      → IsTakers state j act colour
  accessed_takers act access next colour is =
      let found = accessed_holders graph states state colours s j access next in
      let same = one_colour graph states state colours s access.place colour found.0 is found.1 in
      elim found.2 [
        | inl (n, own_is) ↦ own n (same ∙ own_is)
        | inr (a, runs, on) ↦ runner a runs (same ∙ on)
      ]

  -- and the job knows what is known of the place
  pub accessed_known : (access : Access) → next_access graph state j ≡ Some access → (k : ℕ)
      → PlaceNames state access.place k → HasMaking events (JobKnows events j) k
  accessed_known access next k names =
      let found = accessed_holders graph states state colours s j access next in
      making_among events (OwnerKnows state events found.0) (JobKnows events j) k
      (holders_know found.0 found.2)
      (informed.stores access.place k found.0
      (ownable graph state access.place (access_location graph state j access next)) names found.1)

  -- ---- what the act gives
  source_known : j < length state.jobs → (k : ℕ) → Source graph state j k
      → HasMaking events (JobKnows events j) k
  source_known there k (in_register names) = informed.names j k names
  source_known there k (in_cell c names fixed) =
      let cell = informed.names j c names in
      let has = informed.fixed c k fixed in
      let leads = has.among in
      let same = informed.once c leads.making cell.making leads.makes cell.makes in
      record {
        making = has.making;
        makes = has.makes;
        among = known_before events (channel.OfJob j) has.making leads.making leads.reaches
            (subst (JobKnows events j) (sym same) cell.among);
      }
  source_known there k (in_location place reads names) =
      let a = some_access _ (next_access graph state j) reads in
      accessed_known a.0 a.1 k (subst (λ x. PlaceNames state x k) (sym a.2.0) names)
  source_known there k (in_global g not names) = informed.firsts g k j not names there

  module _ (act : Act) (steps : Steps graph state j act) where
    abbrev t : Transition
    t = transition_by graph state j act

    abbrev Reached : ℕ → Type 0
    Reached = IsReached events (transition_by graph state j act)

    pub given_known : (k : ℕ) → ActGives act k
        → HasMaking events (IsReached events (transition_by graph state j act)) k
    given_known k gives = elim (steps.sources k gives) [
      | inl source ↦ making_among events (JobKnows events j) Reached k (job_reaches events t)
          (source_known steps.there k source)
      | inr (ended, follows, names) ↦ making_among events _ Reached k
          (λ p. end_reaches events t ended p follows) (informed.results ended k names)
    ]

    -- ---- who learns what the job knows
    pub stepped_learns : (i p : ℕ) → IsStepped j act i
        → IsReached events (transition_by graph state j act) p
        → JobKnows (events ++ transition_by graph state j act ∷ []) i p
    stepped_learns i p (inl same) reached = subst
        (λ k. JobKnows (events ++ transition_by graph state j act ∷ []) k p) (sym same)
        (own_learns events t p reached)
    stepped_learns i p (inr made) reached = heir_learns events t i p made reached

    pub takers_learn : (colour : Colour) (p : ℕ) → IsTakers state j act colour
        → IsReached events (transition_by graph state j act) p
        → OwnerKnows (step_of graph state j) (events ++ transition_by graph state j act ∷ []) colour
        p
    takers_learn colour p (own n is) reached = subst
        (λ c. OwnerKnows (step_of graph state j) (events ++ transition_by graph state j act ∷ []) c
        p) (sym is) (own_learns events t p reached)
    takers_learn colour p (heir i n made is) reached = subst
        (λ c. OwnerKnows (step_of graph state j) (events ++ transition_by graph state j act ∷ []) c
        p) (sym is) (heir_learns events t i p made reached)
    takers_learn colour p (runner a runs is) reached = subst
        (λ c. OwnerKnows (step_of graph state j) (events ++ transition_by graph state j act ∷ []) c
        p) (sym is)
        (elim (own_leaves graph states state colours s j act steps.acts (executor_of a) runs) [
          | inl still ↦ inr (record {
            job = j;
            runs = still;
            knows = own_learns events t p reached;
          })
          | inr leaves ↦ inl (left_learns events t a p leaves reached)
        ])
    takers_learn colour p (maker c made is) reached = subst
        (λ d. OwnerKnows (step_of graph state j) (events ++ transition_by graph state j act ∷ []) d
        p) (sym is) (inl (inr (cell_learns events t c p made reached)))

    -- what an owner knew it knows
    pub owner_grows : (colour : Colour) (p : ℕ) → OwnerKnows state events colour p
        → OwnerKnows (step_of graph state j) (events ++ transition_by graph state j act ∷ []) colour
        p
    owner_grows (OfJob i n) p knows = job_grows events t i p knows
    owner_grows (OfActor a) p (inl keeps) = inl (keeps_grows events t a p keeps)
    owner_grows (OfActor a) p (inr knows) = elim (cases_eq knows.job j) [
      | inl same ↦ takers_learn (OfActor a) p
          (runner a (subst (λ i. RunsOn state i a) same knows.runs) refl)
          (job_reaches events t p (subst (λ i. JobKnows events i p) same knows.knows))
      | inr apart ↦ inr (record {
        job = knows.job;
        runs = other_runs graph state j knows.job act steps.acts apart (executor_of a) knows.runs;
        knows = job_grows events t knows.job p knows.knows;
      })
    ]
