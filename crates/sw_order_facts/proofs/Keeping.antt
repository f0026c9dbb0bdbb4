-- Each step keeps what is known where it has to be known.
use Rattle.std.proofs.Common.{◌≡◌, ◌≢◌, ◌⊎◌, ◌<◌, inl, inr, ℕ, IsTrue, Option, Some}
use Rattle.std.proofs.Common.{List, [], ◌∷◌, ◌++◌, Contains, length, refl, sym, subst, ap, ◌∙◌, arith}
use Rattle.std.specs.Prelude.{is_some}
use Rattle.std.specs.Option.{option_map}
use Rattle.std.proofs.lemmas.Bool.{cases_eq}
use Rattle.sw_graph.specs.declared.graph.Graph.{Graph}
use Rattle.sw_value.specs.declared.effect.Act.{Act}
use Rattle.sw_value.specs.declared.executor.Executor.TheVariants as executor
use Rattle.sw_value.specs.declared.race.Access.{Access}
use Rattle.sw_value.specs.declared.race.Place.{Place}
use Rattle.sw_value.specs.declared.race.Place.TheVariants.{Global}
use Rattle.sw_value.specs.declared.state.State.{State}
use Rattle.sw_value.specs.Access.{next_access}
use Rattle.sw_value.specs.Reach.{step_of}
use Rattle.sw_value.specs.State.{result_of}
use Rattle.sw_value.specs.Transition.{Describes, Transition, made_by, transition_by, transition_of}
use Rattle.sw_value.proofs.TransitionLemmas.{transition_describes}
use Rattle.sw_partition.specs.Regions.{Regions}
use Rattle.sw_owner_facts.specs.Colours.{Actor, Colour, GlobalActor, Instance, OfJob}
use Rattle.sw_view_facts.specs.Views.{Colours}
use Rattle.sw_before.specs.Channels.{OfExecutor, told_by}
use Rattle.sw_before.specs.Channels as channel
use Rattle.sw_before.specs.Unordered.{AccessesAt}
use Rattle.sw_before.proofs.BeforeLemmas.{get_within}
use Rattle.sw_before.proofs.KnownLemmas.{at_end}
use Rattle.sw_secure_facts.specs.Secure.{IsSecure}
use Rattle.sw_machine_access_facts.specs.Location.{IsLocation}
use Rattle.sw_machine_access_facts.proofs.AccessLemmas.{access_location}
use Rattle.sw_machine_name_facts.specs.Given.{ActGives, Fills, IsStepped, LiesIn, by_access, by_first}
use Rattle.sw_machine_name_facts.specs.Given.{by_maker, made_cell}
use Rattle.sw_machine_name_facts.specs.Names.{FixedNames, JobNames, PlaceNames, ResultNames, StandsOn}
use Rattle.sw_order_facts.specs.Informed.{IsInformed, IsOfColour, IsOwnable}
use Rattle.sw_order_facts.specs.Knowing.{ActorKeeps, EndTells, HasMaking, JobKnows, LeadsToCell}
use Rattle.sw_order_facts.specs.Knowing.{MakesCell, OwnerKnows, RunsOn, executor_of}
use Rattle.sw_order_facts.specs.Taking.{AllTake, IsTakers, Takes, begins, heir, maker, own, runner}
use Rattle.sw_order_facts.specs.Taking.{stays, taken}
use Rattle.sw_order_facts.proofs.Growing.{IsReached, cell_learns, end_grows, end_learns}
use Rattle.sw_order_facts.proofs.Growing.{executor_reaches, heir_learns, job_grows, job_reaches}
use Rattle.sw_order_facts.proofs.Growing.{keeps_back, known_before, leads_grows, makes_back, makes_now}
use Rattle.sw_order_facts.proofs.Growing.{making_grows, not_generic, own_learns}
use Rattle.sw_order_facts.proofs.Holding.{one_runs}
use Rattle.sw_order_facts.proofs.Learning.{accessed_takers, given_known, owner_grows, some_access}
use Rattle.sw_order_facts.proofs.Learning.{stepped_learns, takers_learn}
use Rattle.sw_order_facts.proofs.Running.{left_ran, other_ran, own_ran}
use Rattle.sw_order_facts.proofs.Stepping.{Steps}
use Rattle.sw_order_facts.proofs.There.{content_within, located_within, owned_within, runs_stands}
use Rattle.sw_order_facts.proofs.There.{same_ownable, told_leaves}

module _ (graph : Graph) (states : ℕ → List (Option Regions)) (state : State)
    (colours after : Colours) (s : IsSecure graph states state colours) (events : List Transition)
    (informed : IsInformed graph state colours events) (j : ℕ) (act : Act)
    (steps : Steps graph state j act) (takes : AllTake graph state colours j act after) where
  abbrev next : State
  next = step_of graph state j

  abbrev t : Transition
  t = transition_by graph state j act

  abbrev longer : List Transition
  longer = events ++ transition_by graph state j act ∷ []

  abbrev Reached : ℕ → Type 0
  Reached = IsReached events (transition_by graph state j act)

  abbrev Owner : Colour → ℕ → Type 0
  Owner = OwnerKnows (step_of graph state j) (events ++ transition_by graph state j act ∷ [])

  describes : Describes graph state next j t
  unfolding transition_of
  describes = transition_describes graph state j t
      (ap (option_map (transition_by graph state j)) steps.acts)

  known : (k : ℕ) → ActGives act k → HasMaking events Reached k
  known = given_known graph states state colours s events informed j act steps

  learns : (colour : Colour) (p : ℕ) → IsTakers state j act colour → Reached p → Owner colour p
  learns = takers_learn graph states state colours s events informed j act steps

  grows : (colour : Colour) (p : ℕ) → OwnerKnows state events colour p → Owner colour p
  grows = owner_grows graph states state colours s events informed j act steps

  tells_stepped : (i p : ℕ) → IsStepped j act i → Reached p → JobKnows longer i p
  tells_stepped = stepped_learns graph states state colours s events informed j act steps

  -- a cell that is made wasn't there
  not_there : (c : ℕ) → made_cell act ≡ Some c → c < length state.cells → ⊥
  not_there c made inside = let end = (steps.cell c made).0 in omega (arith, end, inside)

  -- ---- makings
  once : (k p r : ℕ) → MakesCell longer p k → MakesCell longer r k → p ≡ r
  once k p r one other = by (makes_back events t p k one) (makes_back events t r k other) where
    by : MakesCell events p k ⊎ ((p ≡ length events) × (made_cell act ≡ Some k))
        → MakesCell events r k ⊎ ((r ≡ length events) × (made_cell act ≡ Some k)) → p ≡ r
    by (inl old) (inl same) = informed.once k p r old same
    by (inl old) (inr new) = absurd (not_there k new.1 (informed.made k p old))
    by (inr new) (inl old) = absurd (not_there k new.1 (informed.made k r old))
    by (inr new) (inr same) = new.0 ∙ sym same.0

  made : (k p : ℕ) → MakesCell longer p k → k < length next.cells
  made k p makes = elim (makes_back events t p k makes) [
    | inl old ↦ let inside = informed.made k p old in
        let more = steps.cells_stay in omega (arith, inside, more)
    | inr new ↦ (steps.cell k new.1).1
  ]

  -- ---- accesses
  -- an access was made before, or is the one that the job makes now
  accessed : (p : ℕ) (access : Access) → AccessesAt longer p access
      → AccessesAt events p access ⊎ ((p ≡ length events) × (next_access graph state j ≡ Some access))
  accessed p access at = elim (at_end events t at.event p at.is_event) [
    | inl below ↦ inl (record {
      event = at.event;
      is_event = get_within events (t ∷ []) p at.event below at.is_event;
      makes = at.makes;
    })
    | inr now ↦ inr (now.0, ap (λ (x : Transition). x.accesses) (sym now.1) ∙ at.makes)
  ]

  there : (p c : ℕ) (access : Access) → AccessesAt longer p access → LiesIn access.place c
      → c < length next.cells
  there p c access at lies = elim (accessed p access at) [
    | inl old ↦ let inside = informed.there p c access old lies in
        let more = steps.cells_stay in omega (arith, inside, more)
    | inr now ↦
        let inside = located_within graph state access.place c
        (access_location graph state j access now.1) lies in
        let more = steps.cells_stay in omega (arith, inside, more)
  ]

  touches : (p : ℕ) (access : Access) (colour : Colour) → AccessesAt longer p access
      → IsOfColour graph next after access.place colour → Owner colour p
  touches p access colour at is = elim (accessed p access at) [
    | inl old ↦ by old (takes access.place colour is)
    | inr now ↦ learns colour p (now_taker now.1 (takes access.place colour is)) (inl now.0)
  ]
    where
      by : AccessesAt events p access → Takes graph state colours j act access.place colour
          → Owner colour p
      by old (stays was) = grows colour p (informed.touches p access colour old was)
      by old (taken n was taker) = learns colour p taker
          (job_reaches events t p (informed.touches p access (OfJob j n) old was))
      by old (begins c made lies taker) =
          absurd (not_there c made (informed.there p c access old lies))

      now_taker : next_access graph state j ≡ Some access
          → Takes graph state colours j act access.place colour → IsTakers state j act colour
      now_taker asked (stays was) = accessed_takers graph states state colours s events informed j
          act access asked colour was
      now_taker asked (taken n was taker) = taker
      now_taker asked (begins c made lies taker) = taker

  -- ---- owners
  owner_there : (i n : ℕ) → IsTakers state j act (OfJob i n) → i < length next.jobs
  owner_there i n (own m is) =
      let same : i ≡ j = (let e : OfJob i n ≡ OfJob j m = is in cc) in
      let inside = steps.there in
      let more = steps.jobs_stay in omega (arith, same, inside, more)
  owner_there i n (heir k m made is) =
      let same : i ≡ k = (let e : OfJob i n ≡ OfJob k m = is in cc) in
      let inside = (steps.job k made).1 in omega (arith, same, inside)
  owner_there i n (runner a runs is) = absurd (let no : ⊥ = cc in no)
  owner_there i n (maker c made is) = absurd (let no : ⊥ = cc in no)

  owners : (place : Place) (i n : ℕ) → IsOfColour graph next after place (OfJob i n)
      → i < length next.jobs
  owners place i n is = by (takes place (OfJob i n) is) where
    by : Takes graph state colours j act place (OfJob i n) → i < length next.jobs
    by (stays was) = let inside = informed.owners place i n was in
        let more = steps.jobs_stay in omega (arith, inside, more)
    by (taken m was taker) = owner_there i n taker
    by (begins c made lies taker) = owner_there i n taker

  -- ---- what is stored
  -- a place that the step fills has a taker's colour
  filled : (place : Place) (colour : Colour) → IsOwnable graph state place
      → Fills graph state j act place → IsOfColour graph state colours place colour
      → IsTakers state j act colour
  filled place colour owns (by_access writes) was =
      let a = some_access _ (next_access graph state j) writes in
      accessed_takers graph states state colours s events informed j act a.0 a.1 colour
      (subst (λ x. IsOfColour graph state colours x colour) (sym a.2.0) was)
  filled place colour owns (by_maker c made lies) was = absurd (not_there c made
      (owned_within graph state colours s.memory.count place colour c was lies))
  filled place colour owns (by_first g is not first) was =
      absurd (not (subst (IsOwnable graph state) is owns))

  stores : (place : Place) (k : ℕ) (colour : Colour) → IsOwnable graph next place
      → PlaceNames next place k → IsOfColour graph next after place colour
      → HasMaking longer (Owner colour) k
  stores place k colour owns names is =
      by (steps.places place k names) (takes place colour is)
    where
      owned : IsOwnable graph state place
      owned = same_ownable graph state next place owns

      taken_by : IsTakers state j act colour → HasMaking events Reached k
          → HasMaking longer (Owner colour) k
      taken_by taker has = making_grows events t Reached (Owner colour) k
          (λ p reached. learns colour p taker reached) has

      by : PlaceNames state place k ⊎ (ActGives act k × Fills graph state j act place)
          → Takes graph state colours j act place colour → HasMaking longer (Owner colour) k
      by (inl old) (stays was) = making_grows events t (OwnerKnows state events colour) (Owner colour)
          k (grows colour) (informed.stores place k colour owned old was)
      by (inl old) (taken n was taker) = making_grows events t (JobKnows events j) (Owner colour) k
          (λ p knows. learns colour p taker (job_reaches events t p knows))
          (informed.stores place k (OfJob j n) owned old was)
      by (inl old) (begins c made lies taker) = absurd (not_there c made
          (content_within state place c old.value old.has lies))
      by (inr (gives, fills)) (stays was) =
          taken_by (filled place colour owned fills was) (known k gives)
      by (inr (gives, fills)) (taken n was taker) = taken_by taker (known k gives)
      by (inr (gives, fills)) (begins c made lies taker) = taken_by taker (known k gives)

  -- ---- names
  given_to : (i k : ℕ) → IsStepped j act i → HasMaking events Reached k
      → HasMaking longer (JobKnows longer i) k
  given_to i k stepped has = making_grows events t Reached (JobKnows longer i) k
      (λ p reached. tells_stepped i p stepped reached) has

  still : (i k : ℕ) → HasMaking events (JobKnows events i) k → HasMaking longer (JobKnows longer i) k
  still i k has = making_grows events t (JobKnows events i) (JobKnows longer i) k
      (job_grows events t i) has

  names : (i k : ℕ) → JobNames next i k → HasMaking longer (JobKnows longer i) k
  names i k has = elim (steps.jobs i k has) [
    | inl old ↦ still i k (informed.names i k old)
    | inr (stepped, new) ↦ elim new [
      | inl gives ↦ given_to i k stepped (known k gives)
      | inr makes ↦ record {
        making = length events;
        makes = makes_now events t k makes;
        among = tells_stepped i (length events) stepped (inl refl);
      }
    ]
  ]

  results : (i k : ℕ) → ResultNames next i k → HasMaking longer (EndTells longer i) k
  results i k has = elim (steps.results i k has) [
    | inl old ↦ making_grows events t (EndTells events i) (EndTells longer i) k
        (end_grows events t i) (informed.results i k old)
    | inr (same, gives) ↦
        let ends : IsTrue t.ends = describes.ends
        ∙ ap (λ o. is_some o) (ap (result_of next) (sym same) ∙ has.ended) in
        subst (λ l. HasMaking longer (EndTells longer l) k) (sym same)
        (making_grows events t Reached (EndTells longer j) k
        (λ p reached. end_learns events t p ends reached) (known k gives))
  ]

  stands : (i c : ℕ) → StandsOn next i c → HasMaking longer (JobKnows longer i) c
  stands i c has = elim (steps.executors i c has) [
    | inl old ↦ still i c (informed.stands i c old)
    | inr (stepped, new) ↦ elim new [
      | inl mine ↦ making_grows events t (JobKnows events j) (JobKnows longer i) c
          (λ p knows. tells_stepped i p stepped (job_reaches events t p knows))
          (informed.stands j c mine)
      | inr gives ↦ given_to i c stepped (known c gives)
    ]
  ]

  fixed : (c k : ℕ) → FixedNames graph next c k → HasMaking longer (LeadsToCell longer c) k
  fixed c k has = elim (steps.fixed c k has) [
    | inl old ↦ making_grows events t (LeadsToCell events c) (LeadsToCell longer c) k
        (leads_grows events t c) (informed.fixed c k old)
    | inr (makes, gives) ↦ making_grows events t Reached (LeadsToCell longer c) k
        (λ p reached. cell_learns events t c p makes reached) (known k gives)
  ]

  firsts : (g k i : ℕ) → (IsLocation graph next (Global g) → ⊥) → PlaceNames next (Global g) k
      → i < length next.jobs → HasMaking longer (JobKnows longer i) k
  firsts g k i not has inside = by (steps.places (Global g) k has) (steps.jobs_come i inside) where
    -- it is the first value, which the one job gives that there is
    first : Fills graph state j act (Global g) → (i < length state.jobs) ⊎ (made_by act ≡ Some i)
        → IsStepped j act i
    first (by_access writes) come =
        let a = some_access _ (next_access graph state j) writes in
        absurd (not (subst (IsLocation graph state) a.2.0
        (access_location graph state j a.0 a.1)))
    first (by_maker c makes lies) come = absurd lies
    first (by_first h is none runs) (inl low) = inl (steps.alone runs i low)
    first (by_first h is none runs) (inr new) = inr new

    by : PlaceNames state (Global g) k ⊎ (ActGives act k × Fills graph state j act (Global g))
        → (i < length state.jobs) ⊎ (made_by act ≡ Some i) → HasMaking longer (JobKnows longer i) k
    by (inl old) (inl low) = still i k (informed.firsts g k i not old low)
    by (inl old) (inr new) = making_grows events t (JobKnows events j) (JobKnows longer i) k
        (λ p knows. heir_learns events t i p new (job_reaches events t p knows))
        (informed.firsts g k j not old steps.there)
    by (inr (gives, fills)) come = given_to i k (first fills come) (known k gives)

  -- ---- a job that runs on an actor
  -- what the actor that it enters keeps, the job knows
  entered : (p : ℕ) (actor : Actor) → RunsOn next j actor
      → t.enters ≡ Some (executor_of actor) → ActorKeeps events actor p → JobKnows longer j p
  entered p (Instance c) runs enters (inl knows) = own_learns events t p
      (executor_reaches events t (executor.ActorOf c) p (not_generic (Instance c)) enters knows)
  entered p (GlobalActor g) runs enters knows = own_learns events t p
      (executor_reaches events t (executor.Global g) p (not_generic (GlobalActor g)) enters knows)
  entered p (Instance c) runs enters (inr leads) =
      let making = stands j c (runs_stands next j c runs) in
      let later = leads_grows events t c p leads in
      let same = once c later.making making.making later.makes making.makes in
      known_before longer (channel.OfJob j) p later.making later.reaches
      (subst (JobKnows longer j) (sym same) making.among)

  -- what another job's actor keeps more, it doesn't keep by this step
  other_runs_there : (i p : ℕ) (actor : Actor) → i ≢ j → RunsOn next i actor
      → Contains (told_by t) (OfExecutor (executor_of actor))
      ⊎ ((c : ℕ) × (actor ≡ Instance c) × (made_cell act ≡ Some c)) → ⊥
  other_runs_there i p actor apart runs (inl told) = apart
      (one_runs graph states state colours s i j actor
      (other_ran graph state j i act steps.acts apart (executor_of actor) runs)
      (left_ran graph states state colours s j act steps.acts (executor_of actor)
      (told_leaves t actor told)))
  other_runs_there i p actor apart runs (inr (c, is, makes)) =
      let ran = other_ran graph state j i act steps.acts apart (executor_of actor) runs in
      let making = informed.stands i c
      (runs_stands state i c (subst (RunsOn state i) is ran)) in
      not_there c makes (informed.made c making.making making.makes)

  runs_here : (i p : ℕ) (actor : Actor) → RunsOn next i actor → ActorKeeps longer actor p
      → JobKnows longer i p
  runs_here i p actor runs keeps = elim (cases_eq i j) [
    | inl same ↦ subst (λ l. JobKnows longer l p) (sym same)
        (mine (subst (λ l. RunsOn next l actor) same runs) (keeps_back events t actor p keeps))
    | inr apart ↦ elim (keeps_back events t actor p keeps) [
      | inl old ↦ job_grows events t i p (informed.runs i p actor
          (other_ran graph state j i act steps.acts apart (executor_of actor) runs) old)
      | inr (reached, how) ↦ absurd (other_runs_there i p actor apart runs how)
    ]
  ]
    where
      mine : RunsOn next j actor → ActorKeeps events actor p ⊎ (Reached p
          × (Contains (told_by t) (OfExecutor (executor_of actor))
          ⊎ ((c : ℕ) × (actor ≡ Instance c) × (made_cell act ≡ Some c)))) → JobKnows longer j p
      mine runs (inr (reached, how)) = own_learns events t p reached
      mine runs (inl old) = elim (own_ran graph states state colours s j act steps.acts
          (executor_of actor) runs) [
            | inl ran ↦ job_grows events t j p (informed.runs j p actor ran old)
            | inr enters ↦ entered p actor runs enters old
          ]

  pub still_informed : IsInformed graph (step_of graph state j) after
      (events ++ transition_by graph state j act ∷ [])
  still_informed = record {
    once = once;
    made = made;
    owners = owners;
    there = there;
    touches = touches;
    stores = stores;
    names = names;
    results = results;
    stands = stands;
    fixed = fixed;
    firsts = firsts;
    runs = runs_here;
  }
