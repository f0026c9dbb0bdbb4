-- Who knows of which events: jobs, actors, and who owns a piece of memory.
use Rattle.std.specs.Prelude.{◌≡◌, ◌⊎◌, ℕ, Some, List, slice_get}
use Rattle.sw_value.specs.declared.executor.Executor.{Executor}
use Rattle.sw_value.specs.declared.executor.Executor.TheVariants as executor
use Rattle.sw_value.specs.declared.state.State.{State}
use Rattle.sw_value.specs.Transition.{Transition, runs_at}
use Rattle.sw_owner_facts.specs.Colours.{Actor, Instance, GlobalActor, Colour, OfJob, OfActor}
use Rattle.sw_before.specs.Before.{Before}
use Rattle.sw_before.specs.Channels.{OfExecutor, IsKnown}
use Rattle.sw_before.specs.Channels as channel
use Rattle.sw_machine_name_facts.specs.Given.{made_cell}

-- ---- makings
-- the event at p makes cell k
pub record MakesCell (events : List Transition) (p k : ℕ) : Type 0 where
  pub event : Transition
  pub is : slice_get events p ≡ Some event
  pub makes : made_cell event.act ≡ Some k

-- it is the event that makes cell k, or happens before that
pub record LeadsToCell (events : List Transition) (k p : ℕ) : Type 0 where
  pub making : ℕ
  pub makes : MakesCell events making k
  pub reaches : (p ≡ making) ⊎ Before events p making

-- among these events is one that makes cell k
pub record HasMaking (events : List Transition) (These : ℕ → Type 0) (k : ℕ) : Type 0 where
  pub making : ℕ
  pub makes : MakesCell events making k
  pub among : These making

-- ---- jobs and actors
-- a job knows its own events, the event that makes it, and what happens before these
abbrev pub JobKnows : List Transition → ℕ → ℕ → Type 0
JobKnows events j p = IsKnown events (channel.OfJob j) p

-- with the end of a job all is known that the job knew
abbrev pub EndTells : List Transition → ℕ → ℕ → Type 0
EndTells events j p = IsKnown events (channel.OfEnd j) p

-- what runs on an actor
abbrev pub executor_of : Actor → Executor
executor_of (Instance c) = executor.ActorOf c
executor_of (GlobalActor g) = executor.Global g

-- What an actor keeps, whoever runs on it: the events by which jobs left it, of an actor also the
-- event that makes it, and what happens before these.
abbrev pub ActorKeeps : List Transition → Actor → ℕ → Type 0
ActorKeeps events (Instance c) p =
    IsKnown events (OfExecutor (executor.ActorOf c)) p ⊎ LeadsToCell events c p
ActorKeeps events (GlobalActor g) p = IsKnown events (OfExecutor (executor.Global g)) p

-- job j has its executor, and that is the actor
abbrev pub RunsOn : State → ℕ → Actor → Type 0
RunsOn state j actor = runs_at state j ≡ Some (executor_of actor)

-- a job that runs on the actor knows the event
pub record RunnerKnows (state : State) (events : List Transition) (actor : Actor) (p : ℕ) : Type 0
  where
    pub job : ℕ
    pub runs : RunsOn state job actor
    pub knows : JobKnows events job p

-- ---- memory
-- The owner of a colour knows the event: the job, or the actor, which also knows what a job knows
-- that runs on it.
abbrev pub OwnerKnows : State → List Transition → Colour → ℕ → Type 0
OwnerKnows state events (OfJob j n) p = JobKnows events j p
OwnerKnows state events (OfActor actor) p =
    ActorKeeps events actor p ⊎ RunnerKnows state events actor p
