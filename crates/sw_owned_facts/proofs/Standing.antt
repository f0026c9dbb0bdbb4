-- Frames of functions that are isolated: their actor is there, they stand on it, and their `Here`
-- has its colour.
use Rattle.std.proofs.Common.{◌≡◌, ◌<◌, ◌-◌, ℕ, suc, Bool, true, false, not, ◌&&◌}
use Rattle.std.proofs.Common.{Option, Some, None, List, [], ◌∷◌, length, refl, sym, subst, ap, ◌∙◌}
use Rattle.std.proofs.Common.{arith, is_some}
use Rattle.std.specs.Prelude.{option_and_then}
use Rattle.std.specs.Option.{option_map, option_map_or}
use Rattle.std.specs.List.{slice_get}
use Rattle.std.proofs.lemmas.Bool.{and_parts, lt-ltb, or_right}
use Rattle.std.proofs.lemmas.Option.{slice_get_within}
use Rattle.sw_list.proofs.ListLemmas.{some_injective}
use Rattle.sw_types.specs.declared.isolation.Iso.{Iso}
use Rattle.sw_types.specs.declared.isolation.Iso.TheVariants as iso
use Rattle.sw_graph.specs.declared.function.Function.{Function}
use Rattle.sw_graph.specs.declared.function.RegKind.{RegKind}
use Rattle.sw_graph.specs.declared.graph.Graph.{Graph}
use Rattle.sw_graph.specs.Bodies.{has_self, is_actor_initialiser, is_own}
use Rattle.sw_graph.specs.Kinds.{is_actor, shape_of}
use Rattle.sw_graph.specs.Placed.{HasSelf}
use Rattle.sw_graph.specs.Points.{point_in}
use Rattle.sw_graph.specs.Ways.{is_set, point_sets}
use Rattle.sw_value.specs.declared.executor.Executor.{Executor}
use Rattle.sw_value.specs.declared.executor.Executor.TheVariants as executor
use Rattle.sw_value.specs.declared.frame.Frame.{Frame}
use Rattle.sw_value.specs.declared.job.Job.{Job}
use Rattle.sw_value.specs.declared.state.State.{State}
use Rattle.sw_value.specs.declared.value.Value.{Value}
use Rattle.sw_value.specs.Busy.{is_exclusive}
use Rattle.sw_value.specs.Executor.{executor_of, is_same}
use Rattle.sw_value.specs.Job.{is_running, runs_on, top_frame}
use Rattle.sw_value.specs.Value.{layer_reference, reference_of, value_at}
use Rattle.sw_value.proofs.BusyLemmas.{same_executors}
use Rattle.sw_color_rules.specs.declared.colored.Colored.{Colored}
use Rattle.sw_partition.specs.Regions.{Regions}
use Rattle.sw_region_ops.specs.Calls.{is_isolated}
use Rattle.sw_machine_kind_facts.specs.Kinds.{HasKind}
use Rattle.sw_machine_kind_facts.specs.Standing.{FrameFits, awaited_at}
use Rattle.sw_machine_kind_facts.proofs.KindLemmas.{reference_is, sort_actor}
use Rattle.sw_machine_kind_facts.proofs.StackLemmas as stack
use Rattle.sw_owner_facts.specs.Colours.{Actor, GlobalActor, Instance, On}
use Rattle.sw_owner_facts.specs.View.{FrameShape, IsolatedTo, RunsOn, Frame as Spot}
use Rattle.sw_view_facts.specs.Views.{annotated, frame_at, isolation_in, stands_on}
use Rattle.sw_view_facts.proofs.IsolationLemmas.{executor_isolated, global_isolation}
use Rattle.sw_view_facts.proofs.IsolationLemmas.{here_isolated, self_isolation, shape_at}
use Rattle.sw_view_facts.proofs.StandingLemmas.{top_of}
use Rattle.sw_secure_facts.specs.Painting.{actor_on}
use Rattle.sw_secure_facts.specs.Secure.{IsSecure}
use Rattle.sw_hue_facts.specs.Hued.{hued}
use Rattle.sw_secure_late_facts.proofs.Anchors.{stands_by}
use Rattle.sw_owned_facts.specs.Holding.{colour_with, here_colour, owner_by}
use Rattle.sw_owned_facts.specs.Owned.{owner_on, runs_at_home}
use Rattle.sw_owned_facts.proofs.Frames.{function_at, here_coloured, here_has, inside, job_at, w}
use Rattle.sw_owned_facts.proofs.Numbers.{IsKnown, is_actors, owner_as, secure}

-- ---- actors as executors
abbrev pub executor_as : Actor → Executor
executor_as (Instance c) = executor.ActorOf c
executor_as (GlobalActor g) = executor.Global g

pub stood : (e : Executor) (a : Actor) → stands_on e ≡ On a → e ≡ executor_as a
stood executor.Generic a is = cc
stood (executor.ActorOf c) a is = ap executor_as (let same : Instance c ≡ a = cc in same)
stood (executor.Global g) a is = ap executor_as (let same : GlobalActor g ≡ a = cc in same)

pub owner_is : (a : Actor) → owner_on (executor_as a) ≡ Some (owner_as a)
owner_is (Instance c) = refl
owner_is (GlobalActor g) = refl

-- which actor an executor is that isn't generic
actor_of : (e : Executor) → is_exclusive e ≡ true → (a : Actor) × (actor_on e ≡ Some a)
actor_of executor.Generic is = absurd (let clash : ⊥ = cc in clash)
actor_of (executor.ActorOf c) is = (Instance c, refl)
actor_of (executor.Global g) is = (GlobalActor g, refl)

-- what a function takes first is set
taken_set : (function : Function) → 0 < function.takes → (passed : List ℕ)
    → is_set function passed 0 ≡ true
taken_set function takes [] = lt-ltb 0 function.takes takes
taken_set function takes (p ∷ passed) =
    or_right (point_sets 0 (point_in function p)) (is_set function passed 0)
    (taken_set function takes passed)

-- ---- a job that runs on an executor
pub record RunsThere (job : Job) (on : Executor) : Type 0 where
  pub frame : Frame
  pub top : slice_get job.frames (length job.frames - 1) ≡ Some frame
  pub running : is_running job ≡ true
  pub stands : frame.executor ≡ on

pub runs_there : (job : Job) (on : Executor) → runs_on on job ≡ true → RunsThere job on
unfolding runs_on top_frame
runs_there job on runs = by (slice_get job.frames (length job.frames - 1)) refl
    (and_parts (is_running job) (option_map_or (λ (f : Frame). is_same f.executor on)
    (slice_get job.frames (length job.frames - 1)) false) runs)
  where
    by : (o : Option Frame) → slice_get job.frames (length job.frames - 1) ≡ o
        → (is_running job ≡ true) × (option_map_or (λ (f : Frame). is_same f.executor on)
        (slice_get job.frames (length job.frames - 1)) false ≡ true) → RunsThere job on
    by None is both =
        let clash : false ≡ true =
        sym (ap (λ o. option_map_or (λ (f : Frame). is_same f.executor on) o false) is) ∙ both.1 in
        absurd (let none : ⊥ = cc in none)
    by (Some frame) is both = record {
      frame = frame;
      top = is;
      running = both.0;
      stands = same_executors frame.executor on
          (sym (ap (λ o. option_map_or (λ (f : Frame). is_same f.executor on) o false) is)
          ∙ both.1);
    }

module _ (graph : Graph) (states : ℕ → List (Option Regions)) (colored : Colored)
    (known : IsKnown graph states colored) where
  abbrev state : State
  state = colored.state

  is_secure : IsSecure graph states colored.state (hued colored.colors)
  is_secure = secure graph states colored known

  -- ---- one job at most runs on an actor
  module _ (j : ℕ) (job : Job) (on : Executor) (there : slice_get colored.state.jobs j ≡ Some job)
      (runs : RunsThere job on) where
    top_is : frame_at colored.state (top_of j job) ≡ Some runs.frame
    top_is = ap (option_and_then (λ (h : Job). slice_get h.frames (length job.frames - 1))) there
        ∙ runs.top

    in_view : (a : Actor) → actor_on on ≡ Some a
        → RunsOn (w graph states colored known) (top_of j job) a
    in_view a actor = record {
      running = ap (λ o. option_map_or is_running o false) there ∙ runs.running;
      top = ap (λ o. option_map_or (λ (h : Job). length h.frames) o 0) there
          ∙ (let few = slice_get_within job.frames (length job.frames - 1) runs.frame runs.top in
          let height : length job.frames ≡ suc (length job.frames - 1) = omega (arith, few) in
          height);
      executor =
          let function = function_at graph states colored known (top_of j job) runs.frame top_is in
          ap (λ (s : FrameShape). s.executor) (shape_at graph (annotated states colored.state)
          colored.state (hued colored.colors) (top_of j job) runs.frame function.0 top_is
          function.1)
          ∙ ap stands_on runs.stands ∙ stands_by on a actor;
    }

  pub one_runs : (i j : ℕ) (one other : Job) (on : Executor) → is_exclusive on ≡ true
      → slice_get colored.state.jobs i ≡ Some one → slice_get colored.state.jobs j ≡ Some other
      → runs_on on one ≡ true → runs_on on other ≡ true → i ≡ j
  one_runs i j one other on exclusive at_i at_j runs_i runs_j =
      let actor = actor_of on exclusive in
      is_secure.coloured.sound.owned.exclusive
      (in_view i one on at_i (runs_there one on runs_i) actor.0 actor.1)
      (in_view j other on at_j (runs_there other on runs_j) actor.0 actor.1)

  -- ---- a frame of a function that runs at home
  module _ (p : Spot) (frame : Frame) (function : Function)
      (there : frame_at colored.state p ≡ Some frame)
      (is : slice_get graph.functions frame.function ≡ Some function) where
    job : (job : Job) × (slice_get colored.state.jobs p.job ≡ Some job)
        × (slice_get job.frames p.depth ≡ Some frame)
    job = job_at colored.state p frame there

    fits : FrameFits graph is_secure.coloured.kinded.world.cells (awaited_at job.0 p.depth) frame
    fits = stack.frame_at graph colored.state is_secure.coloured.kinded p.job p.depth job.0 frame
        job.1 job.2

    same_function : fits.function ≡ function
    same_function = some_injective (sym fits.is ∙ is)

    -- what is of an actor's kind refers to a cell
    refers : (kind : RegKind) → is_some (shape_of graph.shapes is_actor (Some kind)) ≡ true
        → (v : Value) → HasKind graph.shapes is_secure.coloured.kinded.world.cells v kind
        → (c : ℕ) × (reference_of v ≡ Some c)
    refers kind some v has =
        let is = reference_is graph.shapes is_secure.coloured.kinded.world.cells v kind has
        (sort_actor graph.shapes kind some) in
        (is.cell, ap layer_reference is.is)

    -- its own `self` is an actor
    self_there : has_self function ≡ true
        → (v : Value) × (c : ℕ) × (value_at frame.regs 0 ≡ Some v) × (reference_of v ≡ Some c)
    self_there own = by (slice_get function.regs 0) refl self.kind where
      self : HasSelf graph.shapes function
      self = is_secure.coloured.clean.placed.selves frame.function function is own

      by : (o : Option RegKind) → slice_get function.regs 0 ≡ o
          → is_some (shape_of graph.shapes is_actor o) ≡ true
          → (v : Value) × (c : ℕ) × (value_at frame.regs 0 ≡ Some v) × (reference_of v ≡ Some c)
      by None kind some = absurd (let clash : ⊥ = cc in clash)
      by (Some kind) at some =
          let within = slice_get_within function.regs 0 kind at in
          let set = fits.stands.has 0
          (subst (λ (f : Function). 0 < length f.regs) (sym same_function) within)
          (subst (λ (f : Function). is_set f fits.stands.passed 0 ≡ true) (sym same_function)
          (taken_set function self.taken fits.stands.passed))
          (λ awaits. is_secure.waits.selves p.job p.depth 0 job.0 frame function job.1 job.2 is own
          awaits refl) in
          let has = fits.stands.slots.each 0 set.0 kind set.1
          (ap (λ (f : Function). slice_get f.regs 0) same_function ∙ at) in
          let cell = refers kind some set.0 has in
          (set.0, cell.0, set.1, cell.1)

    -- where its function is isolated, and where that runs
    pub record HasHome : Type 0 where
      pub actor : Actor
      pub isolated : isolation_in function frame.regs ≡ IsolatedTo actor
      pub runs : executor_of function.iso frame.regs ≡ Some (executor_as actor)

    by_iso : (i : Iso) → function.iso ≡ i → is_isolated i ≡ true
        → is_actor_initialiser function ≡ false → HasHome
    by_iso iso.Free at isolated plain = absurd (let clash : ⊥ = cc in clash)
    by_iso iso.Caller at isolated plain = absurd (let clash : ⊥ = cc in clash)
    by_iso (iso.Global g) at isolated plain = record {
      actor = GlobalActor g;
      isolated = global_isolation function frame.regs g at;
      runs = ap (λ i. executor_of i frame.regs) at;
    }
    by_iso iso.Own at isolated plain =
        let own : has_self function ≡ true =
        ap (λ b. b && not (is_actor_initialiser function)) (ap is_own at) ∙ ap not plain in
        let self = self_there own in
        record {
          actor = Instance self.1;
          isolated = self_isolation function frame.regs self.0 self.1 own self.2 self.3;
          runs = ap (λ i. executor_of i frame.regs) at
              ∙ ap (λ o. option_map executor.ActorOf (option_and_then reference_of o)) self.2
              ∙ ap (option_map executor.ActorOf) self.3;
        }

    pub home : runs_at_home function ≡ true → HasHome
    home runs =
        let both = and_parts (is_isolated function.iso) (not (is_actor_initialiser function)) runs
        in
        by_iso function.iso refl both.0 (by (is_actor_initialiser function) both.1)
      where
        by : (b : Bool) → not b ≡ true → b ≡ false
        by true is = cc
        by false is = refl

    stands_home : (h : HasHome) → frame.executor ≡ executor_as h.actor
    stands_home h = stood frame.executor h.actor
        (executor_isolated graph (annotated states colored.state) colored.state
        (hued colored.colors) p frame function there is is_secure.coloured.sound.owned
        (inside graph states colored known p frame there) h.actor h.isolated)

    pub at_home : runs_at_home function ≡ true
        → executor_of function.iso frame.regs ≡ Some frame.executor
    at_home runs = (home runs).runs ∙ ap (λ e. Some e) (sym (stands_home (home runs)))

    -- its `Here` has the actor's colour
    pub here_home : (colour : ℕ) × (here_colour colored p ≡ Some colour)
        × (runs_at_home function ≡ true → owner_by colored colour ≡ owner_on frame.executor)
    here_home =
        let here = here_has graph states colored known p frame there in (
          colour_with colored here.number,
          here_coloured graph states colored known p frame there,
          λ runs.
              let h = home runs in
              is_actors graph states colored known here.number (colour_with colored here.number)
              h.actor refl
              (sym here.is ∙ here_isolated graph (annotated states colored.state) colored.state
              (hued colored.colors) p frame function there is is_secure.coloured.sound.owned
              (inside graph states colored known p frame there) h.actor h.isolated)
              ∙ sym (ap owner_on (stands_home h) ∙ owner_is h.actor),
        )
