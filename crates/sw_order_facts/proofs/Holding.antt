-- Which job runs on an actor, and whose the place is that a job is about to access: the job's, or
-- that of the actor on which it runs.
use Rattle.std.proofs.Common.{◌≡◌, inl, inr, ℕ, ◌-◌, Bool, true, false, cond, Option, Some}
use Rattle.std.proofs.Common.{None, List, length, refl, sym, subst, ap, ◌∙◌, arith}
use Rattle.std.specs.Prelude.{option_and_then}
use Rattle.std.specs.Option.{option_map, option_map_or}
use Rattle.std.specs.List.{slice_get}
use Rattle.std.proofs.lemmas.Option.{slice_get_within}
use Rattle.sw_list.proofs.ListLemmas.{some_injective}
use Rattle.sw_graph.specs.declared.function.Function.{Function}
use Rattle.sw_graph.specs.declared.graph.Graph.{Graph}
use Rattle.sw_graph.specs.Points.{Point}
use Rattle.sw_value.specs.declared.executor.Executor.{Executor}
use Rattle.sw_value.specs.declared.executor.Executor.TheVariants as executor
use Rattle.sw_value.specs.declared.frame.Frame.{Frame}
use Rattle.sw_value.specs.declared.job.Job.{Job}
use Rattle.sw_value.specs.declared.race.Access.{Access}
use Rattle.sw_value.specs.declared.race.Place.{Place}
use Rattle.sw_value.specs.declared.state.State.{State}
use Rattle.sw_value.specs.Access.{next_access}
use Rattle.sw_value.specs.Job.{is_running, is_running_status, top_frame}
use Rattle.sw_value.specs.Transition.{executor_in, runs_at}
use Rattle.sw_partition.specs.Regions.{Regions}
use Rattle.sw_owner_facts.specs.Colours.{Actor, Colour, GlobalActor, Instance, OfActor, OfJob, On}
use Rattle.sw_owner_facts.specs.View.{Element, FrameShape, HoldsLive, View, Frame as Spot}
use Rattle.sw_owner_facts.specs.View as view
use Rattle.sw_view_facts.specs.Standing.{StandsAt}
use Rattle.sw_view_facts.specs.Steps.{TopAt}
use Rattle.sw_view_facts.specs.Views.{Colours, frame_under, function_of, shape_by, shape_with}
use Rattle.sw_view_facts.specs.Views.{stands_on, view_at}
use Rattle.sw_view_facts.proofs.StandingLemmas.{top_of}
use Rattle.sw_view_facts.proofs.TopLemmas.{frame_was, height_is}
use Rattle.sw_secure_facts.specs.Secure.{IsSecure}
use Rattle.sw_secure_job_facts.proofs.Frames.{function_at}
use Rattle.sw_secure_race_facts.proofs.Accessing.{access_at}
use Rattle.sw_secure_race_facts.proofs.Claims.{coloured_or_kept, same_colour, same_keeper}
use Rattle.sw_secure_race_facts.proofs.Excluding.{claims}
use Rattle.sw_order_facts.specs.Informed.{IsOfColour}
use Rattle.sw_order_facts.specs.Knowing.{RunsOn, executor_of}
use Rattle.sw_order_facts.specs.Taking.{IsHolders}

-- ---- executors
-- an executor on which a frame stands is the actor's
pub stands_is : (e : Executor) (a : Actor) → stands_on e ≡ On a → e ≡ executor_of a
stands_is executor.Generic a is = cc
stands_is (executor.ActorOf c) a is = (let same : Instance c ≡ a = cc in ap executor_of same)
stands_is (executor.Global g) a is = (let same : GlobalActor g ≡ a = cc in ap executor_of same)

pub is_stood : (e : Executor) (a : Actor) → e ≡ executor_of a → stands_on e ≡ On a
is_stood e (Instance c) is = ap stands_on is
is_stood e (GlobalActor g) is = ap stands_on is

-- ---- which job runs on an executor
pub record RunsAt (state : State) (j : ℕ) (x : Executor) : Type 0 where
  pub job : Job
  pub there : slice_get state.jobs j ≡ Some job
  pub running : is_running job ≡ true
  pub frame : Frame
  pub top : top_frame job ≡ Some frame
  pub on : frame.executor ≡ x

pub runs_so : (state : State) (j : ℕ) (x : Executor) → RunsAt state j x → runs_at state j ≡ Some x
unfolding runs_at
runs_so state j x r =
    ap (option_and_then executor_in) r.there
    ∙ ap (λ b. cond b (option_map (λ (f : Frame). f.executor) (top_frame r.job)) None) r.running
    ∙ ap (option_map (λ (f : Frame). f.executor)) r.top ∙ ap Some r.on

pub runs_there : (state : State) (j : ℕ) (x : Executor) → runs_at state j ≡ Some x
    → RunsAt state j x
unfolding runs_at
runs_there state j x runs = of_job (slice_get state.jobs j) refl runs where
  of_top : (job : Job) → slice_get state.jobs j ≡ Some job → is_running job ≡ true
      → (o : Option Frame) → top_frame job ≡ o
      → option_map (λ (f : Frame). f.executor) o ≡ Some x → RunsAt state j x
  of_top job there running None top is = cc
  of_top job there running (Some frame) top is = record {
    job = job;
    there = there;
    running = running;
    frame = frame;
    top = top;
    on = some_injective is;
  }

  if_runs : (job : Job) → slice_get state.jobs j ≡ Some job → (b : Bool) → is_running job ≡ b
      → cond b (option_map (λ (f : Frame). f.executor) (top_frame job)) None ≡ Some x
      → RunsAt state j x
  if_runs job there false running is = cc
  if_runs job there true running is = of_top job there running (top_frame job) refl is

  of_job : (o : Option Job) → slice_get state.jobs j ≡ o → option_and_then executor_in o ≡ Some x
      → RunsAt state j x
  of_job None there is = cc
  of_job (Some job) there is = if_runs job there (is_running job) refl is

-- where a job's top frame is
top_at : (state : State) (j : ℕ) (x : Executor) (r : RunsAt state j x)
    → TopAt state (top_of j r.job) r.job r.frame
unfolding top_frame
top_at state j x r = record {
  there = r.there;
  top = r.top;
  height =
      let inside = slice_get_within r.job.frames (length r.job.frames - 1) r.frame r.top in
      omega (arith, inside);
}

module _ (graph : Graph) (states : ℕ → List (Option Regions)) (state : State) (colours : Colours)
    (s : IsSecure graph states state colours) where
  abbrev w : View
  w = view_at graph states state colours

  shape_at : (q : Spot) (job : Job) (f : Frame) (function : Function) → TopAt state q job f
      → slice_get graph.functions f.function ≡ Some function
      → (view_at graph states state colours).shape q
      ≡ shape_with graph (function_of graph (frame_under state q.job q.depth)) f (Some function)
  shape_at q job f function top is =
      ap (shape_by graph (function_of graph (frame_under state q.job q.depth)))
      (frame_was state q job f top)
      ∙ ap (shape_with graph (function_of graph (frame_under state q.job q.depth)) f) is

  -- the job runs by the machine as it does by the view
  viewed : (j : ℕ) (a : Actor) → RunsOn state j a
      → (q : Spot) × (q.job ≡ j) × view.RunsOn (view_at graph states state colours) q a
  unfolding is_running
  viewed j a runs =
      let r = runs_there state j (executor_of a) runs in
      let q = top_of j r.job in
      let top = top_at state j (executor_of a) r in
      let body = function_at graph states state colours s.coloured q r.frame
      (frame_was state q r.job r.frame top) in (
        q,
        refl,
        record {
          running = ap (λ o. option_map_or is_running o false) r.there ∙ r.running;
          top = height_is state q r.job r.frame top;
          executor = ap (λ (h : FrameShape). h.executor) (shape_at q r.job r.frame body.0 top body.1)
              ∙ is_stood r.frame.executor a r.on;
        },
      )

  -- one job runs on an actor
  pub one_runs : (i j : ℕ) (a : Actor) → RunsOn state i a → RunsOn state j a → i ≡ j
  one_runs i j a one other =
      let p = viewed i a one in
      let q = viewed j a other in
      sym p.1 ∙ s.coloured.sound.owned.exclusive p.2 q.2 ∙ q.1

  -- a job that executes runs where its top frame stands
  pub executing_runs : (q : Spot) (job : Job) (f : Frame) (function : Function) (point : Point)
      → StandsAt graph state q job f function point → runs_at state q.job ≡ Some f.executor
  unfolding is_running top_frame
  executing_runs q job f function point x = runs_so state q.job f.executor (record {
    job = job;
    there = x.top.there;
    running = ap is_running_status x.running;
    frame = f;
    top = ap (slice_get job.frames) (let high = x.top.height in
        let last : length job.frames - 1 ≡ q.depth = omega (arith, high) in last) ∙ x.top.top;
    on = refl;
  })

  pub standing_runs : (q : Spot) (job : Job) (f : Frame) (function : Function) (point : Point)
      → StandsAt graph state q job f function point → (a : Actor)
      → ((view_at graph states state colours).shape q).executor ≡ On a → RunsOn state q.job a
  standing_runs q job f function point x a on =
      executing_runs q job f function point x
      ∙ ap Some (stands_is f.executor a
      (sym (ap (λ (h : FrameShape). h.executor) (shape_at q job f function x.top x.is)) ∙ on))

  -- ---- whose a colour is that a job holds
  pub held_holders : (q : Spot) (job : Job) (f : Frame) (function : Function) (point : Point)
      → StandsAt graph state q job f function point → (y : Element) (colour : Colour)
      → HoldsLive (view_at graph states state colours) q y colour
      → IsHolders state q.job colour
  held_holders q job f function point x y (OfJob j n) held =
      inl (n, ap (λ k. OfJob k n) (s.coloured.sound.owned.owned held))
  held_holders q job f function point x y (OfActor a) held =
      inr (a, standing_runs q job f function point x a (s.coloured.sound.owned.owned held), refl)

  -- ---- accesses
  -- a place has one colour
  pub one_colour : (place : Place) (c d : Colour) → IsOfColour graph state colours place c
      → IsOfColour graph state colours place d → c ≡ d
  one_colour place c d (inl one) (inl other) = same_colour colours place c d one other
  one_colour place c d (inl one) (inr (a, kept, is)) =
      absurd (coloured_or_kept graph state colours place c a one kept)
  one_colour place c d (inr (a, kept, is)) (inl other) =
      absurd (coloured_or_kept graph state colours place d a other kept)
  one_colour place c d (inr (a, kept, is)) (inr (b, keeps, too)) =
      is ∙ ap OfActor (same_keeper graph state colours place a b kept keeps) ∙ sym too

  -- the place that a job is about to access has a colour that the job holds
  pub accessed_holders : (j : ℕ) (access : Access) → next_access graph state j ≡ Some access
      → (colour : Colour) × IsOfColour graph state colours access.place colour
      × IsHolders state j colour
  accessed_holders j access next =
      let at = access_at graph state j access next in
      elim (claims graph states state colours s j access at) [
        | inl (colour, has, (y, held)) ↦ (
          colour,
          inl has,
          subst (λ k. IsHolders state k colour) at.is_job
              (held_holders at.q at.job at.frame at.function _ at.stands y colour held),
        )
        | inr (actor, kept, on) ↦ (
          OfActor actor,
          inr (actor, kept, refl),
          inr (
            actor,
            subst (λ k. RunsOn state k actor) at.is_job
                (standing_runs at.q at.job at.frame at.function _ at.stands actor on),
            refl,
          ),
        )
      ]
