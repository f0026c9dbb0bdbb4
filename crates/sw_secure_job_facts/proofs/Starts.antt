-- Before any item: one job, whose frames hold the colours of their `Here` alone.
use Rattle.std.specs.Option.{option_and_then, option_map, option_map_or}
use Rattle.std.specs.List.{cons_option, filter_map, list_any, slice_get}
use Rattle.std.proofs.Common.{◌≡◌, ◌⊎◌, ◌-◌, ◌&&◌, ℕ, zero, suc, Bool, true, false, not, cond}
use Rattle.std.proofs.Common.{IsTrue, Option, Some}
use Rattle.std.proofs.Common.{None, List, [], ◌∷◌, length, replicate, reverse, Contains}
use Rattle.std.proofs.Common.{refl, sym, subst, ap, ◌∙◌, arith, inl, inr}
use Rattle.std.proofs.lemmas.List.{get_or_past}
use Rattle.std.proofs.lemmas.Option.{get_or_from_slice_get, slice_get_within}
use mathlib.Core.List.{reverse-cons}
use Rattle.std.proofs.lemmas.List.Elements.{Contains-append_cases, Contains-append_left}
use Rattle.std.proofs.lemmas.List.Elements.{Contains-append_right}
use Rattle.sw_list.proofs.ListLemmas.{some_injective}
use Rattle.sw_list.proofs.Members.{first_or_later, none_in}
use Rattle.sw_types.specs.declared.isolation.Iso.{Iso}
use Rattle.sw_types.specs.declared.isolation.Iso.TheVariants as iso
use Rattle.sw_types.specs.declared.ty.Ty.{Ty}
use Rattle.sw_graph.specs.declared.function.Function.{Function}
use Rattle.sw_graph.specs.declared.graph.Graph.{Graph}
use Rattle.sw_graph.specs.Bodies.{has_self, is_actor_initialiser, is_own, makes_actor}
use Rattle.sw_graph.specs.Clean.{IsClean}
use Rattle.sw_graph.specs.Placed.{IsFirst, IsFreeOrGlobal}
use Rattle.sw_graph.specs.Points.{point_in, points_of}
use Rattle.sw_graph.specs.Supplied.{IsSupplied}
use Rattle.sw_graph.specs.Sure.{point_before}
use Rattle.sw_value.specs.declared.executor.Executor.TheVariants as executor
use Rattle.sw_value.specs.declared.frame.Frame.{Frame}
use Rattle.sw_value.specs.declared.frame.TheConstants.{NO_REGISTER}
use Rattle.sw_value.specs.declared.job.Job.{Job}
use Rattle.sw_value.specs.declared.state.State.{State}
use Rattle.sw_value.specs.Executor.{executor_of}
use Rattle.sw_value.specs.Frame.{first_frame}
use Rattle.sw_value.specs.declared.job.Status.TheVariants.{Ready, Waiting}
use Rattle.sw_value.specs.Job.{is_running, new_job}
use Rattle.sw_value.specs.Start.{start_frames, start_of}
use Rattle.sw_value.specs.Value.{registers, value_at}
use Rattle.sw_partition.specs.Regions.{Regions}
use Rattle.sw_region_ops.specs.Elements.{elements_of}
use Rattle.sw_region_ops.proofs.ContextLemmas.{length_numbered}
use Rattle.sw_machine_kind_facts.proofs.ItemLemmas.{found_within}
use Rattle.sw_owner_facts.specs.Colours.{Colour, Generic, GlobalActor, OfActor, OfJob, On}
use Rattle.sw_machine_kind_facts.proofs.StartLemmas.{start_kinded}
use Rattle.sw_owner_facts.specs.View.{FrameShape, IsFrame, IsolatedTo, MakesActor, Nonisolated}
use Rattle.sw_owner_facts.specs.View.{View}
use Rattle.sw_owner_facts.specs.View.{Frame as Spot}
use Rattle.sw_reach_facts.specs.Reached.{colours_of}
use Rattle.sw_view_facts.specs.Views.{Colours, closes, colours_by, frame_at, frame_under}
use Rattle.sw_view_facts.specs.Views.{function_of, isolation_by, result_in, shape_by, shape_with}
use Rattle.sw_view_facts.specs.Views.{stands_on, tracked_in, view_at}
use Rattle.sw_secure_facts.specs.Memory.{OwnsMemory}
use Rattle.sw_secure_facts.specs.Painting.{actor_on, begun_here}
use Rattle.sw_secure_facts.specs.Secure.{HeresFit, IsSecure, WaitsFit}
use Rattle.sw_secure_job_facts.specs.Begins.{AreAnnotated, HeresBegin}
use Rattle.sw_secure_job_facts.proofs.Begun.{IsBegun, begun_from}
use Rattle.sw_view_facts.proofs.FirstLemmas.{IsFirstOf, firsts_sound}
use Rattle.sw_secure_job_facts.proofs.Frames.{few_registers}

-- ---- lists
from_filter_map : {X Y : Type 0} (h : X → Option Y) (xs : List X) (i : ℕ) (y : Y)
    → slice_get (filter_map h xs) i ≡ Some y → (x : X) × Contains xs x × (h x ≡ Some y)
from_filter_map h [] i y at = cc
from_filter_map {X} {Y} h (x ∷ xs) i y at =
    by (h x) refl i at (λ k there. later (from_filter_map h xs k y there))
  where
    later : (z : X) × Contains xs z × (h z ≡ Some y)
        → (z : X) × Contains (x ∷ xs) z × (h z ≡ Some y)
    later found = (found.0, Contains-append_right (x ∷ []) xs found.0 found.1, found.2)

    by : (o : Option Y) → h x ≡ o → (i : ℕ)
        → slice_get (cons_option o (filter_map h xs)) i ≡ Some y
        → ((k : ℕ) → slice_get (filter_map h xs) k ≡ Some y
        → (z : X) × Contains (x ∷ xs) z × (h z ≡ Some y))
        → (z : X) × Contains (x ∷ xs) z × (h z ≡ Some y)
    by None is i at rest = rest i at
    by (Some z) is zero at rest = (
      x,
      Contains-append_left (x ∷ []) xs x (zero, omega arith, refl),
      is ∙ at,
    )
    by (Some z) is (suc i) at rest = rest i at

in_reverse : {X : Type 0} (xs : List X) (x : X) → Contains (reverse xs) x → Contains xs x
in_reverse [] x has = has
in_reverse (y ∷ ys) x has = elim (Contains-append_cases (reverse ys) (y ∷ []) x
    (subst (λ l. Contains l x) (reverse-cons y ys) has)) [
      | inl before ↦ Contains-append_right (y ∷ []) ys x (in_reverse ys x before)
      | inr last ↦ Contains-append_left (y ∷ []) ys x last
    ]

no_value : (n r : ℕ) → value_at (replicate n None) r ≡ None
no_value zero r = refl
no_value (suc n) zero = refl
no_value (suc n) (suc r) = no_value n r

pub none_given : (n r : ℕ) → value_at (registers n []) r ≡ None
unfolding registers
none_given n r = no_value (n - 0) r

-- ---- the frames
-- a frame of the start begins a function of the entry or of a first value, with no values
pub record IsStart (graph : Graph) (frame : Frame) : Type 0 where
  pub number : ℕ
  pub begun : IsBegun graph number [] frame
  pub first : IsFirst begun.function

pub start_frame : (graph : Graph) → IsSupplied graph → (i : ℕ) (frame : Frame)
    → slice_get (start_frames graph) i ≡ Some frame → IsStart graph frame
unfolding start_frames
start_frame graph supplied i frame at =
    let found = from_filter_map (λ f. first_frame graph f []) (graph.entry ∷ reverse graph.starts) i
    frame at in
    let begun = begun_from graph found.0 [] frame found.2 in
    record {
      number = found.0;
      begun = begun;
      first = elim (first_or_later graph.entry (reverse graph.starts) found.0 found.1) [
        | inl entry ↦ supplied.begins.entry begun.function
            (ap (slice_get graph.functions) entry ∙ begun.is)
        | inr start ↦ supplied.begins.firsts found.0 (in_reverse graph.starts found.0 start)
            begun.function begun.is
      ];
    }

no_self : (i : Iso) → IsFreeOrGlobal i → is_own i ≡ false
no_self iso.Free free = refl
no_self (iso.Global g) free = refl
no_self iso.Own free = absurd free
no_self iso.Caller free = refl

-- no register of a function of the graph gets the result of such a frame
gets_none : (graph : Graph) (n : ℕ) (function : Function)
    → slice_get graph.functions n ≡ Some function → tracked_in graph NO_REGISTER function ≡ None
gets_none graph n function is =
    let few = few_registers graph n function is in
    let count = length_numbered graph.shapes 1 function.regs in
    ap (option_map (λ _. NO_REGISTER))
    (get_or_past (elements_of graph.shapes function.regs) NO_REGISTER None
    (omega (arith, few, count)))

result_none : (graph : Graph) (under : Option Frame) (frame : Frame) (function : Function)
    → frame.result ≡ NO_REGISTER
    → result_in graph (function_of graph under) frame function ≡ None
result_none graph under frame function unwanted =
    ap (λ r. cond function.sends None (option_and_then (tracked_in graph r)
    (function_of graph under))) unwanted
    ∙ sent function.sends (below under)
  where
    sent : (b : Bool)
        → option_and_then (tracked_in graph NO_REGISTER) (function_of graph under) ≡ None
        → cond b None (option_and_then (tracked_in graph NO_REGISTER) (function_of graph under))
        ≡ None
    sent true none = refl
    sent false none = none

    of_function : (n : ℕ) (o : Option Function) → slice_get graph.functions n ≡ o
        → option_and_then (tracked_in graph NO_REGISTER) o ≡ None
    of_function n None is = refl
    of_function n (Some lower) is = gets_none graph n lower is

    below : (u : Option Frame)
        → option_and_then (tracked_in graph NO_REGISTER) (function_of graph u) ≡ None
    below None = refl
    below (Some u) = of_function u.function (slice_get graph.functions u.function) refl

module _ (graph : Graph) (clean : IsClean graph) (supplied : IsSupplied graph)
    (states : ℕ → List (Option Regions)) (annotated : AreAnnotated graph states)
    (row : List Colour) (heres : HeresBegin (start_frames graph) row) where
  abbrev state : State
  state = start_of graph

  abbrev colours : Colours
  colours = record { cells = []; heres = row ∷ [] }

  abbrev w : View
  w = view_at graph states state colours

  -- ---- a frame
  module _ (d : ℕ) (frame : Frame) (at : slice_get (start_frames graph) d ≡ Some frame) where
    abbrev p : Spot
    p = record { job = 0; depth = d }

    pub start : IsStart graph frame
    start = start_frame graph supplied d frame at

    abbrev function : Function
    function = start.begun.function

    pub is : slice_get graph.functions frame.function ≡ Some function
    is = ap (slice_get graph.functions) start.begun.number_is ∙ start.begun.is

    there : frame_at state p ≡ Some frame
    unfolding start_of new_job
    there = at

    abbrev under : Option Frame
    under = frame_under state 0 d

    shape_is : w.shape p ≡ shape_with graph (function_of graph under) frame (Some function)
    shape_is = ap (shape_by graph (function_of graph under)) there
        ∙ ap (shape_with graph (function_of graph under) frame) is

    here : (colour : Colour) × (slice_get row d ≡ Some colour)
    here =
        let inside = slice_get_within (start_frames graph) d frame at in
        let count = heres.count in
        found_within row d (omega (arith, inside, count))

    here_is : (n : ℕ) × (w.here p ≡ begun_here (actor_on frame.executor) 0 n)
    here_is =
        let begins = heres.each d frame here.0 at here.1 in
        (begins.0, get_or_from_slice_get row d here.0 (OfJob 0 0) here.1 ∙ begins.1)

    isolation_is : (i : Iso) → function.iso ≡ i → IsFreeOrGlobal i
        → (w.shape p).isolation ≡ isolation_by i frame.regs
    isolation_is i same free = ap (λ (s : FrameShape). s.isolation) shape_is
        ∙ ap (λ b. cond (b && made) MakesActor (isolation_by function.iso frame.regs))
        (ap is_own same ∙ no_self i free)
        ∙ ap (λ k. isolation_by k frame.regs) same
      where
        made : Bool
        made = list_any (makes_actor function.result) (points_of function.blocks)

    executor_is : (w.shape p).executor ≡ stands_on frame.executor
    executor_is = ap (λ (s : FrameShape). s.executor) shape_is

    stands : (i : Iso) → function.iso ≡ i → IsFreeOrGlobal i
        → executor_of i (registers (length function.regs) []) ≡ Some frame.executor
        → (((w.shape p).isolation ≡ Nonisolated) × ((w.shape p).executor ≡ Generic)
        × ((n : ℕ) × (w.here p ≡ OfJob 0 n)))
        ⊎ ((g : ℕ) × ((w.shape p).isolation ≡ IsolatedTo (GlobalActor g))
        × ((w.shape p).executor ≡ On (GlobalActor g)) × (w.here p ≡ OfActor (GlobalActor g)))
    stands iso.Free same free given =
        let on : executor.Generic ≡ frame.executor = some_injective given in
        inl (
          isolation_is iso.Free same free,
          executor_is ∙ ap stands_on (sym on),
          (here_is.0, here_is.1 ∙ ap (λ e. begun_here (actor_on e) 0 here_is.0) (sym on)),
        )
    stands (iso.Global g) same free given =
        let on : executor.Global g ≡ frame.executor = some_injective given in
        inr (
          g,
          isolation_is (iso.Global g) same free,
          executor_is ∙ ap stands_on (sym on),
          here_is.1 ∙ ap (λ e. begun_here (actor_on e) 0 here_is.0) (sym on),
        )
    stands iso.Own same free given = absurd free
    stands iso.Caller same free given = absurd free

    no_values : (r : ℕ) → value_at frame.regs r ≡ None
    no_values r = ap (λ l. value_at l r) start.begun.regs ∙ none_given (length function.regs) r

    pub first_of : IsFirstOf w p
    first_of = record {
      crossing = ap (λ (s : FrameShape). s.crossing) shape_is ∙ start.begun.crossing;
      closing = ap (λ (s : FrameShape). s.closing) shape_is
          ∙ ap (λ n. closes graph function (point_in function n) (point_before function n))
          start.begun.point;
      result = ap (λ (s : FrameShape). s.result) shape_is
          ∙ result_none graph under frame function start.begun.result;
      stands = stands function.iso refl start.first.iso start.begun.executor;
      bare = λ r c has. none_in c (subst (λ l. Contains l c)
          (ap (λ o. colours_by state colours o r) there
          ∙ ap (λ v. option_map_or (colours_of state.cells colours.cells) v []) (no_values r)) has);
    }

    pub selfless : has_self function ≡ false
    selfless = ap (λ b. b && not (is_actor_initialiser function))
        (no_self function.iso start.first.iso)

  -- ---- the state
  first_at : (j d : ℕ) → IsFrame w (record { job = j; depth = d })
      → IsFirstOf w (record { job = j; depth = d })
  unfolding start_of new_job
  first_at zero d inside =
      let found = found_within (start_frames graph) d inside in first_of d found.0 found.1
  first_at (suc j) d inside = absurd (omega (arith, inside))

  ready : (j : ℕ) → w.running j ≡ false
  unfolding start_of new_job is_running
  ready zero = refl
  ready (suc j) = refl

  memory : OwnsMemory graph state colours
  unfolding start_of
  memory = record {
    count = refl;
    marked = λ c cell at may. cc;
    inside = λ c cell own v at is has. cc;
    kept = λ c cell owner v at is has. cc;
    globals = λ g kind v other is has reached.
        let clash : None ≡ Some v = sym (no_value (length graph.globals) g) ∙ has in
        absurd (let z : ⊥ = cc in z);
    global_closures = λ c f actor captures colour at. cc;
    own_closures = λ c f self captures colour at. cc;
    earlier = λ c f captures v d at. cc;
  }

  heres_fit : HeresFit state colours
  unfolding start_of new_job
  heres_fit = record { jobs = refl; frames = λ j job r there at. by j job r there at }
    where
      by : (j : ℕ) (job : Job) (r : List Colour) → slice_get state.jobs j ≡ Some job
          → slice_get colours.heres j ≡ Some r → length r ≡ length job.frames
      by zero job r there at =
          let frames : start_frames graph ≡ job.frames =
          ap (λ (x : Job). x.frames) (some_injective there) in
          ap (λ (l : List Colour). length l) (sym (some_injective at)) ∙ heres.count
          ∙ ap (λ (l : List Frame). length l) frames
      by (suc j) job r there at = cc

  waits : (results : List Ty) → WaitsFit graph results state
  unfolding start_of new_job
  waits results = record {
    selves = λ j i r job frame function there at is self awaits. absurd
        (selves j i job frame function there at is self);
    results = λ j on r job result there waits at. absurd (statuses j on r job there waits);
  }
    where
      selves : (j i : ℕ) (job : Job) (frame : Frame) (body : Function)
          → slice_get state.jobs j ≡ Some job → slice_get job.frames i ≡ Some frame
          → slice_get graph.functions frame.function ≡ Some body → IsTrue (has_self body) → ⊥
      selves zero i job frame body there at found self =
          let frames : job.frames ≡ start_frames graph =
          ap (λ (x : Job). x.frames) (sym (some_injective there)) in
          let here = ap (λ l. slice_get l i) (sym frames) ∙ at in
          let same : function i frame here ≡ body = some_injective (sym (is i frame here) ∙ found)
          in
          let clash : true ≡ false = sym self ∙ ap has_self (sym same) ∙ selfless i frame here in
          cc
      selves (suc j) i job frame body there at found self = cc

      statuses : (j on r : ℕ) (job : Job) → slice_get state.jobs j ≡ Some job
          → job.status ≡ Waiting on r → ⊥
      statuses zero on r job there waits =
          let clash : Ready ≡ Waiting on r =
          ap (λ (x : Job). x.status) (some_injective there) ∙ waits in cc
      statuses (suc j) on r job there waits = cc

  pub starts_secure : IsSecure graph states state colours
  unfolding start_of
  starts_secure = record {
    coloured = record {
      clean = clean;
      supplied = supplied;
      annotates = annotated;
      kinded = start_kinded graph supplied;
      have = λ c colour is. cc;
      sound = firsts_sound w (λ p inside. first_at p.job p.depth inside) ready;
    };
    memory = memory;
    heres = heres_fit;
    waits = waits (start_kinded graph supplied).world.results;
  }
