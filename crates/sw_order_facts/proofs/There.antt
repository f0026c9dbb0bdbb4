-- What is there: the cells of places, the frames of jobs that run, and who leaves an executor.
use Rattle.std.proofs.Common.{◌≡◌, ◌<◌, inl, inr, ℕ, ◌-◌, Option, Some}
use Rattle.std.proofs.Common.{None, List, [], ◌∷◌, Contains, length, refl, sym, subst, ap, ◌∙◌, arith}
use Rattle.std.specs.Prelude.{option_and_then}
use Rattle.std.specs.List.{slice_get, slice_index_or}
use Rattle.std.proofs.lemmas.Option.{slice_get_within}
use Rattle.sw_list.proofs.ListLemmas.{some_injective}
use Rattle.sw_graph.specs.declared.graph.Graph.{Graph}
use Rattle.sw_value.specs.declared.cell.HeapCell.{HeapCell}
use Rattle.sw_value.specs.declared.cell.Slot.TheVariants.{Part, Content}
use Rattle.sw_value.specs.declared.executor.Executor.TheVariants as executor
use Rattle.sw_value.specs.declared.race.Place.{Place}
use Rattle.sw_value.specs.declared.race.Place.TheVariants.{Prop, Global, BoxOf}
use Rattle.sw_value.specs.declared.state.State.{State}
use Rattle.sw_value.specs.declared.value.Value.{Value}
use Rattle.sw_value.specs.Access.{box_in, part_in}
use Rattle.sw_value.specs.Cell.{slot_of}
use Rattle.sw_value.specs.Job.{top_frame}
use Rattle.sw_value.specs.Transition.{Transition}
use Rattle.sw_owner_facts.specs.Colours.{Actor, Colour, Instance}
use Rattle.sw_view_facts.specs.Views.{Colours}
use Rattle.sw_before.specs.Channels.{OfExecutor, told_by}
use Rattle.sw_before.proofs.ChannelLemmas.{Tells, executor_is, tells, tells_end, tells_left, tells_made}
use Rattle.sw_before.proofs.ChannelLemmas.{tells_own}
use Rattle.sw_secure_race_facts.specs.Places.{cell_in}
use Rattle.sw_machine_access_facts.specs.Location.{IsLocation, content_of}
use Rattle.sw_machine_name_facts.specs.Given.{LiesIn}
use Rattle.sw_machine_name_facts.specs.Names.{StandsOn}
use Rattle.sw_order_facts.specs.Informed.{IsOfColour, IsOwnable}
use Rattle.sw_order_facts.specs.Knowing.{RunsOn, executor_of}
use Rattle.sw_order_facts.proofs.Holding.{runs_there}

within_cells : {X : Type 0} (cells : List HeapCell) (c : ℕ) (g : HeapCell → Option X) (x : X)
    → option_and_then g (slice_get cells c) ≡ Some x → c < length cells
within_cells {X} cells c g x is = by (slice_get cells c) refl is where
  by : (o : Option HeapCell) → slice_get cells c ≡ o → option_and_then g o ≡ Some x
      → c < length cells
  by None none is = cc
  by (Some h) at is = slice_get_within cells c h at

pub located_within : (graph : Graph) (state : State) (place : Place) (c : ℕ)
    → IsLocation graph state place → LiesIn place c → c < length state.cells
located_within graph state (Prop d i) c is lies =
    subst (λ k. k < length state.cells) lies
    (within_cells state.cells d (part_in graph d i) (Prop d i) is)
located_within graph state (BoxOf d) c is lies =
    subst (λ k. k < length state.cells) lies (within_cells state.cells d (box_in d) (BoxOf d) is)
located_within graph state (Global g) c is lies = absurd lies

pub content_within : (state : State) (place : Place) (c : ℕ) (v : Value)
    → content_of state place ≡ Some v → LiesIn place c → c < length state.cells
content_within state (Prop d i) c v is lies =
    subst (λ k. k < length state.cells) lies
    (within_cells state.cells d (slot_of (Part i)) v is)
content_within state (BoxOf d) c v is lies =
    subst (λ k. k < length state.cells) lies (within_cells state.cells d (slot_of Content) v is)
content_within state (Global g) c v is lies = absurd lies

coloured_within : (cs : List (Option Colour)) (c : ℕ) (colour : Colour)
    → slice_index_or cs c None ≡ Some colour → c < length cs
coloured_within [] c colour is = (let no : None ≡ Some colour = is in absurd (let z : ⊥ = cc in z))
coloured_within (o ∷ cs) ℕ.zero colour is = omega arith
coloured_within (o ∷ cs) (ℕ.suc c) colour is =
    let inside = coloured_within cs c colour is in omega (arith, inside)

lies_of : (place : Place) (c d : ℕ) → cell_in place ≡ Some c → LiesIn place d → c ≡ d
lies_of (Prop k i) c d is lies = sym (some_injective is) ∙ lies
lies_of (BoxOf k) c d is lies = sym (some_injective is) ∙ lies
lies_of (Global g) c d is lies = absurd lies

-- a place that has a colour is in a cell that is there
pub owned_within : (graph : Graph) (state : State) (colours : Colours)
    → length colours.cells ≡ length state.cells → (place : Place) (colour : Colour) (c : ℕ)
    → IsOfColour graph state colours place colour → LiesIn place c → c < length state.cells
owned_within graph state colours count place colour c (inl has) lies =
    let inside = coloured_within colours.cells has.number colour has.is in
    let same = lies_of place has.number c has.inside lies in
    omega (arith, inside, count, same)
owned_within graph state colours count (Prop d i) colour c (inr (actor, kept, is)) lies =
    let inside = slice_get_within state.cells d kept.1.0 kept.1.1 in
    omega (arith, inside, lies)
owned_within graph state colours count (BoxOf d) colour c (inr (actor, kept, is)) lies = absurd kept
owned_within graph state colours count (Global g) colour c (inr (actor, kept, is)) lies = absurd lies

-- the frame with which a job runs on an actor is one that stands on it
pub runs_stands : (state : State) (j c : ℕ) → RunsOn state j (Instance c) → StandsOn state j c
unfolding top_frame
runs_stands state j c runs =
    let r = runs_there state j (executor.ActorOf c) runs in
    record {
      job = r.job;
      there = r.there;
      depth = length r.job.frames - 1;
      frame = r.frame;
      at = r.top;
      on = r.on;
    }

-- a global `var` is one in each state
pub same_ownable : (graph : Graph) (state later : State) (place : Place)
    → IsOwnable graph later place → IsOwnable graph state place
same_ownable graph state later (Prop c i) is = tt
same_ownable graph state later (BoxOf c) is = tt
same_ownable graph state later (Global g) is = is

-- who leaves an executor tells it
pub told_leaves : (t : Transition) (actor : Actor) → Contains (told_by t) (OfExecutor (executor_of actor))
    → t.leaves ≡ Some (executor_of actor)
told_leaves t actor told = by (tells t (OfExecutor (executor_of actor)) told) where
  by : Tells t (OfExecutor (executor_of actor)) → t.leaves ≡ Some (executor_of actor)
  by (tells_own is) = absurd (let no : ⊥ = cc in no)
  by (tells_made k makes is) = absurd (let no : ⊥ = cc in no)
  by (tells_end ends is) = absurd (let no : ⊥ = cc in no)
  by (tells_left x other left is) = left ∙ ap Some (executor_is x (executor_of actor) is)
