-- Before any item nothing has to be known.
use Rattle.std.proofs.Common.{◌≡◌, inl, inr, ℕ, zero, suc, true, false, Option, Some, None}
use Rattle.std.proofs.Common.{List, [], length, replicate, sym, ap, ◌∙◌}
use Rattle.std.specs.Prelude.{option_and_then}
use Rattle.std.specs.List.{slice_get, slice_index_or}
use Rattle.sw_list.proofs.ListLemmas.{some_injective}
use Rattle.sw_types.specs.declared.isolation.Iso.{Iso}
use Rattle.sw_types.specs.declared.isolation.Iso.TheVariants as iso
use Rattle.sw_graph.specs.declared.graph.Graph.{Graph}
use Rattle.sw_graph.specs.Placed.{IsFreeOrGlobal}
use Rattle.sw_graph.specs.Supplied.{IsSupplied}
use Rattle.sw_value.specs.declared.executor.Executor.{Executor}
use Rattle.sw_value.specs.declared.executor.Executor.TheVariants as executor
use Rattle.sw_value.specs.declared.frame.Frame.{Frame}
use Rattle.sw_value.specs.declared.job.Job.{Job}
use Rattle.sw_value.specs.declared.race.Place.{Place}
use Rattle.sw_value.specs.declared.race.Place.TheVariants.{Prop, Global, BoxOf}
use Rattle.sw_value.specs.declared.value.Value.{Value}
use Rattle.sw_value.specs.Executor.{executor_of}
use Rattle.sw_value.specs.Job.{is_running, new_job}
use Rattle.sw_value.specs.Start.{start_frames, start_of}
use Rattle.sw_value.specs.State.{result_of}
use Rattle.sw_value.specs.Transition.{runs_at}
use Rattle.sw_value.specs.Value.{registers, value_at}
use Rattle.sw_owner_facts.specs.Colours.{Colour, OfJob}
use Rattle.sw_view_facts.specs.Views.{Colours}
use Rattle.sw_secure_job_facts.proofs.Starts.{IsStart, none_given, start_frame}
use Rattle.sw_machine_access_facts.specs.Location.{content_of}
use Rattle.sw_machine_name_facts.specs.Names.{CapturesName, FixedNames, JobNames}
use Rattle.sw_machine_name_facts.specs.Names.{StandsOn, in_capture, in_part}
use Rattle.sw_order_facts.specs.Informed.{IsInformed, IsOfColour}
use Rattle.sw_order_facts.specs.Knowing.{RunsOn}
use Rattle.sw_order_facts.specs.Knowing as knowing
use Rattle.sw_order_facts.proofs.Holding.{runs_there}

-- no global has a value
none_there : (n g : ℕ) (v : Value) → value_at (replicate n None) g ≡ Some v → ⊥
none_there zero g v is = cc
none_there (suc n) zero v is = cc
none_there (suc n) (suc g) v is = none_there n g v is

-- what begins on no actor or on a global actor isn't on an actor in a cell
not_on : (i : Iso) → IsFreeOrGlobal i → (regs : List (Option Value)) (x : Executor) (c : ℕ)
    → executor_of i regs ≡ Some x → x ≡ executor.ActorOf c → ⊥
not_on iso.Free free regs x c is on = cc
not_on (iso.Global g) free regs x c is on = cc
not_on iso.Own free regs x c is on = free
not_on iso.Caller free regs x c is on = free

module _ (graph : Graph) (supplied : IsSupplied graph) where
  -- the one job has the first frames, and hasn't run
  only : (j : ℕ) (job : Job) → slice_get (start_of graph).jobs j ≡ Some job
      → job ≡ new_job (start_frames graph)
  unfolding start_of
  only zero job at = sym (some_injective at)
  only (suc j) job at = (let no : None ≡ Some job = at in absurd (let z : ⊥ = cc in z))

  first : (j i : ℕ) (job : Job) (frame : Frame) → slice_get (start_of graph).jobs j ≡ Some job
      → slice_get job.frames i ≡ Some frame → IsStart graph frame
  unfolding new_job
  first j i job frame there at = start_frame graph supplied i frame
      (sym (ap (λ (l : Job). slice_get l.frames i) (only j job there)) ∙ at)

  no_names : (j k : ℕ) → JobNames (start_of graph) j k → ⊥
  no_names j k names =
      let start = first j names.depth names.job names.frame names.there names.at in
      let has : value_at names.frame.regs names.names.register ≡ Some names.names.value =
      ap (option_and_then (λ (o : Option Value). o)) names.names.has in
      let none : value_at names.frame.regs names.names.register ≡ None =
      ap (λ l. value_at l names.names.register) start.begun.regs
      ∙ none_given (length start.begun.function.regs) names.names.register in
      let no : None ≡ Some names.names.value = sym none ∙ has in
      let wrong : ⊥ = cc in wrong

  no_stands : (j c : ℕ) → StandsOn (start_of graph) j c → ⊥
  no_stands j c stands =
      let start = first j stands.depth stands.job stands.frame stands.there stands.at in
      not_on start.begun.function.iso start.first.iso
      (registers (length start.begun.function.regs) []) stands.frame.executor c start.begun.executor
      stands.on

  no_content : (place : Place) (v : Value) → content_of (start_of graph) place ≡ Some v → ⊥
  unfolding start_of
  no_content (Prop c i) v is = cc
  no_content (BoxOf c) v is = cc
  no_content (Global g) v is = none_there (length graph.globals) g v is

  no_captures : (c k : ℕ) → CapturesName (start_of graph) c k → ⊥
  unfolding start_of
  no_captures c k names = let is = names.is in cc

  no_result : (j : ℕ) (v : Value) → result_of (start_of graph) j ≡ Some v → ⊥
  unfolding result_of start_of new_job
  no_result zero v is = cc
  no_result (suc j) v is = cc

  no_runs : (j : ℕ) (x : Executor) → runs_at (start_of graph) j ≡ Some x → ⊥
  unfolding is_running new_job
  no_runs j x runs =
      let r = runs_there (start_of graph) j x runs in
      let no : false ≡ true = ap is_running (sym (only j r.job r.there)) ∙ r.running in
      let wrong : ⊥ = cc in wrong

  no_fixed : (c k : ℕ) → FixedNames graph (start_of graph) c k → ⊥
  no_fixed c k (in_part i not names) = no_content (Prop c i) names.value names.has
  no_fixed c k (in_capture names) = no_captures c k names

  no_owner : (colours : Colours) → colours.cells ≡ [] → (place : Place) (j n : ℕ)
      → IsOfColour graph (start_of graph) colours place (OfJob j n) → ⊥
  no_owner colours bare place j n (inl has) =
      let no : None ≡ Some (OfJob j n) =
      sym (ap (λ (l : List (Option Colour)). slice_index_or l has.number None) bare) ∙ has.is in
      let wrong : ⊥ = cc in wrong
  no_owner colours bare place j n (inr (actor, kept, is)) = (let wrong : ⊥ = cc in wrong)

  pub starts_informed : (colours : Colours) → colours.cells ≡ []
      → IsInformed graph (start_of graph) colours []
  starts_informed colours bare = record {
    once = λ k p q one other. absurd (let is = one.is in let z : ⊥ = cc in z);
    made = λ k p makes. absurd (let is = makes.is in let z : ⊥ = cc in z);
    owners = λ place j n is. absurd (no_owner colours bare place j n is);
    there = λ p c access at lies. absurd (let is = at.is_event in let z : ⊥ = cc in z);
    touches = λ p access colour at is. absurd (let e = at.is_event in let z : ⊥ = cc in z);
    stores = λ place k colour owns names is. absurd (no_content place names.value names.has);
    names = λ j k names. absurd (no_names j k names);
    results = λ j k names. absurd (no_result j names.value names.ended);
    stands = λ j c stands. absurd (no_stands j c stands);
    fixed = λ c k names. absurd (no_fixed c k names);
    firsts = λ g k j not names low. absurd (no_content (Global g) names.value names.has);
    runs = λ j p actor runs keeps. absurd (no_runs j (knowing.executor_of actor) runs);
  }
