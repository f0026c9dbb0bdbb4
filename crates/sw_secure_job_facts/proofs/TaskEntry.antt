-- The first frame of a task, as it begins: with the values of the captures, none of which is sent.
use Rattle.std.specs.Option.{option_and_then, option_map}
use Rattle.std.specs.List.{slice_get}
use Rattle.std.proofs.Common.{◌≡◌, ◌+◌, ◌-◌, ℕ, suc, false, Option, Some, None, List, [], ◌∷◌}
use Rattle.std.proofs.Common.{length, map, replicate, refl, sym, subst, ap, ◌∙◌, arith}
use Rattle.std.proofs.lemmas.List.{length-map, length-take}
use Rattle.std.proofs.lemmas.Option.{slice_get-map, slice_get_within}
use Rattle.sw_list.proofs.ListLemmas.{some_injective, at_index, slice_get_first}
use Rattle.sw_graph.specs.declared.function.Function.{Function}
use Rattle.sw_graph.specs.declared.function.RegKind.{RegKind}
use Rattle.sw_graph.specs.declared.graph.Graph.{Graph}
use Rattle.sw_graph.specs.declared.instr.Instr.TheVariants.{NewTask}
use Rattle.sw_graph.specs.Kinds.{Each, EachOf, IsCaptured, kinds_of, taken}
use Rattle.sw_graph.specs.Points.{Middle}
use Rattle.sw_graph.specs.Sure.{begin}
use Rattle.sw_graph.specs.WellFormed.{FunctionFits}
use Rattle.sw_value.specs.declared.frame.Frame.{Frame}
use Rattle.sw_value.specs.declared.job.Job.{Job}
use Rattle.sw_value.specs.declared.state.State.{State}
use Rattle.sw_value.specs.declared.value.Value.{Value}
use Rattle.sw_value.specs.Value.{operand_value, registers, value_at}
use Rattle.sw_solve.specs.Annotation as annotation
use Rattle.sw_partition.specs.Regions.{Regions}
use Rattle.sw_machine_kind_facts.specs.Kinds.{HasKind}
use Rattle.sw_machine_kind_facts.proofs.ItemLemmas.{found_within}
use Rattle.sw_machine_kind_facts.proofs.LastLemmas.{instr_effect_fits}
use Rattle.sw_machine_kind_facts.proofs.OperandLemmas.{function_fits}
use Rattle.sw_machine_kind_facts.proofs.TopLemmas.{SpawnFits, TopFits}
use Rattle.sw_owner_facts.specs.View.{Frame as Spot}
use Rattle.sw_region_facts.proofs.Annotated.{reached_at}
use Rattle.sw_view_facts.specs.Views.{Colours}
use Rattle.sw_secure_job_facts.proofs.Captured.{length-each}
use Rattle.sw_secure_job_facts.proofs.Closing.{kinds_fit_at}
use Rattle.sw_secure_job_facts.proofs.Frames.{runs}
use Rattle.sw_secure_job_facts.proofs.Making.{MakesTask, apart, body, instr}

-- as many go to places as there are
length-places : (May : Option RegKind → Option RegKind → Type 0) (froms : List (Option RegKind))
    (tos : List RegKind) → Each May froms tos → length froms ≡ length tos
length-places May [] [] each = refl
length-places May (x ∷ xs) (y ∷ ys) each = ap suc (length-places May xs ys each.1)
length-places May [] (y ∷ ys) each = absurd each
length-places May (x ∷ xs) [] each = absurd each

-- a value that is given is in its register
pub value_there : (n : ℕ) (values : List Value) (k : ℕ) (v : Value)
    → slice_get values k ≡ Some v → value_at (registers n values) k ≡ Some v
unfolding registers
value_there n values k v at =
    let inside = slice_get_within values k v at in
    let count = length-map values Some in
    ap (option_and_then (λ (o : Option Value). o))
    (slice_get_first (map Some values) (replicate (n - length values) None) k
    (omega (arith, inside, count)) ∙ slice_get-map Some values k ∙ ap (option_map Some) at)

module _ (graph : Graph) (states : ℕ → List (Option Regions)) (state : State) (colours : Colours)
    (q : Spot) (job : Job) (f : Frame) (function : Function) (r : ℕ) (frame : Frame)
    (m : MakesTask graph states state colours q job f function r frame) where
  abbrev run_body : Function
  run_body = body graph states state colours q job f function r frame m

  pub function_is : slice_get graph.functions frame.function ≡ Some run_body
  function_is = ap (slice_get graph.functions) m.begun.number_is ∙ m.begun.is

  well : FunctionFits graph.shapes graph.globals graph.functions run_body
  well = function_fits graph m.number run_body m.begun.is

  -- it takes as many values as it is given
  count : length m.values ≡ run_body.takes
  count =
      let kinds = (kinds_fit_at graph f.function function m.stands.is f.point
      (NewTask m.at r m.number m.captures) m.stands.here).0 in
      let each : EachOf IsCaptured (kinds_of function.regs m.captures) (Some (taken run_body)) =
      subst (EachOf IsCaptured (kinds_of function.regs m.captures)) (ap (option_map taken)
      m.begun.is)
      kinds in
      let places = length-places IsCaptured (kinds_of function.regs m.captures) (taken run_body)
      each
      in
      let operands = length-map m.captures (λ o. slice_get function.regs o.reg) in
      let values = length-each (operand_value f.regs) m.captures m.values m.have in
      let size = length-take run_body.takes run_body.regs in
      let takes = well.takes in
      omega (arith, places, operands, values, size, takes)

  pub lent : (k : ℕ) (v : Value) → slice_get m.values k ≡ Some v
      → slice_get run_body.sending k ≡ Some false
  lent k v at =
      let inside = slice_get_within m.values k v at in
      let values = count in
      let sending = well.sending in
      let found = found_within run_body.sending k (omega (arith, inside, values, sending)) in
      found.1 ∙ ap Some (at_index (λ sends. sends ≡ false) run_body.sending k found.0
      (apart graph states state colours q job f function r frame m).1.sending found.1)

  abbrev cells : List RegKind
  cells = m.secure.coloured.kinded.world.cells

  spawn_fits : SpawnFits graph m.secure.coloured.kinded.world state function f r frame
      (length state.jobs) (length state.cells) (f.point + 1)
  unfolding TopFits
  spawn_fits = subst (TopFits graph m.secure.coloured.kinded.world state function f) m.gives
      (instr_effect_fits graph m.secure.coloured.kinded.world state f (length job.frames)
      (instr graph states state colours q job f function r frame m) (record {
        run = runs graph states state colours m.secure.coloured q job f function
            (Middle (instr graph states state colours q job f function r frame m)) m.stands;
        here = m.stands.here;
      }) (λ at dst global is. absurd (let z : ⊥ = cc in z)))

  -- each value has the kind of its register
  pub value_kind : (k : ℕ) (v : Value) → slice_get m.values k ≡ Some v
      → (kind : RegKind) × (slice_get run_body.regs k ≡ Some kind)
      × HasKind graph.shapes cells v kind
  value_kind k v at =
      let inside = slice_get_within m.values k v at in
      let values = count in
      let takes = well.takes in
      let found = found_within run_body.regs k (omega (arith, inside, values, takes)) in
      let fits = spawn_fits.fits in
      let same : fits.function ≡ run_body = some_injective (sym fits.is ∙ function_is) in (
        found.0,
        found.1,
        fits.stands.slots.each k v found.0
            (ap (λ l. value_at l k) m.begun.regs ∙ value_there (length run_body.regs) m.values k v
            at)
            (ap (λ (b : Function). slice_get b.regs k) same ∙ found.1),
      )

  -- the region state at its entry
  pub entry : (e : Regions) × (annotation.value_at (states frame.function) frame.point ≡ Some e)
      × (annotation.value_at (states m.number) 0 ≡ Some e)
  entry =
      let found = reached_at graph run_body (states m.number)
      (m.secure.coloured.annotates m.number run_body m.begun.is) 0 [] begin in (
        found.0,
        (λ i. annotation.value_at (states (m.begun.number_is i)) (m.begun.point i)) ∙ found.1,
        found.1,
      )
