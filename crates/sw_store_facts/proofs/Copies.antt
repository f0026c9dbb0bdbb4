-- Copies, fields, payloads, and loads of cells that are tracked.
use Rattle.std.proofs.Common.{◌≡◌, ℕ, Option, Some, List, [], ◌∷◌, Contains, refl, sym, subst}
use Rattle.std.specs.List.{slice_get}
use Rattle.std.specs.Option.{option_and_then}
use Rattle.std.proofs.lemmas.Option.{slice_get_within}
use Rattle.sw_list.proofs.Members.{in_one}
use Rattle.sw_graph.specs.declared.function.Function.{Function}
use Rattle.sw_graph.specs.declared.graph.Graph.{Graph}
use Rattle.sw_graph.specs.declared.instr.Instr.TheVariants.{Copy, Field, Payload, LoadBox, LoadProp}
use Rattle.sw_graph.specs.declared.instr.Operand.{Operand}
use Rattle.sw_graph.specs.Bodies.{is_own}
use Rattle.sw_graph.specs.Points.{Middle}
use Rattle.sw_value.specs.declared.cell.Slot.{Slot}
use Rattle.sw_value.specs.declared.cell.Slot.TheVariants.{Part, Content}
use Rattle.sw_value.specs.declared.frame.Frame.{Frame}
use Rattle.sw_value.specs.declared.job.Job.{Job}
use Rattle.sw_value.specs.declared.state.State.{State}
use Rattle.sw_value.specs.declared.value.Value.{Value}
use Rattle.sw_value.specs.Cell.{slot_of}
use Rattle.sw_value.specs.Effect.{cell_at, loaded}
use Rattle.sw_value.specs.Reach.{step_of}
use Rattle.sw_value.specs.Value.{field_of, operand_value, payload_of, reference_at, reference_of}
use Rattle.sw_partition.specs.Regions.{Regions}
use Rattle.sw_region_ops.specs.Elements.{element_at, elements_of}
use Rattle.sw_owner_facts.specs.Colours.{Colour}
use Rattle.sw_owner_facts.specs.View.{Frame as Spot}
use Rattle.sw_region_facts.specs.Rows.{LoadsPart}
use Rattle.sw_reach_facts.specs.Reached.{colours_of}
use Rattle.sw_reach_facts.proofs.CellLemmas.{reference_shows}
use Rattle.sw_reach_facts.proofs.PartLemmas.{part_within, payload_within}
use Rattle.sw_view_facts.specs.Standing.{StandsAt}
use Rattle.sw_view_facts.specs.Views.{Colours}
use Rattle.sw_store_facts.specs.Sound.{HasSoundView, IsColoured, HasSlotColour}
use Rattle.sw_store_facts.proofs.Copying.{copy_sound}
use Rattle.sw_store_facts.proofs.Getting.{gets, from_some, no_maker}
use Rattle.sw_store_facts.proofs.Stepping.{row}

module _ (graph : Graph) (states : ℕ → List (Option Regions)) (state : State) (colours : Colours)
    (s : IsColoured graph states state colours) (q : Spot) (job : Job) (f : Frame)
    (function : Function) where
  pub copies : (at dst : ℕ) (src : Operand)
      → StandsAt graph state q job f function (Middle (Copy at dst src))
      → HasSoundView graph states (step_of graph state q.job) colours
  copies at dst src x =
      let got = gets graph states state colours s q job f function (Copy at dst src) x dst
      (operand_value f.regs src) refl in
      copy_sound graph states state colours s q job f function (Copy at dst src) x
      (no_maker (is_own function.iso)) dst got.0 refl got.2 src got.0
      (row graph states state colours s q job f function (Copy at dst src) x).moves got.1
      (λ c has. has)

  pub fields : (at dst : ℕ) (src : Operand) (part : ℕ)
      → StandsAt graph state q job f function (Middle (Field at dst src part))
      → HasSoundView graph states (step_of graph state q.job) colours
  fields at dst src part x =
      let got = gets graph states state colours s q job f function (Field at dst src part) x dst
      (option_and_then (field_of part) (operand_value f.regs src)) refl in
      let from = from_some (field_of part) (operand_value f.regs src) got.0 got.1 in
      copy_sound graph states state colours s q job f function (Field at dst src part) x
      (no_maker (is_own function.iso)) dst got.0 refl got.2 src from.0
      (row graph states state colours s q job f function (Field at dst src part) x).moves from.1
      (λ c has. part_within state.cells colours.cells from.0 part got.0 c from.2 has)

  pub payloads : (at dst : ℕ) (src : Operand) (index : ℕ)
      → StandsAt graph state q job f function (Middle (Payload at dst src index))
      → HasSoundView graph states (step_of graph state q.job) colours
  payloads at dst src index x =
      let got = gets graph states state colours s q job f function (Payload at dst src index) x dst
      (option_and_then (payload_of index) (operand_value f.regs src)) refl in
      let from = from_some (payload_of index) (operand_value f.regs src) got.0 got.1 in
      copy_sound graph states state colours s q job f function (Payload at dst src index) x
      (no_maker (is_own function.iso)) dst got.0 refl got.2 src from.0
      (row graph states state colours s q job f function (Payload at dst src index) x).moves from.1
      (λ c has. payload_within state.cells colours.cells from.0 index got.0 c from.2 has)

  -- what is loaded reaches no more than the reference to the cell
  loaded_within : (cell : Operand) (slot : Slot) → HasSlotColour state colours f cell slot
      → (v : Value) → loaded state f cell slot ≡ Some v
      → (w : Value) × (operand_value f.regs cell ≡ Some w)
      × ((c : Colour) → Contains (colours_of state.cells colours.cells v) c
      → Contains (colours_of state.cells colours.cells w) c)
  loaded_within cell slot own v is =
      let content = from_some (slot_of slot) (cell_at state f cell) v is in
      let there = from_some (λ c. slice_get state.cells c) (reference_at f.regs cell) content.0
      content.1 in
      let from = from_some reference_of (operand_value f.regs cell) there.0 there.1 in
      let has = own.coloured there.0 there.1 in (
        from.0,
        from.1,
        λ c shows. subst (λ l. Contains l c)
            (sym (reference_shows state.cells colours.cells from.0 there.0 own.colour from.2
            (slice_get_within state.cells there.0 content.0 there.2) has))
            (subst (Contains (own.colour ∷ [])) (sym (own.one v c is shows)) (in_one own.colour)),
      )

  pub box_loads : (at dst : ℕ) (cell : Operand)
      → StandsAt graph state q job f function (Middle (LoadBox at dst cell))
      → HasSlotColour state colours f cell Content
      → HasSoundView graph states (step_of graph state q.job) colours
  box_loads at dst cell x own =
      let got = gets graph states state colours s q job f function (LoadBox at dst cell) x dst
      (loaded state f cell Content) refl in
      let within = loaded_within cell Content own got.0 got.1 in
      copy_sound graph states state colours s q job f function (LoadBox at dst cell) x
      (no_maker (is_own function.iso)) dst got.0 refl got.2 cell within.0
      (row graph states state colours s q job f function (LoadBox at dst cell) x).moves within.1
      within.2

  pub part_loads : (at dst : ℕ) (cell : Operand) (part number : ℕ)
      → StandsAt graph state q job f function (Middle (LoadProp at dst cell part))
      → element_at (elements_of graph.shapes function.regs) cell.reg ≡ Some number
      → HasSlotColour state colours f cell (Part part)
      → HasSoundView graph states (step_of graph state q.job) colours
  part_loads at dst cell part number x tracked own =
      let got = gets graph states state colours s q job f function (LoadProp at dst cell part) x dst
      (loaded state f cell (Part part)) refl in
      let within = loaded_within cell (Part part) own got.0 got.1 in
      let here = row graph states state colours s q job f function (LoadProp at dst cell part) x in
      copy_sound graph states state colours s q job f function (LoadProp at dst cell part) x
      (no_maker (is_own function.iso)) dst got.0 refl got.2 cell within.0
      (subst (λ o. LoadsPart (elements_of graph.shapes function.regs) o dst cell here.a here.c)
      tracked here.moves) within.1 within.2
