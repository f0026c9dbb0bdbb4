-- The state after a cell has been made, and colours have become one, is secure.
use Rattle.std.proofs.Common.{◌≡◌, ◌+◌, ℕ, true, Option, Some, List, length}
use Rattle.std.proofs.Common.{refl, sym, subst, ap, ◌∙◌, arith}
use Rattle.std.specs.List.{slice_get}
use Rattle.std.specs.Option.{option_map}
use Rattle.std.proofs.lemmas.Option.{slice_get_within}
use Rattle.sw_types.specs.declared.ty.Ty.{Ty}
use Rattle.sw_graph.specs.declared.function.Function.{Function}
use Rattle.sw_graph.specs.declared.graph.Graph.{Graph}
use Rattle.sw_graph.specs.declared.instr.Instr.{Instr}
use Rattle.sw_graph.specs.Mentions.{set_by}
use Rattle.sw_graph.specs.Points.{Middle}
use Rattle.sw_value.specs.declared.cell.HeapCell.{HeapCell}
use Rattle.sw_value.specs.declared.effect.Effect.TheVariants.{New}
use Rattle.sw_value.specs.declared.frame.Frame.{Frame}
use Rattle.sw_value.specs.declared.job.Job.{Job}
use Rattle.sw_value.specs.declared.state.State.{State}
use Rattle.sw_value.specs.Effect.{point_effect}
use Rattle.sw_value.specs.Reach.{step_of}
use Rattle.sw_partition.specs.Regions.{Regions}
use Rattle.sw_machine_kind_facts.specs.Standing.{awaited_in}
use Rattle.sw_machine_kind_facts.proofs.ItemLemmas.{found_within}
use Rattle.sw_owner_facts.specs.Colours.{Colour}
use Rattle.sw_owner_facts.specs.View.{Frame as Spot}
use Rattle.sw_reach_facts.specs.Coloured.{may_have_colour}
use Rattle.sw_view_facts.specs.Memory.{coloured_more}
use Rattle.sw_view_facts.specs.Renaming.{united}
use Rattle.sw_view_facts.specs.Standing.{StandsAt}
use Rattle.sw_view_facts.specs.Views.{Colours}
use Rattle.sw_store_facts.specs.Sound.{HasSoundView}
use Rattle.sw_secure_facts.specs.Memory.{OwnsMemory}
use Rattle.sw_secure_facts.specs.Secure.{HeresFit, IsSecure, WaitsFit}
use Rattle.sw_secure_facts.proofs.Recoloured.{have_united, heres_united, memory_united}
use Rattle.sw_secure_facts.proofs.Secured.{later_kinds, secured}
use Rattle.sw_secure_facts.proofs.Staying.{heres_inside, waits_inside}
use Rattle.sw_secure_facts.proofs.Uniting.{united_colour}
use Rattle.sw_secure_cell_facts.proofs.Adding.{HoldsItsOwn, memory_added, united_more}
use Rattle.sw_secure_cell_facts.proofs.Made.{cells_now, globals_now, have_now, stepped}

module _ (graph : Graph) (states : ℕ → List (Option Regions)) (state : State) (colours : Colours)
    (s : IsSecure graph states state colours) (q : Spot) (job : Job) (f : Frame)
    (function : Function) (instr : Instr)
    (x : StandsAt graph state q job f function (Middle instr)) (r : ℕ) (cell : HeapCell)
    (sets_r : set_by instr ≡ Some r)
    (gives : point_effect graph state (length job.frames) f (Middle instr)
    ≡ New r cell (length state.cells) (f.point + 1)) (colour : Option Colour)
    (may : (own : Colour) → colour ≡ Some own → may_have_colour graph cell ≡ true) where
  abbrev next : State
  next = step_of graph state q.job

  abbrev results : List Ty
  results = s.coloured.kinded.world.results

  abbrev later : List Ty
  later = (later_kinds graph states state colours s q.job).kinded.world.results

  pub heres_now : HeresFit next (coloured_more colour colours)
  heres_now = subst (λ t. HeresFit t (coloured_more colour colours))
      (sym (stepped graph states state colours s.coloured s.memory.count q job f function instr x r
      cell sets_r gives colour may))
      (heres_inside graph state q job f x.top
      (New r cell (length state.cells) (f.point + 1)) refl colours (coloured_more colour colours)
      refl s.heres)

  -- no job is made
  result_was : (on : ℕ) (result : Ty) → slice_get later on ≡ Some result
      → slice_get results on ≡ Some result
  result_was on result is =
      let kinds = later_kinds graph states state colours s q.job in
      let inside = slice_get_within later on result is in
      let now = kinds.kinded.fits.job_count in
      let before = s.coloured.kinded.fits.job_count in
      let heres = heres_now.jobs in
      let old_heres = s.heres.jobs in
      let found = found_within results on (omega (arith, inside, now, before, heres, old_heres)) in
      let there = kinds.grows.results on found.0 found.1 in
      let both : Some found.0 ≡ Some result = sym there ∙ is in
      found.1 ∙ both

  waits_now : WaitsFit graph later next
  waits_now = subst (WaitsFit graph later)
      (sym (stepped graph states state colours s.coloured s.memory.count q job f function instr x r
      cell sets_r gives colour may))
      (waits_inside graph state q job f x.top (New r cell (length state.cells) (f.point + 1)) refl
      results later (ap awaited_in x.running) refl
      (λ on result j k o there waits is. result_was on result is) s.waits)

  pub made_secure : (numbers : List ℕ) (kept : Colour)
      → HoldsItsOwn graph state (united q.job numbers kept colours) cell
      (option_map (united_colour q.job numbers kept) colour)
      → HasSoundView graph states next (united q.job numbers kept (coloured_more colour colours))
      → IsSecure graph states next (united q.job numbers kept (coloured_more colour colours))
  made_secure numbers kept holds sound =
      secured graph states state colours s q.job
      (united q.job numbers kept (coloured_more colour colours))
      (have_united graph next q.job numbers kept (coloured_more colour colours)
      (have_now graph states state colours s.coloured s.memory.count q job f function instr x r cell
      sets_r gives colour may)) sound
      (subst (OwnsMemory graph next) (sym (united_more q.job numbers kept colour colours))
      (memory_added graph state next (united q.job numbers kept colours) cell
      (option_map (united_colour q.job numbers kept) colour) before.count
      (cells_now graph states state colours s.coloured s.memory.count q job f function instr x r
      cell sets_r gives colour may) before s.coloured.kinded
      (globals_now graph states state colours s.coloured s.memory.count q job f function instr x r
      cell sets_r gives colour may) holds))
      (heres_united graph next q.job numbers kept (coloured_more colour colours) heres_now)
      waits_now
    where
      before : OwnsMemory graph state (united q.job numbers kept colours)
      before = memory_united graph state q.job numbers kept colours s.memory
