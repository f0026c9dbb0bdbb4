-- Registers that aren't tracked reach nothing.
use Rattle.std.proofs.Common.{[], ◌≡◌, ◌<◌, ℕ, Option, Some, None, List, length, Contains, refl, ap}
use Rattle.std.proofs.Common.{◌∙◌, sym, arith}
use Rattle.std.specs.Option.{option_map_or, option_and_then}
use Rattle.std.specs.List.{slice_get}
use Rattle.std.proofs.lemmas.Option.{slice_get_within}
use Rattle.sw_list.proofs.Members.{none_in}
use Rattle.sw_graph.specs.declared.function.Function.{Function}
use Rattle.sw_graph.specs.declared.graph.Graph.{Graph}
use Rattle.sw_graph.specs.Clean.{IsClean}
use Rattle.sw_value.specs.declared.frame.Frame.{Frame}
use Rattle.sw_value.specs.declared.job.Job.{Job}
use Rattle.sw_value.specs.declared.state.State.{State}
use Rattle.sw_value.specs.declared.value.Value.{Value}
use Rattle.sw_value.specs.Value.{value_at}
use Rattle.sw_region_ops.specs.Elements.{element_at, elements_of}
use Rattle.sw_machine_kind_facts.specs.Kinded.{Kinded}
use Rattle.sw_machine_kind_facts.specs.Standing.{FrameFits, awaited_at}
use Rattle.sw_machine_kind_facts.proofs.ItemLemmas.{found_within}
use Rattle.sw_machine_kind_facts.proofs.StackLemmas as stack
use Rattle.sw_owner_facts.specs.Colours.{Colour}
use Rattle.sw_owner_facts.specs.View.{Frame as Spot}
use Rattle.sw_reach_facts.specs.Coloured.{HaveColours}
use Rattle.sw_reach_facts.specs.Reached.{colours_of}
use Rattle.sw_reach_facts.proofs.FitLemmas.{colours_fit, conformances_hold}
use Rattle.sw_view_facts.specs.Views.{Colours, colours_by, frame_at}
use Rattle.sw_view_facts.proofs.TakenLemmas.{untracked_shows}

-- a value stands within the registers
pub value_within : (regs : List (Option Value)) (r : ℕ) (v : Value) → value_at regs r ≡ Some v
    → r < length regs
value_within regs r v has = by (slice_get regs r) refl has where
  by : (o : Option (Option Value)) → slice_get regs r ≡ o → option_and_then (λ x. x) o ≡ Some v
      → r < length regs
  by None is has = absurd (let clash : ⊥ = cc in clash)
  by (Some x) is has = slice_get_within regs r x is

-- the frame of a spot fits
pub fits_at : (graph : Graph) (state : State) (kinded : Kinded graph state) (p : Spot) (h : Frame)
    → frame_at state p ≡ Some h → (awaits : Option ℕ) × FrameFits graph kinded.world.cells awaits h
fits_at graph state kinded p h there = by (slice_get state.jobs p.job) refl there where
  by : (o : Option Job) → slice_get state.jobs p.job ≡ o
      → option_and_then (λ (job : Job). slice_get job.frames p.depth) o ≡ Some h
      → (awaits : Option ℕ) × FrameFits graph kinded.world.cells awaits h
  by None is there = absurd (let clash : ⊥ = cc in clash)
  by (Some job) is there = (
    awaited_at job p.depth,
    stack.frame_at graph state kinded p.job p.depth job h is there,
  )

pub untracked_bare : (graph : Graph) → IsClean graph → (state : State) (kinded : Kinded graph state)
    (colours : Colours) → HaveColours graph state.cells colours.cells → (p : Spot) (h : Frame)
    → frame_at state p ≡ Some h → (function : Function)
    → slice_get graph.functions h.function ≡ Some function → (r : ℕ)
    → element_at (elements_of graph.shapes function.regs) r ≡ None → (c : Colour)
    → Contains (colours_by state colours (Some h) r) c → ⊥
untracked_bare graph clean state kinded colours have p h there function is r none c shows =
    by (value_at h.regs r) refl shows
  where
    fits : (awaits : Option ℕ) × FrameFits graph kinded.world.cells awaits h
    fits = fits_at graph state kinded p h there

    same : fits.1.function ≡ function
    same = let both : Some fits.1.function ≡ Some function = sym fits.1.is ∙ is in cc

    by : (o : Option Value) → value_at h.regs r ≡ o
        → Contains (option_map_or (colours_of state.cells colours.cells) o []) c → ⊥
    by None has shows = none_in c shows
    by (Some v) has shows =
        let slots = fits.1.stands.slots in
        let count = slots.count in
        let within = value_within h.regs r v has in
        let kind = found_within fits.1.function.regs r (omega (arith, count, within)) in
        untracked_shows graph (conformances_hold graph clean) kinded.world state colours
        (colours_fit graph clean state kinded colours.cells have) fits.1.function r kind.0 v c
        (ap (λ (f : Function). element_at (elements_of graph.shapes f.regs) r) same ∙ none) kind.1
        (slots.each r v kind.0 has kind.1) shows
