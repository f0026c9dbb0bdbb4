-- The cell that an operand refers to: it fits the kind of the operand's register.
use Rattle.std.proofs.Common.{◌≡◌, ℕ, Option, Some, None, List, Contains, sym, subst}
use Rattle.std.proofs.Common.{◌∙◌}
use Rattle.std.specs.List.{slice_get, slice_index_or}
use Rattle.std.proofs.lemmas.Option.{slice_get_within}
use Rattle.sw_list.proofs.ListLemmas.{some_injective}
use Rattle.sw_list.proofs.Members.{in_one}
use Rattle.sw_graph.specs.declared.function.Function.{Function}
use Rattle.sw_graph.specs.declared.function.RegKind.{RegKind}
use Rattle.sw_graph.specs.declared.graph.Graph.{Graph}
use Rattle.sw_graph.specs.declared.instr.Operand.{Operand}
use Rattle.sw_graph.specs.Kinds.{IsCaptured}
use Rattle.sw_graph.specs.Points.{Point}
use Rattle.sw_value.specs.declared.cell.HeapCell.{HeapCell}
use Rattle.sw_value.specs.declared.frame.Frame.{Frame}
use Rattle.sw_value.specs.declared.job.Job.{Job}
use Rattle.sw_value.specs.declared.state.State.{State}
use Rattle.sw_value.specs.declared.value.Value.{Value}
use Rattle.sw_value.specs.Value.{operand_value, reference_at, reference_of}
use Rattle.sw_partition.specs.Regions.{Regions}
use Rattle.sw_machine_kind_facts.specs.Kinds.{CellFits}
use Rattle.sw_machine_kind_facts.proofs.StackLemmas.{cell_named}
use Rattle.sw_owner_facts.specs.Colours.{Colour}
use Rattle.sw_owner_facts.specs.View.{Frame as Spot}
use Rattle.sw_reach_facts.proofs.CellLemmas.{reference_shows}
use Rattle.sw_view_facts.specs.Standing.{StandsAt}
use Rattle.sw_view_facts.specs.Views.{Colours, colours_by}
use Rattle.sw_store_facts.specs.Sound.{IsColoured}
use Rattle.sw_store_facts.proofs.Getting.{from_some}
use Rattle.sw_store_facts.proofs.Operands.{value_reaches}
use Rattle.sw_store_facts.proofs.Standing.{frame_there, of_register}

module _ (graph : Graph) (states : ℕ → List (Option Regions)) (state : State) (colours : Colours)
    (s : IsColoured graph states state colours) (q : Spot) (job : Job) (f : Frame)
    (function : Function) (point : Point) (x : StandsAt graph state q job f function point) where
  pub record OfCell (o : Operand) (c : ℕ) (cell : HeapCell) : Type 0 where
    pub there : slice_get state.cells c ≡ Some cell
    pub reference : reference_at f.regs o ≡ Some c
    pub value : Value
    pub has : operand_value f.regs o ≡ Some value
    pub refers : reference_of value ≡ Some c
    pub kind : RegKind
    pub kind_is : slice_get function.regs o.reg ≡ Some kind
    pub from : RegKind
    pub fits : CellFits graph s.kinded.world cell from
    pub goes : IsCaptured (Some from) (Some kind)

  pub of_cell : (o : Operand) (c : ℕ) (cell : HeapCell) → reference_at f.regs o ≡ Some c
      → slice_get state.cells c ≡ Some cell → OfCell o c cell
  of_cell o c cell reference there =
      let value = from_some reference_of (operand_value f.regs o) c reference in
      let register = of_register graph states state colours s q job f function point x o.reg value.0
      value.1 in
      let named = cell_named graph state s.kinded value.0 register.kind c register.has value.2 in
      record {
        there = there;
        reference = reference;
        value = value.0;
        has = value.1;
        refers = value.2;
        kind = register.kind;
        kind_is = register.is;
        from = named.1;
        fits = subst (λ (h : HeapCell). CellFits graph s.kinded.world h named.1)
            (some_injective (sym named.2 ∙ there)) named.3;
        goes = named.4;
      }

  -- a cell with a colour: the operand's register reaches that colour
  pub cell_reached : (o : Operand) (c : ℕ) (cell : HeapCell) → OfCell o c cell → (own : Colour)
      → slice_index_or colours.cells c None ≡ Some own
      → Contains (colours_by state colours (Some f) o.reg) own
  cell_reached o c cell of own is =
      value_reaches graph s.clean state s.kinded colours s.have q f
      (frame_there graph states state colours s q job f function point x) function x.is o.reg of.value
      of.has own
      (subst (λ (l : List Colour). Contains l own)
      (sym (reference_shows state.cells colours.cells of.value c own of.refers
      (slice_get_within state.cells c cell of.there) is)) (in_one own))
