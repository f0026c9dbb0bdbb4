-- In a placed graph what a kinded state stores into a cell goes to a location.
use Rattle.std.proofs.Common.{◌≡◌, ℕ, false, Option, Some, None, List, refl, ap, sym}
use Rattle.std.proofs.Common.{◌∙◌, subst, IsTrue}
use Rattle.std.specs.Prelude.{option_and_then, IsSome}
use Rattle.std.specs.Option.{option_map_or}
use Rattle.std.specs.List.{slice_get, All}
use Rattle.sw_list.proofs.ListLemmas.{some_injective, at_index}
use Rattle.sw_types.specs.declared.shape.Part.{Part}
use Rattle.sw_types.specs.declared.shape.Shape.{Shape}
use Rattle.sw_types.specs.declared.ty.Ty.TheOpen as type
use Rattle.sw_types.specs.Accepts.{unmarked_layer}
use Rattle.sw_graph.specs.declared.function.Function.{Function}
use Rattle.sw_graph.specs.declared.function.RegKind.{RegKind}
use Rattle.sw_graph.specs.declared.graph.Graph.{Graph}
use Rattle.sw_graph.specs.declared.instr.Instr.TheVariants as instr
use Rattle.sw_graph.specs.declared.instr.Operand.{Operand}
use Rattle.sw_graph.specs.Kinds.{IsCaptured, form_of, is_cell, shape_of}
use Rattle.sw_graph.specs.Mentions.{reads}
use Rattle.sw_graph.specs.Placed.{IsPlaced, is_var_part}
use Rattle.sw_graph.specs.Points.{Point, Middle, point_in}
use Rattle.sw_graph.specs.Ways.{point_reads}
use Rattle.sw_value.specs.declared.cell.HeapCell.{HeapCell}
use Rattle.sw_value.specs.declared.cell.HeapCell.TheVariants as cell
use Rattle.sw_value.specs.declared.cell.Slot.TheVariants.{Part as PartSlot, Content}
use Rattle.sw_value.specs.declared.frame.Frame.{Frame}
use Rattle.sw_value.specs.declared.job.Job.{Job}
use Rattle.sw_value.specs.declared.race.Place.{Place}
use Rattle.sw_value.specs.declared.race.Place.TheVariants.{Prop, Global, BoxOf}
use Rattle.sw_value.specs.declared.state.State.{State}
use Rattle.sw_value.specs.Cell.{slot_of}
use Rattle.sw_value.specs.Job.{top_frame}
use Rattle.sw_value.specs.Value.{reference_of}
use Rattle.sw_machine_kind_facts.specs.Kinded.{Kinded}
use Rattle.sw_machine_kind_facts.specs.Kinds.{Referents, CellFits}
use Rattle.sw_machine_kind_facts.specs.Operands.{HasOperand, HasNext}
use Rattle.sw_graph.specs.Supplied.{IsSupplied}
use Rattle.sw_machine_kind_facts.proofs.KindLemmas.{forms_captured, shape_is}
use Rattle.sw_machine_kind_facts.proofs.LawLemmas.{has_next}
use Rattle.sw_machine_kind_facts.proofs.StackLemmas.{cell_named}
use Rattle.sw_machine_access_facts.specs.Location.{IsLocation, IsVar, content_of}
use Rattle.sw_machine_access_facts.proofs.LocationLemmas.{box_is, object_is, actor_is}
use Rattle.sw_machine_let_facts.specs.Lets.{IsInCell}
use Rattle.sw_machine_let_facts.proofs.StepLemmas.{StoresTo}
use Rattle.sw_machine_let_facts.proofs.StoreLemmas.{part_store}

-- what stands where a job that runs reads
reads_at : (graph : Graph) (cells : List RegKind) (state : State) (job : Job)
    (next : HasNext graph cells state job) (frame : Frame) (function : Function) (point : Point)
    → top_frame job ≡ Some frame → slice_get graph.functions frame.function ≡ Some function
    → point_in function frame.point ≡ Some point
    → All (HasOperand graph.shapes cells function.regs frame.regs) (point_reads point)
reads_at graph cells state job next frame function point top is here =
    let frames : next.frame ≡ frame = some_injective (sym next.top ∙ top) in
    let functions : next.function ≡ function =
    some_injective (sym next.is ∙ ap (λ (f : Frame). slice_get graph.functions f.function) frames
    ∙ is) in
    let points : next.point ≡ point =
    some_injective (sym next.at ∙ ap (λ (f : Frame). point_in next.function f.point) frames
    ∙ ap (λ (f : Function). point_in f frame.point) functions ∙ here) in
    subst (λ p. All (HasOperand graph.shapes cells function.regs frame.regs) (point_reads p)) points
    (subst (λ (f : Function). All (HasOperand graph.shapes cells f.regs frame.regs)
    (point_reads next.point)) functions
    (subst (λ (f : Frame). All (HasOperand graph.shapes cells next.function.regs f.regs)
    (point_reads next.point)) frames next.operands))

-- the `var` part that a placed store names, by the kind of its operand
pub record NamesVar (graph : Graph) (kind : RegKind) (i : ℕ) : Type 0 where
  pub number : ℕ
  pub form : form_of (Some kind) ≡ Some (type.Named number)
  pub var : IsVar graph number i

names_var : (graph : Graph) (function : Function) (o : Operand) (i : ℕ) (kind : RegKind)
    → slice_get function.regs o.reg ≡ Some kind → IsTrue (is_var_part graph.shapes function o i)
    → NamesVar graph kind i
names_var graph function o i kind is var =
    by (shape_of graph.shapes is_cell (Some kind)) refl
    (ap (λ k. option_map_or (λ (s : Shape). option_map_or (λ (p : Part). p.mutable)
    (slice_get s.parts i) false) (shape_of graph.shapes is_cell k) false) (sym is) ∙ var) where
      of_part : (shape : Shape) → shape_of graph.shapes is_cell (Some kind) ≡ Some shape
          → (o : Option Part) → slice_get shape.parts i ≡ o
          → IsTrue (option_map_or (λ (p : Part). p.mutable) o false) → NamesVar graph kind i
      of_part shape found None there var = cc
      of_part shape found (Some part) there var =
          let named = shape_is graph.shapes is_cell kind shape found in
          record {
            number = named.number;
            form = named.form;
            var = record {
              shape = shape;
              part = part;
              shape_is = named.at;
              part_is = there;
              mutable = var;
            };
          }

      by : (o : Option Shape) → shape_of graph.shapes is_cell (Some kind) ≡ o
          → IsTrue (option_map_or (λ (s : Shape). option_map_or (λ (p : Part). p.mutable)
          (slice_get s.parts i) false) o false) → NamesVar graph kind i
      by None found var = cc
      by (Some shape) found var = of_part shape found (slice_get shape.parts i) refl var

-- a cell of a declared type, to which a place of that type refers
same_number : (from kind : RegKind) (k number : ℕ) → IsCaptured (Some from) (Some kind)
    → form_of (Some from) ≡ Some (type.Named k) → form_of (Some kind) ≡ Some (type.Named number)
    → number ≡ k
same_number from kind k number goes form named =
    let found = forms_captured from kind (type.Named number) goes named in
    let here : found.0 ≡ type.Named k = some_injective (sym found.1 ∙ form) in
    let same : type.Named k ≡ type.Named number = sym (ap unmarked_layer here) ∙ found.2 in cc

-- a `var` part that a cell has is a location
cell_located : (graph : Graph) (world : Referents) (state : State) (c i : ℕ) (kind from : RegKind)
    → NamesVar graph kind i → IsCaptured (Some from) (Some kind) → (h : HeapCell)
    → slice_get state.cells c ≡ Some h → CellFits graph world h from
    → IsSome (slot_of (PartSlot i) h) → IsLocation graph state (Prop c i)
cell_located graph world state c i kind from names goes (cell.Object k vs) is fits has =
    object_is graph state c i k vs is has
    (subst (λ n. IsVar graph n i)
    (same_number from kind k names.number goes fits.0 names.form) names.var)
cell_located graph world state c i kind from names goes (cell.Actor k vs) is fits has =
    actor_is graph state c i k vs is has
    (subst (λ n. IsVar graph n i)
    (same_number from kind k names.number goes fits.0 names.form) names.var)
cell_located graph world state c i kind from names goes h is fits has = cc

-- a box that has a value is a location
pub box_located : (graph : Graph) (state : State) (c : ℕ) → IsSome (content_of state (BoxOf c))
    → IsLocation graph state (BoxOf c)
box_located graph state c = by (slice_get state.cells c) refl where
  by : (o : Option HeapCell) → slice_get state.cells c ≡ o
      → IsSome (option_and_then (slot_of Content) o) → IsLocation graph state (BoxOf c)
  by (Some (cell.BoxOf v)) is has = box_is graph state c v is
  by (Some _) is has = cc
  by None is has = cc

-- what is stored into a part goes to a `var`
part_located : (graph : Graph) → IsPlaced graph → IsSupplied graph → (state : State)
    → Kinded graph state → (j c i : ℕ) → IsSome (content_of state (Prop c i))
    → StoresTo graph state j (Prop c i) → IsLocation graph state (Prop c i)
part_located graph placed supplied state kinded j c i has x =
    let store = part_store x.run.frame x.run.point c i x.store in
    let here = x.run.here ∙ ap Some store.is in
    let cells = kinded.world.cells in
    let owner = at_index (HasOperand graph.shapes cells x.run.function.regs x.run.frame.regs)
    (reads (instr.StoreProp store.at store.owner i store.operand)) 0 store.owner.reg
    (reads_at graph cells state x.run.job
    (has_next graph supplied state kinded j x.run.job x.run.at x.run.runs) x.run.frame
    x.run.function (Middle (instr.StoreProp store.at store.owner i store.operand)) x.run.top x.run.is here) refl in
    let found = cell_named graph state kinded owner.value owner.kind c owner.fits
    (sym (ap (option_and_then reference_of) owner.has) ∙ store.refers) in
    cell_located graph kinded.world state c i owner.kind found.1
    (names_var graph x.run.function store.owner i owner.kind owner.is
    (placed.stores x.run.frame.function x.run.function x.run.frame.point
    (instr.StoreProp store.at store.owner i store.operand) x.run.is here)) found.4 found.0 found.2
    found.3 (subst (λ o. IsSome (option_and_then (slot_of (PartSlot i)) o)) found.2 has)

pub store_located : (graph : Graph) → IsPlaced graph → IsSupplied graph → (state : State)
    → Kinded graph state → (j : ℕ) (place : Place) → IsInCell place
    → IsSome (content_of state place) → StoresTo graph state j place
    → IsLocation graph state place
store_located graph placed supplied state kinded j (Prop c i) inside has x =
    part_located graph placed supplied state kinded j c i has x
store_located graph placed supplied state kinded j (BoxOf c) inside has x =
    box_located graph state c has
store_located graph placed supplied state kinded j (Global g) inside has x = absurd inside
