-- Instructions that make, read and write cells and globals are never stuck.
use Rattle.std.proofs.Common.{◌≡◌, ℕ, ◌+◌, Option, Some, None, List, [], ◌∷◌, ◌++◌, length}
use Rattle.std.proofs.Common.{refl, ap, sym, ◌∙◌, subst, arith, Bool, true}
use Rattle.std.specs.Prelude.{option_and_then}
use Rattle.std.specs.Option.{option_map}
use Rattle.std.specs.List.{slice_get, slice_set}
use Rattle.std.proofs.lemmas.Option.{slice_get_within, slice_get-map}
use Rattle.sw_list.proofs.ListLemmas.{some_injective}
use Rattle.sw_types.specs.declared.shape.Shape.{Shape}
use Rattle.sw_types.specs.declared.ty.Ty.TheOpen as type
use Rattle.sw_types.specs.declared.ty.Ty.TheVariants.{Named, outs-Named}
use Rattle.sw_types.specs.Accepts.{unmarked_layer}
use Rattle.sw_types.specs.declared.ty.Ty.{Ty, out-Ty}
use Rattle.sw_types.specs.declared.shape.ShapeKind.{ShapeKind}
use Rattle.sw_graph.specs.declared.function.Function.{Function}
use Rattle.sw_graph.specs.declared.function.GlobalKind.{GlobalKind}
use Rattle.sw_graph.specs.declared.function.RegKind.{RegKind}
use Rattle.sw_graph.specs.declared.function.RegKind.TheVariants.{Plain}
use Rattle.sw_graph.specs.declared.graph.Graph.{Graph}
use Rattle.sw_graph.specs.declared.instr.Instr.{Instr}
use Rattle.sw_graph.specs.declared.instr.Instr.TheVariants as instr
use Rattle.sw_graph.specs.declared.instr.Operand.{Operand}
use Rattle.sw_graph.specs.Kinds.{EachOf, kinds_of}
use Rattle.sw_graph.specs.Kinds.{Goes, IsCaptured, value, form_of, box_content, part, parts}
use Rattle.sw_graph.specs.Kinds.{shape_of}
use Rattle.sw_graph.specs.Kinds.{shape_at}
use Rattle.sw_graph.specs.Kinds.{number_of, is_class, is_actor, is_cell}
use Rattle.sw_graph.specs.Mentions.{set_by}
use Rattle.sw_value.specs.declared.cell.HeapCell.{HeapCell}
use Rattle.sw_value.specs.declared.cell.HeapCell.TheVariants as cell
use Rattle.sw_value.specs.declared.cell.Slot.{Slot}
use Rattle.sw_value.specs.declared.cell.Slot.TheVariants.{Part, Content}
use Rattle.sw_value.specs.declared.effect.Effect.TheVariants as effect
use Rattle.sw_value.specs.declared.frame.Frame.{Frame}
use Rattle.sw_value.specs.declared.state.State.{State}
use Rattle.sw_value.specs.declared.value.Value.{Value}
use Rattle.sw_value.specs.declared.value.Value.TheVariants as value
use Rattle.sw_value.specs.Cell.{slot_of, with_slot}
use Rattle.sw_value.specs.Effect.{needs, instr_effect, new_of, cell_at, loaded, slot_at, slot_write}
use Rattle.sw_value.specs.Value.{values_at, value_at, operand_value, reference_at, reference_of}
use Rattle.sw_value.specs.Value.{layer_reference}
use Rattle.sw_machine_kind_facts.specs.FirstValues.{HasValue}
use Rattle.sw_machine_kind_facts.specs.Kinded.{global_kinds}
use Rattle.sw_machine_kind_facts.specs.Kinds.{HavePlaces, HasKind, refers, Reference, sort_of, Referents}
use Rattle.sw_machine_kind_facts.specs.Kinds.{CellFits}
use Rattle.sw_machine_kind_facts.specs.Kinds.{declared_sort, shape_sort}
use Rattle.sw_machine_kind_facts.specs.Operands.{HasOperand}
use Rattle.sw_machine_kind_facts.proofs.FrameLemmas.{front_plain, stands_set}
use Rattle.sw_machine_kind_facts.proofs.GrowthLemmas.{one_more}
use Rattle.sw_machine_kind_facts.proofs.ItemLemmas.{found_within}
use Rattle.sw_machine_kind_facts.proofs.KindLemmas.{goes_to, goes_captured, captured-refl, reference_is}
use Rattle.sw_machine_kind_facts.proofs.KindLemmas.{forms_captured, held_captured, shape_is, sort_cell}
use Rattle.sw_machine_kind_facts.proofs.KindLemmas.{sort_box}
use Rattle.sw_machine_kind_facts.proofs.KindLemmas.{sort_form, shape_found, class_sort, actor_sort}
use Rattle.sw_machine_kind_facts.proofs.KindLemmas.{layers_accept}
use Rattle.sw_machine_kind_facts.proofs.OperandLemmas.{gathered_in}
use Rattle.sw_machine_kind_facts.proofs.PartLemmas.{parts_shape, goes_there, part_among, part_shape, have_at}
use Rattle.sw_machine_kind_facts.proofs.PartLemmas.{have_set}
use Rattle.sw_machine_kind_facts.proofs.PartLemmas.{IsBox, box_is, HasParts, parts_are}
use Rattle.sw_machine_kind_facts.proofs.SureLemmas.{is_ordinary, no_payload, no_const}
use Rattle.sw_machine_kind_facts.proofs.TopLemmas.{Executes, TopFits, IsAt, kinds_at, operand_at, puts, goes_on}
use Rattle.sw_machine_kind_facts.proofs.TopLemmas.{set_there, NewFits, WriteFits, StandsAt}
use Rattle.sw_value.proofs.ListLemmas.{slice_get_end}

-- a register refers to the cell that is made next
pub stands_new : (graph : Graph) (world : Referents) (state : State) (frame : Frame) (instr : Instr)
    → (x : IsAt graph world state frame instr) → is_ordinary instr ≡ true → (r : ℕ)
    → set_by instr ≡ Some r → (kind : RegKind)
    → slice_get x.run.function.regs r ≡ Some kind → sort_of graph.shapes kind ≡ Reference
    → StandsAt graph (world.cells ++ kind ∷ []) x.run.function None (frame.point + 1)
    (slice_set frame.regs r (Some (value.Cell (length state.cells))))
stands_new graph world state frame instr x ordinary r sets kind at sort =
    let run = x.run in
    let count = run.fits.cell_count in
    let number : slice_get (world.cells ++ kind ∷ []) (length state.cells) ≡ Some kind =
    ap (slice_get (world.cells ++ kind ∷ [])) count ∙ slice_get_end world.cells kind in
    stands_set graph.shapes world.cells (world.cells ++ kind ∷ []) run.function frame.point
    frame.regs instr r (value.Cell (length state.cells)) kind run.stands x.here sets
    (front_plain graph.shapes run.function None frame.point
    (slice_set frame.regs r (Some (value.Cell (length state.cells)))) instr run.stands.place
    (run.well.payloads run.stands.place.number run.stands.place.block run.stands.place.is) x.here
    (no_payload instr ordinary)) (no_const None _ instr ordinary) (one_more world.cells kind) at
    (refers (value.Cell (length state.cells)) kind (length state.cells) kind
    (value.outs-Cell (length state.cells)) sort number (captured-refl kind))

-- a cell with the next number is made, and its register refers to it
pub makes : (graph : Graph) (world : Referents) (state : State) (frame : Frame) (instr : Instr)
    → (x : IsAt graph world state frame instr) → is_ordinary instr ≡ true → (r : ℕ)
    → set_by instr ≡ Some r → (cell : HeapCell) (kind : RegKind)
    → slice_get x.run.function.regs r ≡ Some kind → sort_of graph.shapes kind ≡ Reference
    → CellFits graph world cell kind
    → NewFits graph world state x.run.function frame r cell (length state.cells) (frame.point + 1)
makes graph world state frame instr x ordinary r sets cell kind at sort fits = record {
  kind = kind;
  number_is = refl;
  fits = fits;
  stands = stands_new graph world state frame instr x ordinary r sets kind at sort;
}

-- the register gets a type that accepts a declared one, which is that type
named_place : (shapes : List Shape) (k : ℕ) (place : Option RegKind) → Goes (value (Named k)) place
    → (kind : RegKind) × (place ≡ Some kind) × (form_of (Some kind) ≡ Some (type.Named k))
named_place shapes k (Some (Plain ty)) goes = (
  Plain ty,
  refl,
  ap Some (by (out-Ty ty) (sym (layers_accept (Named k) ty goes)
      ∙ ap unmarked_layer (outs-Named k))),
) where
  by : (l : type.Ty-F Ty) → unmarked_layer l ≡ type.Named k → l ≡ type.Named k
  by (type.Func sendable params result) e = cc
  by type.Int e = e
  by type.Bool e = e
  by type.Unit e = e
  by (type.Named j) e = e
  by (type.Task result) e = e
named_place shapes k (Some _) goes = absurd goes
named_place shapes k None goes = absurd goes

parts_refer : (shapes : List Shape) (is_kind : ShapeKind → Bool) (k : ℕ) (kinds : List RegKind)
    (kind : RegKind) → parts (shape_at shapes is_kind k) ≡ Some kinds
    → ((s : ShapeKind) → is_kind s ≡ true → declared_sort s ≡ Reference)
    → form_of (Some kind) ≡ Some (type.Named k) → sort_of shapes kind ≡ Reference
parts_refer shapes is_kind k kinds kind are refer form =
    let shape = parts_shape (shape_at shapes is_kind k) kinds are in
    let found = shape_found shapes is_kind k shape.0 shape.1 in
    sort_form shapes kind (type.Named k) form ∙ ap shape_sort found.0
    ∙ refer shape.0.kind found.1

-- an object or an actor is made of its parts
declared_made : (graph : Graph) (world : Referents) (state : State) (frame : Frame) (instr : Instr)
    → (x : IsAt graph world state frame instr) → is_ordinary instr ≡ true → (r : ℕ)
    → set_by instr ≡ Some r → (k : ℕ) (ss : List Operand) (is_kind : ShapeKind → Bool)
    (make : List Value → HeapCell)
    → ((s : ShapeKind) → is_kind s ≡ true → declared_sort s ≡ Reference)
    → ((vs : List Value) (kind : RegKind) → form_of (Some kind) ≡ Some (type.Named k)
    → HavePlaces graph.shapes world.cells vs (parts (shape_at graph.shapes is_kind k))
    → CellFits graph world (make vs) kind)
    → ((i : ℕ) (o : Operand) → slice_get ss i ≡ Some o
    → HasOperand graph.shapes world.cells x.run.function.regs frame.regs o.reg)
    → EachOf Goes (kinds_of x.run.function.regs ss) (parts (shape_at graph.shapes is_kind k))
    → Goes (value (Named k)) (slice_get x.run.function.regs r)
    → TopFits graph world state x.run.function frame
    (needs (values_at frame.regs ss) (λ parts. new_of state (frame.point + 1) r (make parts)))
unfolding TopFits
declared_made graph world state frame instr x ordinary r sets k ss is_kind make refer fits has each
    goes =
    let regs = x.run.function.regs in
    let all = gathered_in graph.shapes world.cells regs frame.regs Goes goes_captured ss
    (parts (shape_at graph.shapes is_kind k)) has each in
    let place = named_place graph.shapes k (slice_get regs r) goes in
    let values = all.gathers.values in
    subst (λ o. TopFits graph world state x.run.function frame
    (needs o (λ parts. new_of state (frame.point + 1) r (make parts)))) (sym all.gathers.are)
    (makes graph world state frame instr x ordinary r sets (make values) place.0 place.1
    (parts_refer graph.shapes is_kind k all.kinds place.0 all.are refer place.2)
    (fits values place.0 place.2
    (record { kinds = all.kinds; are = all.are; have = all.gathers.have })))

pub new_object_fits : (graph : Graph) (world : Referents) (state : State) (frame : Frame)
    (depth at r k : ℕ) (ss : List Operand)
    → (x : IsAt graph world state frame (instr.NewObject at r k ss))
    → TopFits graph world state x.run.function frame
    (instr_effect graph state depth frame (frame.point + 1) (instr.NewObject at r k ss))
new_object_fits graph world state frame depth at r k ss x =
    let kinds = kinds_at graph world state frame (instr.NewObject at r k ss) x in
    declared_made graph world state frame (instr.NewObject at r k ss) x refl r refl k ss is_class
    (λ vs. cell.Object k vs) class_sort (λ vs kind form have. (form, have))
    (operand_at graph world state frame (instr.NewObject at r k ss) x) kinds.0 kinds.1

pub new_actor_fits : (graph : Graph) (world : Referents) (state : State) (frame : Frame)
    (depth at r k : ℕ) (ss : List Operand)
    → (x : IsAt graph world state frame (instr.NewActor at r k ss))
    → TopFits graph world state x.run.function frame
    (instr_effect graph state depth frame (frame.point + 1) (instr.NewActor at r k ss))
new_actor_fits graph world state frame depth at r k ss x =
    let kinds = kinds_at graph world state frame (instr.NewActor at r k ss) x in
    declared_made graph world state frame (instr.NewActor at r k ss) x refl r refl k ss is_actor
    (λ vs. cell.Actor k vs) actor_sort (λ vs kind form have. (form, have))
    (operand_at graph world state frame (instr.NewActor at r k ss) x) kinds.0 kinds.1

-- a place that holds a value is a box
box_place : (o : Option RegKind) (kind : RegKind) → box_content o ≡ Some kind
    → (box : RegKind) × (o ≡ Some box)
box_place None kind e = cc
box_place (Some box) kind e = (box, refl)

pub new_box_fits : (graph : Graph) (world : Referents) (state : State) (frame : Frame)
    (depth at r : ℕ) (s : Operand)
    → (x : IsAt graph world state frame (instr.NewBox at r s))
    → TopFits graph world state x.run.function frame
    (instr_effect graph state depth frame (frame.point + 1) (instr.NewBox at r s))
unfolding TopFits
new_box_fits graph world state frame depth at r s x =
    let regs = x.run.function.regs in
    let kinds = kinds_at graph world state frame (instr.NewBox at r s) x in
    let operand = operand_at graph world state frame (instr.NewBox at r s) x 0 s refl in
    let went = goes_to graph.shapes world.cells operand.value operand.kind (slice_get regs s.reg)
    (box_content (slice_get regs r)) operand.fits operand.is
    (goes_captured (slice_get regs s.reg) (box_content (slice_get regs r)) kinds) in
    let box = box_place (slice_get regs r) went.kind went.is in
    let inner = ap box_content (sym box.1) ∙ went.is in
    subst (λ o. TopFits graph world state x.run.function frame
    (needs o (λ v. new_of state (frame.point + 1) r (cell.BoxOf v)))) (sym operand.has)
    (makes graph world state frame (instr.NewBox at r s) x refl r refl (cell.BoxOf operand.value)
    box.0 box.1 (sort_box graph.shapes box.0 went.kind inner)
    (record { inner = went.kind; is = inner; fits = went.has }))

-- the cell of an operand
pub record IsCellAt (graph : Graph) (world : Referents) (state : State) (frame : Frame)
    (o : Operand)
    (kind : RegKind) : Type 0 where
  pub number : ℕ
  pub reference : reference_at frame.regs o ≡ Some number
  pub cell : HeapCell
  pub is : slice_get state.cells number ≡ Some cell
  pub at : cell_at state frame o ≡ Some cell
  pub from : RegKind
  pub from_is : slice_get world.cells number ≡ Some from
  pub goes : IsCaptured (Some from) (Some kind)
  pub fits : CellFits graph world cell from

pub cell_of : (graph : Graph) (world : Referents) (state : State) (frame : Frame) (o : Operand)
    → Executes graph world state frame → (v : Value) (kind : RegKind)
    → operand_value frame.regs o ≡ Some v → HasKind graph.shapes world.cells v kind
    → sort_of graph.shapes kind ≡ Reference → IsCellAt graph world state frame o kind
cell_of graph world state frame o run v kind has fits sort =
    let is = reference_is graph.shapes world.cells v kind fits sort in
    let count = run.fits.cell_count in
    let inside = slice_get_within world.cells is.cell is.from is.at in
    let found = found_within state.cells is.cell (omega (arith, inside, count)) in
    let reference : reference_at frame.regs o ≡ Some is.cell =
    ap (option_and_then reference_of) has ∙ ap layer_reference is.is in
    record {
      number = is.cell;
      reference = reference;
      cell = found.0;
      is = found.1;
      at = ap (option_and_then (slice_get state.cells)) reference ∙ found.1;
      from = is.from;
      from_is = is.at;
      goes = is.goes;
      fits = run.fits.cells is.cell found.0 is.from found.1 is.at;
    }

-- the box of an operand, and what it holds
record BoxAt (graph : Graph) (world : Referents) (state : State) (frame : Frame) (o : Operand)
    (inner : RegKind) : Type 0 where
  kind : RegKind
  found : IsCellAt graph world state frame o kind
  held_is : box_content (Some found.from) ≡ Some inner
  box : IsBox graph world found.cell found.from inner

box_at : (graph : Graph) (world : Referents) (state : State) (frame : Frame) (instr : Instr)
    → (x : IsAt graph world state frame instr) → (o : Operand)
    → HasOperand graph.shapes world.cells x.run.function.regs frame.regs o.reg → (inner : RegKind)
    → box_content (slice_get x.run.function.regs o.reg) ≡ Some inner
    → BoxAt graph world state frame o inner
box_at graph world state frame instr x o operand inner at =
    let holds = ap box_content (sym operand.is) ∙ at in
    let found = cell_of graph world state frame o x.run operand.value operand.kind operand.has
    operand.fits (sort_box graph.shapes operand.kind inner holds) in
    let from = held_captured found.from operand.kind inner found.goes holds in
    record {
      kind = operand.kind;
      found = found;
      held_is = from;
      box = box_is graph world found.cell found.from inner found.fits from;
    }

pub load_box_fits : (graph : Graph) (world : Referents) (state : State) (frame : Frame)
    (depth at r : ℕ) (b : Operand)
    → (x : IsAt graph world state frame (instr.LoadBox at r b))
    → TopFits graph world state x.run.function frame
    (instr_effect graph state depth frame (frame.point + 1) (instr.LoadBox at r b))
load_box_fits graph world state frame depth at r b x =
    let regs = x.run.function.regs in
    let kinds = kinds_at graph world state frame (instr.LoadBox at r b) x in
    let operand = operand_at graph world state frame (instr.LoadBox at r b) x 0 b refl in
    let there = goes_there (box_content (slice_get regs b.reg)) (slice_get regs r) kinds in
    let box = box_at graph world state frame (instr.LoadBox at r b) x b operand there.0 there.2 in
    set_there graph world state x.run.function frame (frame.point + 1) r
    (loaded state frame b Content) box.box.value
    (ap (option_and_then (slot_of Content)) (box.found.at ∙ ap Some box.box.is))
    (puts graph world state frame (instr.LoadBox at r b) x refl r refl box.box.value
    (goes_to graph.shapes world.cells box.box.value there.0 (box_content (slice_get regs b.reg))
    (slice_get regs r) box.box.fits there.2
    (goes_captured (box_content (slice_get regs b.reg)) (slice_get regs r) kinds)))

-- a value is written into a slot that is there
stored : (graph : Graph) (world : Referents) (state : State) (function : Function) (frame : Frame)
    (o s : Operand) (slot : Slot) (next c : ℕ) (v old : Value) (cell : HeapCell)
    → operand_value frame.regs s ≡ Some v → reference_at frame.regs o ≡ Some c
    → slice_get state.cells c ≡ Some cell → slot_of slot cell ≡ Some old
    → WriteFits graph world state function frame c slot v next
    → TopFits graph world state function frame (slot_write state frame next o slot s)
unfolding TopFits
stored graph world state function frame o s slot next c v old cell has reference is slot_is fits =
    subst (λ x. TopFits graph world state function frame
    (needs x (λ v. needs (slot_at state frame o slot) (λ c. effect.Write c slot v next)))) (sym has)
    (subst (λ x. TopFits graph world state function frame
    (needs x (λ c. effect.Write c slot v next))) (sym there) fits) where
      there : slot_at state frame o slot ≡ Some c
      there =
          ap (option_and_then (λ c. option_map (λ old. c)
          (option_and_then (slot_of slot) (slice_get state.cells c)))) reference
          ∙ ap (λ x. option_map (λ old. c) (option_and_then (slot_of slot) x)) is
          ∙ ap (option_map (λ old. c)) slot_is

pub store_box_fits : (graph : Graph) (world : Referents) (state : State) (frame : Frame)
    (depth at : ℕ) (b s : Operand)
    → (x : IsAt graph world state frame (instr.StoreBox at b s))
    → TopFits graph world state x.run.function frame
    (instr_effect graph state depth frame (frame.point + 1) (instr.StoreBox at b s))
store_box_fits graph world state frame depth at b s x =
    let regs = x.run.function.regs in
    let kinds = kinds_at graph world state frame (instr.StoreBox at b s) x in
    let owner = operand_at graph world state frame (instr.StoreBox at b s) x 0 b refl in
    let operand = operand_at graph world state frame (instr.StoreBox at b s) x 1 s refl in
    let went = goes_to graph.shapes world.cells operand.value operand.kind (slice_get regs s.reg)
    (box_content (slice_get regs b.reg)) operand.fits operand.is
    (goes_captured (slice_get regs s.reg) (box_content (slice_get regs b.reg)) kinds) in
    let box = box_at graph world state frame (instr.StoreBox at b s) x b owner went.kind went.is in
    let found = box.found in
    stored graph world state x.run.function frame b s Content (frame.point + 1) found.number
    operand.value box.box.value found.cell operand.has found.reference found.is
    (ap (slot_of Content) box.box.is)
    (record {
      cell = found.cell;
      is = found.is;
      keeps = λ kind at. subst (λ c. CellFits graph world (with_slot Content operand.value c) kind)
          (sym box.box.is)
          (subst (CellFits graph world (cell.BoxOf operand.value))
          (some_injective (sym found.from_is ∙ at))
          (record { inner = went.kind; is = box.held_is; fits = went.has }));
      stands = goes_on graph world state frame (instr.StoreBox at b s) x refl None refl;
    })

-- the object or actor of an operand, with a part
record PartAt (graph : Graph) (world : Referents) (state : State) (frame : Frame) (o : Operand)
    (i : ℕ) (place : RegKind) : Type 0 where
  kind : RegKind
  found : IsCellAt graph world state frame o kind
  shape : Shape
  object : HasParts graph world found.cell found.from shape
  among : slice_get object.kinds i ≡ Some place
  old : Value
  old_is : slot_of (Part i) found.cell ≡ Some old
  old_fits : HasKind graph.shapes world.cells old place

object_form : (from kind : RegKind) (k : ℕ) → IsCaptured (Some from) (Some kind)
    → form_of (Some kind) ≡ Some (type.Named k) → form_of (Some from) ≡ Some (type.Named k)
object_form from kind k goes form =
    let forms = forms_captured from kind (type.Named k) goes form in
    forms.1 ∙ ap Some (by forms.0 forms.2) where
      by : (l : type.Ty-F Ty) → unmarked_layer l ≡ type.Named k → l ≡ type.Named k
      by (type.Func sendable params result) e = cc
      by type.Int e = e
      by type.Bool e = e
      by type.Unit e = e
      by (type.Named j) e = e
      by (type.Task result) e = e

part_at : (graph : Graph) (world : Referents) (state : State) (frame : Frame) (instr : Instr)
    → (x : IsAt graph world state frame instr) → (o : Operand)
    → HasOperand graph.shapes world.cells x.run.function.regs frame.regs o.reg
    → (i : ℕ) (place : RegKind)
    → part (shape_of graph.shapes is_cell (slice_get x.run.function.regs o.reg)) i ≡ Some place
    → PartAt graph world state frame o i place
part_at graph world state frame instr x o operand i place at =
    let here = ap (λ k. part (shape_of graph.shapes is_cell k) i) (sym operand.is) ∙ at in
    let shape = part_shape (shape_of graph.shapes is_cell (Some operand.kind)) i place here in
    let is = shape_is graph.shapes is_cell operand.kind shape.0 shape.1 in
    let found = cell_of graph world state frame o x.run operand.value operand.kind operand.has
    operand.fits (sort_cell graph.shapes operand.kind shape.0 shape.1) in
    let form = object_form found.from operand.kind is.number found.goes is.form in
    let shape_here : shape_at graph.shapes is_cell is.number ≡ Some shape.0 =
    sym (ap (λ f. option_and_then (shape_at graph.shapes is_cell) (number_of f)) is.form) ∙ shape.1
    in
    let object = parts_are graph world found.cell found.from is.number shape.0 found.fits form
    shape_here in
    let among : slice_get object.kinds i ≡ Some place =
    sym (ap (option_and_then (λ kinds. slice_get kinds i)) object.are)
    ∙ sym (part_among (Some shape.0) i) ∙ ap (λ s. part s i) (sym shape.1) ∙ here in
    let old = have_at graph.shapes world.cells object.values object.kinds object.have i place among
    in
    record {
      kind = operand.kind;
      found = found;
      shape = shape.0;
      object = object;
      among = among;
      old = old.0;
      old_is = object.slot i ∙ old.1;
      old_fits = old.2;
    }

pub load_prop_fits : (graph : Graph) (world : Referents) (state : State) (frame : Frame)
    (depth at r : ℕ) (o : Operand) (i : ℕ)
    → (x : IsAt graph world state frame (instr.LoadProp at r o i))
    → TopFits graph world state x.run.function frame
    (instr_effect graph state depth frame (frame.point + 1) (instr.LoadProp at r o i))
load_prop_fits graph world state frame depth at r o i x =
    let regs = x.run.function.regs in
    let kinds = kinds_at graph world state frame (instr.LoadProp at r o i) x in
    let operand = operand_at graph world state frame (instr.LoadProp at r o i) x 0 o refl in
    let there = goes_there (part (shape_of graph.shapes is_cell (slice_get regs o.reg)) i)
    (slice_get regs r) kinds in
    let p = part_at graph world state frame (instr.LoadProp at r o i) x o operand i there.0 there.2
    in
    set_there graph world state x.run.function frame (frame.point + 1) r
    (loaded state frame o (Part i)) p.old
    (ap (option_and_then (slot_of (Part i))) p.found.at ∙ p.old_is)
    (puts graph world state frame (instr.LoadProp at r o i) x refl r refl p.old
    (goes_to graph.shapes world.cells p.old there.0
    (part (shape_of graph.shapes is_cell (slice_get regs o.reg)) i) (slice_get regs r) p.old_fits
    there.2 (goes_captured (part (shape_of graph.shapes is_cell (slice_get regs o.reg)) i)
    (slice_get regs r) kinds)))

pub store_prop_fits : (graph : Graph) (world : Referents) (state : State) (frame : Frame)
    (depth at : ℕ) (o : Operand) (i : ℕ) (s : Operand)
    → (x : IsAt graph world state frame (instr.StoreProp at o i s))
    → TopFits graph world state x.run.function frame
    (instr_effect graph state depth frame (frame.point + 1) (instr.StoreProp at o i s))
store_prop_fits graph world state frame depth at o i s x =
    let regs = x.run.function.regs in
    let kinds = kinds_at graph world state frame (instr.StoreProp at o i s) x in
    let owner = operand_at graph world state frame (instr.StoreProp at o i s) x 0 o refl in
    let operand = operand_at graph world state frame (instr.StoreProp at o i s) x 1 s refl in
    let went = goes_to graph.shapes world.cells operand.value operand.kind (slice_get regs s.reg)
    (part (shape_of graph.shapes is_cell (slice_get regs o.reg)) i) operand.fits operand.is
    (goes_captured (slice_get regs s.reg)
    (part (shape_of graph.shapes is_cell (slice_get regs o.reg)) i) kinds) in
    let p = part_at graph world state frame (instr.StoreProp at o i s) x o owner i went.kind
    went.is in
    let found = p.found in
    stored graph world state x.run.function frame o s (Part i) (frame.point + 1) found.number
    operand.value p.old found.cell operand.has found.reference found.is p.old_is
    (record {
      cell = found.cell;
      is = found.is;
      keeps = λ kind at. subst (CellFits graph world (with_slot (Part i) operand.value found.cell))
          (some_injective (sym found.from_is ∙ at))
          (p.object.keeps i operand.value
          (have_set graph.shapes world.cells p.object.values p.object.kinds p.object.have i
          went.kind
          p.among operand.value went.has));
      stands = goes_on graph world state frame (instr.StoreProp at o i s) x refl None refl;
    })

-- the kind of a global
global_kind : (globals : List GlobalKind) (g : ℕ) → slice_get (global_kinds globals) g
    ≡ option_map (λ (global : GlobalKind). Plain global.ty) (slice_get globals g)
global_kind globals g = slice_get-map (λ (global : GlobalKind). Plain global.ty) globals g

pub load_global_fits : (graph : Graph) (world : Referents) (state : State) (frame : Frame)
    (depth at r g : ℕ) → (x : IsAt graph world state frame (instr.LoadGlobal at r g))
    → HasValue state g → TopFits graph world state x.run.function frame
    (instr_effect graph state depth frame (frame.point + 1) (instr.LoadGlobal at r g))
load_global_fits graph world state frame depth at r g x has =
    let regs = x.run.function.regs in
    let kinds = kinds_at graph world state frame (instr.LoadGlobal at r g) x in
    let there = goes_there
    (option_map (λ (global : GlobalKind). Plain global.ty) (slice_get graph.globals g))
    (slice_get regs r) kinds in
    let fits = x.run.fits.globals.each g has.0 there.0 has.1
    (global_kind graph.globals g ∙ there.2) in
    set_there graph world state x.run.function frame (frame.point + 1) r (value_at state.globals g)
    has.0 has.1
    (puts graph world state frame (instr.LoadGlobal at r g) x refl r refl has.0
    (goes_to graph.shapes world.cells has.0 there.0
    (option_map (λ (global : GlobalKind). Plain global.ty) (slice_get graph.globals g))
    (slice_get regs r) fits there.2
    (goes_captured (option_map (λ (global : GlobalKind). Plain global.ty)
    (slice_get graph.globals g))
    (slice_get regs r) kinds)))

pub store_global_fits : (graph : Graph) (world : Referents) (state : State) (frame : Frame)
    (depth at g : ℕ) (s : Operand) → (x : IsAt graph world state frame (instr.StoreGlobal at g s))
    → TopFits graph world state x.run.function frame
    (instr_effect graph state depth frame (frame.point + 1) (instr.StoreGlobal at g s))
unfolding TopFits
store_global_fits graph world state frame depth at g s x =
    let regs = x.run.function.regs in
    let kinds = kinds_at graph world state frame (instr.StoreGlobal at g s) x in
    let operand = operand_at graph world state frame (instr.StoreGlobal at g s) x 0 s refl in
    let went = goes_to graph.shapes world.cells operand.value operand.kind (slice_get regs s.reg)
    (option_map (λ (global : GlobalKind). Plain global.ty) (slice_get graph.globals g)) operand.fits
    operand.is (goes_captured (slice_get regs s.reg)
    (option_map (λ (global : GlobalKind). Plain global.ty) (slice_get graph.globals g)) kinds) in
    let kind_is = global_kind graph.globals g ∙ went.is in
    let inside = slice_get_within (global_kinds graph.globals) g went.kind kind_is in
    let count = x.run.fits.globals.count in
    let old = found_within state.globals g (omega (arith, inside, count)) in
    subst (λ o. TopFits graph world state x.run.function frame
    (needs o (λ v. needs (slice_get state.globals g)
    (λ old. effect.WriteGlobal g v (frame.point + 1))))) (sym operand.has)
    (subst (λ o. TopFits graph world state x.run.function frame
    (needs o (λ old. effect.WriteGlobal g operand.value (frame.point + 1)))) (sym old.1)
    (record {
      kind = went.kind;
      is = kind_is;
      fits = went.has;
      stands = goes_on graph world state frame (instr.StoreGlobal at g s) x refl None refl;
    }))
