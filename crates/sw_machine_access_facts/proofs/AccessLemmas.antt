-- The next access of a job is of a location, which has a value where the access reads.
use Rattle.std.proofs.Common.{◌≡◌, ℕ, ◌+◌, Bool, true, false, cond, Option, Some, None}
use Rattle.std.proofs.Common.{refl, ap, sym, subst, ◌∙◌}
use Rattle.std.specs.Prelude.{option_and_then, IsSome}
use Rattle.std.specs.Option.{option_map}
use Rattle.std.specs.List.{slice_get}
use Rattle.sw_list.proofs.ListLemmas.{some_injective}
use Rattle.sw_graph.specs.declared.function.GlobalKind.{GlobalKind}
use Rattle.sw_graph.specs.declared.graph.Graph.{Graph}
use Rattle.sw_graph.specs.declared.instr.Instr.{Instr}
use Rattle.sw_graph.specs.declared.instr.Instr.TheVariants as instr
use Rattle.sw_graph.specs.Points.{Point, Middle, End}
use Rattle.sw_value.specs.declared.cell.HeapCell.{HeapCell}
use Rattle.sw_value.specs.declared.cell.HeapCell.TheVariants as cell
use Rattle.sw_value.specs.declared.cell.Slot.{Slot}
use Rattle.sw_value.specs.declared.cell.Slot.TheVariants.{Part, Content}
use Rattle.sw_value.specs.declared.effect.Act.{Act}
use Rattle.sw_value.specs.declared.frame.Frame.{Frame}
use Rattle.sw_value.specs.declared.race.Access.{Access}
use Rattle.sw_value.specs.declared.race.Place.{Place}
use Rattle.sw_value.specs.declared.race.Place.TheVariants.{Prop, Global, BoxOf}
use Rattle.sw_value.specs.declared.state.State.{State}
use Rattle.sw_value.specs.declared.value.Value.{Value}
use Rattle.sw_value.specs.Access.{box_in, box_at, is_var_part, part_in, part_at, global_at, read_by}
use Rattle.sw_value.specs.Access.{write_by, access_of, point_access, next_access}
use Rattle.sw_value.specs.Act.{act_of}
use Rattle.sw_value.specs.Cell.{slot_of}
use Rattle.sw_value.specs.Effect.{is_stuck, set_of, instr_effect, point_effect}
use Rattle.sw_value.specs.Value.{reference_at, value_at}
use Rattle.sw_machine_access_facts.specs.Location.{location_at, IsLocation, content_of}
use Rattle.sw_machine_access_facts.proofs.CellLemmas.{slot_place}
use Rattle.sw_machine_access_facts.proofs.ContentLemmas.{slot_content}
use Rattle.sw_machine_access_facts.proofs.NextLemmas.{Next, next_of}
use Rattle.sw_machine_access_facts.proofs.NextLemmas.{idle, dispatches, wakes, executes}

-- the place that stands for a location is the location itself
names_var : (var : Bool) (c i : ℕ) (q : Place) (o : Option Value)
    → option_and_then (λ _. cond var (Some (Prop c i)) None) o ≡ Some q → Prop c i ≡ q
names_var true c i q (Some v) e = some_injective e
names_var true c i q None e = cc
names_var false c i q (Some v) e = cc
names_var false c i q None e = cc

names_part : (graph : Graph) (c i : ℕ) (q : Place) (o : Option HeapCell)
    → option_and_then (part_in graph c i) o ≡ Some q → Prop c i ≡ q
names_part graph c i q (Some (cell.Object k parts)) e =
    names_var (is_var_part graph.shapes k i) c i q (slice_get parts i) e
names_part graph c i q (Some (cell.Actor k parts)) e =
    names_var (is_var_part graph.shapes k i) c i q (slice_get parts i) e
names_part graph c i q o e = cc

names_box : (c : ℕ) (q : Place) (o : Option HeapCell) → option_and_then (box_in c) o ≡ Some q
    → BoxOf c ≡ q
names_box c q (Some (cell.BoxOf held)) e = some_injective e
names_box c q o e = cc

names_global : (graph : Graph) (g : ℕ) (q : Place) → global_at graph g ≡ Some q → Global g ≡ q
names_global graph g q = by (slice_get graph.globals g) where
  by_kind : (mutable : Bool) → cond mutable (Some (Global g)) None ≡ Some q → Global g ≡ q
  by_kind true e = some_injective e
  by_kind false e = cc

  by : (o : Option GlobalKind) → option_and_then
      (λ kind. cond kind.mutable (Some (Global g)) None) o ≡ Some q → Global g ≡ q
  by None e = cc
  by (Some kind) e = by_kind kind.mutable e

names_itself : (graph : Graph) (state : State) (p q : Place) → location_at graph state p ≡ Some q
    → p ≡ q
names_itself graph state (Prop c i) q e = names_part graph c i q (slice_get state.cells c) e
names_itself graph state (Global g) q e = names_global graph g q e
names_itself graph state (BoxOf c) q e = names_box c q (slice_get state.cells c) e

pub is_location : (graph : Graph) (state : State) (p q : Place)
    → location_at graph state p ≡ Some q → IsLocation graph state q
is_location graph state p q found =
    ap (location_at graph state) (sym (names_itself graph state p q found)) ∙ found

-- an access that is made of a location
located : (graph : Graph) (state : State) (make : Place → Access)
    → ((p : Place) → (make p).place ≡ p) → (o : Option Place)
    → ((p : Place) → o ≡ Some p → IsLocation graph state p) → (a : Access)
    → option_map make o ≡ Some a → IsLocation graph state a.place
located graph state make keeps None is a e = cc
located graph state make keeps (Some p) is a e =
    subst (IsLocation graph state)
    (sym (keeps p) ∙ ap (λ (x : Access). x.place) (some_injective e)) (is p refl)

-- a location that is found by a value
referred : (graph : Graph) (state : State) (find : ℕ → Option Place) (at : ℕ → Place)
    → ((c : ℕ) → find c ≡ location_at graph state (at c)) → (o : Option ℕ) (p : Place)
    → option_and_then find o ≡ Some p → IsLocation graph state p
referred graph state find at is None p e = cc
referred graph state find at is (Some c) p e = is_location graph state (at c) p (sym (is c) ∙ e)

instr_located : (graph : Graph) (state : State) (j : ℕ) (frame : Frame) (i : Instr) (a : Access)
    → access_of graph state j frame i ≡ Some a → IsLocation graph state a.place
instr_located graph state j frame (instr.LoadBox at r b) a e =
    located graph state (read_by j at) (λ p. refl)
    (option_and_then (box_at state) (reference_at frame.regs b))
    (referred graph state (box_at state) BoxOf (λ c. refl) (reference_at frame.regs b)) a e
instr_located graph state j frame (instr.StoreBox at b s) a e =
    located graph state (write_by j at) (λ p. refl)
    (option_and_then (box_at state) (reference_at frame.regs b))
    (referred graph state (box_at state) BoxOf (λ c. refl) (reference_at frame.regs b)) a e
instr_located graph state j frame (instr.LoadProp at r o i) a e =
    located graph state (read_by j at) (λ p. refl)
    (option_and_then (part_at graph state i) (reference_at frame.regs o))
    (referred graph state (part_at graph state i) (λ c. Prop c i) (λ c. refl)
    (reference_at frame.regs o)) a e
instr_located graph state j frame (instr.StoreProp at o i s) a e =
    located graph state (write_by j at) (λ p. refl)
    (option_and_then (part_at graph state i) (reference_at frame.regs o))
    (referred graph state (part_at graph state i) (λ c. Prop c i) (λ c. refl)
    (reference_at frame.regs o)) a e
instr_located graph state j frame (instr.LoadGlobal at r g) a e =
    located graph state (read_by j at) (λ p. refl) (global_at graph g)
    (is_location graph state (Global g)) a e
instr_located graph state j frame (instr.StoreGlobal at g s) a e =
    located graph state (write_by j at) (λ p. refl) (global_at graph g)
    (is_location graph state (Global g)) a e
instr_located graph state j frame i a e = cc

-- a load that is not stuck finds a value
set_has : (next r : ℕ) (o : Option Value) → is_stuck (set_of next r o) ≡ false → IsSome o
set_has next r None free = cc
set_has next r (Some v) free = refl

load_has : (graph : Graph) (state : State) (j at next r : ℕ) (slot : Slot)
    (find : ℕ → Option Place)
    → ((c : ℕ) → find c ≡ location_at graph state (slot_place c slot)) → (reference : Option ℕ)
    (a : Access) → option_map (read_by j at) (option_and_then find reference) ≡ Some a
    → is_stuck (set_of next r (option_and_then (slot_of slot)
    (option_and_then (λ c. slice_get state.cells c) reference))) ≡ false
    → IsSome (content_of state a.place)
load_has graph state j at next r slot find is None a e free = cc
load_has graph state j at next r slot find is (Some c) a e free = by (find c) refl e where
  by : (o : Option Place) → find c ≡ o → option_map (read_by j at) o ≡ Some a
      → IsSome (content_of state a.place)
  by None found e = cc
  by (Some p) found e =
      let place = names_itself graph state (slot_place c slot) p (sym (is c) ∙ found) in
      subst IsSome (sym (slot_content c slot state)
      ∙ ap (content_of state) (place ∙ ap (λ (x : Access). x.place) (some_injective e)))
      (set_has next r (option_and_then (slot_of slot) (slice_get state.cells c)) free)

global_has : (graph : Graph) (state : State) (j at next r g : ℕ) (a : Access)
    → option_map (read_by j at) (global_at graph g) ≡ Some a
    → is_stuck (set_of next r (value_at state.globals g)) ≡ false
    → IsSome (content_of state a.place)
global_has graph state j at next r g a e free = by (global_at graph g) refl e where
  by : (o : Option Place) → global_at graph g ≡ o → option_map (read_by j at) o ≡ Some a
      → IsSome (content_of state a.place)
  by None found e = cc
  by (Some p) found e =
      let place = names_itself graph state (Global g) p found in
      subst IsSome
      (ap (content_of state) (place ∙ ap (λ (x : Access). x.place) (some_injective e)))
      (set_has next r (value_at state.globals g) free)

-- a store makes a write
store_writes : {B : Type 0} (j at : ℕ) (o : Option Place) (a : Access)
    → option_map (write_by j at) o ≡ Some a → a.writes ≡ false → B
store_writes j at None a e reads = cc
store_writes j at (Some p) a e reads =
    let writes : true ≡ a.writes = ap (λ (x : Access). x.writes) (some_injective e) in cc

instr_has : (graph : Graph) (state : State) (j depth next : ℕ) (frame : Frame) (i : Instr)
    (a : Access) → access_of graph state j frame i ≡ Some a → a.writes ≡ false
    → is_stuck (instr_effect graph state depth frame next i) ≡ false
    → IsSome (content_of state a.place)
instr_has graph state j depth next frame (instr.LoadBox at r b) a e reads free =
    load_has graph state j at next r Content (box_at state) (λ c. refl)
    (reference_at frame.regs b) a e free
instr_has graph state j depth next frame (instr.StoreBox at b s) a e reads free =
    store_writes j at (option_and_then (box_at state) (reference_at frame.regs b)) a e reads
instr_has graph state j depth next frame (instr.LoadProp at r o i) a e reads free =
    load_has graph state j at next r (Part i) (part_at graph state i) (λ c. refl)
    (reference_at frame.regs o) a e free
instr_has graph state j depth next frame (instr.StoreProp at o i s) a e reads free =
    store_writes j at (option_and_then (part_at graph state i) (reference_at frame.regs o)) a e
    reads
instr_has graph state j depth next frame (instr.LoadGlobal at r g) a e reads free =
    global_has graph state j at next r g a e free
instr_has graph state j depth next frame (instr.StoreGlobal at g s) a e reads free =
    store_writes j at (global_at graph g) a e reads
instr_has graph state j depth next frame i a e reads free = cc

-- an access of a location, which has a value where the access reads
record IsFound (graph : Graph) (state : State) (a : Access) : Type 0 where
  location : IsLocation graph state a.place
  has : a.writes ≡ false → IsSome (content_of state a.place)

point_found : (graph : Graph) (state : State) (j depth : ℕ) (frame : Frame) (point : Point)
    (a : Access) → is_stuck (point_effect graph state depth frame point) ≡ false
    → point_access graph state j frame point ≡ Some a → IsFound graph state a
point_found graph state j depth frame (Middle i) a free e = record {
  location = instr_located graph state j frame i a e;
  has = λ reads. instr_has graph state j depth (frame.point + 1) frame i a e reads free;
}
point_found graph state j depth frame (End l) a free e = cc

found : (graph : Graph) (state : State) (j : ℕ) (a : Access) (act : Option Act)
    (next : Option Access) → Next graph state j act next → next ≡ Some a → IsFound graph state a
found graph state j a _ _ idle e = cc
found graph state j a _ _ dispatches e = cc
found graph state j a _ _ (wakes ended r v) e = cc
found graph state j a _ _ (executes depth frame point) e =
    by (is_stuck (point_effect graph state depth frame point)) refl e where
      by : (stuck : Bool) → is_stuck (point_effect graph state depth frame point) ≡ stuck
          → cond stuck None (point_access graph state j frame point) ≡ Some a
          → IsFound graph state a
      by true is e = cc
      by false is e = point_found graph state j depth frame point a is e

next_found : (graph : Graph) (state : State) (j : ℕ) (a : Access)
    → next_access graph state j ≡ Some a → IsFound graph state a
next_found graph state j a =
    found graph state j a (act_of graph state j) (next_access graph state j)
    (next_of graph state j)

pub access_location : (graph : Graph) (state : State) (j : ℕ) (a : Access)
    → next_access graph state j ≡ Some a → IsLocation graph state a.place
access_location graph state j a e = (next_found graph state j a e).location

pub access_has : (graph : Graph) (state : State) (j : ℕ) (a : Access)
    → next_access graph state j ≡ Some a → a.writes ≡ false → IsSome (content_of state a.place)
access_has graph state j a e = (next_found graph state j a e).has

-- a part that is there and a box that is there have a value
pub part_has : (graph : Graph) (state : State) (c i : ℕ) → IsLocation graph state (Prop c i)
    → IsSome (content_of state (Prop c i))
part_has graph state c i = by (slice_get state.cells c) where
  by_part : (o : Option Value) (p : Option Place) → option_and_then (λ _. p) o ≡ Some (Prop c i)
      → IsSome o
  by_part None p e = cc
  by_part (Some v) p e = refl

  by : (o : Option HeapCell) → option_and_then (part_in graph c i) o ≡ Some (Prop c i)
      → IsSome (option_and_then (slot_of (Part i)) o)
  by (Some (cell.Object k parts)) e =
      by_part (slice_get parts i) (cond (is_var_part graph.shapes k i) (Some (Prop c i)) None) e
  by (Some (cell.Actor k parts)) e =
      by_part (slice_get parts i) (cond (is_var_part graph.shapes k i) (Some (Prop c i)) None) e
  by o e = cc

pub box_has : (graph : Graph) (state : State) (c : ℕ) → IsLocation graph state (BoxOf c)
    → IsSome (content_of state (BoxOf c))
box_has graph state c = by (slice_get state.cells c) where
  by : (o : Option HeapCell) → option_and_then (box_in c) o ≡ Some (BoxOf c)
      → IsSome (option_and_then (slot_of Content) o)
  by (Some (cell.BoxOf held)) e = refl
  by o e = cc
