-- The last instruction of a block is never stuck.
use Rattle.std.proofs.Common.{◌≡◌, ℕ, ◌+◌, ◌<◌, Bool, true, false, cond, Option, Some, None}
use Rattle.std.proofs.Common.{List, length, map, refl, ap, sym, ◌∙◌, subst, arith}
use Rattle.std.specs.Prelude.{option_and_then}
use Rattle.std.specs.Option.{option_map}
use Rattle.std.specs.List.{slice_get}
use Rattle.std.proofs.lemmas.Option.{slice_get_within}
use Rattle.sw_list.proofs.ListLemmas.{some_injective, at_index}
use Rattle.sw_types.specs.declared.shape.Shape.{Shape}
use Rattle.sw_types.specs.declared.shape.CaseShape.{CaseShape}
use Rattle.sw_types.specs.declared.ty.Ty.TheVariants.{outs-Bool}
use Rattle.sw_graph.specs.declared.function.Function.{Function}
use Rattle.sw_graph.specs.declared.function.RegKind.{RegKind}
use Rattle.sw_graph.specs.declared.function.RegKind.TheVariants.{Plain}
use Rattle.sw_graph.specs.declared.graph.Graph.{Graph}
use Rattle.sw_graph.specs.declared.instr.Instr.{Instr}
use Rattle.sw_graph.specs.declared.instr.Instr.TheVariants as instr
use Rattle.sw_graph.specs.declared.instr.Last.{Last}
use Rattle.sw_graph.specs.declared.instr.Last.TheVariants as last
use Rattle.sw_graph.specs.declared.instr.Operand.{Operand}
use Rattle.sw_graph.specs.Kinds.{value, shape_of, is_enum, payload, LastKindsFit}
use Rattle.sw_graph.specs.Mentions.{blocks_of}
use Rattle.sw_graph.specs.Payloads.{PayloadFits}
use Rattle.sw_graph.specs.Points.{Point, Middle, End, point_in, block_start}
use Rattle.sw_value.specs.declared.effect.Effect.TheVariants as effect
use Rattle.sw_value.specs.declared.frame.Frame.{Frame}
use Rattle.sw_value.specs.declared.state.State.{State}
use Rattle.sw_value.specs.declared.value.Value.{Value}
use Rattle.sw_value.specs.declared.value.Value.TheVariants as value
use Rattle.sw_value.specs.Effect.{needs, goto_of, last_effect, point_effect, effect_of}
use Rattle.sw_value.specs.Effect.{instr_effect}
use Rattle.sw_value.specs.Frame.{point_at, start_at}
use Rattle.sw_value.specs.Value.{value_at, operand_value, truth_of, layer_truth, tag_of, layer_tag}
use Rattle.sw_machine_kind_facts.specs.FirstValues.{HasValue}
use Rattle.sw_machine_kind_facts.specs.Kinds.{HasKind, Referents, sort_of, layer_sort}
use Rattle.sw_machine_kind_facts.specs.Standing.{Front}
use Rattle.sw_graph.specs.Sure.{MayTake, point_before, side}
use Rattle.sw_machine_kind_facts.proofs.CallLemmas.{new_closure_fits, call_fits, call_closure_fits}
use Rattle.sw_machine_kind_facts.proofs.CallLemmas.{new_task_fits}
use Rattle.sw_machine_kind_facts.proofs.CallLemmas.{await_fits, yield_fits}
use Rattle.sw_machine_kind_facts.proofs.CellLemmas.{new_object_fits, new_actor_fits, new_box_fits}
use Rattle.sw_machine_kind_facts.proofs.CellLemmas.{load_box_fits}
use Rattle.sw_machine_kind_facts.proofs.CellLemmas.{store_box_fits, load_prop_fits, store_prop_fits}
use Rattle.sw_machine_kind_facts.proofs.CellLemmas.{load_global_fits, store_global_fits}
use Rattle.sw_machine_kind_facts.proofs.ComputeLemmas.{const_fits, un_fits, bin_fits, print_fits, void_has}
use Rattle.sw_machine_kind_facts.proofs.FrameLemmas.{switch_of, stands_jumps}
use Rattle.sw_machine_kind_facts.proofs.ItemLemmas.{found_within}
use Rattle.sw_machine_kind_facts.proofs.KindLemmas.{truth_is, choice_is, sort_enum, goes_to, goes_captured}
use Rattle.sw_machine_kind_facts.proofs.OperandLemmas.{last_fits, last_has}
use Rattle.sw_machine_kind_facts.proofs.PlaceLemmas.{last_at_place, point_there, start_is}
use Rattle.sw_machine_kind_facts.proofs.SureLemmas.{may_branch}
use Rattle.sw_machine_kind_facts.proofs.TopLemmas.{Executes, TopFits, IsAt}
use Rattle.sw_machine_kind_facts.proofs.ValueLemmas.{copy_fits, field_fits, payload_fits, set_field_fits}
use Rattle.sw_machine_kind_facts.proofs.ValueLemmas.{make_fits}

-- the last instruction at which the frame stands
pub record IsAtEnd (graph : Graph) (world : Referents) (state : State) (frame : Frame) (last : Last)
    : Type 0 where
  pub run : Executes graph world state frame
  pub here : point_in run.function frame.point ≡ Some (End last)

-- a switch goes to a case by its number
pub SwitchedBy : List (Option Value) → ℕ → Last → Type 0
SwitchedBy regs k l = (subject : Operand) (blocks : List ℕ) → l ≡ last.Switch subject blocks
    → (v : Value) × (value_at regs subject.reg ≡ Some v) × (tag_of v ≡ Some k)

-- payloads at the front of the block to which it goes have their case
front_after : (graph : Graph) (world : Referents) (state : State) (frame : Frame) (l : Last)
    → (x : IsAtEnd graph world state frame l) → (k number : ℕ)
    → slice_get (blocks_of l) k ≡ Some number → SwitchedBy frame.regs k l
    → Front x.run.function None frame.regs number 0
unfolding SwitchedBy
front_after graph world state frame l x k number leads switched block is at r s i next =
    let run = x.run in
    let place = run.stands.place in
    let payloads = run.well.payloads number block is in
    let fit = at_index (PayloadFits graph.shapes run.function number) block.instrs 0
    (instr.Payload at r s i) payloads.each next in
    let same = last_at_place run.function frame.point place l x.here in
    let from = ap (λ m. slice_get (blocks_of m) k) (sym same) ∙ leads in
    let switch = switch_of graph.shapes run.function number at r s i fit place.number place.block k
    place.is from in
    let value = switched switch.subject switch.to (same ∙ switch.is) in
    record {
      ready = refl;
      source = place.number;
      from = place.block;
      is = place.is;
      tag = k;
      leads = from;
      value = value.0;
      has = ap (value_at frame.regs) (sym switch.same) ∙ value.1;
      tagged = value.2;
    }

goes_to_block : (graph : Graph) (world : Referents) (state : State) (frame : Frame) (l : Last)
    → (x : IsAtEnd graph world state frame l) → (k number : ℕ)
    → slice_get (blocks_of l) k ≡ Some number → SwitchedBy frame.regs k l
    → MayTake l (point_before x.run.function frame.point) k
    → TopFits graph world state x.run.function frame (goto_of graph frame number)
unfolding TopFits start_at
goes_to_block graph world state frame l x k number leads switched may =
    let run = x.run in
    let fits = last_fits graph run.function run.well frame.point run.stands.place l x.here in
    let inside = at_index (λ n. n < length run.function.blocks) (blocks_of l) k number
    fits.blocks_in
    leads in
    let block = found_within run.function.blocks number inside in
    let starts = start_is run.function number block.0 block.1 in
    subst (λ o. TopFits graph world state run.function frame (needs o effect.Goto))
    (sym (ap (option_and_then (λ (function : Function). block_start function number)) run.is ∙
    starts))
    (stands_jumps graph.shapes world.cells run.function frame.point frame.regs l k number _ block.0
    run.stands x.here leads starts block.1
    (front_after graph world state frame l x k number leads switched) may)

kinds_at_end : (graph : Graph) (world : Referents) (state : State) (frame : Frame) (l : Last)
    → (x : IsAtEnd graph world state frame l)
    → LastKindsFit graph.shapes x.run.function.regs x.run.function.result l
kinds_at_end graph world state frame l x =
    (last_fits graph x.run.function x.run.well frame.point x.run.stands.place l x.here).kinds

-- a switch has a block for each case
enum_there : (shapes : List Shape) (o : Option Shape) (count : ℕ)
    → option_map (λ (shape : Shape). length shape.cases) o ≡ Some count
    → (shape : Shape) × (o ≡ Some shape) × (length shape.cases ≡ count)
enum_there shapes None count e = cc
enum_there shapes (Some shape) count e = (shape, refl, some_injective e)

case_within : (shape : Shape) (tag : ℕ) (kinds : List RegKind)
    → payload (Some shape) tag ≡ Some kinds → tag < length shape.cases
case_within shape tag kinds e = by (slice_get shape.cases tag) refl e where
  by : (o : Option CaseShape) → slice_get shape.cases tag ≡ o
      → option_map (λ (case : CaseShape). map Plain case.payload) o ≡ Some kinds
      → tag < length shape.cases
  by None is e = cc
  by (Some case) is e = slice_get_within shape.cases tag case is

jump_plain : (regs : List (Option Value)) (next : ℕ) → SwitchedBy regs 0 (last.Jump next)
unfolding SwitchedBy
jump_plain regs next subject blocks e = absurd (let c : ⊥ = cc in c)

branch_plain : (regs : List (Option Value)) (k : ℕ) (s : Operand) (holds fails : ℕ)
    → SwitchedBy regs k (last.Branch s holds fails)
unfolding SwitchedBy
branch_plain regs k s holds fails subject blocks e = absurd (let c : ⊥ = cc in c)

switch_by : (regs : List (Option Value)) (tag : ℕ) (s : Operand) (to : List ℕ) (v : Value)
    → operand_value regs s ≡ Some v → tag_of v ≡ Some tag
    → SwitchedBy regs tag (last.Switch s to)
unfolding SwitchedBy
switch_by regs tag s to v has tagged subject blocks e =
    let same : s ≡ subject = cc in
    (v, ap (λ (o : Operand). value_at regs o.reg) (sym same) ∙ has, tagged)

branch_goes : (graph : Graph) (world : Referents) (state : State) (frame : Frame) (s : Operand)
    (holds fails : ℕ) → (x : IsAtEnd graph world state frame (last.Branch s holds fails))
    → (b : Bool) → MayTake (last.Branch s holds fails) (point_before x.run.function frame.point)
    (side b)
    → TopFits graph world state x.run.function frame (goto_of graph frame (cond b holds fails))
branch_goes graph world state frame s holds fails x true may =
    goes_to_block graph world state frame (last.Branch s holds fails) x 0 holds refl
    (branch_plain frame.regs 0 s holds fails) may
branch_goes graph world state frame s holds fails x false may =
    goes_to_block graph world state frame (last.Branch s holds fails) x 1 fails refl
    (branch_plain frame.regs 1 s holds fails) may

pub last_effect_fits : (graph : Graph) (world : Referents) (state : State) (frame : Frame)
    (l : Last)
    → (x : IsAtEnd graph world state frame l)
    → TopFits graph world state x.run.function frame (last_effect graph frame l)
unfolding TopFits
last_effect_fits graph world state frame (last.Jump to) x =
    goes_to_block graph world state frame (last.Jump to) x 0 to refl (jump_plain frame.regs to) tt
last_effect_fits graph world state frame (last.Branch s holds fails) x =
    let run = x.run in
    let kinds = kinds_at_end graph world state frame (last.Branch s holds fails) x in
    let operand = last_has graph world.cells run.function run.well frame.point frame.regs run.stands
    (last.Branch s holds fails) x.here 0 s.reg refl in
    let sort : sort_of graph.shapes operand.kind ≡ _ =
    ap (sort_of graph.shapes) (some_injective (sym operand.is ∙ kinds))
    ∙ ap (layer_sort graph.shapes) outs-Bool in
    let truth = truth_is graph.shapes world.cells operand.value operand.kind operand.fits sort in
    subst (λ o. TopFits graph world state run.function frame
    (needs o (λ truth. goto_of graph frame (cond truth holds fails))))
    (sym (ap (option_and_then truth_of) operand.has ∙ ap layer_truth truth.1))
    (branch_goes graph world state frame s holds fails x truth.0
    (may_branch frame.regs s holds fails operand.value truth.0 operand.has truth.1
    (point_before run.function frame.point) run.stands.constant))
last_effect_fits graph world state frame (last.Switch s blocks) x =
    let run = x.run in
    let kinds = kinds_at_end graph world state frame (last.Switch s blocks) x in
    let operand = last_has graph world.cells run.function run.well frame.point frame.regs run.stands
    (last.Switch s blocks) x.here 0 s.reg refl in
    let enum = enum_there graph.shapes
    (shape_of graph.shapes is_enum (slice_get run.function.regs s.reg)) (length blocks) kinds in
    let shape_is = ap (shape_of graph.shapes is_enum) (sym operand.is) ∙ enum.1 in
    let choice = choice_is graph.shapes world.cells operand.value operand.kind operand.fits
    (sort_enum graph.shapes operand.kind enum.0 shape_is) in
    let within = case_within enum.0 choice.tag choice.kinds
    (ap (λ o. payload o choice.tag) (sym shape_is) ∙ choice.are) in
    let block = found_within blocks choice.tag (let count = enum.2 in omega (arith, within, count))
    in
    let tagged = ap layer_tag choice.is in
    subst (λ o. TopFits graph world state run.function frame
    (needs o (λ tag. needs (slice_get blocks tag) (goto_of graph frame))))
    (sym (ap (option_and_then tag_of) operand.has ∙ tagged))
    (subst (λ o. TopFits graph world state run.function frame (needs o (goto_of graph frame)))
    (sym block.1)
    (goes_to_block graph world state frame (last.Switch s blocks) x choice.tag block.0 block.1
    (switch_by frame.regs choice.tag s blocks operand.value operand.has tagged) tt))
last_effect_fits graph world state frame (last.Return None) x =
    let run = x.run in
    let nothing = run.supplied.returns frame.function run.function run.is frame.point
    run.stands.passed run.stands.way x.here in
    subst (λ t. HasKind graph.shapes world.cells value.Unit (Plain t)) (sym nothing)
    (void_has graph.shapes world.cells)
last_effect_fits graph world state frame (last.Return (Some s)) x =
    let run = x.run in
    let kinds = kinds_at_end graph world state frame (last.Return (Some s)) x in
    let operand = last_has graph world.cells run.function run.well frame.point frame.regs run.stands
    (last.Return (Some s)) x.here 0 s.reg refl in
    let went = goes_to graph.shapes world.cells operand.value operand.kind
    (slice_get run.function.regs s.reg) (value run.function.result) operand.fits operand.is
    (goes_captured (slice_get run.function.regs s.reg) (value run.function.result) kinds) in
    subst (λ o. TopFits graph world state run.function frame (needs o effect.Leave))
    (sym operand.has)
    (subst (HasKind graph.shapes world.cells operand.value) (some_injective (sym went.is)) went.has)

-- The next instruction of a running job's top frame has what it needs, where a global that it reads
-- has a value.
abbrev pub ReadsSet : State → Point → Type 0
ReadsSet state point = (at r g : ℕ) → point ≡ Middle (instr.LoadGlobal at r g) → HasValue state g

pub instr_effect_fits : (graph : Graph) (world : Referents) (state : State) (frame : Frame)
    (depth : ℕ)
    (i : Instr) → (x : IsAt graph world state frame i) → ReadsSet state (Middle i)
    → TopFits graph world state x.run.function frame
    (instr_effect graph state depth frame (frame.point + 1) i)
instr_effect_fits graph world state frame depth (instr.Const at r v) x reads =
    const_fits graph world state frame depth at r v x
instr_effect_fits graph world state frame depth (instr.Un at r op s) x reads =
    un_fits graph world state frame depth at r op s x
instr_effect_fits graph world state frame depth (instr.Bin at r op s t) x reads =
    bin_fits graph world state frame depth at r op s t x
instr_effect_fits graph world state frame depth (instr.Print at r ss) x reads =
    print_fits graph world state frame depth at r ss x
instr_effect_fits graph world state frame depth (instr.Copy at r s) x reads =
    copy_fits graph world state frame depth at r s x
instr_effect_fits graph world state frame depth (instr.Field at r s i) x reads =
    field_fits graph world state frame depth at r s i x
instr_effect_fits graph world state frame depth (instr.Payload at r s i) x reads =
    payload_fits graph world state frame depth at r s i x
instr_effect_fits graph world state frame depth (instr.SetField at r i s) x reads =
    set_field_fits graph world state frame depth at r i s x
instr_effect_fits graph world state frame depth (instr.Make at r k tag ss) x reads =
    make_fits graph world state frame depth at r k tag ss x
instr_effect_fits graph world state frame depth (instr.NewObject at r k ss) x reads =
    new_object_fits graph world state frame depth at r k ss x
instr_effect_fits graph world state frame depth (instr.NewBox at r s) x reads =
    new_box_fits graph world state frame depth at r s x
instr_effect_fits graph world state frame depth (instr.NewActor at r k ss) x reads =
    new_actor_fits graph world state frame depth at r k ss x
instr_effect_fits graph world state frame depth (instr.LoadBox at r b) x reads =
    load_box_fits graph world state frame depth at r b x
instr_effect_fits graph world state frame depth (instr.StoreBox at b s) x reads =
    store_box_fits graph world state frame depth at b s x
instr_effect_fits graph world state frame depth (instr.LoadProp at r o i) x reads =
    load_prop_fits graph world state frame depth at r o i x
instr_effect_fits graph world state frame depth (instr.StoreProp at o i s) x reads =
    store_prop_fits graph world state frame depth at o i s x
instr_effect_fits graph world state frame depth (instr.LoadGlobal at r g) x reads =
    load_global_fits graph world state frame depth at r g x (reads at r g refl)
instr_effect_fits graph world state frame depth (instr.StoreGlobal at g s) x reads =
    store_global_fits graph world state frame depth at g s x
instr_effect_fits graph world state frame depth (instr.NewClosure at r f cs) x reads =
    new_closure_fits graph world state frame depth at r f cs x
instr_effect_fits graph world state frame depth (instr.Call at r call f ss) x reads =
    call_fits graph world state frame depth at r call f ss x
instr_effect_fits graph world state frame depth (instr.CallClosure at r c ss) x reads =
    call_closure_fits graph world state frame depth at r c ss x
instr_effect_fits graph world state frame depth (instr.NewTask at r f cs) x reads =
    new_task_fits graph world state frame depth at r f cs x
instr_effect_fits graph world state frame depth (instr.Await at r t) x reads =
    await_fits graph world state frame depth at r t x
instr_effect_fits graph world state frame depth (instr.Yield at r) x reads =
    yield_fits graph world state frame depth at r x

pub effect_fits : (graph : Graph) (world : Referents) (state : State) (frame : Frame) (depth : ℕ)
    → (run : Executes graph world state frame)
    → ((point : Point) → point_in run.function frame.point ≡ Some point → ReadsSet state point)
    → TopFits graph world state run.function frame (effect_of graph state depth frame)
unfolding effect_of point_at
effect_fits graph world state frame depth run reads =
    let there = point_there run.function frame.point run.stands.place in
    subst (λ o. TopFits graph world state run.function frame
    (needs o (point_effect graph state depth frame)))
    (sym (ap (option_and_then (λ (function : Function). point_in function frame.point)) run.is
    ∙ there.1)) (by there.0 there.1) where
      by : (point : Point) → point_in run.function frame.point ≡ Some point
          → TopFits graph world state run.function frame (point_effect graph state depth frame
          point)
      by (Middle i) here = instr_effect_fits graph world state frame depth i
          (record { run = run; here = here }) (reads (Middle i) here)
      by (End l) here = last_effect_fits graph world state frame l
          (record { run = run; here = here })
