-- What a frame of the tree accesses next, the frame of the graph that matches it accesses next.
use Rattle.std.proofs.Common.{◌≡◌, ℕ, Bool, true, false, Option, Some, None, List, [], ◌∷◌, map, refl, ap, sym}
use Rattle.std.proofs.Common.{◌∙◌, subst}
use Rattle.std.proofs.lemmas.Option.{same_Some, slice_get-map}
use Rattle.std.specs.Prelude.{slice_get, option_and_then, option_map, if◌then◌else◌}
use Rattle.sw_types.specs.declared.shape.Shape.{Shape}
use Rattle.sw_graph.specs.Points.{point_in}
use Rattle.sw_graph.specs.declared.function.Function.{Function}
use Rattle.sw_graph.specs.declared.function.GlobalKind.{GlobalKind}
use Rattle.sw_graph.specs.declared.graph.Graph.{Graph}
use Rattle.sw_graph.specs.declared.instr.Instr.{Instr}
use Rattle.sw_graph.specs.declared.instr.Instr.TheVariants as instr
use Rattle.sw_graph.specs.declared.instr.Operand.{Operand}
use Rattle.sw_decls.specs.declared.signature.GlobalVar.{GlobalVar}
use Rattle.sw_typing_rules.specs.Worlds.{World}
use Rattle.sw_lower_plans.specs.declared.bound.Bound.{Bound}
use Rattle.sw_lower_rules.specs.Bodies.{global_kind}
use Rattle.sw_value.specs.declared.cell.HeapCell.{HeapCell}
use Rattle.sw_value.specs.declared.cell.HeapCell.TheVariants as cell
use Rattle.sw_value.specs.declared.frame.Frame.{Frame}
use Rattle.sw_value.specs.declared.race.Place.{Place}
use Rattle.sw_value.specs.declared.race.Place.TheVariants.{Global, Prop}
use Rattle.sw_value.specs.declared.state.State.{State}
use Rattle.sw_value.specs.declared.value.Value.{Value}
use Rattle.sw_value.specs.declared.value.Value.TheVariants as value
use Rattle.sw_value.specs.Access as graphs
use Rattle.sw_value.specs.Access.{access_of, point_access, read_by, write_by}
use Rattle.sw_value.specs.Frame.{point_at}
use Rattle.sw_value.specs.Value.{layer_reference, reference_at, reference_of, value_at}
use Rattle.sw_tree_work.specs.Work as work
use Rattle.sw_tree_work.specs.Work.{Act, Work}
use Rattle.sw_tree_step.specs.Acting.{kept_at}
use Rattle.sw_tree_step.specs.State.{Direct, Env, InBox, Room, TreeState, room_of}
use Rattle.sw_tree_step.specs.Working.{Settled, settle, settle_read}
use Rattle.sw_spots.specs.Spots.{ActAt, IsInstr, Program, ReadAt, Ring, Spot, Stands, StoreAt}
use Rattle.sw_tree_same.specs.Frames.{AreTemps, AreVars, IsAt, IsRoom}
use Rattle.sw_tree_same.specs.States.{StatesMatch}
use Rattle.sw_tree_same.proofs.Cells.{kept_same}
use Rattle.sw_tree_same.proofs.Places.{instr_there}
use Rattle.sw_tree_race.specs.Racing.{TreeAccess, box_in, box_of, global_of}
use Rattle.sw_tree_race.specs.Racing.{part_in, part_of, read_of, work_access, write_of}

module _ (world : World) (p : Program) (graph : Graph) (trees : TreeState) (state : State)
    (m : StatesMatch p graph trees state) (shapes_are : graph.shapes ≡ world.shapes)
    (globals_are : graph.globals ≡ map global_kind world.globals) (j : ℕ) (frame : Frame)
    (env : Env) (function : Function) (rings : List Ring) (block index : ℕ)
    (at : IsAt graph frame function block index) (vars : List Bound)
    (are_vars : AreVars frame.regs env vars) where
  -- the spot of the instruction
  abbrev here : List ℕ → Spot
  here temps = record { block = block; index = index; vars = vars; temps = temps }

  -- The frame of the graph is about to make this access.
  pub record IsNext (access : TreeAccess) : Type 0 where
    pub offset : ℕ
    pub is : option_and_then (point_access graph state j frame) (point_at graph frame)
        ≡ Some (record { job = j; at = offset; place = access.place; writes = access.writes })

  abbrev NextAfter : Option TreeAccess → Type 0
  NextAfter found = (access : TreeAccess) → found ≡ Some access → IsNext access

  -- the instruction at which the frame stands
  stands_at : (temps : List ℕ) (one : Instr) → IsInstr function (here temps) one
      → option_and_then (point_access graph state j frame) (point_at graph frame)
      ≡ access_of graph state j frame one
  unfolding point_at
  stands_at temps one is =
      ap (option_and_then (point_access graph state j frame))
      (ap (option_and_then (λ (one : Function). point_in one frame.point)) at.is
      ∙ instr_there graph state 0 frame function (here temps) at one is)

  -- what a read and a write of a place are
  reads_place : (temps : List ℕ) (one : Instr) (place : ℕ) (found : Option Place)
      → IsInstr function (here temps) one
      → access_of graph state j frame one ≡ option_map (read_by j place) found
      → NextAfter (option_map read_of found)
  reads_place temps one place None is same access next = cc
  reads_place temps one place (Some where_it) is same access next =
      subst IsNext (same_Some (read_of where_it) access next)
      (record { offset = place; is = stands_at temps one is ∙ same })

  writes_place : (temps : List ℕ) (one : Instr) (place : ℕ) (found : Option Place)
      → IsInstr function (here temps) one
      → access_of graph state j frame one ≡ option_map (write_by j place) found
      → NextAfter (option_map write_of found)
  writes_place temps one place None is same access next = cc
  writes_place temps one place (Some where_it) is same access next =
      subst IsNext (same_Some (write_of where_it) access next)
      (record { offset = place; is = stands_at temps one is ∙ same })

  -- Boxes, properties and global variables are the same on both machines.
  no_box : (c number : ℕ) (values : List Value) → box_in c (cell.Closure number values) ≡ None
  no_box c number values = refl

  box_cell : (c : ℕ) (one : HeapCell) → graphs.box_in c one ≡ box_in c one
  box_cell c (cell.BoxOf held) = refl
  box_cell c (cell.Object k parts) = refl
  box_cell c (cell.Actor k parts) = refl
  box_cell c (cell.Closure number values) = refl
  box_cell c (cell.TaskOf job) = refl

  box_found : (c : ℕ) (found : Option HeapCell)
      → option_and_then (graphs.box_in c) found ≡ option_and_then (box_in c) found
  box_found c None = refl
  box_found c (Some one) = box_cell c one

  box_same : (c : ℕ) → graphs.box_at state c ≡ option_and_then (box_in c) (kept_at trees c)
  box_same c =
      box_found c (slice_get state.cells c)
      ∙ sym (kept_same (box_in c) (no_box c) p graph trees state m c)

  no_part : (c i number : ℕ) (values : List Value)
      → part_in world c i (cell.Closure number values) ≡ None
  no_part c i number values = refl

  part_cell : (c i : ℕ) (one : HeapCell) → graphs.part_in graph c i one ≡ part_in world c i one
  part_cell c i (cell.Object k parts) =
      ap (λ (shapes : List Shape). option_and_then
      (λ (v : Value). if graphs.is_var_part shapes k i then Some (Prop c i) else None)
      (slice_get parts i)) shapes_are
  part_cell c i (cell.Actor k parts) =
      ap (λ (shapes : List Shape). option_and_then
      (λ (v : Value). if graphs.is_var_part shapes k i then Some (Prop c i) else None)
      (slice_get parts i)) shapes_are
  part_cell c i (cell.BoxOf held) = refl
  part_cell c i (cell.Closure number values) = refl
  part_cell c i (cell.TaskOf job) = refl

  part_found : (c i : ℕ) (found : Option HeapCell)
      → option_and_then (graphs.part_in graph c i) found ≡ option_and_then (part_in world c i) found
  part_found c i None = refl
  part_found c i (Some one) = part_cell c i one

  part_same : (i c : ℕ)
      → graphs.part_at graph state i c ≡ option_and_then (part_in world c i) (kept_at trees c)
  part_same i c =
      part_found c i (slice_get state.cells c)
      ∙ sym (kept_same (part_in world c i) (no_part c i) p graph trees state m c)

  global_same : (g : ℕ) → graphs.global_at graph g ≡ global_of world g
  global_same g =
      ap (λ (globals : List GlobalKind). option_and_then
      (λ (kind : GlobalKind). if kind.mutable then Some (Global g) else None) (slice_get globals g))
      globals_are
      ∙ ap (option_and_then
      (λ (kind : GlobalKind). if kind.mutable then Some (Global g) else None))
      (slice_get-map global_kind world.globals g)
      ∙ by (slice_get world.globals g) where
        by : (found : Option GlobalVar) → option_and_then
            (λ (kind : GlobalKind). if kind.mutable then Some (Global g) else None)
            (option_map global_kind found)
            ≡ option_and_then
            (λ (global : GlobalVar). if global.mutable then Some (Global g) else None) found
        by None = refl
        by (Some global) = refl

  -- what an operand refers to
  refers : (o : Operand) (r : ℕ) (v : Value) → o.reg ≡ r → value_at frame.regs r ≡ Some v
      → reference_at frame.regs o ≡ reference_of v
  refers o r v same has = ap (option_and_then reference_of) (ap (value_at frame.regs) same ∙ has)

  -- the property of what an operand refers to
  part_by : (i : ℕ) (o : Operand) (r : ℕ) (v : Value) → o.reg ≡ r → value_at frame.regs r ≡ Some v
      → option_and_then (graphs.part_at graph state i) (reference_at frame.regs o)
      ≡ part_of world trees i v
  part_by i o r v same has =
      ap (option_and_then (graphs.part_at graph state i)) (refers o r v same has) ∙ by (reference_of v)
    where
      by : (found : Option ℕ) → option_and_then (graphs.part_at graph state i) found
          ≡ option_and_then (λ c. option_and_then (part_in world c i) (kept_at trees c)) found
      by None = refl
      by (Some c) = part_same i c

  -- the box of an operand
  box_by : (c : ℕ) (o : Operand) (r : ℕ) → o.reg ≡ r → value_at frame.regs r ≡ Some (value.Cell c)
      → option_and_then (graphs.box_at state) (reference_at frame.regs o)
      ≡ option_and_then (box_in c) (kept_at trees c)
  box_by c o r same has =
      ap (option_and_then (graphs.box_at state)) (refers o r (value.Cell c) same has ∙ refers_to c)
      ∙ box_same c where
        refers_to : (c : ℕ) → reference_of (value.Cell c) ≡ Some c
        refers_to c = ap layer_reference (value.outs-Cell c)

  -- What work accesses after all that takes no step.
  abbrev After : Settled → Type 0
  After x = NextAfter (work_access world x.work trees env x.temps)

  abbrev GoesOn : Work → Type 0
  GoesOn rest = (temps : List Value) (numbers : List ℕ) → AreTemps frame.regs temps numbers
      → Stands p rest function rings (here numbers) → After (settle rest env temps)

  abbrev Acts : Act → Work → Type 0
  Acts act rest = (temps : List Value) (numbers : List ℕ) → AreTemps frame.regs temps numbers
      → ActAt p act function (here numbers) (λ next. Stands p rest function rings next)
      → After (settle (work.Then act rest) env temps)

  none_next : NextAfter None
  none_next access next = cc

  read_next : (key : ℕ) (rest : Work) → GoesOn rest → Acts (work.Read key) rest
  read_next key rest go temps numbers are act =
      let has = are_vars key act.0 act.1 in
      subst (λ room. After (settle_read room temps (work.Then (work.Read key) rest)
      (settle rest env))) (sym has.found) (by has.room has.found has.is act.0.boxed refl act.2) where
        by : (room : Room) → room_of key env ≡ Some room → IsRoom frame.regs act.0 room
            → (boxed : Bool) → act.0.boxed ≡ boxed
            → ReadAt function (here numbers) (λ next. Stands p rest function rings next) act.0 boxed
            → After (settle_read (Some room) temps (work.Then (work.Read key) rest) (settle rest env))
        by (Direct v) found is false plain stands =
            go (v ∷ temps) (act.0.reg ∷ numbers) (is.1, are) stands
        by (InBox c) found is true boxed stands =
            let at = stands.0 in
            let gives = stands.1.2 in
            subst (λ room. NextAfter (option_map read_of (box_of trees room))) (sym found)
            (reads_place numbers (instr.LoadBox at gives.r stands.1.0) at
            (option_and_then (box_in c) (kept_at trees c)) gives.is
            (ap (option_map (read_by j at)) (box_by c stands.1.0 act.0.reg stands.1.1 is.1)))
        by (Direct v) found is true boxed stands =
            absurd (let no : ⊥ = (let wrong : false ≡ true = is.0 ∙ boxed in cc) in no)
        by (InBox c) found is false plain stands =
            absurd (let no : ⊥ = (let wrong : true ≡ false = is.0 ∙ plain in cc) in no)

  store_next : (key : ℕ) (rest : Work) → Acts (work.Store key) rest
  store_next key rest (v ∷ temps) (s ∷ numbers) are act =
      let bound = act.1 in
      let has = are_vars key bound act.2 in
      subst (λ room. NextAfter (option_map write_of (box_of trees room))) (sym has.found)
      (by has.room has.is bound.boxed refl act.4) where
        by : (room : Room) → IsRoom frame.regs act.1 room → (boxed : Bool) → act.1.boxed ≡ boxed
            → StoreAt function (here (s ∷ numbers)) s
            (λ next. Stands p rest function rings next) act.1 boxed
            → NextAfter (option_map write_of (box_of trees (Some room)))
        by (Direct v) is false plain stands = none_next
        by (InBox c) is true boxed stands =
            let at = stands.0 in
            let from = stands.1 in
            let box = from.2 in
            writes_place (s ∷ numbers) (instr.StoreBox at box.0 from.0) at
            (option_and_then (box_in c) (kept_at trees c)) box.2.0
            (ap (option_map (write_by j at)) (box_by c box.0 act.1.reg box.1 is.1))
        by (Direct v) is true boxed stands = none_next
        by (InBox c) is false plain stands =
            absurd (let no : ⊥ = (let wrong : true ≡ false = is.0 ∙ plain in cc) in no)
  store_next key rest [] [] are act = absurd act
  store_next key rest [] (s ∷ numbers) are act = absurd are
  store_next key rest (v ∷ temps) [] are act = absurd are

  load_part_next : (i : ℕ) (rest : Work) → Acts (work.LoadPart i) rest
  load_part_next i rest (v ∷ temps) (s ∷ numbers) are act =
      let at = act.0 in
      let gives = act.1.2 in
      reads_place (s ∷ numbers) (instr.LoadProp at gives.r act.1.0 i) at (part_of world trees i v)
      gives.is (ap (option_map (read_by j at)) (part_by i act.1.0 s v act.1.1 are.0))
  load_part_next i rest [] [] are act = absurd act
  load_part_next i rest [] (s ∷ numbers) are act = absurd are
  load_part_next i rest (v ∷ temps) [] are act = absurd are

  store_part_next : (i : ℕ) (rest : Work) → Acts (work.StorePart i) rest
  store_part_next i rest (holder ∷ v ∷ temps) (k ∷ s ∷ numbers) are act =
      let at = act.0 in
      let into = act.1 in
      let from = into.2 in
      writes_place (k ∷ s ∷ numbers) (instr.StoreProp at into.0 i from.0) at
      (part_of world trees i holder) from.2.0
      (ap (option_map (write_by j at)) (part_by i into.0 k holder into.1 are.0))
  store_part_next i rest [] [] are act = absurd act
  store_part_next i rest [] (s ∷ numbers) are act = absurd are
  store_part_next i rest (v ∷ temps) [] are act = absurd are
  store_part_next i rest (v ∷ []) (s ∷ []) are act = absurd act
  store_part_next i rest (v ∷ []) (s ∷ t ∷ numbers) are act = absurd are.1
  store_part_next i rest (v ∷ w ∷ temps) (s ∷ []) are act = absurd are.1

  load_global_next : (g : ℕ) (rest : Work) → Acts (work.LoadGlobal g) rest
  load_global_next g rest temps numbers are act =
      let at = act.0 in
      reads_place numbers (instr.LoadGlobal at act.1.r g) at (global_of world g) act.1.is
      (ap (option_map (read_by j at)) (global_same g))

  store_global_next : (g : ℕ) (rest : Work) → Acts (work.StoreGlobal g) rest
  store_global_next g rest (v ∷ temps) (s ∷ numbers) are act =
      let at = act.0 in
      let from = act.1 in
      writes_place (s ∷ numbers) (instr.StoreGlobal at g from.0) at (global_of world g) from.2.0
      (ap (option_map (write_by j at)) (global_same g))
  store_global_next g rest [] [] are act = absurd act
  store_global_next g rest [] (s ∷ numbers) are act = absurd are
  store_global_next g rest (v ∷ temps) [] are act = absurd are

  drop_next : (rest : Work) → GoesOn rest → Acts work.Drop rest
  drop_next rest go (v ∷ temps) (s ∷ numbers) are act = go temps numbers are.1 act
  drop_next rest go [] [] are act = absurd act
  drop_next rest go [] (s ∷ numbers) are act = absurd are
  drop_next rest go (v ∷ temps) [] are act = absurd are

  swap_next : (rest : Work) → GoesOn rest → Acts work.Swap rest
  swap_next rest go (w ∷ v ∷ temps) (t ∷ s ∷ numbers) are act =
      go (v ∷ w ∷ temps) (s ∷ t ∷ numbers) (are.1.0, (are.0, are.1.1)) act
  swap_next rest go [] [] are act = absurd act
  swap_next rest go [] (s ∷ numbers) are act = absurd are
  swap_next rest go (v ∷ temps) [] are act = absurd are
  swap_next rest go (w ∷ []) (t ∷ []) are act = absurd act
  swap_next rest go (w ∷ []) (t ∷ s ∷ numbers) are act = absurd are.1
  swap_next rest go (w ∷ v ∷ temps) (t ∷ []) are act = absurd are.1

  act_next : (act : Act) (rest : Work) → GoesOn rest → Acts act rest
  act_next (work.Read key) rest go temps numbers are act =
      read_next key rest go temps numbers are act
  act_next work.Drop rest go temps numbers are act =
      drop_next rest go temps numbers are act
  act_next work.Swap rest go temps numbers are act =
      swap_next rest go temps numbers are act
  act_next (work.Store key) rest go temps numbers are act =
      store_next key rest temps numbers are act
  act_next (work.LoadPart i) rest go temps numbers are act =
      load_part_next i rest temps numbers are act
  act_next (work.StorePart i) rest go temps numbers are act =
      store_part_next i rest temps numbers are act
  act_next (work.LoadGlobal g) rest go temps numbers are act =
      load_global_next g rest temps numbers are act
  act_next (work.StoreGlobal g) rest go temps numbers are act =
      store_global_next g rest temps numbers are act
  act_next (work.Literal v) rest go temps numbers are stands = none_next
  act_next work.Keep rest go temps numbers are stands = none_next
  act_next work.Replace rest go temps numbers are stands = none_next
  act_next (work.Unary at op) rest go temps numbers are stands = none_next
  act_next (work.Binary at op) rest go temps numbers are stands = none_next
  act_next (work.Print count) rest go temps numbers are stands = none_next
  act_next (work.Field i) rest go temps numbers are stands = none_next
  act_next (work.SetField i) rest go temps numbers are stands = none_next
  act_next (work.Make tag count) rest go temps numbers are stands = none_next
  act_next (work.Declare key boxed) rest go temps numbers are stands = none_next
  act_next (work.Payload key i) rest go temps numbers are stands = none_next
  act_next (work.New number shape names) rest go temps numbers are stands = none_next
  act_next (work.Call at kind name count) rest go temps numbers are stands = none_next
  act_next (work.CallClosure at count) rest go temps numbers are stands = none_next
  act_next work.Await rest go temps numbers are stands = none_next
  act_next work.Yield rest go temps numbers are stands = none_next

  -- What work accesses next, its instruction does.
  pub nexts : (w : Work) → GoesOn w
  nexts (work.Then act rest) temps numbers are stands =
      act_next act rest (nexts rest) temps numbers are stands
  nexts (work.Close key caps params body rest) temps numbers are stands = none_next
  nexts (work.Spawn at how caps body rest) temps numbers are stands = none_next
  nexts (work.Test one other) temps numbers are stands = none_next
  nexts (work.Switch cases ways) temps numbers are stands = none_next
  nexts (work.Jump rest) temps numbers are stands = none_next
  nexts (work.Loop cond body rest) temps numbers are stands = none_next
  nexts work.Decide temps numbers are stands = none_next
  nexts work.Again temps numbers are stands = none_next
  nexts work.Leave temps numbers are stands = none_next
  nexts work.Return temps numbers are stands = none_next
  nexts work.Finish temps numbers are stands = none_next
  nexts (work.Case name way others) temps numbers are stands = absurd stands
  nexts (work.Otherwise way) temps numbers are stands = absurd stands
  nexts work.Unknown temps numbers are stands = absurd stands
