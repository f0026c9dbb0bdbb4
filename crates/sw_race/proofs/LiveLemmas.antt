-- The access of an instruction that is not stuck is that of what it needs.
use Rattle.std.proofs.Common.{◌≡◌, ℕ, ◌+◌, Bool, true, false, cond, Option, Some, None, refl, ap}
use Rattle.std.proofs.Common.{sym, ◌∙◌}
use Rattle.std.specs.Prelude.{option_and_then}
use Rattle.std.specs.Option.{option_map}
use Rattle.std.specs.List.{slice_get}
use Rattle.sw_graph.specs.declared.instr.Instr.{Instr}
use Rattle.sw_graph.specs.declared.instr.Instr.TheVariants as instr
use Rattle.sw_graph.specs.declared.instr.Last.{Last}
use Rattle.sw_graph.specs.declared.instr.Operand.{Operand}
use Rattle.sw_graph.specs.declared.graph.Graph.{Graph}
use Rattle.sw_graph.specs.Points.{Middle, End}
use Rattle.sw_value.specs.declared.value.Value.{Value}
use Rattle.sw_value.specs.declared.cell.HeapCell.{HeapCell}
use Rattle.sw_value.specs.declared.cell.HeapCell.TheVariants as cell
use Rattle.sw_value.specs.declared.cell.Slot.{Slot}
use Rattle.sw_value.specs.declared.cell.Slot.TheVariants.{Part, Content}
use Rattle.sw_value.specs.declared.effect.Effect.TheVariants as effect
use Rattle.sw_value.specs.declared.frame.Frame.{Frame}
use Rattle.sw_value.specs.declared.race.Access.{Access}
use Rattle.sw_value.specs.declared.race.Place.{Place}
use Rattle.sw_value.specs.declared.state.State.{State}
use Rattle.sw_value.specs.Cell.{slot_of}
use Rattle.sw_value.specs.Frame.{point_at}
use Rattle.sw_value.specs.Value.{value_at, operand_value, reference_at}
use Rattle.sw_value.specs.Effect.{needs, is_stuck, set_of, loaded, slot_at, slot_write}
use Rattle.sw_value.specs.Effect.{global_write}
use Rattle.sw_value.specs.Effect.{instr_effect, point_effect, effect_of}
use Rattle.sw_value.specs.Access.{box_in, part_in, global_at, read_by, write_by}
use Rattle.sw_value.specs.Access.{access_of, point_access, frame_access}
use Rattle.sw_race.specs.Live.{box_of, var_part_of, live_access}

abbrev unless : Bool → Option Access → Option Access
unless b o = cond b None o

nothing : (b : Bool) → unless b None ≡ None
nothing true = refl
nothing false = refl

-- a load is not stuck where there is a value
load_live : (next r : ℕ) (v : Option Value) (o : Option Access) → (v ≡ None → o ≡ None)
    → unless (is_stuck (set_of next r v)) o ≡ o
load_live next r None o none = sym (none refl)
load_live next r (Some v) o none = refl

-- a box has what it holds, and a `var` part a value
boxed : (c : ℕ) (h : HeapCell) → slot_of Content h ≡ None → box_in c h ≡ None
boxed c (cell.Object k parts) e = refl
boxed c (cell.Actor k parts) e = refl
boxed c (cell.BoxOf v) e = cc
boxed c (cell.Closure f captures) e = refl
boxed c (cell.TaskOf j) e = refl

parted : (graph : Graph) (c i : ℕ) (h : HeapCell) → slot_of (Part i) h ≡ None
    → part_in graph c i h ≡ None
parted graph c i (cell.Object k parts) e = rw e refl
parted graph c i (cell.Actor k parts) e = rw e refl
parted graph c i (cell.BoxOf v) e = refl
parted graph c i (cell.Closure f captures) e = refl
parted graph c i (cell.TaskOf j) e = refl

no_place : (state : State) (slot : Slot) (find : ℕ → HeapCell → Option Place)
    → ((c : ℕ) (h : HeapCell) → slot_of slot h ≡ None → find c h ≡ None) → (o : Option ℕ)
    → option_and_then (slot_of slot) (option_and_then (λ c. slice_get state.cells c) o) ≡ None
    → option_and_then (λ c. option_and_then (find c) (slice_get state.cells c)) o ≡ None
no_place state slot find none None e = refl
no_place state slot find none (Some c) e = by (slice_get state.cells c) e where
  by : (o : Option HeapCell) → option_and_then (slot_of slot) o ≡ None
      → option_and_then (find c) o ≡ None
  by None e = refl
  by (Some h) e = none c h e

no_box : (state : State) (frame : Frame) (b : Operand) → loaded state frame b Content ≡ None
    → box_of state frame b ≡ None
no_box state frame b = no_place state Content box_in boxed (reference_at frame.regs b)

no_var : (graph : Graph) (state : State) (frame : Frame) (o : Operand) (i : ℕ)
    → loaded state frame o (Part i) ≡ None → var_part_of graph state frame o i ≡ None
no_var graph state frame o i =
    no_place state (Part i) (λ c. part_in graph c i) (λ c. parted graph c i)
    (reference_at frame.regs o)

-- a store is not stuck where there is a slot and a value for it
no_slot : (state : State) (slot : Slot) (o : Option ℕ)
    → option_and_then
    (λ c. option_map (λ old. c) (option_and_then (slot_of slot) (slice_get state.cells c))) o
    ≡ None
    → option_and_then (slot_of slot) (option_and_then (λ c. slice_get state.cells c) o) ≡ None
no_slot state slot None e = refl
no_slot state slot (Some c) e =
    by (option_and_then (slot_of slot) (slice_get state.cells c)) e where
      by : (o : Option Value) → option_map (λ old. c) o ≡ None → o ≡ None
      by None e = refl
      by (Some v) e = cc

slot_live : (slot : Slot) (v : Value) (next : ℕ) (o : Option ℕ) (a : Option Access)
    → (o ≡ None → a ≡ None)
    → unless (is_stuck (needs o (λ c. effect.Write c slot v next))) a ≡ a
slot_live slot v next None a none = sym (none refl)
slot_live slot v next (Some c) a none = refl

store_live : (state : State) (frame : Frame) (next : ℕ) (o : Operand) (slot : Slot) (s : Operand)
    (a : Option Access) → (loaded state frame o slot ≡ None → a ≡ None)
    → unless (is_stuck (slot_write state frame next o slot s)) a
    ≡ option_and_then (λ v. a) (operand_value frame.regs s)
store_live state frame next o slot s a none = by (operand_value frame.regs s) where
  by : (v : Option Value)
      → unless
      (is_stuck (needs v
      (λ v. needs (slot_at state frame o slot) (λ c. effect.Write c slot v next))))
      a ≡ option_and_then (λ v. a) v
  by None = refl
  by (Some v) =
      slot_live slot v next (slot_at state frame o slot) a
      (λ e. none (no_slot state slot (reference_at frame.regs o) e))

value_live : (next r : ℕ) (v : Option Value) (a : Option Access)
    → unless (is_stuck (set_of next r v)) a ≡ option_and_then (λ v. a) v
value_live next r None a = refl
value_live next r (Some v) a = refl

global_live : (state : State) (frame : Frame) (next g : ℕ) (s : Operand) (a : Option Access)
    → unless (is_stuck (global_write state frame next g s)) a
    ≡ option_and_then (λ v. option_and_then (λ old. a) (slice_get state.globals g))
    (operand_value frame.regs s)
global_live state frame next g s a =
    by (operand_value frame.regs s) (slice_get state.globals g) where
      by : (v : Option Value) (old : Option (Option Value))
          → unless (is_stuck (needs v (λ v. needs old (λ old. effect.WriteGlobal g v next)))) a
          ≡ option_and_then (λ v. option_and_then (λ old. a) old) v
      by None old = refl
      by (Some v) None = refl
      by (Some v) (Some old) = refl

map_none : (f : Place → Access) (o : Option Place) → o ≡ None → option_map f o ≡ None
map_none f o e = ap (option_map f) e

instr_live : (graph : Graph) (state : State) (j depth : ℕ) (frame : Frame) (next : ℕ) (i : Instr)
    → unless (is_stuck (instr_effect graph state depth frame next i))
    (access_of graph state j frame i) ≡ live_access graph state j frame i
instr_live graph state j depth frame next (instr.LoadBox at r b) =
    load_live next r (loaded state frame b Content)
    (option_map (read_by j at) (box_of state frame b))
    (λ e. map_none (read_by j at) (box_of state frame b) (no_box state frame b e))
instr_live graph state j depth frame next (instr.StoreBox at b s) =
    store_live state frame next b Content s (option_map (write_by j at) (box_of state frame b))
    (λ e. map_none (write_by j at) (box_of state frame b) (no_box state frame b e))
instr_live graph state j depth frame next (instr.LoadProp at r o i) =
    load_live next r (loaded state frame o (Part i))
    (option_map (read_by j at) (var_part_of graph state frame o i))
    (λ e. map_none (read_by j at) (var_part_of graph state frame o i)
    (no_var graph state frame o i e))
instr_live graph state j depth frame next (instr.StoreProp at o i s) =
    store_live state frame next o (Part i) s
    (option_map (write_by j at) (var_part_of graph state frame o i))
    (λ e. map_none (write_by j at) (var_part_of graph state frame o i)
    (no_var graph state frame o i e))
instr_live graph state j depth frame next (instr.LoadGlobal at r g) =
    value_live next r (value_at state.globals g) (option_map (read_by j at) (global_at graph g))
instr_live graph state j depth frame next (instr.StoreGlobal at g s) =
    global_live state frame next g s (option_map (write_by j at) (global_at graph g))
instr_live graph state j depth frame next i =
    nothing (is_stuck (instr_effect graph state depth frame next i))

pub live_none : (graph : Graph) (state : State) (j depth : ℕ) (frame : Frame)
    → point_at graph frame ≡ None → frame_access graph state j depth frame ≡ None
unfolding frame_access effect_of
live_none graph state j depth frame e =
    ap (λ o. unless (is_stuck (needs o (point_effect graph state depth frame)))
    (option_and_then (point_access graph state j frame) o)) e

pub live_middle : (graph : Graph) (state : State) (j depth : ℕ) (frame : Frame) (i : Instr)
    → point_at graph frame ≡ Some (Middle i)
    → frame_access graph state j depth frame ≡ live_access graph state j frame i
unfolding frame_access effect_of
live_middle graph state j depth frame i e =
    ap (λ o. unless (is_stuck (needs o (point_effect graph state depth frame)))
    (option_and_then (point_access graph state j frame) o)) e
    ∙ instr_live graph state j depth frame (frame.point + 1) i

pub live_end : (graph : Graph) (state : State) (j depth : ℕ) (frame : Frame) (l : Last)
    → point_at graph frame ≡ Some (End l) → frame_access graph state j depth frame ≡ None
unfolding frame_access effect_of
live_end graph state j depth frame l e =
    ap (λ o. unless (is_stuck (needs o (point_effect graph state depth frame)))
    (option_and_then (point_access graph state j frame) o)) e
    ∙ nothing (is_stuck (point_effect graph state depth frame (End l)))

pub ruleset lives = (live_none, live_middle, live_end)
