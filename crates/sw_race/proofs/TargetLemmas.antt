-- An access is that of the job's target.
use Rattle.std.proofs.Common.{◌≡◌, ℕ, Bool, true, false, cond, Option, Some, None, List, length}
use Rattle.std.proofs.Common.{refl, ap, sym, ◌∙◌}
use Rattle.std.specs.Prelude.{option_and_then, is_some}
use Rattle.std.specs.Option.{option_map}
use Rattle.std.specs.List.{slice_get}
use Rattle.sw_list.proofs.ListLemmas.{some_injective}
use Rattle.sw_graph.specs.declared.graph.Graph.{Graph}
use Rattle.sw_graph.specs.declared.instr.Instr.{Instr}
use Rattle.sw_graph.specs.declared.instr.Instr.TheVariants as instr
use Rattle.sw_graph.specs.Points.{Point, Middle, End}
use Rattle.sw_value.specs.declared.cell.HeapCell.{HeapCell}
use Rattle.sw_value.specs.declared.cell.HeapCell.TheVariants as cell
use Rattle.sw_value.specs.declared.frame.Frame.{Frame}
use Rattle.sw_value.specs.declared.job.Job.{Job}
use Rattle.sw_value.specs.declared.race.Access.{Access}
use Rattle.sw_value.specs.declared.race.Place.{Place}
use Rattle.sw_value.specs.declared.race.Place.TheVariants.{Prop, BoxOf}
use Rattle.sw_value.specs.declared.state.State.{State}
use Rattle.sw_value.specs.declared.value.Value.{Value}
use Rattle.sw_value.specs.Value.{reference_at}
use Rattle.sw_value.specs.Access.{box_in, box_at, is_var_part, var_part, part_in, part_at}
use Rattle.sw_value.specs.Access.{global_at, read_by, write_by, access_of, point_access}
use Rattle.sw_value.specs.Access.{frame_access, job_access, next_access}
use Rattle.sw_value.specs.Effect.{is_stuck, effect_of}
use Rattle.sw_value.specs.Frame.{point_at}
use Rattle.sw_value.specs.Job.{top_frame, is_running}
use Rattle.sw_race.specs.declared.target.Target.{Target}
use Rattle.sw_race.specs.Target.{read_of, write_of, instr_target, point_target, frame_target}
use Rattle.sw_race.specs.Target.{job_target, target_at}

-- what an access names
abbrev target_by : Access → Target
target_by access = record { place = access.place; writes = access.writes }

-- where there is an access, this is its target
abbrev IsTargetOf : Option Access → Option Target → Type 0
IsTargetOf o t = (a : Access) → o ≡ Some a → t ≡ Some (target_by a)

box_names : (state : State) (c : ℕ) (p : Place) → box_at state c ≡ Some p → p ≡ BoxOf c
box_names state c p = by (slice_get state.cells c) where
  by : (o : Option HeapCell) → option_and_then (box_in c) o ≡ Some p → p ≡ BoxOf c
  by None e = cc
  by (Some (cell.BoxOf held)) e = sym (some_injective e)
  by (Some (cell.Object k parts)) e = cc
  by (Some (cell.Actor k parts)) e = cc
  by (Some (cell.Closure f captures)) e = cc
  by (Some (cell.TaskOf j)) e = cc

var_names : (graph : Graph) (c i k : ℕ) (parts : List Value) (p : Place)
    → var_part graph c i k parts ≡ Some p → p ≡ Prop c i
var_names graph c i k parts p = by (slice_get parts i) (is_var_part graph.shapes k i) where
  by : (o : Option Value) (b : Bool)
      → option_and_then (λ _. cond b (Some (Prop c i)) None) o ≡ Some p → p ≡ Prop c i
  by None b e = cc
  by (Some v) true e = sym (some_injective e)
  by (Some v) false e = cc

part_names : (graph : Graph) (state : State) (i c : ℕ) (p : Place)
    → part_at graph state i c ≡ Some p → p ≡ Prop c i
part_names graph state i c p = by (slice_get state.cells c) where
  by : (o : Option HeapCell) → option_and_then (part_in graph c i) o ≡ Some p → p ≡ Prop c i
  by None e = cc
  by (Some (cell.Object k parts)) e = var_names graph c i k parts p e
  by (Some (cell.Actor k parts)) e = var_names graph c i k parts p e
  by (Some (cell.BoxOf held)) e = cc
  by (Some (cell.Closure f captures)) e = cc
  by (Some (cell.TaskOf j)) e = cc

-- an access of a cell names the place that its number gives
cell_target : (make : Place → Access) (target : ℕ → Target) (find : ℕ → Option Place)
    (named : ℕ → Place) → ((c : ℕ) → target c ≡ target_by (make (named c)))
    → ((c : ℕ) (p : Place) → find c ≡ Some p → p ≡ named c) → (o : Option ℕ)
    → IsTargetOf (option_map make (option_and_then find o)) (option_map target o)
cell_target make target find named at names None a e = cc
cell_target make target find named at names (Some c) a e = by (find c) refl e where
  by : (o : Option Place) → find c ≡ o → option_map make o ≡ Some a
      → Some (target c) ≡ Some (target_by a)
  by None is e = cc
  by (Some p) is e =
      let place = names c p is in
      ap Some (at c ∙ ap (λ q. target_by (make q)) (sym place) ∙ ap target_by (some_injective e))

global_target : (make : Place → Access) (target : Place → Target)
    → ((p : Place) → target p ≡ target_by (make p)) → (o : Option Place)
    → IsTargetOf (option_map make o) (option_map target o)
global_target make target at None a e = cc
global_target make target at (Some p) a e = ap Some (at p ∙ ap target_by (some_injective e))

instr_targets : (graph : Graph) (state : State) (j : ℕ) (frame : Frame) (i : Instr)
    → IsTargetOf (access_of graph state j frame i) (instr_target graph frame i)
instr_targets graph state j frame (instr.LoadBox at r b) =
    cell_target (read_by j at) (λ c. read_of (BoxOf c)) (box_at state) BoxOf (λ c. refl)
    (box_names state) (reference_at frame.regs b)
instr_targets graph state j frame (instr.StoreBox at b s) =
    cell_target (write_by j at) (λ c. write_of (BoxOf c)) (box_at state) BoxOf
    (λ c. refl) (box_names state) (reference_at frame.regs b)
instr_targets graph state j frame (instr.LoadProp at r o i) =
    cell_target (read_by j at) (λ c. read_of (Prop c i)) (part_at graph state i) (λ c. Prop c i)
    (λ c. refl) (part_names graph state i) (reference_at frame.regs o)
instr_targets graph state j frame (instr.StoreProp at o i s) =
    cell_target (write_by j at) (λ c. write_of (Prop c i)) (part_at graph state i) (λ c. Prop c i)
    (λ c. refl) (part_names graph state i) (reference_at frame.regs o)
instr_targets graph state j frame (instr.LoadGlobal at r g) =
    global_target (read_by j at) read_of (λ p. refl) (global_at graph g)
instr_targets graph state j frame (instr.StoreGlobal at g s) =
    global_target (write_by j at) write_of (λ p. refl) (global_at graph g)
instr_targets graph state j frame _ = λ a e. cc

point_targets : (graph : Graph) (state : State) (j : ℕ) (frame : Frame) (p : Point)
    → IsTargetOf (point_access graph state j frame p) (point_target graph frame p)
point_targets graph state j frame (Middle i) = instr_targets graph state j frame i
point_targets graph state j frame (End l) = λ a e. cc

both_then : {A : Type 0} (f : A → Option Access) (g : A → Option Target)
    → ((x : A) → IsTargetOf (f x) (g x)) → (o : Option A)
    → IsTargetOf (option_and_then f o) (option_and_then g o)
both_then f g each None a e = cc
both_then f g each (Some x) a e = each x a e

unless_target : (b : Bool) (o : Option Access) (t : Option Target) → IsTargetOf o t
    → IsTargetOf (cond b None o) t
unless_target true o t is a e = cc
unless_target false o t is a e = is a e

if_target : (b : Bool) (o : Option Access) (t : Option Target) → IsTargetOf o t
    → IsTargetOf (cond b o None) (cond b t None)
if_target true o t is a e = is a e
if_target false o t is a e = cc

frame_targets : (graph : Graph) (state : State) (j depth : ℕ) (frame : Frame)
    → IsTargetOf (frame_access graph state j depth frame) (frame_target graph frame)
unfolding frame_access
frame_targets graph state j depth frame =
    unless_target (is_stuck (effect_of graph state depth frame))
    (option_and_then (point_access graph state j frame) (point_at graph frame))
    (frame_target graph frame)
    (both_then (point_access graph state j frame) (point_target graph frame)
    (point_targets graph state j frame) (point_at graph frame))

job_targets : (graph : Graph) (state : State) (j : ℕ) (job : Job)
    → IsTargetOf (job_access graph state j job) (job_target graph job)
job_targets graph state j job =
    if_target (is_running job)
    (option_and_then (frame_access graph state j (length job.frames)) (top_frame job))
    (option_and_then (frame_target graph) (top_frame job))
    (both_then (frame_access graph state j (length job.frames)) (frame_target graph)
    (frame_targets graph state j (length job.frames)) (top_frame job))

-- The next access of a job is of the location that its next instruction names.
pub access_target : (graph : Graph) (state : State) (j : ℕ) (a : Access)
    → next_access graph state j ≡ Some a
    → target_at graph state j ≡ Some (record { place = a.place; writes = a.writes })
unfolding next_access
access_target graph state j =
    unless_target (is_some state.halted)
    (option_and_then (job_access graph state j) (slice_get state.jobs j))
    (target_at graph state j)
    (both_then (job_access graph state j) (job_target graph) (job_targets graph state j)
    (slice_get state.jobs j))
