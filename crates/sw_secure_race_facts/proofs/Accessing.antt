-- The instruction by which a job makes its next access, and what that names.
use Rattle.std.proofs.Common.{◌≡◌, ◌⊎◌, ℕ, Bool, true, false, cond, Option, Some, None}
use Rattle.std.proofs.Common.{List, length, refl, sym, ap, ◌∙◌, inl, inr}
use Rattle.std.specs.Option.{option_map, option_and_then, is_some}
use Rattle.std.specs.List.{slice_get}
use Rattle.sw_list.proofs.ListLemmas.{some_injective}
use Rattle.sw_graph.specs.declared.function.Function.{Function}
use Rattle.sw_graph.specs.declared.function.GlobalKind.{GlobalKind}
use Rattle.sw_graph.specs.declared.graph.Graph.{Graph}
use Rattle.sw_graph.specs.declared.instr.Instr.{Instr}
use Rattle.sw_graph.specs.declared.instr.Operand.{Operand}
use Rattle.sw_graph.specs.Points.{Point, Middle, End, point_in}
use Rattle.sw_value.specs.declared.cell.HeapCell.{HeapCell}
use Rattle.sw_value.specs.declared.cell.HeapCell.TheVariants as cell
use Rattle.sw_value.specs.declared.frame.Frame.{Frame}
use Rattle.sw_value.specs.declared.job.Job.{Job}
use Rattle.sw_value.specs.declared.race.Access.{Access}
use Rattle.sw_value.specs.declared.race.Place.{Place}
use Rattle.sw_value.specs.declared.race.Place.TheVariants.{Prop, Global, BoxOf}
use Rattle.sw_value.specs.declared.state.State.{State}
use Rattle.sw_value.specs.declared.value.Value.{Value}
use Rattle.sw_value.specs.Access.{access_of, box_at, box_in, frame_access, global_at, is_var_part}
use Rattle.sw_value.specs.Access.{job_access, next_access, part_at, part_in, point_access, var_part}
use Rattle.sw_value.specs.Effect.{effect_of, is_stuck}
use Rattle.sw_value.specs.Frame.{point_at}
use Rattle.sw_value.specs.Job.{is_running, top_frame}
use Rattle.sw_value.specs.Value.{reference_at}
use Rattle.sw_owner_facts.specs.View.{Frame as Spot}
use Rattle.sw_machine_kind_facts.proofs.LawLemmas.{status_is}
use Rattle.sw_view_facts.specs.Standing.{StandsAt}
use Rattle.sw_view_facts.proofs.StandingLemmas.{halts_not, stands_at_top, top_of}

-- ---- the job and its instruction
pub record AccessAt (graph : Graph) (state : State) (j : ℕ) (access : Access) : Type 0 where
  pub q : Spot
  pub is_job : q.job ≡ j
  pub job : Job
  pub frame : Frame
  pub function : Function
  pub instr : Instr
  pub stands : StandsAt graph state q job frame function (Middle instr)
  pub gives : access_of graph state j frame instr ≡ Some access

pub access_at : (graph : Graph) (state : State) (j : ℕ) (access : Access)
    → next_access graph state j ≡ Some access → AccessAt graph state j access
unfolding next_access frame_access point_at
access_at graph state j access e = halted (is_some state.halted) refl e where
  at_point : (job : Job) → slice_get state.jobs j ≡ Some job → is_running job ≡ true
      → (frame : Frame) → top_frame job ≡ Some frame → state.halted ≡ None
      → (function : Function) → slice_get graph.functions frame.function ≡ Some function
      → (o : Option Point) → point_in function frame.point ≡ o
      → option_and_then (point_access graph state j frame) o ≡ Some access
      → AccessAt graph state j access
  at_point job there runs frame top on function is None here e = cc
  at_point job there runs frame top on function is (Some (End last)) here e = cc
  at_point job there runs frame top on function is (Some (Middle instr)) here e = record {
    q = top_of j job;
    is_job = refl;
    job = job;
    frame = frame;
    function = function;
    instr = instr;
    stands = stands_at_top graph state j job there (status_is job runs) frame top on function is
        (Middle instr) here;
    gives = e;
  }

  at_function : (job : Job) → slice_get state.jobs j ≡ Some job → is_running job ≡ true
      → (frame : Frame) → top_frame job ≡ Some frame → state.halted ≡ None
      → (o : Option Function) → slice_get graph.functions frame.function ≡ o
      → option_and_then (point_access graph state j frame)
      (option_and_then (λ (f : Function). point_in f frame.point) o) ≡ Some access
      → AccessAt graph state j access
  at_function job there runs frame top on None is e = cc
  at_function job there runs frame top on (Some function) is e =
      at_point job there runs frame top on function is (point_in function frame.point) refl e

  stuck : (job : Job) → slice_get state.jobs j ≡ Some job → is_running job ≡ true
      → (frame : Frame) → top_frame job ≡ Some frame → state.halted ≡ None → (b : Bool)
      → cond b None (option_and_then (point_access graph state j frame) (point_at graph frame))
      ≡ Some access → AccessAt graph state j access
  stuck job there runs frame top on true e = cc
  stuck job there runs frame top on false e = at_function job there runs frame top on
      (slice_get graph.functions frame.function) refl e

  at_top : (job : Job) → slice_get state.jobs j ≡ Some job → is_running job ≡ true
      → state.halted ≡ None → (o : Option Frame) → top_frame job ≡ o
      → option_and_then (frame_access graph state j (length job.frames)) o ≡ Some access
      → AccessAt graph state j access
  at_top job there runs on None top e = cc
  at_top job there runs on (Some frame) top e = stuck job there runs frame top on
      (is_stuck (effect_of graph state (length job.frames) frame)) e

  running : (job : Job) → slice_get state.jobs j ≡ Some job → state.halted ≡ None → (b : Bool)
      → is_running job ≡ b
      → cond b (option_and_then (frame_access graph state j (length job.frames)) (top_frame job))
      None ≡ Some access → AccessAt graph state j access
  running job there on true runs e = at_top job there runs on (top_frame job) refl e
  running job there on false runs e = cc

  of_job : state.halted ≡ None → (o : Option Job) → slice_get state.jobs j ≡ o
      → option_and_then (job_access graph state j) o ≡ Some access
      → AccessAt graph state j access
  of_job on None there e = cc
  of_job on (Some job) there e = running job there on (is_running job) refl e

  halted : (b : Bool) → is_some state.halted ≡ b
      → cond b None (option_and_then (job_access graph state j) (slice_get state.jobs j))
      ≡ Some access → AccessAt graph state j access
  halted true is e = cc
  halted false is e =
      of_job (halts_not state is) (slice_get state.jobs j) refl e

-- ---- what the instruction names
-- the operand refers to a box
pub record NamesBox (state : State) (f : Frame) (operand : Operand) (place : Place) : Type 0 where
  pub number : ℕ
  pub refers : reference_at f.regs operand ≡ Some number
  pub value : Value
  pub is : slice_get state.cells number ≡ Some (cell.BoxOf value)
  pub place_is : place ≡ BoxOf number

-- the operand refers to an object or an actor, which has a `var` part with that number
pub record NamesPart (graph : Graph) (state : State) (f : Frame) (operand : Operand) (part : ℕ)
    (place : Place) : Type 0 where
  pub number : ℕ
  pub refers : reference_at f.regs operand ≡ Some number
  pub shape : ℕ
  pub parts : List Value
  pub found : HeapCell
  pub is : slice_get state.cells number ≡ Some found
  pub sort : (found ≡ cell.Object shape parts) ⊎ (found ≡ cell.Actor shape parts)
  pub var : is_var_part graph.shapes shape part ≡ true
  pub place_is : place ≡ Prop number part

-- a global that is a `var`
pub record NamesGlobal (graph : Graph) (number : ℕ) (place : Place) : Type 0 where
  pub kind : GlobalKind
  pub is : slice_get graph.globals number ≡ Some kind
  pub mutable : kind.mutable ≡ true
  pub place_is : place ≡ Global number

-- the accesses that are made of places, by reading or by writing
module _ (by : Place → Access) (keeps : (place : Place) → (by place).place ≡ place)
    (access : Access) where
  of_place : (o : Option Place) → option_map by o ≡ Some access → o ≡ Some access.place
  of_place None e = cc
  of_place (Some place) e =
      ap Some (sym (keeps place) ∙ ap (λ (a : Access). a.place) (some_injective e))

  pub names_box : (state : State) (f : Frame) (operand : Operand)
      → option_map by (option_and_then (box_at state) (reference_at f.regs operand)) ≡ Some access
      → NamesBox state f operand access.place
  names_box state f operand e =
      referred (reference_at f.regs operand) refl
      (of_place (option_and_then (box_at state) (reference_at f.regs operand)) e)
    where
      at_cell : (c : ℕ) → reference_at f.regs operand ≡ Some c → (o : Option HeapCell)
          → slice_get state.cells c ≡ o → option_and_then (box_in c) o ≡ Some access.place
          → NamesBox state f operand access.place
      at_cell c refers None is e = cc
      at_cell c refers (Some (cell.BoxOf v)) is e = record {
        number = c;
        refers = refers;
        value = v;
        is = is;
        place_is = sym (some_injective e);
      }
      at_cell c refers (Some (cell.Object k vs)) is e = cc
      at_cell c refers (Some (cell.Actor k vs)) is e = cc
      at_cell c refers (Some (cell.Closure g vs)) is e = cc
      at_cell c refers (Some (cell.TaskOf k)) is e = cc

      referred : (o : Option ℕ) → reference_at f.regs operand ≡ o
          → option_and_then (box_at state) o ≡ Some access.place
          → NamesBox state f operand access.place
      referred None refers e = cc
      referred (Some c) refers e = at_cell c refers (slice_get state.cells c) refl e

  pub names_part : (graph : Graph) (state : State) (f : Frame) (operand : Operand) (part : ℕ)
      → option_map by (option_and_then (part_at graph state part) (reference_at f.regs operand))
      ≡ Some access → NamesPart graph state f operand part access.place
  names_part graph state f operand part e =
      referred (reference_at f.regs operand) refl
      (of_place (option_and_then (part_at graph state part) (reference_at f.regs operand)) e)
    where
      in_parts : (c k : ℕ) (vs : List Value) (h : HeapCell)
          → reference_at f.regs operand ≡ Some c → slice_get state.cells c ≡ Some h
          → (h ≡ cell.Object k vs) ⊎ (h ≡ cell.Actor k vs)
          → var_part graph c part k vs ≡ Some access.place
          → NamesPart graph state f operand part access.place
      in_parts c k vs h refers is sort e = there (slice_get vs part) e where
        mutable : (b : Bool) → is_var_part graph.shapes k part ≡ b
            → cond b (Some (Prop c part)) None ≡ Some access.place
            → NamesPart graph state f operand part access.place
        mutable true var e = record {
          number = c;
          refers = refers;
          shape = k;
          parts = vs;
          found = h;
          is = is;
          sort = sort;
          var = var;
          place_is = sym (some_injective e);
        }
        mutable false var e = cc

        there : (o : Option Value)
            → option_and_then
            (λ (v : Value). cond (is_var_part graph.shapes k part) (Some (Prop c part)) None) o
            ≡ Some access.place → NamesPart graph state f operand part access.place
        there None e = cc
        there (Some v) e = mutable (is_var_part graph.shapes k part) refl e

      at_cell : (c : ℕ) → reference_at f.regs operand ≡ Some c → (o : Option HeapCell)
          → slice_get state.cells c ≡ o
          → option_and_then (part_in graph c part) o ≡ Some access.place
          → NamesPart graph state f operand part access.place
      at_cell c refers None is e = cc
      at_cell c refers (Some (cell.BoxOf v)) is e = cc
      at_cell c refers (Some (cell.Object k vs)) is e =
          in_parts c k vs (cell.Object k vs) refers is (inl refl) e
      at_cell c refers (Some (cell.Actor k vs)) is e =
          in_parts c k vs (cell.Actor k vs) refers is (inr refl) e
      at_cell c refers (Some (cell.Closure g vs)) is e = cc
      at_cell c refers (Some (cell.TaskOf k)) is e = cc

      referred : (o : Option ℕ) → reference_at f.regs operand ≡ o
          → option_and_then (part_at graph state part) o ≡ Some access.place
          → NamesPart graph state f operand part access.place
      referred None refers e = cc
      referred (Some c) refers e = at_cell c refers (slice_get state.cells c) refl e

  pub names_global : (graph : Graph) (number : ℕ)
      → option_map by (global_at graph number) ≡ Some access
      → NamesGlobal graph number access.place
  names_global graph number e =
      there (slice_get graph.globals number) refl (of_place (global_at graph number) e)
    where
      mutable : (kind : GlobalKind) → slice_get graph.globals number ≡ Some kind → (b : Bool)
          → kind.mutable ≡ b → cond b (Some (Global number)) None ≡ Some access.place
          → NamesGlobal graph number access.place
      mutable kind is true var e = record {
        kind = kind;
        is = is;
        mutable = var;
        place_is = sym (some_injective e);
      }
      mutable kind is false var e = cc

      there : (o : Option GlobalKind) → slice_get graph.globals number ≡ o
          → option_and_then
          (λ (kind : GlobalKind). cond kind.mutable (Some (Global number)) None) o
          ≡ Some access.place → NamesGlobal graph number access.place
      there None is e = cc
      there (Some kind) is e = mutable kind is kind.mutable refl e
