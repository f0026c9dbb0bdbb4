-- What a frame was before an act of its job: a frame at the same depth that the act turns into it,
-- or nothing where the frame is put on top.
use Rattle.std.proofs.Common.{◌≡◌, ℕ, ◌-◌, ◌⊎◌, inl, inr, Bool, true, false, cond, Option, Some, None}
use Rattle.std.proofs.Common.{List, [], ◌∷◌, length, take, Contains, refl, ap, sym, ◌∙◌, subst}
use Rattle.std.specs.Prelude.{◌==◌}
use Rattle.std.specs.Option.{option_map}
use Rattle.std.specs.List.{slice_get}
use Rattle.sw_list.proofs.ListLemmas.{some_injective}
use Rattle.sw_value.specs.declared.effect.Act.{Act}
use Rattle.sw_value.specs.declared.effect.Act.TheVariants.{Dispatch, Wake, Execute}
use Rattle.sw_value.specs.declared.effect.Effect.TheVariants as effect
use Rattle.sw_value.specs.declared.frame.Frame.{Frame}
use Rattle.sw_value.specs.declared.frame.TheConstants.{NO_REGISTER}
use Rattle.sw_value.specs.declared.job.Job.{Job}
use Rattle.sw_value.specs.declared.job.Status.{Status}
use Rattle.sw_value.specs.declared.value.Value.{Value}
use Rattle.sw_value.specs.declared.value.Value.TheVariants as value
use Rattle.sw_value.specs.Frame.{set_register, finish_instr, go_on, set_field, take_result}
use Rattle.sw_value.specs.Job.{top_frame, in_top, dispatch, wake, enter, wait, rest, return_to}
use Rattle.sw_value.specs.Job.{return_from, leave}
use Rattle.sw_value.specs.Lists.{changed_at}
use Rattle.sw_value.specs.Value.{with_field}
use Rattle.sw_machine_kind_facts.proofs.ItemLemmas.{at_end}
use Rattle.sw_reach_facts.specs.Reached.{references}
use Rattle.sw_machine_name_facts.specs.Given.{ActGives, made_cell}
use Rattle.sw_machine_name_facts.specs.Names.{RegistersName}
use Rattle.sw_machine_name_facts.proofs.Items.{of_changed, of_set, of_taken}
use Rattle.sw_machine_name_facts.proofs.Jobs.{changed, begun_frame}
use Rattle.sw_machine_name_facts.proofs.Parts.{void_names, reference_names, with_field_names}

-- an act gives the name, or makes the cell
abbrev pub Brings : Act → ℕ → Type 0
Brings act k = ActGives act k ⊎ (made_cell act ≡ Some k)

-- the act may turn one frame into the other
pub record Turns (act : Act) (old now : Frame) : Type 0 where
  pub function : now.function ≡ old.function
  pub executor : now.executor ≡ old.executor
  pub names : (k : ℕ) → RegistersName now.regs k → RegistersName old.regs k ⊎ Brings act k

-- a frame after an act
pub data FrameAfter (job : Job) (act : Act) (depth : ℕ) (frame : Frame) : Type 0 where
  turns : (old : Frame) → slice_get job.frames depth ≡ Some old → Turns act old frame
      → FrameAfter job act depth frame
  entered : begun_frame act ≡ Some frame → FrameAfter job act depth frame

-- ---- changes of registers
same_turns : (act : Act) (frame : Frame) → Turns act frame frame
same_turns act frame = record { function = refl; executor = refl; names = λ k n. inl n }

abbrev Given : Act → Value → Type 0
Given act v = (k : ℕ) → Contains (references v) k → Brings act k

register_names : (act : Act) (r : ℕ) (v : Value) (frame : Frame) → Given act v → (k : ℕ)
    → RegistersName (set_register r v frame).regs k → RegistersName frame.regs k ⊎ Brings act k
unfolding set_register
register_names act r v frame given k n =
    elim (of_set frame.regs r n.register (Some v) (Some n.value) n.has) [
      | inl was ↦
          inl (record { register = n.register; value = n.value; has = was; names = n.names })
      | inr (here, is) ↦
          inr (given k (subst (λ w. Contains (references w) k) (sym (some_injective is)) n.names))
    ]

register_turns : (act : Act) (r : ℕ) (v : Value) (frame : Frame) → Given act v
    → Turns act frame (set_register r v frame)
unfolding set_register
register_turns act r v frame given = record {
  function = refl;
  executor = refl;
  names = register_names act r v frame given;
}

instr_turns : (act : Act) (r : ℕ) (v : Value) (next : ℕ) (frame : Frame) → Given act v
    → Turns act frame (finish_instr r v next frame)
unfolding finish_instr set_register
instr_turns act r v next frame given = record {
  function = refl;
  executor = refl;
  names = register_names act r v frame given;
}

goes_on : (act : Act) (next : ℕ) (frame : Frame) → Turns act frame (go_on next frame)
unfolding go_on
goes_on act next frame = record { function = refl; executor = refl; names = λ k n. inl n }

field_turns : (act : Act) (r i : ℕ) (v : Value) (next : ℕ) (frame : Frame) → Given act v
    → Turns act frame (set_field r i v next frame)
unfolding set_field
field_turns act r i v next frame given = record { function = refl; executor = refl; names = by } where
  part : (k s : ℕ) (value : Value) (old : Option Value) → slice_get frame.regs s ≡ Some old
      → option_map (with_field i v) old ≡ Some value → Contains (references value) k
      → RegistersName frame.regs k ⊎ Brings act k
  part k s value None was is names = cc
  part k s value (Some u) was is names =
      elim (with_field_names i v u k
      (subst (λ w. Contains (references w) k) (sym (some_injective is)) names)) [
        | inl whole ↦ inl (record { register = s; value = u; has = was; names = whole })
        | inr new ↦ inr (given k new)
      ]

  by : (k : ℕ) → RegistersName (changed_at (option_map (with_field i v)) r frame.regs) k
      → RegistersName frame.regs k ⊎ Brings act k
  by k n =
      elim (of_changed (option_map (with_field i v)) r n.register frame.regs (Some n.value) n.has) [
        | inl was ↦
            inl (record { register = n.register; value = n.value; has = was; names = n.names })
        | inr w ↦ part k n.register n.value w.old w.was w.is n.names
      ]

result_turns : (act : Act) (r : ℕ) (v : Value) (frame : Frame) → Given act v
    → Turns act frame (take_result r v frame)
unfolding take_result
result_turns act r v frame given = by (r == NO_REGISTER) where
  by : (b : Bool) → Turns act frame (cond b frame (set_register r v frame))
  by true = same_turns act frame
  by false = register_turns act r v frame given

-- ---- changes of a job
top_after : (act : Act) (g : Frame → Frame) (job : Job) (at depth : ℕ) (frame : Frame)
    → ((old : Frame) → Turns act old (g old))
    → slice_get (changed_at g at job.frames) depth ≡ Some frame → FrameAfter job act depth frame
top_after act g job at depth frame t here = elim (of_changed g at depth job.frames frame here) [
  | inl was ↦ turns frame was (same_turns act frame)
  | inr w ↦ turns w.old w.was (subst (Turns act w.old) w.is (t w.old))
]

unit_given : (act : Act) → Given act value.Unit
unit_given act k has = absurd (void_names k has)

cell_given : (act : Act) (c : ℕ) → made_cell act ≡ Some c → Given act (value.Cell c)
cell_given act c is k has = inr (is ∙ ap Some (reference_names c k has))

entered_after : (job : Job) (new : Frame) (next depth : ℕ) (frame : Frame)
    → slice_get (enter new next job).frames depth ≡ Some frame
    → FrameAfter job (Execute (effect.Enter new next)) depth frame
unfolding enter
entered_after job new next depth frame at =
    elim (at_end (changed_at (go_on next) (length job.frames - 1) job.frames) new frame depth at) [
      | inl was ↦
          top_after (Execute (effect.Enter new next)) (go_on next) job (length job.frames - 1)
          depth frame (goes_on (Execute (effect.Enter new next)) next) was
      | inr (here, is) ↦ entered (ap Some (sym is))
    ]

left_after : (v : Value) (job : Job) (depth : ℕ) (frame : Frame)
    → slice_get (leave v job).frames depth ≡ Some frame
    → FrameAfter job (Execute (effect.Leave v)) depth frame
unfolding leave
left_after v job depth frame = by (top_frame job) where
  given : Given (Execute (effect.Leave v)) v
  given k has = inl has

  below : (top : Frame) (fs : List Frame) (status : Status)
      → ((d : ℕ) (f : Frame) → slice_get fs d ≡ Some f → slice_get job.frames d ≡ Some f)
      → slice_get (return_to fs top v status).frames depth ≡ Some frame
      → FrameAfter job (Execute (effect.Leave v)) depth frame
  below top [] status old at = cc
  below top (f ∷ fs) status old at =
      elim (of_changed (take_result top.result v) (length fs) depth (f ∷ fs) frame at) [
        | inl was ↦ turns frame (old depth frame was) (same_turns (Execute (effect.Leave v)) frame)
        | inr w ↦
            turns w.old (old depth w.old w.was)
            (subst (Turns (Execute (effect.Leave v)) w.old) w.is
            (result_turns (Execute (effect.Leave v)) top.result v w.old given))
      ]

  by : (o : Option Frame) → slice_get (return_from o v job).frames depth ≡ Some frame
      → FrameAfter job (Execute (effect.Leave v)) depth frame
  by None at = turns frame at (same_turns (Execute (effect.Leave v)) frame)
  by (Some top) at =
      below top (take (length job.frames - 1) job.frames) job.status
      (of_taken (length job.frames - 1) job.frames) at

-- an instruction that gives a register a value
set_after : (act : Act) (r : ℕ) (v : Value) (next : ℕ) (job : Job) (depth : ℕ) (frame : Frame)
    → Given act v
    → slice_get (in_top (finish_instr r v next) job).frames depth ≡ Some frame
    → FrameAfter job act depth frame
unfolding in_top
set_after act r v next job depth frame given =
    top_after act (finish_instr r v next) job (length job.frames - 1) depth frame
    (λ old. instr_turns act r v next old given)

-- one that gives none
on_after : (act : Act) (next : ℕ) (job : Job) (depth : ℕ) (frame : Frame)
    → slice_get (in_top (go_on next) job).frames depth ≡ Some frame
    → FrameAfter job act depth frame
unfolding in_top
on_after act next job depth frame =
    top_after act (go_on next) job (length job.frames - 1) depth frame (goes_on act next)

pub frame_after : (act : Act) (job : Job) (depth : ℕ) (frame : Frame)
    → slice_get (changed act job).frames depth ≡ Some frame → FrameAfter job act depth frame
unfolding in_top dispatch wake wait rest
frame_after Dispatch job depth frame at = turns frame at (same_turns Dispatch frame)
frame_after (Wake ended r v) job depth frame at =
    top_after (Wake ended r v) (set_register r v) job (length job.frames - 1) depth frame
    (λ old. register_turns (Wake ended r v) r v old (λ k has. inl has)) at
frame_after (Execute (effect.Set r v next)) job depth frame at =
    set_after (Execute (effect.Set r v next)) r v next job depth frame (λ k has. inl has) at
frame_after (Execute (effect.SetField r i v next)) job depth frame at =
    top_after (Execute (effect.SetField r i v next)) (set_field r i v next) job
    (length job.frames - 1) depth frame
    (λ old. field_turns (Execute (effect.SetField r i v next)) r i v next old (λ k has. inl has)) at
frame_after (Execute (effect.Print r line next)) job depth frame at =
    set_after (Execute (effect.Print r line next)) r value.Unit next job depth frame
    (unit_given (Execute (effect.Print r line next))) at
frame_after (Execute (effect.New r h number next)) job depth frame at =
    set_after (Execute (effect.New r h number next)) r (value.Cell number) next job depth frame
    (cell_given (Execute (effect.New r h number next)) number refl) at
frame_after (Execute (effect.Write c slot v next)) job depth frame at =
    on_after (Execute (effect.Write c slot v next)) next job depth frame at
frame_after (Execute (effect.WriteGlobal g v next)) job depth frame at =
    on_after (Execute (effect.WriteGlobal g v next)) next job depth frame at
frame_after (Execute (effect.Goto next)) job depth frame at =
    on_after (Execute (effect.Goto next)) next job depth frame at
frame_after (Execute (effect.Enter new next)) job depth frame at =
    entered_after job new next depth frame at
frame_after (Execute (effect.Wait on r next)) job depth frame at =
    on_after (Execute (effect.Wait on r next)) next job depth frame at
frame_after (Execute (effect.Rest r next)) job depth frame at =
    set_after (Execute (effect.Rest r next)) r value.Unit next job depth frame
    (unit_given (Execute (effect.Rest r next))) at
frame_after (Execute (effect.Spawn r new task c next)) job depth frame at =
    set_after (Execute (effect.Spawn r new task c next)) r (value.Cell c) next job depth frame
    (cell_given (Execute (effect.Spawn r new task c next)) c refl) at
frame_after (Execute (effect.Leave v)) job depth frame at = left_after v job depth frame at
frame_after (Execute (effect.Halt kind byte)) job depth frame at =
    turns frame at (same_turns (Execute (effect.Halt kind byte)) frame)
frame_after (Execute effect.Stuck) job depth frame at =
    turns frame at (same_turns (Execute effect.Stuck) frame)
