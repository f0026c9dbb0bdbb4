-- Each effect of values keeps a secure state secure: by the point that has it.
use Rattle.std.proofs.Common.{◌≡◌, ◌+◌, ℕ, Bool, true, false, cond, Option, Some, None}
use Rattle.std.proofs.Common.{List, length, refl, sym, subst, ap, ◌∙◌, nat_le}
use Rattle.std.specs.Option.{option_and_then}
use Rattle.sw_graph.specs.declared.function.Function.{Function}
use Rattle.sw_graph.specs.declared.graph.Graph.{Graph}
use Rattle.sw_graph.specs.declared.instr.Instr.TheVariants.{Const, Un, Bin, Print, Copy, Field}
use Rattle.sw_graph.specs.declared.instr.Instr.TheVariants.{Payload, SetField, Make, NewObject}
use Rattle.sw_graph.specs.declared.instr.Instr.TheVariants.{NewBox, NewActor, LoadBox, StoreBox}
use Rattle.sw_graph.specs.declared.instr.Instr.TheVariants.{LoadProp, StoreProp, LoadGlobal}
use Rattle.sw_graph.specs.declared.instr.Instr.TheVariants.{StoreGlobal, NewClosure, Call}
use Rattle.sw_graph.specs.declared.instr.Instr.TheVariants.{CallClosure, NewTask, Await, Yield}
use Rattle.sw_graph.specs.Points.{End, Middle, Point}
use Rattle.sw_value.specs.declared.cell.HeapCell.TheVariants as cell
use Rattle.sw_value.specs.declared.effect.Effect.{Effect}
use Rattle.sw_value.specs.declared.effect.Effect.TheVariants as effect
use Rattle.sw_value.specs.declared.frame.Frame.{Frame}
use Rattle.sw_value.specs.declared.job.Job.{Job}
use Rattle.sw_value.specs.declared.frame.TheConstants.{MAX_FRAMES}
use Rattle.sw_value.specs.declared.job.TheConstants.{MAX_JOBS}
use Rattle.sw_value.specs.declared.state.State.{State}
use Rattle.sw_value.specs.declared.state.TrapKind.TheVariants.{Frames, Jobs}
use Rattle.sw_value.specs.Call.{called_frame, closure_frame}
use Rattle.sw_value.specs.Effect.{cell_at, enter_of, needs, new_of, point_effect, spawn_of}
use Rattle.sw_value.specs.Frame.{first_frame}
use Rattle.sw_value.specs.Value.{operand_value, values_at}
use Rattle.sw_partition.specs.Regions.{Regions}
use Rattle.sw_owner_facts.specs.View.{Frame as Spot}
use Rattle.sw_view_facts.specs.Standing.{StandsAt}
use Rattle.sw_view_facts.specs.Views.{Colours}
use Rattle.sw_secure_facts.specs.Executing.{Executing, MayJoin, StaysSecure, is_of_values}
use Rattle.sw_secure_facts.specs.Secure.{IsSecure}
use Rattle.sw_secure_value_facts.proofs.Awaiting.{await_kept}
use Rattle.sw_secure_value_facts.proofs.GlobalStores.{global_store_kept}
use Rattle.sw_secure_value_facts.proofs.Joining.{make_kept, set_field_kept}
use Rattle.sw_secure_value_facts.proofs.Keeping.{Keeps}
use Rattle.sw_secure_value_facts.proofs.Reading as reading
use Rattle.sw_secure_value_facts.proofs.Stores.{box_store_kept, part_store_kept}

-- ---- instructions with other effects
never : {A : Type 0} (o : Option A) (e : A → Effect)
    → ((z : A) → is_of_values (e z) ≡ false) → is_of_values (needs o e) ≡ true → ⊥
never None e other is = let clash : ⊥ = cc in clash
never (Some z) e other is = let clash : false ≡ true = sym (other z) ∙ is in
    let w : ⊥ = cc in w

never_needs : {A : Type 0} (o : Option A) (e : A → Effect)
    → ((z : A) → is_of_values (e z) ≡ false) → is_of_values (needs o e) ≡ false
never_needs None e other = refl
never_needs (Some z) e other = other z

-- one of two effects
either : (b : Bool) (one two : Effect) → is_of_values one ≡ false → is_of_values two ≡ false
    → is_of_values (cond b one two) ≡ false
either true one two first second = first
either false one two first second = second

enters : (depth next at : ℕ) (frame : Frame) → is_of_values (enter_of depth next at frame) ≡ false
enters depth next at frame = either (nat_le MAX_FRAMES depth) (effect.Halt Frames at)
    (effect.Enter frame next) refl refl

spawns : (state : State) (next at r : ℕ) (frame : Frame)
    → is_of_values (spawn_of state next at r frame) ≡ false
spawns state next at r frame = either (nat_le MAX_JOBS (length state.jobs)) (effect.Halt Jobs at)
    (effect.Spawn r frame (length state.jobs) (length state.cells) next) refl refl

module _ (graph : Graph) (states : ℕ → List (Option Regions)) (state : State) (colours : Colours)
    (s : IsSecure graph states state colours) (q : Spot) (job : Job) (f : Frame)
    (function : Function) (number : ℕ) where
  kept : (point : Point) → StandsAt graph state q job f function point
      → is_of_values (point_effect graph state (length job.frames) f point) ≡ true
      → Keeps graph states state colours q number f point
      (point_effect graph state (length job.frames) f point)
  kept (Middle (Const at dst l)) x is =
      reading.const_kept graph states state colours s q job f function number at dst l x
  kept (Middle (Un at dst op src)) x is =
      reading.un_kept graph states state colours s q job f function number at dst op src x is
  kept (Middle (Bin at dst op left right)) x is =
      reading.bin_kept graph states state colours s q job f function number at dst op left right x
      is
  kept (Middle (Print at dst args)) x is =
      reading.print_kept graph states state colours s q job f function number at dst args x
  kept (Middle (Copy at dst src)) x is =
      reading.copy_kept graph states state colours s q job f function number at dst src x
  kept (Middle (Field at dst src i)) x is =
      reading.field_kept graph states state colours s q job f function number at dst src i x
  kept (Middle (Payload at dst src i)) x is =
      reading.payload_kept graph states state colours s q job f function number at dst src i x
  kept (Middle (SetField at target i src)) x is =
      set_field_kept graph states state colours s q job f function number at target i src x
  kept (Middle (Make at dst shape tag args)) x is =
      make_kept graph states state colours s q job f function number at dst shape tag args x
  kept (Middle (LoadBox at dst o)) x is =
      reading.box_load_kept graph states state colours s q job f function number at dst o x
  kept (Middle (StoreBox at o src)) x is =
      box_store_kept graph states state colours s q job f function number at o src x
  kept (Middle (LoadProp at dst o i)) x is =
      reading.part_load_kept graph states state colours s q job f function number at dst o i x
  kept (Middle (StoreProp at o i src)) x is =
      part_store_kept graph states state colours s q job f function number at o i src x
  kept (Middle (LoadGlobal at dst g)) x is =
      reading.global_load_kept graph states state colours s q job f function number at dst g x
  kept (Middle (StoreGlobal at g src)) x is =
      global_store_kept graph states state colours s q job f function number at g src x
  kept (Middle (Await at dst task)) x is =
      await_kept graph states state colours s q job f function number at dst task x
  kept (Middle (Yield at dst)) x is =
      reading.yield_kept graph states state colours s q job f function number at dst x
  kept (End l) x is = reading.last_kept graph states state colours s q job f function number l x is
  kept (Middle (NewObject at dst shape args)) x is = absurd (never (values_at f.regs args)
      (λ parts. new_of state (f.point + 1) dst (cell.Object shape parts)) (λ z. refl) is)
  kept (Middle (NewBox at dst src)) x is = absurd (never (operand_value f.regs src)
      (λ v. new_of state (f.point + 1) dst (cell.BoxOf v)) (λ z. refl) is)
  kept (Middle (NewActor at dst shape args)) x is = absurd (never (values_at f.regs args)
      (λ parts. new_of state (f.point + 1) dst (cell.Actor shape parts)) (λ z. refl) is)
  kept (Middle (NewClosure at dst g captures)) x is = absurd (never (values_at f.regs captures)
      (λ values. new_of state (f.point + 1) dst (cell.Closure g values)) (λ z. refl) is)
  kept (Middle (Call at dst kind g args)) x is = absurd (never (values_at f.regs args)
      (λ values. needs (called_frame graph f g kind dst values)
      (enter_of (length job.frames) (f.point + 1) at))
      (λ values. never_needs (called_frame graph f g kind dst values)
      (enter_of (length job.frames) (f.point + 1) at)
      (enters (length job.frames) (f.point + 1) at)) is)
  kept (Middle (CallClosure at dst closure args)) x is = absurd (never (values_at f.regs args)
      (λ values. needs (option_and_then (closure_frame graph f dst values) (cell_at state f
      closure))
      (enter_of (length job.frames) (f.point + 1) at))
      (λ values. never_needs
      (option_and_then (closure_frame graph f dst values) (cell_at state f closure))
      (enter_of (length job.frames) (f.point + 1) at)
      (enters (length job.frames) (f.point + 1) at)) is)
  kept (Middle (NewTask at dst g captures)) x is = absurd (never (values_at f.regs captures)
      (λ values. needs (first_frame graph g values) (spawn_of state (f.point + 1) at dst))
      (λ values. never_needs (first_frame graph g values) (spawn_of state (f.point + 1) at dst)
      (spawns state (f.point + 1) at dst)) is)

module _ (graph : Graph) (states : ℕ → List (Option Regions)) (state : State) (colours : Colours)
    (q : Spot) (number : ℕ) (job : Job) (f : Frame) (function : Function) (point : Point)
    (e : Effect) (x : Executing graph states state colours q number job f function point e)
    (is : is_of_values e ≡ true) where
  keeps : Keeps graph states state colours q number f point e
  keeps = subst (Keeps graph states state colours q number f point) x.gives
      (kept graph states state colours x.secure q job f function number point x.stands
      (ap is_of_values x.gives ∙ is))

  pub stays : StaysSecure graph states state colours q number f point e
  stays = keeps.stays

  pub joins : MayJoin graph state colours q number f point e
  joins = keeps.joins
