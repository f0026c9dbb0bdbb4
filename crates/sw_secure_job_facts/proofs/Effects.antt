-- What stands at a point whose effect takes a frame off or makes a task.
use Rattle.std.specs.Prelude.{nat_le}
use Rattle.std.specs.Option.{option_and_then}
use Rattle.std.specs.List.{slice_get}
use Rattle.std.proofs.Common.{◌≡◌, ◌+◌, ℕ, Bool, true, false, cond, Option, Some, None, List}
use Rattle.std.proofs.Common.{length}
use Rattle.std.proofs.Common.{refl, sym, ap, ◌∙◌}
use Rattle.std.proofs.Common.{Result, Ok, Err}
use Rattle.sw_graph.specs.declared.graph.Graph.{Graph}
use Rattle.sw_graph.specs.declared.instr.Instr.{Instr}
use Rattle.sw_graph.specs.declared.instr.Instr.TheVariants as instr
use Rattle.sw_graph.specs.declared.instr.Last.TheVariants as last
use Rattle.sw_graph.specs.declared.instr.Operand.{Operand}
use Rattle.sw_graph.specs.Points.{Point, Middle, End}
use Rattle.sw_value.specs.declared.cell.Slot.{Slot}
use Rattle.sw_value.specs.declared.cell.Slot.TheVariants.{Part, Content}
use Rattle.sw_value.specs.declared.effect.Effect.{Effect}
use Rattle.sw_value.specs.declared.effect.Effect.TheVariants as effect
use Rattle.sw_value.specs.declared.frame.Frame.{Frame}
use Rattle.sw_value.specs.declared.frame.TheConstants.{MAX_FRAMES}
use Rattle.sw_value.specs.declared.job.TheConstants.{MAX_JOBS}
use Rattle.sw_value.specs.declared.state.State.{State}
use Rattle.sw_value.specs.declared.state.TrapKind.{TrapKind}
use Rattle.sw_value.specs.declared.state.TrapKind.TheVariants.{Frames, Jobs}
use Rattle.sw_value.specs.declared.value.Value.{Value}
use Rattle.sw_value.specs.Arithmetic.{binary, unary}
use Rattle.sw_value.specs.Call.{called_frame, closure_frame}
use Rattle.sw_value.specs.Cell.{task_of}
use Rattle.sw_value.specs.Effect.{cell_at, computed_of, enter_of, field_write, global_write}
use Rattle.sw_value.specs.Effect.{goto_of}
use Rattle.sw_value.specs.Effect.{instr_effect, loaded, needs, point_effect}
use Rattle.sw_value.specs.Effect.{returned_value, set_of, slot_at, slot_write, spawn_of}
use Rattle.sw_value.specs.Frame.{first_frame, start_at}
use Rattle.sw_value.specs.Printed.{printed_line}
use Rattle.sw_value.specs.Value.{field_of, made, operand_value, payload_of, tag_of, truth_of}
use Rattle.sw_value.specs.Value.{value_at, values_at}

abbrev leaves : Effect → Bool
leaves (effect.Leave v) = true
leaves _ = false

abbrev spawns : Effect → Bool
spawns (effect.Spawn r frame made cell next) = true
spawns _ = false

-- neither a return nor a task
pub record IsOther (e : Effect) : Type 0 where
  leave : leaves e ≡ false
  spawn : spawns e ≡ false

needed : {A : Type 0} (o : Option A) (k : A → Effect) → ((x : A) → IsOther (k x))
    → IsOther (needs o k)
needed None k each = record { leave = refl; spawn = refl }
needed (Some x) k each = each x

sets : (next r : ℕ) (o : Option Value) → IsOther (set_of next r o)
sets next r o = needed o (λ v. effect.Set r v next) (λ v. record { leave = refl; spawn = refl })

computed : (next at r : ℕ) (o : Result Value TrapKind) → IsOther (computed_of next at r o)
computed next at r (Ok v) = record { leave = refl; spawn = refl }
computed next at r (Err kind) = record { leave = refl; spawn = refl }

entered : (depth next at : ℕ) (frame : Frame) → IsOther (enter_of depth next at frame)
entered depth next at frame = by (nat_le MAX_FRAMES depth) where
  by : (b : Bool) → IsOther (cond b (effect.Halt Frames at) (effect.Enter frame next))
  by true = record { leave = refl; spawn = refl }
  by false = record { leave = refl; spawn = refl }

spawned : (state : State) (next at r : ℕ) (frame : Frame) → leaves (spawn_of state next at r frame)
    ≡ false
spawned state next at r frame = by (nat_le MAX_JOBS (length state.jobs)) where
  by : (b : Bool) → leaves (cond b (effect.Halt Jobs at)
      (effect.Spawn r frame (length state.jobs) (length state.cells) next)) ≡ false
  by true = refl
  by false = refl

module _ (graph : Graph) (state : State) (depth : ℕ) (f : Frame) where
  slots : (next : ℕ) (o : Operand) (slot : Slot) (s : Operand)
      → IsOther (slot_write state f next o slot s)
  slots next o slot s = needed (operand_value f.regs s) _
      (λ v. needed (slot_at state f o slot) _ (λ c. record { leave = refl; spawn = refl }))

  globals : (next g : ℕ) (s : Operand) → IsOther (global_write state f next g s)
  globals next g s = needed (operand_value f.regs s) _
      (λ v. needed (slice_get state.globals g) _ (λ c. record { leave = refl; spawn = refl }))

  fields : (next : ℕ) (r : Operand) (i : ℕ) (s : Operand) → IsOther (field_write f next r i s)
  fields next r i s = needed (operand_value f.regs s) _
      (λ v. needed (option_and_then (field_of i) (operand_value f.regs r)) _
      (λ c. record { leave = refl; spawn = refl }))

  goes : (block : ℕ) → IsOther (goto_of graph f block)
  goes block = needed (start_at graph f block) _ (λ n. record { leave = refl; spawn = refl })

  abbrev makes_task : Instr → Bool
  makes_task (instr.NewTask at dst number captures) = true
  makes_task _ = false

  others : (next : ℕ) (i : Instr) → makes_task i ≡ false
      → IsOther (instr_effect graph state depth f next i)
  others next (instr.Const at dst literal) never = record { leave = refl; spawn = refl }
  others next (instr.Un at dst op src) never =
      needed (option_and_then (unary op) (operand_value f.regs src)) (computed_of next at dst)
      (computed next at dst)
  others next (instr.Bin at dst op left right) never = needed (operand_value f.regs left) _
      (λ v. needed (option_and_then (binary op v) (operand_value f.regs right))
      (computed_of next at dst) (computed next at dst))
  others next (instr.Print at dst args) never = needed (printed_line f.regs args) _
      (λ line. record { leave = refl; spawn = refl })
  others next (instr.Copy at dst src) never = sets next dst (operand_value f.regs src)
  others next (instr.Field at dst src part) never =
      sets next dst (option_and_then (field_of part) (operand_value f.regs src))
  others next (instr.Payload at dst src index) never =
      sets next dst (option_and_then (payload_of index) (operand_value f.regs src))
  others next (instr.SetField at target part src) never = fields next target part src
  others next (instr.Make at dst shape tag args) never = needed (values_at f.regs args) _
      (λ parts. record { leave = refl; spawn = refl })
  others next (instr.NewObject at dst shape args) never = needed (values_at f.regs args) _
      (λ parts. record { leave = refl; spawn = refl })
  others next (instr.NewBox at dst src) never = needed (operand_value f.regs src) _
      (λ v. record { leave = refl; spawn = refl })
  others next (instr.NewActor at dst shape args) never = needed (values_at f.regs args) _
      (λ parts. record { leave = refl; spawn = refl })
  others next (instr.LoadBox at dst cell) never = sets next dst (loaded state f cell Content)
  others next (instr.StoreBox at cell src) never = slots next cell Content src
  others next (instr.LoadProp at dst cell part) never =
      sets next dst (loaded state f cell (Part part))
  others next (instr.StoreProp at cell part src) never = slots next cell (Part part) src
  others next (instr.LoadGlobal at dst global) never =
      sets next dst (value_at state.globals global)
  others next (instr.StoreGlobal at global src) never = globals next global src
  others next (instr.NewClosure at dst function captures) never =
      needed (values_at f.regs captures) _ (λ values. record { leave = refl; spawn = refl })
  others next (instr.Call at dst kind function args) never = needed (values_at f.regs args) _
      (λ values. needed (called_frame graph f function kind dst values) _
      (entered depth next at))
  others next (instr.CallClosure at dst closure args) never = needed (values_at f.regs args) _
      (λ values. needed (option_and_then (closure_frame graph f dst values)
      (cell_at state f closure)) _ (entered depth next at))
  others next (instr.NewTask at dst number captures) never = cc
  others next (instr.Await at dst task) never = needed (option_and_then task_of (cell_at state f
      task))
      _ (λ job. record { leave = refl; spawn = refl })
  others next (instr.Yield at dst) never = record { leave = refl; spawn = refl }

  task_leaves : (next at dst number : ℕ) (captures : List Operand)
      → leaves (instr_effect graph state depth f next (instr.NewTask at dst number captures))
      ≡ false
  task_leaves next at dst number captures = by (values_at f.regs captures) where
    framed : (o : Option Frame) → leaves (needs o (spawn_of state next at dst)) ≡ false
    framed None = refl
    framed (Some frame) = spawned state next at dst frame

    by : (o : Option (List Value)) → leaves (needs o (λ values.
        needs (first_frame graph number values) (spawn_of state next at dst))) ≡ false
    by None = refl
    by (Some values) = framed (first_frame graph number values)

  instr_leaves : (next : ℕ) (i : Instr) → leaves (instr_effect graph state depth f next i) ≡ false
  instr_leaves next i = by (makes_task i) refl where
    task : (i : Instr) → makes_task i ≡ true
        → leaves (instr_effect graph state depth f next i) ≡ false
    task (instr.NewTask at dst number captures) is = task_leaves next at dst number captures
    task _ is = cc

    by : (b : Bool) → makes_task i ≡ b → leaves (instr_effect graph state depth f next i) ≡ false
    by true is = task i is
    by false is = (others next i is).leave

  -- ---- returns
  -- a point that leaves its frame is a return of the value
  pub leaves_from : (point : Point) (v : Value) → point_effect graph state depth f point
      ≡ effect.Leave v → (operand : Option Operand) × (point ≡ End (last.Return operand))
      × (returned_value f.regs operand ≡ Some v)
  leaves_from (Middle i) v is =
      let clash : true ≡ false = sym (ap leaves is) ∙ instr_leaves (f.point + 1) i in cc
  leaves_from (End (last.Jump to)) v is =
      let clash : true ≡ false = sym (ap leaves is) ∙ (goes to).leave in cc
  leaves_from (End (last.Branch condition holds fails)) v is =
      let clash : true ≡ false = sym (ap leaves is)
      ∙ (needed (option_and_then truth_of (operand_value f.regs condition))
      (λ truth. goto_of graph f (cond truth holds fails))
      (λ truth. goes (cond truth holds fails))).leave in cc
  leaves_from (End (last.Switch subject to)) v is =
      let clash : true ≡ false = sym (ap leaves is)
      ∙ (needed (option_and_then tag_of (operand_value f.regs subject))
      (λ tag. needs (slice_get to tag) (goto_of graph f))
      (λ tag. needed (slice_get to tag) (goto_of graph f) goes)).leave in cc
  leaves_from (End (last.Return operand)) v is =
      (operand, refl, by (returned_value f.regs operand) is)
    where
      by : (o : Option Value) → needs o effect.Leave ≡ effect.Leave v → o ≡ Some v
      by None is = cc
      by (Some w) is = let same : w ≡ v = cc in ap Some same

  -- ---- tasks
  -- What makes a task gives the new job a first frame with the values of the captures.
  pub record SpawnsBy (point : Point) (r : ℕ) (frame : Frame) (made cell next : ℕ) : Type 0 where
    pub at : ℕ
    pub number : ℕ
    pub captures : List Operand
    pub is : point ≡ Middle (instr.NewTask at r number captures)
    pub values : List Value
    pub have : values_at f.regs captures ≡ Some values
    pub first : first_frame graph number values ≡ Some frame
    pub made_is : made ≡ length state.jobs
    pub cell_is : cell ≡ length state.cells
    pub next_is : next ≡ f.point + 1

  spawns_by : (at dst number : ℕ) (captures : List Operand) (r : ℕ) (frame : Frame)
      (made cell next : ℕ) → point_effect graph state depth f
      (Middle (instr.NewTask at dst number captures)) ≡ effect.Spawn r frame made cell next
      → SpawnsBy (Middle (instr.NewTask at dst number captures)) r frame made cell next
  spawns_by at dst number captures r frame made cell next =
      by (values_at f.regs captures) refl
    where
      inner : (values : List Value) → values_at f.regs captures ≡ Some values → (g : Frame)
          → first_frame graph number values ≡ Some g → (b : Bool)
          → cond b (effect.Halt Jobs at) (effect.Spawn dst g (length state.jobs)
          (length state.cells) (f.point + 1)) ≡ effect.Spawn r frame made cell next
          → SpawnsBy (Middle (instr.NewTask at dst number captures)) r frame made cell next
      inner values have g first true is = cc
      inner values have g first false is =
          let same : dst ≡ r = cc in
          let framed : g ≡ frame = cc in record {
            at = at;
            number = number;
            captures = captures;
            is = ap (λ d. Middle (instr.NewTask at d number captures)) same;
            values = values;
            have = have;
            first = first ∙ ap Some framed;
            made_is = cc;
            cell_is = cc;
            next_is = cc;
          }

      framed : (values : List Value) → values_at f.regs captures ≡ Some values
          → (o : Option Frame) → first_frame graph number values ≡ o
          → needs o (spawn_of state (f.point + 1) at dst) ≡ effect.Spawn r frame made cell next
          → SpawnsBy (Middle (instr.NewTask at dst number captures)) r frame made cell next
      framed values have None first is = cc
      framed values have (Some g) first is =
          inner values have g first (nat_le MAX_JOBS (length state.jobs)) is

      by : (o : Option (List Value)) → values_at f.regs captures ≡ o → needs o (λ values.
          needs (first_frame graph number values) (spawn_of state (f.point + 1) at dst))
          ≡ effect.Spawn r frame made cell next
          → SpawnsBy (Middle (instr.NewTask at dst number captures)) r frame made cell next
      by None have is = cc
      by (Some values) have is = framed values have (first_frame graph number values) refl is

  pub spawns_from : (point : Point) (r : ℕ) (frame : Frame) (made cell next : ℕ)
      → point_effect graph state depth f point ≡ effect.Spawn r frame made cell next
      → SpawnsBy point r frame made cell next
  spawns_from (Middle i) r frame made cell next is = by i (makes_task i) refl is where
    task : (i : Instr) → makes_task i ≡ true
        → point_effect graph state depth f (Middle i) ≡ effect.Spawn r frame made cell next
        → SpawnsBy (Middle i) r frame made cell next
    task (instr.NewTask at dst number captures) does is =
        spawns_by at dst number captures r frame made cell next is
    task _ does is = cc

    by : (i : Instr) (b : Bool) → makes_task i ≡ b
        → point_effect graph state depth f (Middle i) ≡ effect.Spawn r frame made cell next
        → SpawnsBy (Middle i) r frame made cell next
    by i true does is = task i does is
    by i false never is =
        let clash : true ≡ false = sym (ap spawns is) ∙ (others (f.point + 1) i never).spawn in cc
  spawns_from (End (last.Jump to)) r frame made cell next is =
      let clash : true ≡ false = sym (ap spawns is) ∙ (goes to).spawn in cc
  spawns_from (End (last.Branch condition holds fails)) r frame made cell next is =
      let clash : true ≡ false = sym (ap spawns is)
      ∙ (needed (option_and_then truth_of (operand_value f.regs condition))
      (λ truth. goto_of graph f (cond truth holds fails))
      (λ truth. goes (cond truth holds fails))).spawn in cc
  spawns_from (End (last.Switch subject to)) r frame made cell next is =
      let clash : true ≡ false = sym (ap spawns is)
      ∙ (needed (option_and_then tag_of (operand_value f.regs subject))
      (λ tag. needs (slice_get to tag) (goto_of graph f))
      (λ tag. needed (slice_get to tag) (goto_of graph f) goes)).spawn in cc
  spawns_from (End (last.Return operand)) r frame made cell next is =
      let clash : true ≡ false = sym (ap spawns is) ∙ by (returned_value f.regs operand) in cc
    where
      by : (o : Option Value) → spawns (needs o effect.Leave) ≡ false
      by None = refl
      by (Some w) = refl
