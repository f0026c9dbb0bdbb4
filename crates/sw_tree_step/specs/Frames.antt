-- The frames that calls, closures and tasks begin.
use Rattle.std.specs.Prelude.{ℕ, ◌+◌, true, false, List, [], ◌∷◌, ◌++◌, map, Option, Some, None}
use Rattle.std.specs.Prelude.{Bool, if◌then◌else◌, option_and_then, option_map}
use Rattle.sw_types.specs.declared.isolation.CallKind.{CallKind}
use Rattle.sw_types.specs.declared.isolation.Iso.{Iso}
use Rattle.sw_isolation_rules.specs.declared.note.Capture.{Capture}
use Rattle.sw_value.specs.declared.executor.Executor.{Executor}
use Rattle.sw_value.specs.declared.value.Value.{Value}
use Rattle.sw_value.specs.Call.{call_executor, crosses}
use Rattle.sw_value.specs.Executor.{executor_of}
use Rattle.sw_tree_work.specs.Work.{TreeBody, Work}
use Rattle.sw_tree_step.specs.State.{Closed, Direct, Env, Held, Kept, TreeCell, TreeFrame, put}
use Rattle.sw_tree_step.specs.State.{room_of, taken, value_in}

-- the frame of a body that begins, on an executor
abbrev pub begun : Env → Work → Bool → Bool → Executor → TreeFrame
begun env work crossing gives executor = record {
  env = env;
  temps = [];
  work = work;
  loops = [];
  executor = executor;
  crossing = crossing;
  gives = gives;
}

-- The frame of a call of a body with values. A call that crosses leaves its caller's executor: a weak
-- one for the generic executor, a strong one for the callee's, which is the first value's where the
-- body is isolated to `self`.
abbrev pub called : Executor → CallKind → List Value → TreeBody → Option TreeFrame
called caller kind values body =
    option_map (begun (taken body.takes values) body.work (crosses kind) true)
    (call_executor kind caller body.iso (map Some values))

-- A closure runs where it is called.
abbrev pub called_closure : Executor → List Value → TreeCell → Option TreeFrame
called_closure caller values (Kept cell) = None
called_closure caller values (Closed key params body env) =
    Some (begun (env ++ taken params values) body false true caller)

-- What a closure or a task captures, in order: variables that it shares, and values that were read.
abbrev pub hold_shared : ℕ → Env → Option Env → Option Env
hold_shared key env held =
    option_and_then (λ room. option_map (put key room) held) (room_of key env)

abbrev pub hold_value : ℕ → List Value → (List Value → Option Env) → Option Env
hold_value key [] held = None
hold_value key (v ∷ values) held = option_map (put key (Direct v)) (held values)

abbrev pub captures : List Capture → Env → List Value → Option Env
captures [] env values = Some []
captures (one ∷ more) env values =
    if one.by_ref then hold_shared one.variable env (captures more env values)
    else hold_value one.variable values (captures more env)

-- how many of them were read
abbrev pub read_count : List Capture → ℕ
read_count [] = 0
read_count (one ∷ more) = if one.by_ref then read_count more else 1 + read_count more

-- The first frame of a job, or that of a first value. One that is isolated to `self` captures `self`
-- first, and runs on that actor.
abbrev pub first_frame : Iso → Env → Work → Option TreeFrame
first_frame iso env body =
    option_map (begun env body true false)
    (executor_of iso (map (λ (held : Held). Some (value_in held.room)) env))
