-- What a frame does in one step.
use Rattle.std.specs.Prelude.{ℕ, nat_le, Bool, true, false, List, [], ◌∷◌, Option, Some, None}
use Rattle.std.specs.Prelude.{length, slice_get, option_and_then, ◌==◌, if◌then◌else◌}
use Rattle.sw_types.specs.declared.shape.CaseShape.{CaseShape}
use Rattle.sw_value.specs.declared.job.TheConstants.{MAX_JOBS}
use Rattle.sw_value.specs.declared.state.TrapKind.TheVariants.{Jobs}
use Rattle.sw_value.specs.declared.value.Value.{Value}
use Rattle.sw_value.specs.declared.value.Value.TheVariants as value
use Rattle.sw_value.specs.Value.{tag_of, truth_of}
use Rattle.sw_tree_work.specs.Bodies.{Bodies}
use Rattle.sw_tree_work.specs.Work as work
use Rattle.sw_tree_work.specs.Work.{Act, Work}
use Rattle.sw_tree_step.specs.Acting.{Done, Leaves, Quiet, Spawns, act_done, adds, besides, halts}
use Rattle.sw_tree_step.specs.Acting.{one_of, with_newest}
use Rattle.sw_tree_step.specs.Frames.{captures, first_frame, read_count}
use Rattle.sw_tree_step.specs.State.{Closed, Direct, Env, Going, Room, TreeFrame, TreeState, room_of}

-- What takes no step: to read a variable that is in no box, and to put temporaries in order. It is
-- done before the next act.
pub record Settled : Type 0 where
  pub temps : List Value
  pub work : Work

abbrev pub settled : List Value → Work → Settled
settled temps work = record { temps = temps; work = work }

abbrev pub settle_read : Option Room → List Value → Work → (List Value → Settled) → Settled
settle_read (Some (Direct v)) temps now go = go (v ∷ temps)
settle_read _ temps now go = settled temps now

abbrev pub settle_drop : List Value → Work → (List Value → Settled) → Settled
settle_drop [] now go = settled [] now
settle_drop (v ∷ temps) now go = go temps

abbrev pub settle_swap : List Value → Work → (List Value → Settled) → Settled
settle_swap (v ∷ w ∷ temps) now go = go (w ∷ v ∷ temps)
settle_swap temps now go = settled temps now

abbrev pub settle_act : Act → Env → List Value → Work → (List Value → Settled) → Settled
settle_act (work.Read key) env temps now go = settle_read (room_of key env) temps now go
settle_act work.Drop env temps now go = settle_drop temps now go
settle_act work.Swap env temps now go = settle_swap temps now go
settle_act _ env temps now go = settled temps now

abbrev pub settle : Work → Env → List Value → Settled
settle (work.Then act rest) env temps =
    settle_act act env temps (work.Then act rest) (settle rest env)
settle other env temps = settled temps other

-- a task is made with the next job's number and the next cell's, unless there are all the jobs that
-- there may be
abbrev pub spawns : TreeState → ℕ → List Value → Work → TreeFrame → TreeFrame → Option Done
spawns state at temps rest frame bottom =
    if nat_le MAX_JOBS (length state.jobs) then halts Jobs at frame
    else besides (Spawns bottom) (value.Cell (length state.cells) ∷ temps) rest frame

-- the way of the first case with a name, else the last way
abbrev pub chosen : ℕ → Work → Work
chosen name (work.Case one way others) = if one == name then way else chosen name others
chosen name (work.Otherwise way) = way
chosen name _ = work.Unknown

-- other work goes on, inside of these loops
abbrev pub goes : Work → List Going → List Value → TreeFrame → Option Done
goes next loops temps frame = Some (record {
  frame = record frame { temps = temps; work = next; loops = loops };
  outside = Quiet;
})

-- the innermost loop, and those around it
abbrev pub in_loop : List Going → (Going → List Going → Option Done) → Option Done
in_loop [] done = None
in_loop (one ∷ loops) done = done one loops

abbrev pub decided : Going → List Going → List Value → TreeFrame → Bool → Option Done
decided one loops temps frame true = goes one.body (one ∷ loops) temps frame
decided one loops temps frame false = goes one.rest loops temps frame

-- What a frame at this depth does with its work and these temporaries.
abbrev pub work_done : Work → Bodies → TreeState → ℕ → TreeFrame → List Value → Option Done
work_done (work.Then act rest) bodies state depth frame temps =
    act_done act bodies state depth frame rest temps
work_done (work.Close key caps params body rest) bodies state depth frame temps =
    with_newest (read_count caps) temps (λ values temps. option_and_then
    (λ env. adds state (Closed key params body env) temps rest frame)
    (captures caps frame.env values))
work_done (work.Spawn at iso caps body rest) bodies state depth frame temps =
    with_newest (read_count caps) temps (λ values temps. option_and_then
    (spawns state at temps rest frame)
    (option_and_then (λ env. first_frame iso env body) (captures caps frame.env values)))
work_done (work.Test one other) bodies state depth frame temps = one_of temps (λ v temps.
    option_and_then (λ holds. goes (if holds then one else other) frame.loops temps frame)
    (truth_of v))
work_done (work.Switch cases ways) bodies state depth frame temps = one_of temps (λ v more.
    option_and_then (λ (one : CaseShape). goes (chosen one.name ways) frame.loops temps frame)
    (option_and_then (slice_get cases) (tag_of v)))
work_done (work.Case name way others) bodies state depth frame temps = None
work_done (work.Otherwise way) bodies state depth frame temps = None
work_done (work.Jump rest) bodies state depth frame temps = goes rest frame.loops temps frame
work_done (work.Loop cond body rest) bodies state depth frame temps =
    goes cond (record { cond = cond; body = body; rest = rest } ∷ frame.loops) temps frame
work_done work.Decide bodies state depth frame temps = one_of temps (λ v temps.
    in_loop frame.loops (λ one loops. option_and_then (decided one loops temps frame) (truth_of v)))
work_done work.Again bodies state depth frame temps =
    in_loop frame.loops (λ one loops. goes one.cond (one ∷ loops) temps frame)
work_done work.Leave bodies state depth frame temps =
    in_loop frame.loops (λ one loops. goes one.rest loops temps frame)
work_done work.Return bodies state depth frame temps =
    one_of temps (λ v temps. Some (record { frame = frame; outside = Leaves v }))
work_done work.Finish bodies state depth frame temps =
    Some (record { frame = frame; outside = Leaves value.Unit })
work_done work.Unknown bodies state depth frame temps = None

-- What a frame does in one step: what takes none is done first. None where it lacks what its work
-- needs.
abbrev pub frame_done : Bodies → TreeState → ℕ → TreeFrame → Option Done
frame_done bodies state depth frame =
    let now = settle frame.work frame.env frame.temps in
    work_done now.work bodies state depth frame now.temps
