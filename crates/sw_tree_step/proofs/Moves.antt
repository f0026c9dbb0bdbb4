-- What moves say of the state after them, and of their events.
use Rattle.std.proofs.Common.{◌≡◌, refl, ap, sym, subst, ℕ, ◌+◌, Option, Some, None}
use Rattle.std.proofs.Common.{length, arith}
use Rattle.std.proofs.lemmas.Option.{slice_get_past}
use Rattle.std.specs.Prelude.{slice_get, is_some, option_and_then, if◌then◌else◌}
use Rattle.sw_value.specs.declared.state.TrapKind.{TrapKind}
use Rattle.sw_step.specs.declared.event.Event.{Event}
use Rattle.sw_step.specs.declared.event.Event.TheVariants as event
use Rattle.sw_tree_work.specs.Bodies.{Bodies}
use Rattle.sw_tree_step.specs.Acting.{Adds, Enters, Halts, Leaves, Outside, Prints, Quiet}
use Rattle.sw_tree_step.specs.Acting.{Rests, Spawns, Waits, Writes, WritesGlobal}
use Rattle.sw_tree_step.specs.State.{TreeJob, TreeState}
use Rattle.sw_tree_step.specs.Step.{Dispatches, Does, Move, Wakes, after, event_by}
use Rattle.sw_tree_step.specs.Step.{move_by, move_of, outside_after, outside_event, tree_event_of}
use Rattle.sw_tree_step.specs.Step.{tree_step_of}

-- a halted machine makes no move
pub no_move_of_halted : (bodies : Bodies) (state : TreeState) (j : ℕ) (trap : TrapKind × ℕ)
    → state.halted ≡ Some trap → move_of bodies state j ≡ None
unfolding move_of
no_move_of_halted bodies state j trap is = ap
    (λ (halted : Option (TrapKind × ℕ)). if is_some halted then None
    else option_and_then (λ (job : TreeJob). move_by job.status bodies state job.frames)
    (slice_get state.jobs j)) is

pub stays : (bodies : Bodies) (state : TreeState) (j : ℕ) → move_of bodies state j ≡ None
    → tree_step_of bodies state j ≡ state
unfolding tree_step_of
stays bodies state j is = ap (λ move. after move j state) is

pub silent : (bodies : Bodies) (state : TreeState) (j : ℕ) → move_of bodies state j ≡ None
    → tree_event_of bodies state j ≡ event.Nothing
unfolding tree_event_of
silent bodies state j is = ap event_by is

-- what a job may do, if the machine isn't halted
abbrev move_if : Option (TrapKind × ℕ) → Bodies → TreeState → Option TreeJob → Option Move
move_if halted bodies state job = if is_some halted then None
    else option_and_then (λ (job : TreeJob). move_by job.status bodies state job.frames) job

no_move_without : (halted : Option (TrapKind × ℕ)) (bodies : Bodies) (state : TreeState)
    → move_if halted bodies state None ≡ None
no_move_without None bodies state = refl
no_move_without (Some trap) bodies state = refl

pub no_move_past : (bodies : Bodies) (state : TreeState) (more : ℕ)
    → move_of bodies state (length state.jobs + more) ≡ None
unfolding move_of
no_move_past bodies state more = subst
    (λ (job : Option TreeJob). move_if state.halted bodies state job ≡ None)
    (sym (slice_get_past state.jobs (length state.jobs + more) (omega arith)))
    (no_move_without state.halted bodies state)

-- each move has an event
abbrev Something : Event → Type 0
Something event.Nothing = ⊥
Something _ = Unit {0}

something : (outside : Outside) → Something (outside_event outside)
something (Prints line) = tt
something (Halts kind at) = tt
something _ = tt

abbrev IsNone : Option Move → Type 0
IsNone None = Unit {0}
IsNone (Some move) = ⊥

no_event_of : (move : Option Move) → event_by move ≡ event.Nothing → move ≡ None
no_event_of None is = refl
no_event_of (Some Dispatches) is = absurd (subst Something is tt)
no_event_of (Some (Wakes on v)) is = absurd (subst Something is tt)
no_event_of (Some (Does done)) is = absurd (subst Something is (something done.outside))

pub only : (bodies : Bodies) (state : TreeState) (j : ℕ)
    → tree_event_of bodies state j ≡ event.Nothing → move_of bodies state j ≡ None
unfolding tree_event_of
only bodies state j is = no_event_of (move_of bodies state j) is

-- the trap that an event tells of
abbrev trap_of : Event → Option (TrapKind × ℕ)
trap_of (event.Trapped kind at) = Some (kind, at)
trap_of _ = None

abbrev IsSome : Option (TrapKind × ℕ) → Type 0
IsSome None = ⊥
IsSome (Some trap) = Unit {0}

not_some : {A : Type 0} (trap : TrapKind × ℕ) → None ≡ Some trap → A
not_some trap is = absurd (subst IsSome (sym is) tt)

halted_by : (outside : Outside) (state : TreeState) (trap : TrapKind × ℕ)
    → trap_of (outside_event outside) ≡ Some trap → (outside_after outside state).halted ≡ Some trap
halted_by (Halts kind at) state trap is = is
halted_by (Prints line) state trap is = not_some trap is
halted_by Quiet state trap is = not_some trap is
halted_by (Adds cell) state trap is = not_some trap is
halted_by (Writes c slot v) state trap is = not_some trap is
halted_by (WritesGlobal g v) state trap is = not_some trap is
halted_by (Enters frame) state trap is = not_some trap is
halted_by (Spawns frame) state trap is = not_some trap is
halted_by (Waits on) state trap is = not_some trap is
halted_by Rests state trap is = not_some trap is
halted_by (Leaves v) state trap is = not_some trap is

halted_after : (move : Option Move) (j : ℕ) (state : TreeState) (trap : TrapKind × ℕ)
    → trap_of (event_by move) ≡ Some trap → (after move j state).halted ≡ Some trap
halted_after None j state trap is = not_some trap is
halted_after (Some Dispatches) j state trap is = not_some trap is
halted_after (Some (Wakes on v)) j state trap is = not_some trap is
halted_after (Some (Does done)) j state trap is = halted_by done.outside state trap is

pub trap_halts : (bodies : Bodies) (state : TreeState) (j : ℕ) (kind : TrapKind) (at : ℕ)
    → tree_event_of bodies state j ≡ event.Trapped kind at
    → (tree_step_of bodies state j).halted ≡ Some (kind, at)
unfolding tree_event_of tree_step_of
trap_halts bodies state j kind at is =
    halted_after (move_of bodies state j) j state (kind, at) (ap trap_of is)
