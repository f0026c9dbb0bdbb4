-- Data races on the written tree: two running jobs are about to access one location, and one of them
-- to write it.
use Rattle.std.specs.Prelude.{◌≡◌, ℕ, ◌<◌, Bool, true, false, List, [], ◌∷◌, Option, Some, None, IsTrue}
use Rattle.std.specs.Prelude.{◌||◌, is_some, slice_get, option_and_then, option_map, if◌then◌else◌}
use Rattle.sw_decls.specs.declared.signature.GlobalVar.{GlobalVar}
use Rattle.sw_typing_rules.specs.Worlds.{World}
use Rattle.sw_value.specs.declared.cell.HeapCell.{HeapCell}
use Rattle.sw_value.specs.declared.cell.HeapCell.TheVariants as cell
use Rattle.sw_value.specs.declared.race.Place.{Place}
use Rattle.sw_value.specs.declared.race.Place.TheVariants.{BoxOf, Global, Prop}
use Rattle.sw_value.specs.declared.value.Value.{Value}
use Rattle.sw_value.specs.Access.{is_var_part}
use Rattle.sw_value.specs.Value.{reference_of}
use Rattle.sw_tree_work.specs.Work as work
use Rattle.sw_tree_work.specs.Work.{Act, Work}
use Rattle.sw_tree_step.specs.Acting.{kept_at}
use Rattle.sw_tree_step.specs.State.{Env, InBox, Room, TreeFrame, TreeJob, TreeState, room_of}
use Rattle.sw_tree_step.specs.Step.{is_running}
use Rattle.sw_tree_step.specs.Working.{settle}

-- an access: the location, and whether it is written
pub record TreeAccess : Type 0 where
  pub place : Place
  pub writes : Bool

abbrev pub read_of : Place → TreeAccess
read_of place = record { place = place; writes = false }

abbrev pub write_of : Place → TreeAccess
write_of place = record { place = place; writes = true }

-- a box
abbrev pub box_in : ℕ → HeapCell → Option Place
box_in c (cell.BoxOf held) = Some (BoxOf c)
box_in c _ = None

-- the box that a variable is in
abbrev pub box_of : TreeState → Option Room → Option Place
box_of state (Some (InBox c)) = option_and_then (box_in c) (kept_at state c)
box_of state _ = None

-- the newest temporary
abbrev pub on_newest : {A : Type 0} → List Value → (Value → Option A) → Option A
on_newest [] f = None
on_newest (v ∷ temps) f = f v

-- What the program declares as `let` is no location, so accesses go by what it declares.
module _ (world : World) where
  -- property i of the object or actor in a cell, if it is a `var`
  abbrev pub var_part : ℕ → ℕ → ℕ → List Value → Option Place
  var_part c i k parts =
      option_and_then (λ v. if is_var_part world.shapes k i then Some (Prop c i) else None)
      (slice_get parts i)

  abbrev pub part_in : ℕ → ℕ → HeapCell → Option Place
  part_in c i (cell.Object k parts) = var_part c i k parts
  part_in c i (cell.Actor k parts) = var_part c i k parts
  part_in c i _ = None

  -- of what a value refers to
  abbrev pub part_of : TreeState → ℕ → Value → Option Place
  part_of state i v = option_and_then (λ c. option_and_then (part_in c i) (kept_at state c))
      (reference_of v)

  -- the global variable with a number, if it is a `var`
  abbrev pub global_of : ℕ → Option Place
  global_of g = option_and_then
      (λ (global : GlobalVar). if global.mutable then Some (Global g) else None)
      (slice_get world.globals g)

  -- What an act accesses. No other act reads or writes a location.
  abbrev pub act_access : Act → TreeState → Env → List Value → Option TreeAccess
  act_access (work.Read key) state env temps = option_map read_of (box_of state (room_of key env))
  act_access (work.Store key) state env temps = option_map write_of (box_of state (room_of key env))
  act_access (work.LoadPart i) state env temps =
      option_map read_of (on_newest temps (part_of state i))
  act_access (work.StorePart i) state env temps =
      option_map write_of (on_newest temps (part_of state i))
  act_access (work.LoadGlobal g) state env temps = option_map read_of (global_of g)
  act_access (work.StoreGlobal g) state env temps = option_map write_of (global_of g)
  act_access _ state env temps = None

  abbrev pub work_access : Work → TreeState → Env → List Value → Option TreeAccess
  work_access (work.Then act rest) state env temps = act_access act state env temps
  work_access _ state env temps = None

  -- What a frame accesses next. What takes no step is done first.
  abbrev pub frame_access : TreeState → TreeFrame → Option TreeAccess
  frame_access state frame =
      let now = settle frame.work frame.env frame.temps in
      work_access now.work state frame.env now.temps

  abbrev pub top_access : TreeState → List TreeFrame → Option TreeAccess
  top_access state [] = None
  top_access state (frame ∷ below) = frame_access state frame

  abbrev pub job_access : TreeState → TreeJob → Option TreeAccess
  job_access state job =
      if is_running job.status then top_access state job.frames else None

  -- what job j accesses next: nothing if the machine is halted or j is no running job
  unfoldable pub tree_access : TreeState → ℕ → Option TreeAccess
  tree_access state j = if is_some state.halted then None
      else option_and_then (job_access state) (slice_get state.jobs j)

  -- Two jobs are about to access one location, of which one writes.
  pub record TreeRacing (state : TreeState) : Type 0 where
    pub one : ℕ
    pub other : ℕ
    pub order : one < other
    pub first : TreeAccess
    pub second : TreeAccess
    pub first_next : tree_access state one ≡ Some first
    pub second_next : tree_access state other ≡ Some second
    pub same : first.place ≡ second.place
    pub writes : IsTrue (first.writes || second.writes)
