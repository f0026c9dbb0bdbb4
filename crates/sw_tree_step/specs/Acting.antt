-- What one act does: to its frame, and besides.
use Rattle.std.specs.Prelude.{ℕ, nat_le, Bool, true, false, List, [], ◌∷◌, Option, Some, None}
use Rattle.std.specs.Prelude.{Result, Ok, Err, length, take, drop, reverse, slice_get}
use Rattle.std.specs.Prelude.{option_and_then, option_map, ◌==◌, if◌then◌else◌}
use Rattle.sw_types.specs.declared.shape.Part.{Part}
use Rattle.sw_types.specs.declared.shape.ShapeKind.{ShapeKind}
use Rattle.sw_types.specs.declared.shape.ShapeKind.TheVariants as shapes
use Rattle.sw_value.specs.declared.cell.HeapCell.{HeapCell}
use Rattle.sw_value.specs.declared.cell.HeapCell.TheVariants.{Object, Actor, BoxOf}
use Rattle.sw_value.specs.declared.cell.Slot.{Slot}
use Rattle.sw_value.specs.declared.cell.Slot.TheVariants.{Part as PartOf, Content}
use Rattle.sw_value.specs.declared.frame.TheConstants.{MAX_FRAMES}
use Rattle.sw_value.specs.declared.state.TrapKind.{TrapKind}
use Rattle.sw_value.specs.declared.state.TrapKind.TheVariants.{Frames}
use Rattle.sw_value.specs.declared.value.Value.{Value}
use Rattle.sw_value.specs.declared.value.Value.TheVariants as value
use Rattle.sw_value.specs.Arithmetic.{binary, unary}
use Rattle.sw_value.specs.Cell.{slot_of, task_of}
use Rattle.sw_value.specs.Lists.{each_of}
use Rattle.sw_value.specs.Printed.{line_of, text_of}
use Rattle.sw_value.specs.Value.{field_of, made, payload_of, reference_of, with_field}
use Rattle.sw_tree_work.specs.Bodies.{Bodies}
use Rattle.sw_tree_work.specs.Work as work
use Rattle.sw_tree_work.specs.Work.{Act, Work}
use Rattle.sw_tree_step.specs.Frames.{called, called_closure}
use Rattle.sw_tree_step.specs.State.{Direct, InBox, Kept, Room, TreeCell, TreeFrame, TreeState}
use Rattle.sw_tree_step.specs.State.{put, room_of}

-- What happens besides the change of a frame. A frame that enters puts another on top of it. One that
-- waits or rests gives up its executor.
pub data Outside : Type 0 where
  Quiet : Outside
  Prints : List ℕ → Outside
  Adds : TreeCell → Outside
  Writes : ℕ → Slot → Value → Outside
  WritesGlobal : ℕ → Value → Outside
  Enters : TreeFrame → Outside
  Spawns : TreeFrame → Outside
  Waits : ℕ → Outside
  Rests : Outside
  Leaves : Value → Outside
  Halts : TrapKind → ℕ → Outside

pub record Done : Type 0 where
  pub frame : TreeFrame
  pub outside : Outside

-- the frame with these temporaries, before this rest of its work
abbrev pub with_temps : List Value → Work → TreeFrame → TreeFrame
with_temps temps rest frame = record frame { temps = temps; work = rest }

abbrev pub besides : Outside → List Value → Work → TreeFrame → Option Done
besides outside temps rest frame =
    Some (record { frame = with_temps temps rest frame; outside = outside })

-- the result of an act becomes the newest temporary
abbrev pub gives : Value → List Value → Work → TreeFrame → Option Done
gives v temps rest frame = besides Quiet (v ∷ temps) rest frame

abbrev pub may_give : Option Value → List Value → Work → TreeFrame → Option Done
may_give None temps rest frame = None
may_give (Some v) temps rest frame = gives v temps rest frame

-- a trap changes nothing of the frame
abbrev pub halts : TrapKind → ℕ → TreeFrame → Option Done
halts kind at frame = Some (record { frame = frame; outside = Halts kind at })

abbrev pub computes : ℕ → List Value → Work → TreeFrame → Result Value TrapKind → Option Done
computes at temps rest frame (Ok v) = gives v temps rest frame
computes at temps rest frame (Err kind) = halts kind at frame

-- a variable gets what it has
abbrev pub puts : ℕ → Room → Outside → List Value → Work → TreeFrame → Option Done
puts key room outside temps rest frame = Some (record {
  frame = record frame { env = put key room frame.env; temps = temps; work = rest };
  outside = outside;
})

-- a cell is made with the next number, and a value refers to it
abbrev pub adds : TreeState → TreeCell → List Value → Work → TreeFrame → Option Done
adds state cell temps rest frame =
    besides (Adds cell) (value.Cell (length state.cells) ∷ temps) rest frame

-- The newest temporary, the two newest, or as many as a count says with the oldest of them first; and
-- those before them. An act that lacks temporaries does nothing.
abbrev pub one_of : List Value → (Value → List Value → Option Done) → Option Done
one_of [] done = None
one_of (v ∷ temps) done = done v temps

abbrev pub two_of : List Value → (Value → Value → List Value → Option Done) → Option Done
two_of temps done = one_of temps (λ w more. one_of more (λ v rest. done w v rest))

abbrev pub newest : ℕ → List Value → Option (List Value)
newest count temps = if nat_le count (length temps) then Some (reverse (take count temps)) else None

abbrev pub with_newest : ℕ → List Value → (List Value → List Value → Option Done) → Option Done
with_newest count temps done =
    option_and_then (λ values. done values (drop count temps)) (newest count temps)

-- cells
abbrev pub kept_of : TreeCell → Option HeapCell
kept_of (Kept cell) = Some cell
kept_of _ = None

abbrev pub kept_at : TreeState → ℕ → Option HeapCell
kept_at state c = option_and_then kept_of (slice_get state.cells c)

-- the cell that a value refers to, and what that has in a slot
abbrev pub kept_by : TreeState → Value → Option HeapCell
kept_by state v = option_and_then (kept_at state) (reference_of v)

abbrev pub loaded : TreeState → Slot → Value → Option Value
loaded state slot v = option_and_then (slot_of slot) (kept_by state v)

-- the cell of a value by number, if it has that slot
abbrev pub slot_at : TreeState → Slot → Value → Option ℕ
slot_at state slot v = option_and_then (λ c. option_map (λ old. c)
    (option_and_then (slot_of slot) (kept_at state c))) (reference_of v)

-- a value is written into a slot
abbrev pub writes : TreeState → Slot → Value → Value → List Value → Work → TreeFrame → Option Done
writes state slot cell v temps rest frame =
    option_and_then (λ c. besides (Writes c slot v) temps rest frame) (slot_at state slot cell)

-- Variables. One in a box is read and written there.
abbrev pub boxed_value : TreeState → Room → Option Value
boxed_value state (Direct v) = Some v
boxed_value state (InBox c) = loaded state Content (value.Cell c)

abbrev pub reads : TreeState → Option Room → Option Value
reads state room = option_and_then (boxed_value state) room

abbrev pub stores : TreeState → ℕ → Option Room → Value → List Value → Work → TreeFrame
    → Option Done
stores state key None v temps rest frame = None
stores state key (Some (Direct old)) v temps rest frame =
    puts key (Direct v) Quiet temps rest frame
stores state key (Some (InBox c)) v temps rest frame =
    writes state Content (value.Cell c) v temps rest frame

abbrev pub declares : TreeState → ℕ → Bool → Value → List Value → Work → TreeFrame → Option Done
declares state key true v temps rest frame =
    puts key (InBox (length state.cells)) (Adds (Kept (BoxOf v))) temps rest frame
declares state key false v temps rest frame = puts key (Direct v) Quiet temps rest frame

-- a call puts a frame on top, unless there are all the frames that there may be
abbrev pub enters : ℕ → ℕ → List Value → Work → TreeFrame → TreeFrame → Option Done
enters depth at temps rest frame callee =
    if nat_le MAX_FRAMES depth then halts Frames at frame
    else besides (Enters callee) temps rest frame

-- a property gets the first value that was given by its name
abbrev pub given_to : List ℕ → List Value → ℕ → Option Value
given_to (one ∷ names) (v ∷ values) name =
    if one == name then Some v else given_to names values name
given_to _ _ name = None

abbrev pub new_cell : ShapeKind → ℕ → List Value → HeapCell
new_cell shapes.Actor number parts = Actor number parts
new_cell _ number parts = Object number parts

-- What an act does with these temporaries, before this rest, in a frame at this depth.
abbrev pub act_done : Act → Bodies → TreeState → ℕ → TreeFrame → Work → List Value → Option Done
act_done (work.Literal v) bodies state depth frame rest temps = gives v temps rest frame
act_done (work.Read key) bodies state depth frame rest temps =
    may_give (reads state (room_of key frame.env)) temps rest frame
act_done work.Drop bodies state depth frame rest temps =
    one_of temps (λ v temps. besides Quiet temps rest frame)
act_done work.Swap bodies state depth frame rest temps =
    two_of temps (λ w v temps. besides Quiet (v ∷ w ∷ temps) rest frame)
act_done work.Keep bodies state depth frame rest temps =
    one_of temps (λ v temps. gives v (v ∷ temps) rest frame)
act_done work.Replace bodies state depth frame rest temps =
    two_of temps (λ v old temps. gives v temps rest frame)
act_done (work.Unary at op) bodies state depth frame rest temps =
    one_of temps (λ v temps. option_and_then (computes at temps rest frame) (unary op v))
act_done (work.Binary at op) bodies state depth frame rest temps =
    two_of temps (λ w v temps. option_and_then (computes at temps rest frame) (binary op v w))
act_done (work.Print count) bodies state depth frame rest temps =
    with_newest count temps (λ values temps. option_and_then
    (λ texts. besides (Prints (line_of texts)) (value.Unit ∷ temps) rest frame)
    (each_of text_of values))
act_done (work.Field i) bodies state depth frame rest temps =
    one_of temps (λ v temps. may_give (field_of i v) temps rest frame)
act_done (work.SetField i) bodies state depth frame rest temps =
    two_of temps (λ old copy temps. one_of temps (λ part temps. option_and_then
    (λ before. gives (with_field i part copy) temps rest frame) (field_of i copy)))
act_done (work.Make tag count) bodies state depth frame rest temps =
    with_newest count temps (λ values temps. gives (made tag values) temps rest frame)
act_done (work.Declare key boxed) bodies state depth frame rest temps =
    one_of temps (λ v temps. declares state key boxed v temps rest frame)
act_done (work.Store key) bodies state depth frame rest temps =
    one_of temps (λ v temps. stores state key (room_of key frame.env) v temps rest frame)
act_done (work.Payload key i) bodies state depth frame rest temps =
    one_of temps (λ v more. option_and_then
    (λ part. puts key (Direct part) Quiet temps rest frame) (payload_of i v))
act_done (work.LoadPart i) bodies state depth frame rest temps =
    one_of temps (λ v temps. may_give (loaded state (PartOf i) v) temps rest frame)
act_done (work.StorePart i) bodies state depth frame rest temps =
    two_of temps (λ cell v temps. writes state (PartOf i) cell v temps rest frame)
act_done (work.LoadGlobal g) bodies state depth frame rest temps =
    may_give (option_and_then (λ v. v) (slice_get state.globals g)) temps rest frame
act_done (work.StoreGlobal g) bodies state depth frame rest temps =
    one_of temps (λ v temps. option_and_then
    (λ old. besides (WritesGlobal g v) temps rest frame) (slice_get state.globals g))
act_done (work.New number shape names) bodies state depth frame rest temps =
    with_newest (length names) temps (λ values temps. option_and_then
    (λ parts. adds state (Kept (new_cell shape.kind number parts)) temps rest frame)
    (each_of (λ (part : Part). given_to names values part.name) shape.parts))
act_done (work.Call at kind name count) bodies state depth frame rest temps =
    with_newest count temps (λ values temps. option_and_then (enters depth at temps rest frame)
    (option_and_then (called frame.executor kind values) (bodies name)))
act_done (work.CallClosure at count) bodies state depth frame rest temps =
    with_newest count temps (λ values temps. one_of temps (λ v temps. option_and_then
    (enters depth at temps rest frame) (option_and_then (called_closure frame.executor values)
    (option_and_then (slice_get state.cells) (reference_of v)))))
act_done work.Await bodies state depth frame rest temps =
    one_of temps (λ v temps. option_and_then (λ job. besides (Waits job) temps rest frame)
    (option_and_then task_of (kept_by state v)))
act_done work.Yield bodies state depth frame rest temps =
    besides Rests (value.Unit ∷ temps) rest frame
