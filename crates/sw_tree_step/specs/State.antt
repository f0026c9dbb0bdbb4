-- The states of the machine over the written tree. Values, executors, and the cells of objects,
-- actors, boxes and tasks are those of the machine on graphs.
use Rattle.std.specs.Prelude.{ℕ, ◌==◌, Bool, List, [], ◌∷◌, Option, Some, None, if◌then◌else◌}
use Rattle.sw_value.specs.declared.cell.HeapCell.{HeapCell}
use Rattle.sw_value.specs.declared.executor.Executor.{Executor}
use Rattle.sw_value.specs.declared.state.TrapKind.{TrapKind}
use Rattle.sw_value.specs.declared.value.Value.{Value}
use Rattle.sw_value.specs.declared.value.Value.TheVariants as value
use Rattle.sw_tree_work.specs.Work.{Work}

-- What a variable has: a value, or the cell of its box.
pub data Room : Type 0 where
  Direct : Value → Room
  InBox : ℕ → Room

-- the variable with a key
pub record Held : Type 0 where
  pub key : ℕ
  pub room : Room

-- What the variables of a body have. If a key stands twice, the first counts: a variable begins anew
-- in each turn of a loop.
abbrev pub Env : Type 0
Env = List Held

abbrev pub room_of : ℕ → Env → Option Room
room_of key [] = None
room_of key (held ∷ env) = if held.key == key then Some held.room else room_of key env

abbrev pub put : ℕ → Room → Env → Env
put key room env = record { key = key; room = room } ∷ env

-- variables with values, in order
abbrev pub taken : List ℕ → List Value → Env
taken [] values = []
taken keys [] = []
taken (key ∷ keys) (v ∷ values) = put key (Direct v) (taken keys values)

-- a variable as a value: that of a box is the box
abbrev pub value_in : Room → Value
value_in (Direct v) = v
value_in (InBox c) = value.Cell c

-- A closure has its key, the keys of its parameters, its body's work, and what it captures, by
-- variable.
pub data TreeCell : Type 0 where
  Kept : HeapCell → TreeCell
  Closed : ℕ → List ℕ → Work → Env → TreeCell

-- a loop that goes on: its condition, its body, and what follows it
pub record Going : Type 0 where
  pub cond : Work
  pub body : Work
  pub rest : Work

-- A call that has not returned: its variables, its temporaries and its loops, in each the newest
-- first, and the work that it still has to do. It may give up its executor when it returns, and the
-- frame below may want its value.
pub record TreeFrame : Type 0 where
  pub env : Env
  pub temps : List Value
  pub work : Work
  pub loops : List Going
  pub executor : Executor
  pub crossing : Bool
  pub gives : Bool

-- A job waits for its executor, has it, waits for the end of another job, or has ended with a value.
pub data TreeStatus : Type 0 where
  Ready : TreeStatus
  Running : TreeStatus
  Waiting : ℕ → TreeStatus
  Ended : Value → TreeStatus

-- a task: its frames, the top one first
pub record TreeJob : Type 0 where
  pub frames : List TreeFrame
  pub status : TreeStatus

-- Cells, global variables and jobs by number, and the trap that has halted the machine with its place.
pub record TreeState : Type 0 where
  pub cells : List TreeCell
  pub globals : List (Option Value)
  pub jobs : List TreeJob
  pub halted : Option (TrapKind × ℕ)
