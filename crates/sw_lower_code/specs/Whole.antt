-- Whole bodies of functions: what one takes and its code, the function that its plan says, and the
-- function that its run makes.
use Rattle.std.specs.Prelude.{◌≡◌, ℕ, ◌+◌, ◌<◌, Bool, ◌||◌, nat_lt, List, [], ◌∷◌, map}
use Rattle.std.specs.Prelude.{length, Some, None, Result, Ok, Err, if◌then◌else◌}
use Rattle.sw_types.specs.declared.isolation.Iso.{Iso}
use Rattle.sw_types.specs.declared.ty.Ty.{Ty}
use Rattle.sw_graph.specs.Limits.{excess_of}
use Rattle.sw_graph.specs.declared.function.Excess.TheVariants as excess
use Rattle.sw_graph.specs.declared.function.Function.{Function}
use Rattle.sw_graph.specs.declared.function.RegKind.{RegKind}
use Rattle.sw_graph.specs.declared.function.TheConstants.{MAX_POINTS}
use Rattle.sw_lower_builder.specs.Unfinished.{finished}
use Rattle.sw_lower_builder.specs.declared.builder.TheConstants.{MOST_BLOCKS}
use Rattle.sw_lower_code.specs.Code.{Code, all, bind, reg, ◌>>=◌, ◌>>◌}
use Rattle.sw_lower_plans.specs.Plan.{Numbers, Piece, Place, block_by, counted_from}
use Rattle.sw_lower_plans.specs.Run.{Making, at_start, points}
use Rattle.sw_lower_plans.specs.declared.fault.CodeFault.{CodeFault}
use Rattle.sw_lower_plans.specs.declared.fault.CodeFault.TheVariants.{Registers, Blocks, Missing, Memory}
use Rattle.sw_lower_code.specs.declared.fault.BodyFault.{BodyFault}
use Rattle.sw_lower_code.specs.declared.fault.BodyFault.TheVariants as faults
use Rattle.sw_lower_code.specs.declared.taken.Taken.{Taken}

-- a body of a function, method, initialiser, closure or task, a getter, or what gives a first value
pub record Body : Type 0 where
  pub key : ℕ
  -- whether it is a getter; what gives a first value may have the same key
  pub getter : Bool
  pub iso : Iso
  pub is_async : Bool
  pub takes : List Taken
  pub sends : Bool
  pub result : Ty
  pub code : Code (Unit {0})

-- A function's first registers are what it takes.
abbrev pub enter : Taken → Code (Unit {0})
enter taken = reg taken.kind
    >>= λ number. bind (record { key = taken.key; reg = number; boxed = taken.boxed })

unfoldable pub code_of : Body → Code (Unit {0})
code_of body = all enter body.takes >> body.code

-- A function begins with one block.
abbrev pub start_place : Numbers → Place
start_place number = record { regs = 0; blocks = 1; here = 0; vars = []; number = number }

abbrev pub piece_of : Numbers → Body → Piece (Unit {0})
piece_of number body = (code_of body).plan (start_place number)

abbrev pub sending_of : Body → List Bool
sending_of body = map (λ (taken : Taken). taken.sending) body.takes

-- the function of a body, by whole lists
unfoldable pub function_of : Numbers → Body → Function
function_of number body = record {
  key = body.key;
  iso = body.iso;
  is_async = body.is_async;
  takes = length body.takes;
  sending = sending_of body;
  sends = body.sends;
  result = body.result;
  regs = (piece_of number body).regs;
  blocks = map (block_by (piece_of number body))
      (counted_from 0 (1 + length (piece_of number body).made));
}

abbrev pub finish : Body → Making → Result Function BodyFault
finish body making =
    if making.over || nat_lt MAX_POINTS (points making)
    then Err (faults.TooManyPoints body.key)
    else Ok (finished making.made (length body.takes) (sending_of body) body.sends body.result)

abbrev pub ended_by : Body → Result (Unit {0} × Making) CodeFault → Result Function BodyFault
ended_by body (Ok at) = finish body at.1
ended_by body (Err Registers) = Err (faults.TooManyRegisters body.key)
ended_by body (Err Blocks) = Err faults.TooManyBlocks
ended_by body (Err Missing) = Err faults.Missing
ended_by body (Err Memory) = Err faults.Memory

-- the function of a body, as it is made within the limits
unfoldable pub lower_body : Numbers → Body → Result Function BodyFault
lower_body number body =
    ended_by body ((code_of body).run (at_start number body.key body.iso body.is_async))

-- The function of a body would have more blocks than there are numbers of 32 bits. No program of a
-- text has such a body.
abbrev pub HasManyBlocks : Numbers → Body → Type 0
HasManyBlocks number body = MOST_BLOCKS < 1 + length (piece_of number body).made

-- What is made of a body is the function of its whole lists, which is within the limits; or else
-- its whole lists have too many registers, or only too many points, or more blocks than numbers, or
-- its code asks for what isn't known. Nothing is said of memory.
abbrev pub IsWhole : Numbers → Body → Result Function BodyFault → Type 0
IsWhole number body (Ok function) =
    (function ≡ function_of number body) × (excess_of (function_of number body) ≡ None)
IsWhole number body (Err (faults.TooManyRegisters key)) =
    (key ≡ body.key) × (excess_of (function_of number body) ≡ Some excess.Registers)
IsWhole number body (Err (faults.TooManyPoints key)) =
    (key ≡ body.key) × (excess_of (function_of number body) ≡ Some excess.Points)
IsWhole number body (Err faults.TooManyBlocks) = HasManyBlocks number body
IsWhole number body (Err faults.Missing) = lower_body number body ≡ Err faults.Missing
IsWhole number body (Err faults.Memory) = Unit {0}
