-- What the calls and the tasks in the code of a program are of.
use Rattle.std.specs.Prelude.{◌≡◌, ℕ, ◌⊎◌, List, Option, Some, Contains, slice_get}
use Rattle.sw_types.specs.declared.isolation.CallKind.{CallKind}
use Rattle.sw_types.specs.declared.shape.Shape.{Shape}
use Rattle.sw_types.specs.declared.ty.Ty.{Ty}
use Rattle.sw_graph.specs.declared.instr.Instr.{Instr}
use Rattle.sw_graph.specs.declared.instr.Instr.TheVariants.{Call, NewTask}
use Rattle.sw_decls.specs.declared.signature.Signature.{Signature}
use Rattle.sw_typing_rules.specs.declared.row.Meaning.{Meaning}
use Rattle.sw_typing_rules.specs.declared.row.Meaning.TheVariants as means
use Rattle.sw_isolation_rules.specs.Uses.{maker_at}
use Rattle.sw_lower_plans.specs.Plan.{Numbers}
use Rattle.sw_lower_code.specs.Code.{Code}
use Rattle.sw_lower_code.specs.Whole.{Body}
use Rattle.sw_lower_rules.specs.Carriers.{ClosureCode}
use Rattle.sw_lower_rules.specs.Expressions.{task_body}
use Rattle.sw_lower_rules.specs.Tables.{Tables, getter_of, plain}
use Rattle.sw_lower_total_facts.specs.Known.{IsMade}
use Rattle.sw_lower_call_facts.specs.Writing.{WritesOnly}

-- A word or a member means the function with a number.
abbrev pub MeansFunc : Option Meaning → ℕ → Type 0
MeansFunc meaning n =
    (meaning ≡ Some (means.FuncOf n)) ⊎ (meaning ≡ Some (means.OwnFunc n))

-- A call at a key, of a kind, of the function with a number: that of a getter; of a function or a
-- method that is meant at the key; or of the initialiser of a type that is meant there.
pub data CallOf (tables : Tables) (numbers : Numbers) (at : ℕ) (kind : CallKind) (f : ℕ)
    : Type 0 where
  of_getter : (key : ℕ) → numbers (getter_of key) ≡ Some f → CallOf tables numbers at kind f
  of_func : (n : ℕ) (func : Signature) → MeansFunc (tables.answers.meaning_at at) n
      → slice_get tables.world.funcs n ≡ Some func → tables.isolation.kind_at at ≡ Some kind
      → numbers (plain func.key.at) ≡ Some f → CallOf tables numbers at kind f
  of_maker : (k : ℕ) (shape : Shape) (func : Signature)
      → tables.answers.meaning_at at ≡ Some (means.MakeOf k)
      → slice_get tables.world.shapes k ≡ Some shape → IsMade shape.kind
      → maker_at tables.world k ≡ Some func → tables.isolation.kind_at at ≡ Some kind
      → numbers (plain func.key.at) ≡ Some f → CallOf tables numbers at kind f

-- the function with a number is that of a task's body
pub record TaskOf (tables : Tables) (numbers : Numbers) (bodies : List Body) (f : ℕ)
    : Type 0 where
  pub owner : Option ℕ
  pub closure : ClosureCode
  pub result : Ty
  pub has : Contains bodies (task_body tables owner closure result)
  pub numbered : numbers (plain closure.at) ≡ Some f

-- What an instruction that calls a function or makes a task is of.
abbrev pub IsOfBody : Tables → Numbers → List Body → Instr → Type 0
IsOfBody tables numbers bodies (Call at dst kind function args) =
    CallOf tables numbers at kind function
IsOfBody tables numbers bodies (NewTask at dst function captures) =
    TaskOf tables numbers bodies function
IsOfBody tables numbers bodies _ = Unit {0}

-- Each call and each task in a piece of code is of something.
abbrev pub CodeIsOfBodies : Tables → Numbers → List Body → {A : Type 0} → Code A → Type 0
CodeIsOfBodies tables numbers bodies code = WritesOnly (IsOfBody tables numbers bodies) numbers code
