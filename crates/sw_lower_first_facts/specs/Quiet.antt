-- Code that reads no global variable, makes no closure and no task, and calls initialisers and
-- getters of properties alone.
use Rattle.std.specs.Prelude.{◌≡◌, ℕ, Some, Ok}
use Rattle.std.specs.List.{AllByRecursion}
use Rattle.std.specs.Prelude.{slice_get}
use Rattle.sw_types.specs.declared.shape.Part.{Part}
use Rattle.sw_types.specs.declared.shape.Shape.{Shape}
use Rattle.sw_graph.specs.declared.instr.Instr.{Instr}
use Rattle.sw_graph.specs.declared.instr.Instr.TheVariants.{Call, LoadGlobal, NewClosure, NewTask}
use Rattle.sw_decls.specs.declared.signature.Signature.{Signature}
use Rattle.sw_isolation_rules.specs.Uses.{maker_at}
use Rattle.sw_lower_plans.specs.Plan.{Numbers, Written}
use Rattle.sw_lower_plans.specs.Run.{IsGoing, Making, place_of}
use Rattle.sw_lower_plans.specs.declared.name.FunctionName.{FunctionName}
use Rattle.sw_lower_code.specs.Code.{Code}
use Rattle.sw_lower_rules.specs.Tables.{Tables, getter_of, plain}
use Rattle.sw_lower_total_facts.specs.Known.{IsMade}

-- the names of initialisers, and of getters of properties
pub data IsQuietName (tables : Tables) : FunctionName → Type 0 where
  maker : (k : ℕ) (shape : Shape) (func : Signature)
      → slice_get tables.world.shapes k ≡ Some shape → IsMade shape.kind
      → maker_at tables.world k ≡ Some func → IsQuietName tables (plain func.key.at)
  getter : (k i key : ℕ) (shape : Shape) (part : Part)
      → slice_get tables.world.shapes k ≡ Some shape → slice_get shape.parts i ≡ Some part
      → tables.part_key k i ≡ Some key → IsQuietName tables (getter_of key)

-- the number of a function with such a name
pub record CallsQuiet (tables : Tables) (numbers : Numbers) (f : ℕ) : Type 0 where
  pub name : FunctionName
  pub found : numbers name ≡ Some f
  pub quiet : IsQuietName tables name

abbrev pub IsQuiet : Tables → Numbers → Instr → Type 0
IsQuiet tables numbers (LoadGlobal at dst global) = ⊥
IsQuiet tables numbers (NewClosure at dst function captures) = ⊥
IsQuiet tables numbers (NewTask at dst function captures) = ⊥
IsQuiet tables numbers (Call at dst kind function args) = CallsQuiet tables numbers function
IsQuiet tables numbers _ = Unit {0}

-- The code writes such instructions alone, where it runs to its end.
abbrev pub WritesQuiet : Tables → Numbers → {A : Type 0} → Code A → Type 0
WritesQuiet tables numbers {A} code = (s t : Making) (value : A) → IsGoing s → s.number ≡ numbers
    → code.run s ≡ Ok (value, t)
    → AllByRecursion (λ (one : Written). IsQuiet tables numbers one.instr)
    (code.plan (place_of s)).writes
