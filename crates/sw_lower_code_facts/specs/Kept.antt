-- Properties of code that each step of it has, and that code put after code keeps.
use Rattle.std.specs.Prelude.{◌≡◌, ℕ, ◌⊎◌, List, ◌∷◌, ◌++◌, Option, Some}
use Rattle.std.specs.List.{AllByRecursion}
use Rattle.sw_types.specs.declared.isolation.CallKind.{CallKind}
use Rattle.sw_types.specs.declared.ty.Ty.{Ty}
use Rattle.sw_graph.specs.declared.function.RegKind.{RegKind}
use Rattle.sw_graph.specs.declared.instr.Instr.{Instr}
use Rattle.sw_graph.specs.declared.instr.Instr.TheVariants.{Call, NewTask}
use Rattle.sw_graph.specs.declared.instr.Operand.{Operand}
use Rattle.sw_typing_rules.specs.declared.row.Meaning.TheVariants as means
use Rattle.sw_lower_plans.specs.declared.name.FunctionName.{FunctionName}
use Rattle.sw_lower_code.specs.Code as steps
use Rattle.sw_lower_code.specs.Code.{Code, andthen}
use Rattle.sw_lower_code.specs.Whole.{Body}
use Rattle.sw_lower_rules.specs.Carriers.{ArgCode, ClosureCode, ExprCode, Given, LinkCode}
use Rattle.sw_lower_rules.specs.Expressions.{both, either, spawn_read, spawn_result, task_body}
use Rattle.sw_lower_rules.specs.Tables.{Tables}
use Rattle.sw_lower_rules.specs.Uses.{call_func, call_getter, make}

-- The instruction calls no function and makes no task.
abbrev pub CallsNothing : Instr → Type 0
CallsNothing (Call at dst kind function args) = ⊥
CallsNothing (NewTask at dst function captures) = ⊥
CallsNothing _ = Unit {0}

-- A property that the steps of code have which neither go on in another block nor call anything.
pub record Kept : Type 1 where
  pub Has : {A : Type 0} → Code A → Type 0
  pub done : {A : Type 0} (value : A) → Has (steps.done value)
  pub after : {A B : Type 0} (first : Code A) (next : A → Code B) → Has first
      → ((value : A) → Has (next value)) → Has (andthen first next)
  pub known : {A : Type 0} (fallback : A) (found : Option A) → Has (steps.known fallback found)
  pub var : (key : ℕ) → Has (steps.var key)
  pub number : (name : FunctionName) → Has (steps.number name)
  pub reg : (kind : RegKind) → Has (steps.reg kind)
  pub emit : (instr : Instr) → CallsNothing instr → Has (steps.emit instr)

-- So do `&&` and `||`, calls and tasks. Of the bodies inside something may be required, which holds
-- of some of them if it holds of more.
pub record KeptByForms (kept : Kept) (tables : Tables) (owner : Option ℕ) : Type 1 where
  pub Inside : List Body → Type 0
  pub first : (xs ys : List Body) → Inside (xs ++ ys) → Inside xs
  pub rest : (xs ys : List Body) → Inside (xs ++ ys) → Inside ys
  pub conjoined : (at : ℕ) (right : Code Operand) (left : Operand) → kept.Has right
      → kept.Has (both at right left)
  pub disjoined : (at : ℕ) (right : Code Operand) (left : Operand) → kept.Has right
      → kept.Has (either at right left)
  pub getter : (at : ℕ) (kind : CallKind) (ty : Ty) (key : ℕ) (operands : List Operand)
      → kept.Has (call_getter tables at kind ty key operands)
  pub func : (at number : ℕ) (operands : List Operand)
      → (tables.answers.meaning_at at ≡ Some (means.FuncOf number))
      ⊎ (tables.answers.meaning_at at ≡ Some (means.OwnFunc number))
      → kept.Has (call_func tables at number operands)
  pub maker : (at shape : ℕ) (operands : List Operand)
      → tables.answers.meaning_at at ≡ Some (means.MakeOf shape)
      → kept.Has (make tables at shape operands)
  pub task : (at : ℕ) (closure : ClosureCode)
      → Inside (task_body tables owner closure (spawn_result tables owner at)
      ∷ closure.body.inside)
      → kept.Has (spawn_read tables owner at closure)

module _ (kept : Kept) where
  -- An expression's value has the property, and an assignment to it.
  pub record ExprHas (code : ExprCode) : Type 0 where
    pub read : kept.Has code.read
    pub write : (given : Operand) → kept.Has (code.write given)

  abbrev pub ArgHas : ArgCode → Type 0
  ArgHas arg = kept.Has arg.read

  abbrev pub LinkHas : LinkCode → Type 0
  LinkHas link = kept.Has link.read

  -- what is given to properties
  abbrev pub GivesHave : List Given → Type 0
  GivesHave gives = AllByRecursion (λ (given : Given). kept.Has given.read) gives
