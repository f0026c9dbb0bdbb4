-- Code that declares no variable.
use Rattle.std.specs.Prelude.{◌≡◌, []}
use Rattle.sw_graph.specs.declared.instr.Operand.{Operand}
use Rattle.sw_lower_plans.specs.Plan.{Place}
use Rattle.sw_lower_code.specs.Code.{Code}
use Rattle.sw_lower_rules.specs.Carriers.{ExprCode}

-- The variables that are seen after the code are those before it.
abbrev pub BindsNothing : {A : Type 0} → Code A → Type 0
BindsNothing code = (place : Place) → (code.plan place).vars ≡ []

-- So it is for the code of an expression, and for that of an assignment to it.
pub record ExprBindsNothing (code : ExprCode) : Type 0 where
  pub read : BindsNothing code.read
  pub write : (given : Operand) → BindsNothing (code.write given)
