-- What the code of each type of tree is made of.
use Rattle.std.specs.Prelude.{ℕ, Bool, List, Option, None}
use Rattle.sw_tree.specs.declared.expr.ClosureParam.{ClosureParam}
use Rattle.sw_tree.specs.declared.name.Name.{Name}
use Rattle.sw_tree.specs.declared.operator.InfixOp.{InfixOp}
use Rattle.sw_tree.specs.declared.stmt.Pattern.{Pattern}
use Rattle.sw_graph.specs.declared.instr.Operand.{Operand}
use Rattle.sw_lower_code.specs.Code.{Code}
use Rattle.sw_lower_code.specs.Whole.{Body}
use Rattle.sw_lower_rules.specs.declared.targets.Targets.{Targets}

abbrev pub no_targets : Targets
no_targets = record { breaks = None; continues = None }

-- An expression: its key, whether it is the word `self`, the property where it is one of that word,
-- by the id of its name, the code of its value, that of an assignment to it, and the bodies of
-- closures and tasks in it.
pub record ExprCode : Type 0 where
  pub key : ℕ
  pub is_self : Bool
  pub own_part : Option ℕ
  pub read : Code Operand
  pub write : Operand → Code (Unit {0})
  pub inside : List Body

-- an argument
pub record ArgCode : Type 0 where
  pub read : Code Operand
  pub inside : List Body

-- an operator with its right operand
pub record LinkCode : Type 0 where
  pub op : InfixOp
  pub at : ℕ
  pub read : Code Operand
  pub inside : List Body

-- a property, by the id of its name, that an initialiser gives a value
pub record Given : Type 0 where
  pub name : ℕ
  pub read : Code Operand

-- A statement: its code, the code of its value where it is an expression, what it gives where it
-- assigns to a property of `self`, and the bodies in it.
pub record StmtCode : Type 0 where
  pub code : Targets → Code (Unit {0})
  pub only : Option (Code Operand)
  pub gives : List Given
  pub inside : List Body

-- a block: its code, the code of its value where it is one expression, what its statements give,
-- and the bodies in it
pub record BlockCode : Type 0 where
  pub code : Targets → Code (Unit {0})
  pub only : Option (Code Operand)
  pub gives : List Given
  pub inside : List Body

-- a closure or the body of a task
pub record ClosureCode : Type 0 where
  pub at : ℕ
  pub params : List ClosureParam
  pub body : BlockCode

-- an arm of a `switch`
pub record CaseCode : Type 0 where
  pub name : Name
  pub patterns : List Pattern
  pub body : BlockCode

-- an arm of an `if`
pub record IfCode : Type 0 where
  pub cond : Code Operand
  pub body : BlockCode
  pub inside : List Body
