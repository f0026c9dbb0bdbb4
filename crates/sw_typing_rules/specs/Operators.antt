-- The types of operators.
use Rattle.std.specs.Prelude.{Bool, ◌&&◌, ◌||◌, Option, Some, None, if◌then◌else◌}
use Rattle.sw_tree.specs.declared.operator.AssignOp.{AssignOp}
use Rattle.sw_tree.specs.declared.operator.AssignOp.TheVariants as assign
use Rattle.sw_tree.specs.declared.operator.InfixOp.{InfixOp}
use Rattle.sw_tree.specs.declared.operator.InfixOp.TheVariants as infix_of
use Rattle.sw_tree.specs.declared.operator.PrefixOp.{PrefixOp}
use Rattle.sw_tree.specs.declared.operator.PrefixOp.TheVariants as prefix_of
use Rattle.sw_types.specs.declared.ty.Ty.{Ty}
use Rattle.sw_types.specs.declared.ty.Ty.TheVariants as types
use Rattle.sw_typing_rules.specs.Fits.{fits}
use Rattle.sw_typing_rules.specs.Verdicts.{is_int, is_bool}
use Rattle.sw_typing_rules.specs.declared.verdict.Verdict.{Verdict}
use Rattle.sw_typing_rules.specs.declared.verdict.Verdict.TheVariants.{Has, Fails, Held}

abbrev pub are_ints : Ty → Ty → Bool
are_ints left right = is_int left && is_int right

abbrev pub are_bools : Ty → Ty → Bool
are_bools left right = is_bool left && is_bool right

-- What operators there are: `+ - * / %` of Ints, `< <= > >=` of Ints, `== !=` of Ints or of Bools,
-- and `&& ||` of Bools.
pub data Sort : Type 0 where
  Arithmetic : Sort
  Order : Sort
  Equality : Sort
  Logic : Sort

abbrev pub sort_of : InfixOp → Sort
sort_of infix_of.Or = Logic
sort_of infix_of.And = Logic
sort_of infix_of.Equal = Equality
sort_of infix_of.NotEqual = Equality
sort_of infix_of.Less = Order
sort_of infix_of.LessEqual = Order
sort_of infix_of.Greater = Order
sort_of infix_of.GreaterEqual = Order
sort_of infix_of.Add = Arithmetic
sort_of infix_of.Subtract = Arithmetic
sort_of infix_of.Multiply = Arithmetic
sort_of infix_of.Divide = Arithmetic
sort_of infix_of.Remainder = Arithmetic

abbrev pub takes : Sort → Ty → Ty → Bool
takes Arithmetic left right = are_ints left right
takes Order left right = are_ints left right
takes Equality left right = are_ints left right || are_bools left right
takes Logic left right = are_bools left right

abbrev pub gives : Sort → Ty
gives Arithmetic = types.Int
gives Order = types.Bool
gives Equality = types.Bool
gives Logic = types.Bool

-- an operator between two operands
abbrev pub infix_types : InfixOp → Option Ty → Option Ty → Verdict
infix_types op None right = Held
infix_types op (Some left) None = Held
infix_types op (Some left) (Some right) =
    if takes (sort_of op) left right then Has (gives (sort_of op)) else Fails 402

-- `!` of a Bool and `-` of an Int
abbrev pub prefix_types : PrefixOp → Option Ty → Verdict
prefix_types op None = Held
prefix_types prefix_of.Not (Some ty) = if is_bool ty then Has types.Bool else Fails 402
prefix_types prefix_of.Negate (Some ty) = if is_int ty then Has types.Int else Fails 402

-- the value of an assignment: accepted by the place, or two Ints
abbrev pub assigns : AssignOp → Ty → Ty → Bool
assigns assign.Set place value = fits value place
assigns assign.Add place value = are_ints place value
assigns assign.Subtract place value = are_ints place value
assigns assign.Multiply place value = are_ints place value
assigns assign.Divide place value = are_ints place value
assigns assign.Remainder place value = are_ints place value
