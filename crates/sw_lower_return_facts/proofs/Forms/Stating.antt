-- Statements without parts that are statements.
use Rattle.std.proofs.Common.{◌≡◌, ℕ, Bool, true, false, Option, Some, None, refl}
use Rattle.sw_tree.specs.declared.name.Name.{Name}
use Rattle.sw_types.specs.declared.ty.Ty.{Ty}
use Rattle.sw_typing_rules.specs.Expressions.{Judged}
use Rattle.sw_typing_rules.specs.Statements.{State, bind_left}
use Rattle.sw_typing_rules.specs.Statements.{plain_left, return_value}
use Rattle.sw_typing_rules.specs.declared.scope.Returned.{Returned}
use Rattle.sw_typing_rules.specs.declared.scope.Returned.TheVariants.{Gives, Open, Wants}
use Rattle.sw_graph.specs.declared.instr.Operand.{Operand}
use Rattle.sw_lower_code.specs.Code.{Code}
use Rattle.sw_lower_rules.specs.declared.targets.Targets.{Targets}
use Rattle.sw_lower_return_facts.specs.Flows.{WaysFlow}

-- A declaration's ways go on.
pub bind_ways : (state : State) (mutable : Bool) (name : Name) (written : Option Ty)
    (value : Judged) (code : Targets → Code (Unit {0})) → WaysFlow false false code
    → WaysFlow (bind_left state mutable name written value).ends
    (bind_left state mutable name written value).breaks code
bind_ways state mutable name None value code ways = ways
bind_ways state mutable name (Some ty) value code ways = ways

-- Those of a `return` with a value end.
pub value_ways : (found : Returned) (state : State) (at : ℕ) (value : Judged)
    (code : Targets → Code (Unit {0})) → WaysFlow true false code
    → WaysFlow (return_value found state at value).ends (return_value found state at value).breaks
    code
value_ways (Wants ty) state at value code ways = ways
value_ways (Open places) state at value code ways = ways
value_ways (Gives None) state at value code ways = ways
value_ways (Gives (Some ty)) state at value code ways = ways

-- Those of an expression go on that is no result of its body.
pub plain_left_ways : (only : Bool) (state : State) (value : Judged) (read : Code Operand)
    (code : Targets → Code (Unit {0})) → (only ≡ true → Some read ≡ None)
    → WaysFlow false false code
    → WaysFlow (plain_left only state value).ends (plain_left only state value).breaks code
plain_left_ways false state value read code none ways = ways
plain_left_ways true state value read code none ways = absurd (some_none (none refl)) where
  some_none : Some read ≡ None → ⊥
  some_none is = cc
