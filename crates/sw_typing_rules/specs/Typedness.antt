-- Where variables and results have types.
use Rattle.std.specs.Prelude.{Bool, true, ◌&&◌, List, [], ◌∷◌, is_some}
use Rattle.sw_typing_rules.specs.Statements.{State}
use Rattle.sw_typing_rules.specs.declared.scope.Returned.{Returned}
use Rattle.sw_typing_rules.specs.declared.scope.Returned.TheVariants.{Wants, Open, Gives}
use Rattle.sw_typing_rules.specs.declared.scope.Var.{Var}

-- each variable has a type
abbrev pub vars_typed : List Var → Bool
vars_typed [] = true
vars_typed (one ∷ vars) = is_some one.ty && vars_typed vars

-- the first value that was returned, if there was one, had a type
abbrev pub returned_typed : Returned → Bool
returned_typed (Wants ty) = true
returned_typed (Open places) = true
returned_typed (Gives ty) = is_some ty

abbrev pub state_typed : State → Bool
state_typed state = vars_typed state.vars && returned_typed state.returned
