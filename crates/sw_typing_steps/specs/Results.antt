-- What a `return` does, by what is known of the result of its body.
use Rattle.std.specs.Prelude.{ℕ, Bool, true, false, not, List, [], ◌∷◌, ◌++◌, Option, Some, None}
use Rattle.std.specs.Prelude.{is_some}
use Rattle.sw_types.specs.declared.ty.Ty.{Ty}
use Rattle.sw_typing_rules.specs.Statements.{bare_rows, no_bare, refused}
use Rattle.sw_typing_rules.specs.Verdicts.{is_accepted, is_unit}
use Rattle.sw_typing_rules.specs.declared.row.Row.{Row}
use Rattle.sw_typing_rules.specs.declared.scope.Returned.{Returned}
use Rattle.sw_typing_rules.specs.declared.scope.Returned.TheVariants.{Wants, Open, Gives}

-- whether a `return` without a value fits
abbrev pub takes_bare : Returned → Bool
takes_bare (Wants ty) = is_unit ty
takes_bare (Open places) = true
takes_bare (Gives None) = true
takes_bare (Gives (Some ty)) = is_unit ty

-- what is known of the result after a `return` without a value
abbrev pub with_bare : ℕ → Returned → Returned
with_bare at (Wants ty) = Wants ty
with_bare at (Open places) = Open (places ++ at ∷ [])
with_bare at (Gives ty) = Gives ty

-- whether a `return` of a value of this type fits, and all before it
abbrev pub takes_value : Option Ty → Returned → Bool
takes_value ty (Wants wanted) = is_accepted ty wanted
takes_value ty (Open places) = no_bare places ty
takes_value ty (Gives None) = is_some ty
takes_value ty (Gives (Some wanted)) = is_accepted ty wanted

-- what is noted of a `return` of a value of this type
abbrev pub value_rows : ℕ → Option Ty → Returned → List Row
value_rows at ty (Wants wanted) = refused at ty wanted
value_rows at ty (Open places) = bare_rows places ty
value_rows at ty (Gives None) = []
value_rows at ty (Gives (Some wanted)) = refused at ty wanted

-- what is known of the result after a `return` of a value of this type
abbrev pub with_value : Option Ty → Returned → Returned
with_value ty (Wants wanted) = Wants wanted
with_value ty (Open places) = Gives ty
with_value ty (Gives given) = Gives given

-- whether the one expression of a body is its result
abbrev pub takes_plain : Returned → Bool
takes_plain (Wants ty) = not (is_unit ty)
takes_plain (Open places) = true
takes_plain (Gives ty) = false
