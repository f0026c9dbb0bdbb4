-- Code that asks for nothing that isn't known.
use Rattle.std.specs.Prelude.{◌≢◌, IsSome, Err}
use Rattle.sw_lower_plans.specs.Plan.{Numbers}
use Rattle.sw_lower_plans.specs.Run.{Making}
use Rattle.sw_lower_plans.specs.declared.fault.CodeFault.TheVariants.{Missing}
use Rattle.sw_lower_code.specs.Code.{Code}
use Rattle.sw_lower_code.specs.Whole.{Body, lower_body}
use Rattle.sw_lower_code.specs.declared.fault.BodyFault.TheVariants as faults
use Rattle.sw_lower_rules.specs.Tables.{name_of}

-- The run of code doesn't end for want of something that it asks for.
abbrev pub Proceeds : {A : Type 0} → Making → Code A → Type 0
Proceeds making code = code.run making ≢ Err Missing

-- Nor does that of a body.
abbrev pub BodyProceeds : Numbers → Body → Type 0
BodyProceeds number body = lower_body number body ≢ Err faults.Missing

-- The function of a body has a number.
abbrev pub BodyIsNumbered : Numbers → Body → Type 0
BodyIsNumbered number body = IsSome (number (name_of body))
