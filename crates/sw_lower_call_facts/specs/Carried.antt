-- What holds of the code of expressions and blocks: each call and each task in it, and in the bodies
-- in it, is of something.
use Rattle.std.specs.Prelude.{◌≡◌, true, List, All, Contains}
use Rattle.sw_types.specs.declared.ty.Ty.{Ty}
use Rattle.sw_lower_plans.specs.Plan.{Numbers}
use Rattle.sw_lower_code.specs.Whole.{Body}
use Rattle.sw_lower_rules.specs.Carriers.{BlockCode, ExprCode, Given}
use Rattle.sw_lower_rules.specs.Expressions.{body_code, iso_of}
use Rattle.sw_lower_rules.specs.Tables.{Tables}
use Rattle.sw_lower_call_facts.specs.Calls.{CodeIsOfBodies}

module _ (tables : Tables) (numbers : Numbers) (bodies : List Body) where
  -- These bodies are among those of the program.
  abbrev pub AreIn : List Body → Type 0
  AreIn some = (body : Body) → Contains some body → Contains bodies body

  -- a body; a getter has the isolation that is noted of its key
  pub record BodyCalls (body : Body) : Type 0 where
    pub code : CodeIsOfBodies tables numbers bodies body.code
    pub isolated : body.getter ≡ true → body.iso ≡ iso_of (tables.isolation.body_at body.key)

  pub record GivenCalls (given : Given) : Type 0 where
    pub read : CodeIsOfBodies tables numbers bodies given.read

  pub record ExprCalls (code : ExprCode) : Type 0 where
    pub read : CodeIsOfBodies tables numbers bodies code.read
    pub inside : All BodyCalls code.inside

  pub record BlockCalls (block : BlockCode) : Type 0 where
    pub code : (result : Ty) → CodeIsOfBodies tables numbers bodies (body_code result block)
    pub gives : All GivenCalls block.gives
    pub inside : All BodyCalls block.inside
