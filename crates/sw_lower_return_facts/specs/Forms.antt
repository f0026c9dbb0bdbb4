-- What is shown of the code of each form: where blocks that are reached go on, and that the
-- functions of the bodies in it return their results.
use Rattle.std.specs.Prelude.{◌≡◌, Bool, true, false, List, [], ◌∷◌, Option, Some, None, All}
use Rattle.std.specs.Prelude.{flat_map}
use Rattle.std.specs.List.{AllByRecursion}
use Rattle.sw_typing_rules.specs.Statements.{Left, State}
use Rattle.sw_typing_rules.specs.Verdicts.{is_unit}
use Rattle.sw_typing_rules.specs.declared.scope.Returned.{Returned}
use Rattle.sw_typing_rules.specs.declared.scope.Returned.TheVariants.{Gives, Open, Wants}
use Rattle.sw_graph.specs.Supplied.{ReturnsResult}
use Rattle.sw_lower_plans.specs.Plan.{Numbers}
use Rattle.sw_lower_code.specs.Code.{Code, all}
use Rattle.sw_lower_code.specs.Whole.{Body, function_of}
use Rattle.sw_graph.specs.declared.instr.Operand.{Operand}
use Rattle.sw_lower_rules.specs.Carriers.{BlockCode, StmtCode}
use Rattle.sw_lower_rules.specs.Statements.{block_only}
use Rattle.sw_lower_return_facts.specs.Flows.{CodeFlows, WaysFlow}

-- What a body gives, as far as it is known, is a value that isn't `Void`, and no `return` without a
-- value stood before.
abbrev pub GivesValue : Returned → Type 0
GivesValue (Wants ty) = is_unit ty ≡ false
GivesValue (Open []) = Unit {0}
GivesValue (Open (at ∷ places)) = ⊥
GivesValue (Gives None) = ⊥
GivesValue (Gives (Some ty)) = is_unit ty ≡ false

-- A body gave a value before, if it gives one in the end.
abbrev pub GaveValue : State → Left → Type 0
GaveValue state left = GivesValue left.state.returned → GivesValue state.returned

abbrev pub OnlyFlows : Option (Code Operand) → Type 0
OnlyFlows only = (read : Code Operand) → only ≡ Some read → CodeFlows read

module _ (number : Numbers) where
  -- The function of a body returns its result.
  abbrev pub BodyReturns : Body → Type 0
  BodyReturns body = ReturnsResult (function_of number body)

  -- A statement; `only` says whether it is the one statement of a body. An expression that is such
  -- a statement is no statement of the body, but its result.
  pub record StmtReturns (only : Bool) (state : State) (code : StmtCode) (left : Left)
      : Type 0 where
    pub ways : GivesValue left.state.returned → (only ≡ true → code.only ≡ None)
        → WaysFlow left.ends left.breaks code.code
    pub back : GaveValue state left
    pub only_flows : OnlyFlows code.only
    pub inside : All BodyReturns code.inside

  -- statements after each other
  pub record StmtsReturn (only : Bool) (state : State) (codes : List StmtCode) (left : Left)
      : Type 0 where
    pub ways : GivesValue left.state.returned
        → (only ≡ true → AllByRecursion (λ (one : StmtCode). one.only ≡ None) codes)
        → WaysFlow left.ends left.breaks
        (λ targets. all (λ (one : StmtCode). one.code targets) codes)
    pub back : GaveValue state left
    pub only_flows : OnlyFlows (block_only codes)
    pub inside : All BodyReturns (flat_map (λ (one : StmtCode). one.inside) codes)

  pub record BlockReturns (only : Bool) (state : State) (code : BlockCode) (left : Left)
      : Type 0 where
    pub ways : GivesValue left.state.returned → (only ≡ true → code.only ≡ None)
        → WaysFlow left.ends left.breaks code.code
    pub back : GaveValue state left
    pub only_flows : OnlyFlows code.only
    pub inside : All BodyReturns code.inside
