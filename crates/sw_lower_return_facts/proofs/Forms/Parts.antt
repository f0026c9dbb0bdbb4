-- What is shown of the arms of an `if` and of a `switch`, and of statements after each other.
use Rattle.std.proofs.Common.{◌≡◌, Bool, true, false, List, [], ◌∷◌, Option, None}
use Rattle.std.proofs.Common.{map}
use Rattle.std.specs.Prelude.{All, ◌&&◌, flat_map}
use Rattle.std.specs.List.{AllByRecursion}
use Rattle.std.proofs.lemmas.Bool.{false≢true}
use Rattle.std.proofs.lemmas.List.Elements.{All-append, All-nil}
use Rattle.sw_typing_rules.specs.Statements.{Armed, Head, Left, State, goes_on, is_one}
use Rattle.sw_typing_rules.specs.Statements.{then_left}
use Rattle.sw_lower_plans.specs.Plan.{Numbers}
use Rattle.sw_lower_rules.specs.Carriers.{BlockCode, CaseCode, IfCode, StmtCode}
use Rattle.sw_lower_rules.specs.Statements.{block_layer, block_only, else_code, inside_of}
use Rattle.sw_lower_return_facts.specs.Flows.{WaysFlow}
use Rattle.sw_lower_return_facts.specs.Forms.{BlockReturns, BodyReturns, GaveValue, GivesValue}
use Rattle.sw_lower_return_facts.specs.Forms.{OnlyFlows, StmtReturns, StmtsReturn}
use Rattle.sw_lower_return_facts.proofs.Statements.Arms.{CaseFlows, DefaultFlows, name_in}
use Rattle.sw_lower_return_facts.proofs.Statements.Branches.{ArmsFlow}
use Rattle.sw_typing_rules.proofs.Steps.{and_left, and_right}
use Rattle.sw_lower_return_facts.proofs.Statements.Sequences.{block_ways, more_stmts_ways, no_stmts_ways}

module _ (number : Numbers) where
  -- the arms of an `if`
  pub record ArmsReturn (state : State) (codes : List IfCode) (left : Left) : Type 0 where
    pub ways : GivesValue left.state.returned → ArmsFlow left.ends left.breaks codes
    pub back : GaveValue state left
    pub inside : All (BodyReturns number) (flat_map (λ (arm : IfCode). arm.inside) codes)

  -- its `else`
  pub record ElseReturns (state : State) (code : Option BlockCode) (left : Left) : Type 0 where
    pub ways : GivesValue left.state.returned → WaysFlow left.ends left.breaks (else_code code)
    pub back : GaveValue state left
    pub inside : All (BodyReturns number) (inside_of code)

  -- the `default` of a `switch`
  pub record DefaultReturns (state : State) (code : Option BlockCode) (left : Left) : Type 0 where
    pub ways : GivesValue left.state.returned → (ends breaks : Bool)
        → (ends ≡ true → left.ends ≡ true) → (left.breaks ≡ true → breaks ≡ true)
        → DefaultFlows ends breaks code
    pub back : GaveValue state left
    pub inside : All (BodyReturns number) (inside_of code)

  -- its arms
  pub record CasesReturn (state : State) (codes : List CaseCode) (armed : Armed) : Type 0 where
    pub ways : GivesValue armed.left.state.returned → (ends breaks : Bool)
        → (ends ≡ true → armed.left.ends ≡ true) → (armed.left.breaks ≡ true → breaks ≡ true)
        → AllByRecursion (CaseFlows ends breaks) codes
    pub back : GaveValue state armed.left
    pub inside : All (BodyReturns number) (flat_map (λ (arm : CaseCode). arm.body.inside) codes)
    pub names : map name_in codes ≡ map (λ (head : Head). head.name) armed.heads

  pub no_stmts_return : (only : Bool) (state : State)
      → StmtsReturn number only state [] (goes_on state [] true)
  no_stmts_return only state = record {
    ways = λ gives none. no_stmts_ways;
    back = λ gives. gives;
    only_flows = λ read is. cc;
    inside = All-nil (BodyReturns number);
  }

  only_of : (one : StmtCode) (more : List StmtCode) → OnlyFlows one.only
      → OnlyFlows (block_only (one ∷ more))
  only_of one [] flows = flows
  only_of one (other ∷ more) flows = λ read is. cc

  pub more_stmts_return : (only : Bool) (state : State) (one : StmtCode) (more : List StmtCode)
      (left last : Left) → StmtReturns number only state one left
      → StmtsReturn number only left.state more last
      → StmtsReturn number only state (one ∷ more) (then_left left last)
  more_stmts_return only state one more left last first rest = record {
    ways = λ gives none.
        more_stmts_ways one more left.ends left.breaks last.ends last.breaks
        (first.ways (rest.back gives) (λ is. (none is).0))
        (rest.ways gives (λ is. (none is).1));
    back = λ gives. first.back (rest.back gives);
    only_flows = only_of one more first.only_flows;
    inside = All-append (BodyReturns number) one.inside
        (flat_map (λ (other : StmtCode). other.inside) more) first.inside rest.inside;
  }

  -- A block with one statement that is no result has no statement that is one.
  none_only : (only : Bool) (codes : List StmtCode) → (only ≡ true → block_only codes ≡ None)
      → (only && is_one codes) ≡ true → AllByRecursion (λ (one : StmtCode). one.only ≡ None) codes
  none_only only [] none is = tt
  none_only only (one ∷ []) none is = (none (and_left only true is), tt)
  none_only only (one ∷ other ∷ more) none is = absurd (false≢true (and_right only false is))

  pub block_returns : (only : Bool) (state : State) (codes : List StmtCode) (left : Left)
      → StmtsReturn number (only && is_one codes) state codes left
      → BlockReturns number only state (block_layer codes) left
  block_returns only state codes left stmts = record {
    ways = λ gives none.
        block_ways codes left.ends left.breaks (stmts.ways gives (none_only only codes none));
    back = stmts.back;
    only_flows = stmts.only_flows;
    inside = stmts.inside;
  }
