-- What is shown of the code of each form: it asks for nothing that isn't known, and neither do the
-- bodies in it.
use Rattle.std.specs.Prelude.{◌≡◌, ℕ, ◌<◌, ◌⊎◌, true, List, Option, Some, Ok, All}
use Rattle.std.specs.Prelude.{Contains, length, map, flat_map}
use Rattle.sw_graph.specs.declared.instr.Operand.{Operand}
use Rattle.sw_typing_rules.specs.Statements.{Left, State}
use Rattle.sw_typing_rules.specs.declared.scope.Inside.{Inside}
use Rattle.sw_typing_rules.specs.declared.scope.Var.{Var}
use Rattle.sw_isolation_rules.specs.declared.note.Note.{Note}
use Rattle.sw_isolation_rules.specs.declared.uses.Context.{Context}
use Rattle.sw_lower_plans.specs.Plan.{Numbers}
use Rattle.sw_lower_plans.specs.Run.{IsGoing, Making}
use Rattle.sw_lower_plans.specs.declared.bound.Bound.{Bound}
use Rattle.sw_lower_code.specs.Code.{Code}
use Rattle.sw_lower_rules.specs.Carriers.{ArgCode, BlockCode, ExprCode, LinkCode, StmtCode}
use Rattle.sw_lower_rules.specs.Expressions.{args_inside, args_read, links_read}
use Rattle.sw_lower_rules.specs.Tables.{Tables}
use Rattle.sw_lower_rules.specs.declared.targets.Targets.{Targets}
use Rattle.sw_lower_total_facts.specs.Bound.{InBoxes, VariableIsBound, Ready, seen_in}
use Rattle.sw_lower_total_facts.specs.Proceeding.{BodyProceeds, Proceeds}

-- Where a body may be left by `break` or go on by `continue`, there is a block for that.
pub record HasTarget (making : Making) (to : Option ℕ) : Type 0 where
  pub block : ℕ
  pub is : to ≡ Some block
  pub made : block < length making.made.blocks

pub record HasTargets (inside : Inside) (making : Making) (targets : Targets) : Type 0 where
  pub breaks : inside.leaves ≡ true → HasTarget making targets.breaks
  pub continues : inside.loops ≡ true → HasTarget making targets.continues

module _ (tables : Tables) (number : Numbers) (context : Context) (listed : List ℕ) where
  -- code with these notes proceeds wherever these variables are seen
  abbrev pub Reads : List Var → List Note → {A : Type 0} → Code A → Type 0
  Reads vars notes code = (making : Making)
      → Ready tables number context listed (seen_in tables context.owner vars) notes making
      → Proceeds making code

  pub record ExprProceeds (vars : List Var) (notes : List Note) (code : ExprCode) : Type 0 where
    pub read : Reads vars notes code.read
    pub inside : All (BodyProceeds number) code.inside

  pub record ArgsProceed (vars : List Var) (notes : List Note) (args : List ArgCode) : Type 0 where
    pub read : Reads vars notes (args_read args)
    pub inside : All (BodyProceeds number) (args_inside args)

  pub record LinksProceed (vars : List Var) (notes : List Note) (links : List LinkCode)
      : Type 0 where
    pub read : (left : Operand) → Reads vars notes (links_read links left)
    pub inside : All (BodyProceeds number) (flat_map (λ (link : LinkCode). link.inside) links)

  -- an assignment to a place, with what is noted before it is assigned
  abbrev pub PlaceProceeds : List Var → List Note → ExprCode → Type 0
  PlaceProceeds vars before code = (given : Operand) → Reads vars before (code.write given)

  -- code of statements, where all that is bound before it is in boxes that are to be
  abbrev pub CodeProceeds : Inside → List Var → List Note → (Targets → Code (Unit {0})) → Type 0
  CodeProceeds inside vars notes code = (targets : Targets) (making : Making)
      → Ready tables number context listed (seen_in tables context.owner vars) notes making
      → InBoxes tables listed making.vars → HasTargets inside making targets
      → Proceeds making (code targets)

  -- The variables that are seen after code are those before it, and new ones, which are bound; and
  -- what is bound is in boxes that are to be.
  pub record AreBound (before after : List Var) (vars : List Bound) : Type 0 where
    pub new : (key : ℕ) → Contains (map (λ (one : Var). one.at) after) key
        → Contains (map (λ (one : Var). one.at) before) key ⊎ VariableIsBound tables listed vars key
    pub boxes : InBoxes tables listed vars

  abbrev pub Binds : List Var → List Var → (Targets → Code (Unit {0})) → Type 0
  Binds before after code = (targets : Targets) (making later : Making) → IsGoing making
      → InBoxes tables listed making.vars → (code targets).run making ≡ Ok (tt, later)
      → AreBound before after later.vars

  -- the expression of a body that is one expression
  abbrev pub OnlyProceeds : List Var → List Note → Option (Code Operand) → Type 0
  OnlyProceeds vars notes only = (read : Code Operand) → only ≡ Some read → Reads vars notes read

  pub record StmtProceeds (inside : Inside) (state : State) (notes : List Note) (code : StmtCode)
      (left : Left) : Type 0 where
    pub code_proceeds : CodeProceeds inside state.vars notes code.code
    pub binds : Binds state.vars left.state.vars code.code
    pub only : OnlyProceeds state.vars notes code.only
    pub inside_proceed : All (BodyProceeds number) code.inside

  pub record BlockProceeds (inside : Inside) (state : State) (notes : List Note) (code : BlockCode)
      : Type 0 where
    pub code_proceeds : CodeProceeds inside state.vars notes code.code
    pub only : OnlyProceeds state.vars notes code.only
    pub inside_proceed : All (BodyProceeds number) code.inside
