-- What is shown of the code of each form: it is safe wherever it stands in a function of the graph,
-- and the functions of the bodies in it fit.
use Rattle.std.specs.Prelude.{◌≡◌, ℕ, Bool, true, false, List, [], ◌∷◌, map, flat_map, Option, Some}
use Rattle.std.specs.Prelude.{None, All, IsOk}
use Rattle.sw_types.specs.Accepts.{IsAcceptedAs}
use Rattle.sw_types.specs.declared.ty.Ty.{Ty}
use Rattle.sw_graph.specs.WellFormed.{FunctionFits}
use Rattle.sw_graph.specs.declared.function.Function.{Function}
use Rattle.sw_graph.specs.declared.instr.Operand.{Operand}
use Rattle.sw_typing_rules.specs.Expressions.{Judged}
use Rattle.sw_typing_rules.specs.Statements.{Left, State}
use Rattle.sw_typing_rules.specs.Verdicts.{is_unit}
use Rattle.sw_typing_rules.specs.declared.scope.Returned.{Returned}
use Rattle.sw_typing_rules.specs.declared.scope.Returned.TheVariants.{Gives, Open, Wants}
use Rattle.sw_typing_rules.specs.declared.scope.Var.{Var}
use Rattle.sw_isolation_rules.specs.Answers.{Answers}
use Rattle.sw_lower_plans.specs.Plan.{Anywhere, NewBlock, Numbers}
use Rattle.sw_lower_code.specs.Code.{Code}
use Rattle.sw_lower_code.specs.Whole.{Body, function_of, lower_body}
use Rattle.sw_lower_rules.specs.Bodies.{global_kind}
use Rattle.sw_lower_rules.specs.Carriers.{ArgCode, BlockCode, ExprCode, LinkCode, StmtCode}
use Rattle.sw_lower_rules.specs.Expressions.{args_inside, args_read, links_read}
use Rattle.sw_lower_rules.specs.Tables.{Tables}
use Rattle.sw_lower_rules.specs.declared.targets.Targets.{Targets}
use Rattle.sw_lower_formed_facts.specs.Ground.{IsOfGraph, Knows}
use Rattle.sw_lower_formed_facts.specs.Safe.{Follows, IsValue, Keeps, Position, SafeAt, ValueAfter, here}
use Rattle.sw_lower_formed_facts.specs.Whole.{AtEnd, Whole, made_at}

-- A visible variable has a type, which is that of its node.
pub record VarHolds (answers : Answers) (one : Var) : Type 0 where
  pub ty : Ty
  pub has : one.ty ≡ Some ty
  pub typed : answers.type_at one.at ≡ Some ty

-- each of these variables
abbrev pub VarsHold : Answers → List Var → Type 0
VarsHold answers vars = All (VarHolds answers) vars

-- Operands have values of these types, in order.
abbrev pub AreValues : Whole → Position → List Ty → List Operand → Type 0
AreValues w q [] [] = Unit {0}
AreValues w q (ty ∷ tys) (x ∷ xs) = IsValue w q ty x × AreValues w q tys xs
AreValues w q _ _ = ⊥

-- What a body gives, as far as it is known, is this type.
abbrev pub ReturnsOk : Returned → Ty → Type 0
ReturnsOk (Wants ty) result = ty ≡ result
ReturnsOk (Open places) result = Unit {0}
ReturnsOk (Gives None) result = ⊥
ReturnsOk (Gives (Some ty)) result = ty ≡ result

-- No value was given yet.
abbrev pub IsBegun : Returned → Type 0
IsBegun (Wants ty) = Unit {0}
IsBegun (Open places) = Unit {0}
IsBegun (Gives ty) = ⊥

-- a value that a body may give
pub record GivesTo (w : Whole) (q : Position) (result : Ty) (x : Operand) : Type 0 where
  pub ty : Ty
  pub value : IsValue w q ty x
  pub accepted : IsAcceptedAs ty result

-- A block to which `break` or `continue` may lead was made for every way, and what has a value
-- where it begins has one here.
pub record IsTarget (w : Whole) (p : Position) (number : ℕ) : Type 0 where
  pub one : NewBlock
  pub made : made_at w number ≡ Some one
  pub entry : one.entry ≡ Anywhere
  pub passes : (r : ℕ) → AtEnd w one.from r → AtEnd w (here p) r

-- where `break` and `continue` lead, if they lead anywhere
pub record TargetsOk (w : Whole) (p : Position) (targets : Targets) : Type 0 where
  pub breaks : (number : ℕ) → targets.breaks ≡ Some number → IsTarget w p number
  pub continues : (number : ℕ) → targets.continues ≡ Some number → IsTarget w p number

module _ (tables : Tables) (number : Numbers) (functions : List Function) where
  -- The function of a body fits into the graph, where its code asks for nothing that isn't known.
  abbrev pub BodyFits : Body → Type 0
  BodyFits body = IsOk (lower_body number body)
      → FunctionFits tables.world.shapes (map global_kind tables.world.globals) functions
      (function_of number body)

  -- the functions of these bodies
  abbrev pub BodiesFit : List Body → Type 0
  BodiesFit bodies = All BodyFits bodies

  -- This holds wherever code may stand in a function of the graph, in a member of the type `owner`.
  abbrev pub Wherever : Option ℕ → (Whole → Position → Type 0) → Type 0
  Wherever owner P = (w : Whole) → IsOfGraph tables functions w → (p : Position)
      → Knows tables owner number w p → P w p

  -- An expression has a type, which is that of its node, its code gives a value of the type, and
  -- the bodies in it fit.
  pub record ExprOk (owner : Option ℕ) (code : ExprCode) (judged : Judged) : Type 0 where
    pub ty : Ty
    pub has : judged.ty ≡ Some ty
    pub typed : tables.answers.type_at code.key ≡ Some ty
    pub read : Wherever owner (λ w p. SafeAt w p code.read
        (λ x q. ValueAfter w p ty x q × BodiesFit code.inside))
    -- a place takes each value whose type is accepted
    pub write : judged.settable ≡ true → Wherever owner (λ w p. (from : Ty) (x : Operand)
        → IsValue w p from x → IsAcceptedAs from ty
        → SafeAt w p (code.write x) (λ _ q. Keeps w p q × BodiesFit code.inside))

  -- arguments of these types
  pub record ArgsOk (owner : Option ℕ) (args : List ArgCode) (tys : List Ty) : Type 0 where
    pub read : Wherever owner (λ w p. SafeAt w p (args_read args)
        (λ xs q. AreValues w q tys xs × (Keeps w p q × BodiesFit (args_inside args))))

  -- the operators of a chain, after a value of this type
  pub record LinksOk (owner : Option ℕ) (links : List LinkCode) (from ty : Ty) : Type 0 where
    pub read : Wherever owner (λ w p. (left : Operand) → IsValue w p from left
        → SafeAt w p (links_read links left)
        (λ x q. ValueAfter w p ty x q
        × BodiesFit (flat_map (λ (link : LinkCode). link.inside) links)))

  -- the expression of a body that is one expression
  abbrev pub OnlyOk : Option ℕ → Returned → Returned → Option (Code Operand) → List Body → Type 0
  OnlyOk owner before after only inside = (read : Code Operand) → only ≡ Some read
      → IsBegun before → (result : Ty) → ReturnsOk after result → is_unit result ≡ false
      → Wherever owner (λ w p. SafeAt w p read
      (λ x q. GivesTo w q result x × (Keeps w p q × BodiesFit inside)))

  -- what is given at the end is what was to be given before
  abbrev pub ReturnsBack : Returned → Returned → Type 0
  ReturnsBack before after = (result : Ty) → ReturnsOk after result → ReturnsOk before result

  -- code of statements, by what a body gives after them
  abbrev pub CodeOk : Option ℕ → Returned → (Targets → Code (Unit {0}))
      → (Whole → Position → Position → Type 0) → Type 0
  CodeOk owner after code Post = Wherever owner (λ w p. (targets : Targets) → TargetsOk w p targets
      → ReturnsOk after w.result → SafeAt w p (code targets) (λ _ q. Post w p q))

  -- A statement; `only` says whether it is the one statement of a body.
  pub record StmtOk (owner : Option ℕ) (only : Bool) (state : State) (code : StmtCode)
      (left : Left) : Type 0 where
    pub code_ok : CodeOk owner left.state.returned code.code
        (λ w p q. Follows w p q × (Knows tables owner number w q × BodiesFit code.inside))
    pub only_ok : only ≡ true
        → OnlyOk owner state.returned left.state.returned code.only code.inside
    pub back : ReturnsBack state.returned left.state.returned

  -- a block, whose variables are seen in it alone
  pub record BlockOk (owner : Option ℕ) (only : Bool) (state : State) (code : BlockCode)
      (left : Left) : Type 0 where
    pub code_ok : CodeOk owner left.state.returned code.code
        (λ w p q. Keeps w p q × BodiesFit code.inside)
    pub only_ok : only ≡ true
        → OnlyOk owner state.returned left.state.returned code.only code.inside
    pub back : ReturnsBack state.returned left.state.returned
