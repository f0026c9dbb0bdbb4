-- What is said of the code of statements, where a property of the code of expressions is kept, and
-- what is then shown of the code of each type of tree.
use Rattle.std.specs.Prelude.{◌≡◌, ℕ, false, List, Option, Some, None, All}
use Rattle.std.specs.List.{AllByRecursion}
use Rattle.sw_tree.specs.declared.operator.AssignOp.{AssignOp}
use Rattle.sw_graph.specs.declared.instr.Last.TheVariants.{Return}
use Rattle.sw_graph.specs.declared.instr.Operand.{Operand}
use Rattle.sw_lower_code.specs.Code.{Code, all, andthen, close, scope}
use Rattle.sw_lower_code.specs.Whole.{Body}
use Rattle.sw_lower_rules.specs.Carriers.{ArgCode, BlockCode, CaseCode, ExprCode, IfCode, LinkCode}
use Rattle.sw_lower_rules.specs.Carriers.{StmtCode}
use Rattle.sw_lower_rules.specs.Statements.{arms_code, assign, declare_var, else_code, ignored, leave}
use Rattle.sw_lower_rules.specs.Statements.{return_code, switch_code, while_code}
use Rattle.sw_lower_rules.specs.Tables.{Tables}
use Rattle.sw_lower_rules.specs.declared.targets.Targets.{Targets}
use Rattle.sw_lower_code_facts.specs.Kept.{ExprHas, GivesHave, Kept}

-- code that depends on where `break` and `continue` lead
abbrev pub ForTargets : (Code (Unit {0}) → Type 0) → (Targets → Code (Unit {0})) → Type 0
ForTargets Says code = (targets : Targets) → Says (code targets)

-- a block that may be left out
abbrev pub ForSome : (Code (Unit {0}) → Type 0) → Option BlockCode → Type 0
ForSome Says None = Unit {0}
ForSome Says (Some block) = ForTargets Says block.code

-- So it is said of the code of each form of statement, of blocks, and of bodies that end there.
pub record Said (kept : Kept) (tables : Tables) : Type 1 where
  pub Says : Code (Unit {0}) → Type 0
  pub declared : (key : ℕ) (read : Code Operand) → kept.Has read
      → Says (andthen read (declare_var tables key))
  pub assigned : (op : AssignOp) (at : ℕ) (place : ExprCode) (read : Code Operand)
      → ExprHas kept place → kept.Has read → Says (andthen read (assign op at place))
  pub unused : (read : Code Operand) → kept.Has read → Says (ignored tables read)
  pub branches : (arms : List IfCode) (otherwise : Option BlockCode) (targets : Targets)
      → AllByRecursion (λ (arm : IfCode). kept.Has arm.cond × ForTargets Says arm.body.code) arms
      → ForSome Says otherwise
      → Says (arms_code arms (else_code otherwise targets) targets)
  pub loop : (cond : Code Operand) (body : BlockCode) → kept.Has cond → ForTargets Says body.code
      → Says (while_code cond body)
  pub switch : (subject : ExprCode) (arms : List CaseCode) (otherwise : Option BlockCode)
      (targets : Targets) → kept.Has subject.read
      → AllByRecursion (λ (arm : CaseCode). ForTargets Says arm.body.code) arms
      → ForSome Says otherwise
      → Says (switch_code tables subject arms otherwise targets)
  pub return_nothing : Says (return_code tables None)
  pub return_value : (read : Code Operand) → kept.Has read → Says (return_code tables (Some read))
  pub left : (to : Option ℕ) → Says (leave tables to)
  pub block : (stmts : List StmtCode) (targets : Targets)
      → AllByRecursion (λ (one : StmtCode). Says (one.code targets)) stmts
      → Says (scope (all (λ (one : StmtCode). one.code targets) stmts))
  pub ended : (code : Code (Unit {0})) → Says code
      → Says (andthen code (λ done. close (Return None)))
  pub ended_by : (read : Code Operand) → kept.Has read
      → Says (andthen read (λ given. close (Return (Some given))))

module _ {kept : Kept} {tables : Tables} (said : Said kept tables) where
  -- the body of a closure or of a task
  pub record BodySo (body : Body) : Type 0 where
    pub code : said.Says body.code
    pub closure : body.getter ≡ false

  pub record ExprSo (code : ExprCode) : Type 0 where
    pub has : ExprHas kept code
    pub inside : All BodySo code.inside

  pub record ArgSo (arg : ArgCode) : Type 0 where
    pub read : kept.Has arg.read
    pub inside : All BodySo arg.inside

  pub record LinkSo (link : LinkCode) : Type 0 where
    pub read : kept.Has link.read
    pub inside : All BodySo link.inside

  -- the code of a value, where there is one
  abbrev pub OnlySo : Option (Code Operand) → Type 0
  OnlySo None = Unit {0}
  OnlySo (Some read) = kept.Has read

  pub record StmtSo (stmt : StmtCode) : Type 0 where
    pub code : ForTargets said.Says stmt.code
    pub only : OnlySo stmt.only
    pub gives : GivesHave kept stmt.gives
    pub inside : All BodySo stmt.inside

  pub record BlockSo (block : BlockCode) : Type 0 where
    pub code : ForTargets said.Says block.code
    pub only : OnlySo block.only
    pub gives : GivesHave kept block.gives
    pub inside : All BodySo block.inside

  pub record IfSo (arm : IfCode) : Type 0 where
    pub cond : kept.Has arm.cond
    pub body : BlockSo arm.body
    pub inside : All BodySo arm.inside
