-- What is said of the code and the work of each type of tree.
use Rattle.std.specs.Prelude.{◌≡◌, ℕ, ◌==◌, ◌||◌, Bool, false, List, [], ◌∷◌, Option, Some, None}
use Rattle.std.specs.Prelude.{slice_get, if◌then◌else◌}
use Rattle.std.specs.Option.{option_map}
use Rattle.sw_graph.specs.declared.function.Function.{Function}
use Rattle.sw_graph.specs.declared.instr.Operand.{Operand}
use Rattle.sw_decls.specs.declared.signature.GlobalVar.{GlobalVar}
use Rattle.sw_decls.specs.declared.signature.Signature.{Signature}
use Rattle.sw_typing_rules.specs.Worlds.{and_then}
use Rattle.sw_lower_plans.specs.Plan.{Numbers}
use Rattle.sw_lower_plans.specs.declared.name.FunctionName.{FunctionName}
use Rattle.sw_lower_code.specs.Code.{Code}
use Rattle.sw_lower_rules.specs.Carriers as code
use Rattle.sw_lower_rules.specs.Carriers.{ArgCode, BlockCode, ExprCode, LinkCode, StmtCode}
use Rattle.sw_lower_rules.specs.Expressions.{iso_of}
use Rattle.sw_lower_rules.specs.Tables.{Tables, getter_of, plain}
use Rattle.sw_tree_work.specs.Facts.{Facts}
use Rattle.sw_tree_work.specs.Forms as work
use Rattle.sw_tree_work.specs.Forms.{ExprWork, LinkWork, StmtWork}
use Rattle.sw_tree_work.specs.Work.{Before, BodyName, FirstValue, GlobalGetter, PartGetter}
use Rattle.sw_tree_work.specs.Work.{Function as FunctionAt}
use Rattle.sw_spots.specs.Doing.{Leaves, Passes, Reads, Writes}
use Rattle.sw_spots.specs.Spots.{Program}

-- what work depends on, by what lowering looks up
abbrev pub facts_of : Tables → Facts
facts_of tables = record {
  world = tables.world;
  answers = tables.answers;
  iso_at = λ key. iso_of (tables.isolation.body_at key);
  kind_at = tables.isolation.kind_at;
  captures_of = tables.isolation.captures_of;
  is_boxed = tables.isolation.is_boxed;
}

-- whether a function is declared that has the key
abbrev pub is_declared : List Signature → ℕ → Bool
is_declared [] key = false
is_declared (func ∷ funcs) key = (func.key.at == key) || is_declared funcs key

-- The function of a body has a name by the key of what stands for it in the program. A closure, a task
-- and a first value have keys too, but no function that is declared has these.
abbrev pub function_name : Tables → BodyName → Option FunctionName
function_name tables (FunctionAt key) =
    if is_declared tables.world.funcs key then Some (plain key) else None
function_name tables (PartGetter shape part) = option_map getter_of (tables.part_key shape part)
function_name tables (GlobalGetter number) = option_map
    (λ (global : GlobalVar). getter_of global.key.at) (slice_get tables.world.globals number)
function_name tables (FirstValue number) = option_map
    (λ (global : GlobalVar). plain global.key.at) (slice_get tables.world.globals number)

abbrev pub program_of : Tables → Numbers → List Function → Program
program_of tables numbers functions = record {
  functions = functions;
  number = λ name. and_then (function_name tables name) numbers;
}

module _ (tables : Tables) (numbers : Numbers) (functions : List Function) where
  abbrev pub program : Program
  program = program_of tables numbers functions

  abbrev pub ValueStands : Code Operand → Before → Type 0
  ValueStands read before = Reads program numbers read before

  pub record ExprStands (expr : ExprCode) (one : ExprWork) : Type 0 where
    pub key : expr.key ≡ one.key
    pub is_self : expr.is_self ≡ one.is_self
    pub own_part : expr.own_part ≡ one.own_part
    pub read : ValueStands expr.read one.read
    pub write : Writes program numbers expr.write one.write

  pub record LinkStands (link : LinkCode) (one : LinkWork) : Type 0 where
    pub op : link.op ≡ one.op
    pub at : link.at ≡ one.at
    pub read : ValueStands link.read one.read

  -- the value of a statement that is an expression
  abbrev pub OnlyStands : Option (Code Operand) → Option Before → Type 0
  OnlyStands None None = Unit {0}
  OnlyStands (Some read) (Some before) = ValueStands read before
  OnlyStands _ _ = ⊥

  -- what is given to properties
  abbrev pub GivesStand : List code.Given → List work.Given → Type 0
  GivesStand [] [] = Unit {0}
  GivesStand (given ∷ gives) (one ∷ ones) =
      (given.name ≡ one.name) × ValueStands given.read one.read × GivesStand gives ones
  GivesStand _ _ = ⊥

  -- a statement, and a block, which declare such keys
  pub record StmtStands (Declares : ℕ → Type 0) (stmt : StmtCode) (one : StmtWork) : Type 0 where
    pub work : Passes program numbers Declares stmt.code one.work
    pub only : OnlyStands stmt.only one.only
    pub gives : GivesStand stmt.gives one.gives

  pub record BlockStands (Declares : ℕ → Type 0) (block : BlockCode) (one : StmtWork) : Type 0
    where
      pub work : Leaves program numbers Declares block.code one.work
      pub only : OnlyStands block.only one.only
      pub gives : GivesStand block.gives one.gives
