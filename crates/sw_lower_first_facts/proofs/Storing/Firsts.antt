-- The function that gives a global variable its first value stores it before it returns.
use Rattle.std.proofs.Common.{◌≡◌, ℕ, Some, None, refl, slice_get, append-nil}
use Rattle.sw_tree.specs.declared.decl.Decl.{Decl}
use Rattle.sw_graph.specs.Placed.{FunctionAt}
use Rattle.sw_graph.specs.declared.graph.Graph.{Graph}
use Rattle.sw_decls.specs.declared.signature.AsyncDefault.{AsyncDefault}
use Rattle.sw_typing_rules.specs.Worlds.{World}
use Rattle.sw_graph.specs.Stores.{StoresFirst}
use Rattle.sw_machine_kind_facts.proofs.AnnotationLemmas.{stores_first}
use Rattle.sw_lower_plans.specs.Plan.{Numbers, Place}
use Rattle.sw_lower_code.specs.Code.{all, andthen, close, done, emit}
use Rattle.sw_lower_code.specs.Whole.{code_of, function_of, piece_of}
use Rattle.sw_lower_rules.specs.Bodies.{first_value, numbers_of}
use Rattle.sw_lower_rules.specs.Carriers.{ExprCode}
use Rattle.sw_lower_rules.specs.Statements.{expr_code}
use Rattle.sw_lower_rules.specs.Tables.{Tables}
use Rattle.sw_lower_total_facts.specs.Programs.{IsWelltyped, noted_tables}
use Rattle.sw_lower_first_facts.specs.Flowing.{FlowsWithoutReturn}
use Rattle.sw_lower_first_facts.specs.Programs.{IsGraph}
use Rattle.sw_lower_first_facts.specs.Storing.{AllReturnStoring}
use Rattle.sw_lower_first_facts.proofs.Flowing.Expressions.{flows_expr}
use Rattle.sw_lower_first_facts.proofs.Programs.Places.{function_at}
use Rattle.sw_lower_first_facts.proofs.Programs.Starts.{start_at}
use Rattle.sw_lower_first_facts.proofs.Storing.Blocks.{blocks_store}
use Rattle.sw_lower_first_facts.proofs.Storing.Points.{stored, stores_before}
use Rattle.std.proofs.Common.{List, []}

-- where the code of a first value begins
abbrev first_place : Numbers → Place
first_place number = record { regs = 0; blocks = 1; here = 0; vars = []; number = number }

-- Each block that returns stores the global variable last.
value_stores : (tables : Tables) (number : Numbers) (key g : ℕ) (code : ExprCode)
    → FlowsWithoutReturn code.read
    → AllReturnStoring g (function_of number (first_value tables key g code)).blocks
unfolding function_of code_of all andthen done emit close
value_stores tables number key g code flows =
    blocks_store g (first_place number) (code.read.plan (first_place number))
    (piece_of number (first_value tables key g code)) (record {
      at = key;
      given = (code.read.plan (first_place number)).value;
      writes = refl;
      lasts = refl;
      made = append-nil _;
    }) (flows (first_place number)) refl refl

-- What gives a global variable its first value stores it before it returns, on every way.
pub starts_store : (decls : List Decl) (rule : AsyncDefault) (world : World) (graph : Graph)
    → IsWelltyped decls rule world → IsGraph world decls graph → (g f : ℕ)
    → slice_get graph.starts g ≡ Some f → FunctionAt graph f (StoresFirst g)
starts_store decls rule world graph is lowered g f at =
    let tables = noted_tables world decls in
    let number = numbers_of lowered.ordered in
    let start = start_at decls rule world graph is lowered g f at in
    let code = expr_code tables None start.value in
    let function = function_of number (first_value tables start.prop.word.at g code) in
    let all = value_stores tables number start.prop.word.at g code
    (flows_expr tables None start.value) in
    function_at graph lowered.ordered lowered.functions f
    (first_value tables start.prop.word.at g code) start.at (StoresFirst g)
    (stores_first g function (stored g function all) (stores_before g function all))
