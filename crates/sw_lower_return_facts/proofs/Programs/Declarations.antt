-- The functions of all bodies of a program return their results.
use Rattle.std.proofs.Common.{List, []}
use Rattle.sw_lower_formed_facts.specs.Programs.{tables_in}
use Rattle.sw_tree.specs.declared.decl.Decl.{Decl}
use Rattle.sw_graph.specs.declared.function.Function.{Function}
use Rattle.sw_decls.specs.declared.signature.AsyncDefault.{AsyncDefault}
use Rattle.sw_typing_rules.specs.Worlds.{World}
use Rattle.sw_lower_plans.specs.Plan.{Numbers}
use Rattle.sw_lower_rules.specs.Bodies.{program_bodies}
use Rattle.sw_lower_rules.specs.Tables.{Isolation, Tables}
use Rattle.sw_lower_formed_facts.specs.Trees.{IsHere}
use Rattle.sw_lower_formed_facts.proofs.Bodies.EachForm.{FormsGive, program_gives}
use Rattle.sw_lower_formed_facts.proofs.Bodies.Given.{IsProgram}
use Rattle.sw_typing_facts.proofs.Lists.Joined.{Gives}
use Rattle.sw_lower_return_facts.specs.Forms.{BodyReturns}
use Rattle.sw_lower_return_facts.proofs.Programs.FuncTrees.{keyed_returns, tree_returns}
use Rattle.sw_lower_return_facts.proofs.Programs.Getters.{prop_getters_return}
use Rattle.sw_lower_return_facts.proofs.Programs.Globals.{globals_return}
use Rattle.sw_lower_return_facts.proofs.Programs.Initialisers.{default_returns, init_returns}

module _ (world : World) (isolation : Isolation) (decls : List Decl) (rule : AsyncDefault)
    (number : Numbers) (functions : List Function)
    (program : IsProgram world isolation decls rule number functions) where
  abbrev tables : Tables
  tables = tables_in world isolation decls

  -- the bodies of each form
  forms : FormsGive world decls rule tables (IsHere tables number functions) (BodyReturns number)
  forms = record {
    getters = λ n props. prop_getters_return tables number functions n 0 props;
    trees = λ n g decl owner actor tree stands has declared typed.
        tree_returns world isolation decls rule number functions program n g decl owner actor tree
        stands declared typed;
    entry = λ n g word written at is_async body stands one declared same typed.
        keyed_returns world isolation decls rule number functions program at at [] body one
        declared same typed;
    globals = λ n g prop stands.
        globals_return world isolation decls rule number functions program n g prop stands;
    default = λ n g decl word actor props inits object none declared.
        default_returns world isolation decls rule number functions program n props word;
    init = λ n g decl word actor props inits object init more are declared typed.
        init_returns world isolation decls rule number functions program n props inits object.ok
        object.shape object.there object.parts init more are typed;
  }

  -- the functions of a program
  pub program_returns : Gives (IsHere tables number functions) (BodyReturns number)
      (program_bodies tables decls)
  program_returns =
      program_gives world decls rule tables (IsHere tables number functions) (BodyReturns number)
      forms program.keyed program.declared program.sound
