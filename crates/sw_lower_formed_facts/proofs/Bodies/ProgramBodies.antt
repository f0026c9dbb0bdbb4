-- Each body of a program has a function that fits.
use Rattle.std.proofs.Common.{List, [], None, map}
use Rattle.std.specs.Prelude.{All}
use Rattle.sw_lower_formed_facts.specs.Programs.{tables_in}
use Rattle.sw_tree.specs.Contents.{AreKeyed}
use Rattle.sw_tree.specs.declared.decl.Decl.{Decl}
use Rattle.sw_graph.specs.WellFormed.{FunctionFits}
use Rattle.sw_graph.specs.declared.function.Function.{Function}
use Rattle.sw_decls.specs.Declaring.{IsFirstBreach}
use Rattle.sw_decls.specs.declared.signature.AsyncDefault.{AsyncDefault}
use Rattle.sw_typing_rules.specs.Programs.{IsFirstIll, said}
use Rattle.sw_typing_rules.specs.Worlds.{IsWorldOf, World}
use Rattle.sw_isolation_rules.specs.Answers.{answers_in}
use Rattle.sw_lower_plans.specs.Plan.{Numbers}
use Rattle.sw_lower_code.specs.Whole.{Body, function_of}
use Rattle.sw_lower_rules.specs.Bodies.{global_kind, program_bodies, tables_of}
use Rattle.sw_lower_rules.specs.Tables.{Isolation, Tables}
use Rattle.sw_lower_formed_facts.specs.Ground.{Ground}
use Rattle.sw_lower_formed_facts.specs.Trees.{BlocksHold, ExprsHold, IsHere}
use Rattle.sw_lower_formed_facts.proofs.Bodies.EachForm.{FormsGive, program_gives}
use Rattle.sw_lower_formed_facts.proofs.Bodies.FuncTrees.{keyed_fits, tree_fits}
use Rattle.sw_lower_formed_facts.proofs.Bodies.GetterBodies.{prop_getters_fit}
use Rattle.sw_lower_formed_facts.proofs.Bodies.Given.{Fits, IsProgram}
use Rattle.sw_lower_formed_facts.proofs.Bodies.GlobalBodies.{globals_fit}
use Rattle.sw_lower_formed_facts.proofs.Bodies.InitBodies.{default_fits, init_fits}
use Rattle.sw_typing_facts.proofs.Lists.Joined.{Gives}

module _ (world : World) (isolation : Isolation) (decls : List Decl) (rule : AsyncDefault)
    (number : Numbers) (functions : List Function)
    (program : IsProgram world isolation decls rule number functions) where
  abbrev tables : Tables
  tables = tables_in world isolation decls

  -- the bodies of each form
  forms : FormsGive world decls rule tables (IsHere tables number functions)
      (Fits tables number functions)
  forms = record {
    getters = λ n props. prop_getters_fit tables number functions program.ground n 0 props;
    trees = λ n g decl owner actor tree stands has declared typed.
        tree_fits world isolation decls rule number functions program n g decl owner actor tree
        stands declared typed;
    entry = λ n g word written at is_async body stands one declared same typed.
        keyed_fits world isolation decls rule number functions program at at [] body one declared
        same typed;
    globals = λ n g prop stands.
        globals_fit world isolation decls rule number functions program n g prop stands;
    default = λ n g decl word actor props inits object none declared.
        default_fits world isolation decls rule number functions program n props inits object.ok
        object.shape object.there object.parts object.kind object.values word actor declared;
    init = λ n g decl word actor props inits object init more are declared typed.
        init_fits world isolation decls rule number functions program n props inits object.ok
        object.shape object.there object.parts object.kind object.values init more are word actor
        declared typed;
  }

  -- the functions of a program
  pub program_fits : Gives (IsHere tables number functions) (Fits tables number functions)
      (program_bodies tables decls)
  program_fits =
      program_gives world decls rule tables (IsHere tables number functions)
      (Fits tables number functions) forms program.keyed program.declared program.sound

-- The function of each body of a program fits into its graph, where no declaration breaches a rule
-- and no node is ill, and the code of its expressions and blocks is safe.
pub bodies_fit : (world : World) (isolation : Isolation) (decls : List Decl) (rule : AsyncDefault)
    (number : Numbers) (functions : List Function) → AreKeyed decls → IsWorldOf decls rule world
    → IsFirstBreach decls None → IsFirstIll world decls None
    → Ground (tables_of world (answers_in (said world decls)) isolation decls) number functions
    → ExprsHold (tables_of world (answers_in (said world decls)) isolation decls) number functions
    → BlocksHold (tables_of world (answers_in (said world decls)) isolation decls) number functions
    → All (IsHere (tables_of world (answers_in (said world decls)) isolation decls) number
    functions)
    (program_bodies (tables_of world (answers_in (said world decls)) isolation decls) decls)
    → All (λ (body : Body). FunctionFits world.shapes (map global_kind world.globals) functions
    (function_of number body))
    (program_bodies (tables_of world (answers_in (said world decls)) isolation decls) decls)
bodies_fit world isolation decls rule number functions keyed declared sound well ground exprs blocks
    here =
    program_fits world isolation decls rule number functions (record {
      keyed = keyed;
      declared = declared;
      sound = sound;
      well = well;
      ground = ground;
      exprs = exprs;
      blocks = blocks;
    }) here
