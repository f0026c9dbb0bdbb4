-- What is given of a program whose bodies are shown to have functions that fit.
use Rattle.std.proofs.Common.{List, None, map}
use Rattle.std.specs.Prelude.{All}
use Rattle.sw_lower_formed_facts.specs.Programs.{tables_in}
use Rattle.sw_tree.specs.Contents.{AreKeyed}
use Rattle.sw_tree.specs.declared.decl.Decl.{Decl}
use Rattle.sw_graph.specs.WellFormed.{FunctionFits}
use Rattle.sw_graph.specs.declared.function.Function.{Function}
use Rattle.sw_decls.specs.Declaring.{IsFirstBreach}
use Rattle.sw_decls.specs.declared.signature.AsyncDefault.{AsyncDefault}
use Rattle.sw_typing_rules.specs.Programs.{IsFirstIll}
use Rattle.sw_typing_rules.specs.Worlds.{IsWorldOf, World}
use Rattle.sw_lower_plans.specs.Plan.{Numbers}
use Rattle.sw_lower_code.specs.Whole.{Body, function_of}
use Rattle.sw_lower_rules.specs.Bodies.{global_kind}
use Rattle.sw_lower_rules.specs.Tables.{Isolation, Tables}
use Rattle.sw_lower_formed_facts.specs.Forms.{BodiesFit}
use Rattle.sw_lower_formed_facts.specs.Ground.{Ground}
use Rattle.sw_lower_formed_facts.specs.Trees.{BlocksHold, ExprsHold, IsHere}

-- Nodes have keys of their own, no declaration breaches a rule, and no node is ill; and the code of
-- expressions and blocks is safe.
pub record IsProgram (world : World) (isolation : Isolation) (decls : List Decl)
    (rule : AsyncDefault) (number : Numbers) (functions : List Function) : Type 0 where
  pub keyed : AreKeyed decls
  pub declared : IsWorldOf decls rule world
  pub sound : IsFirstBreach decls None
  pub well : IsFirstIll world decls None
  pub ground : Ground (tables_in world isolation decls) number functions
  pub exprs : ExprsHold (tables_in world isolation decls) number functions
  pub blocks : BlocksHold (tables_in world isolation decls) number functions

module _ (tables : Tables) (number : Numbers) (functions : List Function) where
  -- the function of a body fits into the graph
  abbrev pub Fits : Body → Type 0
  Fits body = FunctionFits tables.world.shapes (map global_kind tables.world.globals) functions
      (function_of number body)

  -- The functions of these bodies fit.
  abbrev pub AllFit : List Body → Type 0
  AllFit bodies = All Fits bodies

  -- These bodies have code, and functions that are found by their names.
  abbrev pub AllHere : List Body → Type 0
  AllHere bodies = All (IsHere tables number functions) bodies

  -- The bodies inside of one that fits.
  pub fit_inside : (bodies : List Body) → AllHere bodies → BodiesFit tables number functions bodies
      → AllFit bodies
  fit_inside bodies here fit = λ k d below. fit k d below (here k d below).made
