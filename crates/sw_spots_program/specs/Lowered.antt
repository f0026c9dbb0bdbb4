-- A program whose bodies are made, and whose trees are as texts write them.
use Rattle.std.specs.Prelude.{List, None}
use Rattle.sw_tree.specs.Contents.{AreKeyed}
use Rattle.sw_tree.specs.declared.decl.Decl.{Decl}
use Rattle.sw_tree_facts.specs.Parts.{of_decls}
use Rattle.sw_decls.specs.Declaring.{IsFirstBreach}
use Rattle.sw_decls.specs.declared.signature.AsyncDefault.{AsyncDefault}
use Rattle.sw_typing_rules.specs.Worlds.{IsWorldOf, World}
use Rattle.sw_isolation_rules.specs.Answers.{Answers}
use Rattle.sw_lower_code.specs.Whole.{Body}
use Rattle.sw_lower_rules.specs.Bodies.{AreMade, AreNumbered, AreOrdered, tables_of}
use Rattle.sw_lower_rules.specs.Tables.{Isolation}
use Rattle.sw_spots_tree.specs.Needs.{Needs}

-- The bodies in order are those of the program, each is found by its name, and the code of each runs
-- to its end. The program keeps the rules on declarations, and its trees meet what is asked of them.
pub record IsMadeOf (world : World) (answers : Answers) (isolation : Isolation) (decls : List Decl)
    (rule : AsyncDefault) (ordered : List Body) : Type 0 where
  pub keyed : AreKeyed decls
  pub sound : IsFirstBreach decls None
  pub declared : IsWorldOf decls rule world
  pub are : AreOrdered (tables_of world answers isolation decls) decls ordered
  pub numbered : AreNumbered ordered
  pub made : AreMade ordered
  pub needs : Needs isolation.captures_of (of_decls decls)
