-- What is given of a program whose bodies are shown to ask for nothing that isn't known.
use Rattle.std.proofs.Common.{List, None}
use Rattle.sw_tree.specs.Contents.{AreKeyed}
use Rattle.sw_tree.specs.declared.decl.Decl.{Decl}
use Rattle.sw_decls.specs.Declaring.{IsFirstBreach}
use Rattle.sw_decls.specs.declared.signature.AsyncDefault.{AsyncDefault}
use Rattle.sw_typing_rules.specs.Programs.{IsFirstIll}
use Rattle.sw_typing_rules.specs.Worlds.{IsWorldOf, World}
use Rattle.sw_lower_plans.specs.Plan.{Numbers}
use Rattle.sw_lower_total_facts.specs.Known.{TablesAgree}
use Rattle.sw_lower_total_facts.specs.Programs.{noted_tables, notes_of}
use Rattle.sw_tree.specs.Scopes.{AreScoped}
use Rattle.sw_lower_total_facts.specs.Trees.{BlocksProceed, ExprsProceed}

-- Nodes have keys of their own, which tell scopes; no declaration breaches a rule, and no node is
-- ill; and the code of expressions and blocks proceeds.
pub record IsProgram (world : World) (decls : List Decl) (rule : AsyncDefault) (number : Numbers)
    : Type 0 where
  pub keyed : AreKeyed decls
  pub scoped : AreScoped decls
  pub declared : IsWorldOf decls rule world
  pub sound : IsFirstBreach decls None
  pub well : IsFirstIll world decls None
  pub known : TablesAgree (noted_tables world decls) number (notes_of world decls)
  pub exprs : ExprsProceed (noted_tables world decls) number (notes_of world decls)
  pub blocks : BlocksProceed (noted_tables world decls) number (notes_of world decls)
