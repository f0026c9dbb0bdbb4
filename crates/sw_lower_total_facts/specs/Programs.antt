-- Programs that keep the rules, and what is looked up in a program, by what is said and noted of
-- it.
use Rattle.std.specs.Prelude.{◌<◌, ◌^◌, List, None}
use Rattle.sw_tree.specs.Contents.{AreKeyed}
use Rattle.sw_tree.specs.declared.decl.Decl.{Decl}
use Rattle.sw_tree_facts.specs.Sizes.{size_of}
use Rattle.sw_tree_facts.specs.Unwritten.{AreWritten}
use Rattle.sw_tree_facts.specs.Values.{AreValued}
use Rattle.sw_decls.specs.Declaring.{IsFirstBreach}
use Rattle.sw_decls.specs.declared.signature.AsyncDefault.{AsyncDefault}
use Rattle.sw_typing_rules.specs.Programs.{IsFirstIll, said}
use Rattle.sw_typing_rules.specs.Worlds.{IsWorldOf, World}
use Rattle.sw_isolation_rules.specs.Answers.{answers_in}
use Rattle.sw_isolation_rules.specs.Programs.{noted}
use Rattle.sw_isolation_rules.specs.declared.note.Note.{Note}
use Rattle.sw_lower_rules.specs.Tables.{Tables, isolation_in}
use Rattle.sw_lower_formed_facts.specs.Programs.{tables_in}
use Rattle.sw_tree.specs.Scopes.{AreScoped}

-- all that is noted of a program
abbrev pub notes_of : World → List Decl → List Note
notes_of world decls = noted world (answers_in (said world decls)) decls

-- the tables of a program
abbrev pub noted_tables : World → List Decl → Tables
noted_tables world decls = tables_in world (isolation_in (notes_of world decls)) decls

-- A program as texts write them, which keeps the rules on declarations and on types: its keys are
-- its nodes' own and tell scopes, its global variables have first values, neither of the two forms
-- stands in it that `AreWritten` rules out, and it is so small that numbers of 32 bits are enough for
-- the blocks and for the functions that lowering makes of it.
pub record IsWelltyped (decls : List Decl) (rule : AsyncDefault) (world : World) : Type 0 where
  pub keyed : AreKeyed decls
  pub scoped : AreScoped decls
  pub valued : AreValued decls
  pub written : AreWritten decls
  pub small : size_of decls < 2 ^ 30
  pub sound : IsFirstBreach decls None
  pub declared : IsWorldOf decls rule world
  pub well : IsFirstIll world decls None
