-- The program of declarations, by its world and its bodies in order.
use Rattle.std.specs.Prelude.{List}
use Rattle.sw_tree.specs.declared.decl.Decl.{Decl}
use Rattle.sw_typing_rules.specs.Worlds.{World}
use Rattle.sw_lower_code.specs.Whole.{Body}
use Rattle.sw_lower_rules.specs.Bodies.{functions_of, numbers_of, program_bodies}
use Rattle.sw_lower_total_facts.specs.Programs.{noted_tables, notes_of}
use Rattle.sw_lower_call_facts.proofs.Calls.Insides.{insides}
use Rattle.sw_lower_placed_facts.specs.Hosts.{Program}

abbrev pub program_of : World → List Decl → List Body → Program
program_of world decls ordered = record {
  tables = noted_tables world decls;
  notes = notes_of world decls;
  numbers = numbers_of ordered;
  bodies = program_bodies (noted_tables world decls) decls;
  inside = insides (noted_tables world decls) decls;
  functions = functions_of ordered;
}
