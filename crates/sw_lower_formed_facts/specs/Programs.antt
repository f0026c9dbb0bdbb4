-- The tables of a whole program.
use Rattle.std.specs.Prelude.{List}
use Rattle.sw_tree.specs.declared.decl.Decl.{Decl}
use Rattle.sw_typing_rules.specs.Programs.{said}
use Rattle.sw_typing_rules.specs.Worlds.{World}
use Rattle.sw_isolation_rules.specs.Answers.{answers_in}
use Rattle.sw_lower_rules.specs.Bodies.{tables_of}
use Rattle.sw_lower_rules.specs.Tables.{Isolation, Tables}

-- the tables of a program: what the rules on types say of its nodes, and its isolation
abbrev pub tables_in : World → Isolation → List Decl → Tables
tables_in world isolation decls =
    tables_of world (answers_in (said world decls)) isolation decls
