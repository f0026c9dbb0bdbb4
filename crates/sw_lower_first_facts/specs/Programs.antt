-- The graph of a program.
use Rattle.std.specs.Prelude.{List}
use Rattle.sw_tree.specs.declared.decl.Decl.{Decl}
use Rattle.sw_graph.specs.declared.graph.Graph.{Graph}
use Rattle.sw_typing_rules.specs.Programs.{said}
use Rattle.sw_typing_rules.specs.Worlds.{World}
use Rattle.sw_isolation_rules.specs.Answers.{answers_in}
use Rattle.sw_lower_rules.specs.Bodies.{Lowered}
use Rattle.sw_lower_rules.specs.Tables.{isolation_in}
use Rattle.sw_lower_total_facts.specs.Programs.{notes_of}

-- The graph is that of a program, by what is said and noted of it.
abbrev pub IsGraph : World → List Decl → Graph → Type 0
IsGraph world decls graph =
    Lowered world (answers_in (said world decls)) (isolation_in (notes_of world decls)) decls graph
