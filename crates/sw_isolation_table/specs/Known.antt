-- What is known of the nodes of a program by the answers of typing.
use Rattle.std.specs.Prelude.{nat_eq}
use Rattle.indexmap.specs.IndexMap.{get}
use Rattle.sw_typing_table.specs.declared.typed.Typed.{Typed}
use Rattle.sw_isolation_rules.specs.Answers.{Answers}

abbrev pub answers_of : Typed → Answers
answers_of typed = record {
  type_at = get nat_eq typed.types;
  meaning_at = get nat_eq typed.meanings;
}
