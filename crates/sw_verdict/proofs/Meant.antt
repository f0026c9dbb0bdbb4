-- What a text means that was judged by the phases up to the size of functions.
use Rattle.std.proofs.Common.{◌≡◌, ℕ, ◌<◌, List, [], ◌∷◌, length, map, flat_map, All, sym, subst}
use Rattle.std.proofs.Common.{ap, ◌∙◌}
use Rattle.std.specs.Prelude.{string_bytes}
use Rattle.sw_token.specs.Spelling.{spelling_of}
use Rattle.sw_tree.specs.CasePlaces.{CasesApart}
use Rattle.sw_tree.specs.Names.{main_actor_id}
use Rattle.sw_decls.specs.Declaring.{actor_ids}
use Rattle.sw_decls.specs.declared.signature.AsyncDefault.{AsyncDefault}
use Rattle.sw_isolation_table.specs.Known.{answers_of}
use Rattle.sw_lower_known.specs.Knowledge.{isolation_of}
use Rattle.sw_lower_rules.specs.Bodies.{Lowered}
use Rattle.sw_typing_rules.specs.Worlds.{world_of}
use Rattle.sw_verdict.specs.ActorNames.{HasActorNames, actor_names}
use Rattle.sw_verdict.specs.Decided.{IsMeaning, IsSpelledText}
use Rattle.sw_verdict.specs.Judged.{IsNamedGraphOf}
use Rattle.sw_verdict.specs.Phases.{HasProgram, phases_to_size}
use Rattle.sw_verdict.specs.Verdict.{Breaches}
use Rattle.sw_verdict.specs.declared.judging.Meaning.{Meaning}
use Rattle.sw_verdict.specs.declared.judging.Spelled.{Spelled as Read}
use Rattle.sw_verdict.specs.declared.judging.NamedGraph.{NamedGraph}
use Rattle.sw_verdict.proofs.ActorNames.{actors_known}
use Rattle.sw_verdict.proofs.LoweredTexts.{made_graph}
use Rattle.sw_verdict.proofs.Programs.{program_apart}

-- A text has the program that was read of it. It can be lowered, and its global actors have names.
module _ (text : List ℕ) (read : Read) (is : IsSpelledText text read) where
  abbrev pub spelled_program : HasProgram text read.program.decls
  spelled_program = record {
    tokens = read.tokens.items;
    are_tokens = is.are_tokens;
    is_program = is.is_program;
  }

  pub meant_apart : CasesApart read.program.decls
  meant_apart =
      program_apart (spelling_of text read.tokens.items) read.program.decls is.is_program

  pub meant_named : All (λ id. id < length read.program.texts)
      (main_actor_id ∷ flat_map actor_ids read.program.decls)
  meant_named =
      subst (λ texts. All (λ id. id < length texts)
      (main_actor_id ∷ flat_map actor_ids read.program.decls)) (sym is.texts)
      (actors_known (spelling_of text read.tokens.items) read.program.decls is.is_program)

  pub meant_actors : (names : List (List ℕ))
      → names ≡ actor_names read.program.texts read.program.decls → HasActorNames text names
  meant_actors names are = record {
    decls = read.program.decls;
    program = spelled_program;
    names_are = are ∙ ap (λ texts. actor_names texts read.program.decls) is.texts;
  }

-- the graph that was made of what a text means
pub meant_graph : (rule : AsyncDefault) (text : List ℕ) (meaning : Meaning) (made : NamedGraph)
    → IsMeaning rule text meaning → Breaches rule phases_to_size text []
    → Lowered (world_of meaning.found.declared) (answers_of meaning.found.typed)
    (isolation_of meaning.found.isolated) meaning.spelled.program.decls made.graph
    → map string_bytes made.actors
    ≡ actor_names meaning.spelled.program.texts meaning.spelled.program.decls
    → IsNamedGraphOf rule text made
meant_graph rule text meaning made is passes lowered names = record {
  verdict = (
    passes,
    made_graph rule text meaning.spelled meaning.found made.graph is.spelled is.analysed lowered,
  );
  actors = meant_actors text meaning.spelled is.spelled (map string_bytes made.actors) names;
}
