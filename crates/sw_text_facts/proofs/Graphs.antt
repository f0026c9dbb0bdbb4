-- The graph of a text is placed where the phases up to the size of functions find no breach in it,
-- and clean where it is accepted.
use Rattle.std.proofs.Common.{◌≡◌, ℕ, List, [], ◌∷◌, Contains, inl, refl}
use Rattle.sw_tree.specs.declared.decl.Decl.{Decl}
use Rattle.sw_tree.proofs.Members.{in_map}
use Rattle.sw_graph.specs.Clean.{IsClean}
use Rattle.sw_graph.specs.Placed.{IsPlaced}
use Rattle.sw_graph.specs.declared.graph.Graph.{Graph}
use Rattle.sw_token.specs.Spelling.{spelling_of}
use Rattle.sw_decl_words.specs.declared.placed.Placed.{Placed}
use Rattle.sw_decls.specs.declared.signature.AsyncDefault.{AsyncDefault}
use Rattle.sw_typing_rules.specs.Worlds.{World}
use Rattle.sw_isolation_rules.specs.Programs.{refusals}
use Rattle.sw_isolation_rules.specs.Races.{races as program_races}
use Rattle.sw_typing_facts.proofs.Lists.Listed.{in_first}
use Rattle.sw_lower_total_facts.specs.Programs.{IsWelltyped}
use Rattle.sw_lower_placed_facts.proofs.Graphs.Keeping.{clean_graph, placed_graph}
use Rattle.sw_region_flow.proofs.OneSites.{no_member}
use Rattle.sw_verdict.specs.Phases.{HasProgram, IsGraphOf, IsolationFinds, Races, RacesFinds}
use Rattle.sw_verdict.specs.Phases.{answers_of_program, breach_of, phases_to_size}
use Rattle.sw_verdict.specs.Verdict.{Accepts, Breaches, later, none}
use Rattle.sw_verdict.proofs.Finding.{none_first}
use Rattle.sw_verdict.proofs.GraphsExist.{passed}
use Rattle.sw_verdict.proofs.LoweredTexts.{accepted_to_size}
use Rattle.sw_verdict.proofs.Passing.{last_finds}
use Rattle.sw_verdict.proofs.Programs.{program_apart}
use Rattle.sw_verdict.proofs.SameProgram.{of_same, same_world}

-- the breaches of isolation of a program in its world
abbrev in_bodies : World → List Decl → List Placed
in_bodies world decls = refusals world (answers_of_program world decls) decls

-- and the values that it shares and may not
abbrev in_values : World → List Decl → List Placed
in_values world decls = program_races world (answers_of_program world decls) decls

-- a list without elements
none_there : (list : List Placed) → ((one : Placed) → Contains list one → ⊥) → list ≡ []
none_there [] never = refl
none_there (one ∷ list) never = absurd (never one (in_first one list))

-- what the phase of isolation finds
isolation_found : (rule : AsyncDefault) (text : List ℕ) → Breaches rule phases_to_size text []
    → IsolationFinds rule text []
isolation_found rule text (later _ _ _ _ _ (later _ _ _ _ _ (later _ _ _ _ _ (later _ _ _ _ _
    (later _ _ _ _ _ (later _ _ _ _ isolation (later _ _ _ _ _ (none _)))))))) = isolation

module _ (rule : AsyncDefault) (text : List ℕ) (graph : Graph) (of : IsGraphOf rule text graph)
  where
    -- A program without breaches of isolation is that of the text.
    none_refused : IsolationFinds rule text [] → in_bodies of.world of.decls ≡ []
    none_refused found =
        of_same (λ world decls. in_bodies world decls ≡ [])
        (same_world rule text found.has_world of.has_world) (none_first found.finds)

    -- One without races shares no value that may not be.
    none_shared : RacesFinds rule text [] → in_values of.world of.decls ≡ []
    none_shared found =
        let values = found.are_shared in
        of_same (λ world decls. in_values world decls ≡ [])
        (same_world rule text values.has_world of.has_world)
        (none_there (in_values values.world values.decls) (λ one has.
        let kept = found.are_all.complete (breach_of one)
        (inl (in_map breach_of found.shared one (values.are.covers one has))) in
        no_member kept.0 kept.1))

    module _ (passes : Breaches rule phases_to_size text []) where
      welltyped : IsWelltyped of.decls rule of.world
      welltyped =
          let keeps = passed rule text passes in
          of_same (λ world decls. IsWelltyped decls rule world)
          (same_world rule text keeps.has_world of.has_world) keeps.welltyped

      abbrev program : HasProgram text of.decls
      program = of.has_world.program

      is_placed : IsPlaced graph
      is_placed =
          placed_graph of.decls rule of.world graph welltyped
          (program_apart (spelling_of text program.tokens) of.decls program.is_program)
          (none_refused (isolation_found rule text passes)) of.lowered

      is_clean : in_values of.world of.decls ≡ [] → IsClean graph
      is_clean unshared =
          clean_graph of.decls rule of.world graph welltyped
          (program_apart (spelling_of text program.tokens) of.decls program.is_program)
          (none_refused (isolation_found rule text passes)) unshared of.lowered

pub text_placed : (rule : AsyncDefault) (text : List ℕ) (graph : Graph)
    → Breaches rule phases_to_size text []
    → IsGraphOf rule text graph → IsPlaced graph
text_placed rule text graph passes of = is_placed rule text graph of passes

pub unshared_clean : (rule : AsyncDefault) (text : List ℕ) (graph : Graph)
    → Breaches rule phases_to_size text []
    → (of : IsGraphOf rule text graph)
    → program_races of.world (answers_of_program of.world of.decls) of.decls ≡ [] → IsClean graph
unshared_clean rule text graph passes of unshared = is_clean rule text graph of passes unshared

pub accepted_clean : (rule : AsyncDefault) (text : List ℕ) (graph : Graph) → Accepts rule text
    → IsGraphOf rule text graph
    → IsClean graph
accepted_clean rule text graph accepts of =
    is_clean rule text graph of (accepted_to_size rule text accepts)
    (none_shared rule text graph of (last_finds rule Races text accepts))
