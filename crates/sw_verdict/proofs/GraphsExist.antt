-- Each text in which the phases up to the size of functions find no breach has a graph.
use Rattle.std.proofs.Common.{ℕ, List, [], None, map, refl, subst}
use Rattle.sw_tree.specs.declared.decl.Decl.{Decl}
use Rattle.sw_token.specs.Spelling.{spelling_of}
use Rattle.sw_graph.specs.declared.graph.Graph.{Graph}
use Rattle.sw_decl_words.specs.Placed.{IsFirstPlaced}
use Rattle.sw_decls.specs.Declaring.{IsFirstBreach}
use Rattle.sw_decls.specs.declared.signature.AsyncDefault.{AsyncDefault}
use Rattle.sw_typing_rules.specs.Programs.{IsFirstIll}
use Rattle.sw_typing_rules.specs.Worlds.{World}
use Rattle.sw_lower_code.specs.Whole.{Body}
use Rattle.sw_lower_rules.specs.Bodies.{AreOrdered, functions_of, global_kind, too_large_in}
use Rattle.sw_lower_formed_facts.proofs.GraphsFit.{graphs_fit}
use Rattle.sw_lower_total_facts.proofs.Lowering.{bodies_are_found, bodies_are_made, has_entry_number}
use Rattle.sw_lower_total_facts.proofs.Lowering.{has_starts}
use Rattle.sw_lower_total_facts.specs.Programs.{IsWelltyped}
use Rattle.sw_verdict.specs.Phases.{DeclarationsFinds, HasWorld, IsGraphOf, SizeFinds, TypesFinds}
use Rattle.sw_verdict.specs.Phases.{isolation_of_program, phases_to_size, tables_of_program}
use Rattle.sw_verdict.specs.Verdict.{Breaches, later, none}
use Rattle.sw_verdict.proofs.Finding.{none_first}
use Rattle.sw_verdict.proofs.Programs.{program_apart, program_welltyped}
use Rattle.sw_verdict.proofs.SameProgram.{of_same, same_decls, same_world}

-- The program of a text keeps the rules on declarations and on types, and none of its functions, in
-- the order of their keys, is too large.
pub record Keeps (rule : AsyncDefault) (text : List ℕ) : Type 0 where
  pub decls : List Decl
  pub world : World
  pub has_world : HasWorld rule text decls world
  pub welltyped : IsWelltyped decls rule world
  pub ordered : List Body
  pub are_ordered : AreOrdered (tables_of_program world decls) decls ordered
  pub none_large : IsFirstPlaced (too_large_in (functions_of ordered)) None

kept : (rule : AsyncDefault) (text : List ℕ) → DeclarationsFinds text [] → TypesFinds rule text []
    → SizeFinds rule text []
    → Keeps rule text
kept rule text declarations types size =
    let program = size.has_world.program in
    let (ordered, are_ordered, none_large) = none_first size.finds in
    record {
      decls = size.decls;
      world = size.world;
      has_world = size.has_world;
      welltyped = program_welltyped text program.tokens size.decls rule size.world
          program.are_tokens program.is_program
          (subst (λ (list : List Decl). IsFirstBreach list None)
          (same_decls text declarations.program program) (none_first declarations.finds))
          size.has_world.is_world
          (of_same (λ one list. IsFirstIll one list None)
          (same_world rule text types.has_world size.has_world) (none_first types.finds));
      ordered = ordered;
      are_ordered = are_ordered;
      none_large = none_large;
    }

pub passed : (rule : AsyncDefault) (text : List ℕ) → Breaches rule phases_to_size text []
    → Keeps rule text
passed rule text (later _ _ _ _ encoding (later _ _ _ _ lexis (later _ _ _ _ syntax
    (later _ _ _ _ declarations (later _ _ _ _ types (later _ _ _ _ isolation
    (later _ _ _ _ size (none _)))))))) =
    kept rule text declarations types size

pub some_graph : (rule : AsyncDefault) (text : List ℕ) → Breaches rule phases_to_size text []
    → (graph : Graph) × IsGraphOf rule text graph
some_graph rule text accepts =
    let keeps = passed rule text accepts in
    let program = keeps.has_world.program in
    let (entry, entry_is) = has_entry_number keeps.decls rule keeps.world keeps.welltyped
    keeps.ordered keeps.are_ordered in
    let (starts, starts_are) = has_starts keeps.decls rule keeps.world keeps.welltyped
    keeps.ordered keeps.are_ordered in
    let found = bodies_are_found keeps.decls rule keeps.world keeps.welltyped keeps.ordered
    keeps.are_ordered in (
      record {
        shapes = keeps.world.shapes;
        globals = map global_kind keeps.world.globals;
        functions = functions_of keeps.ordered;
        entry = entry;
        starts = starts;
        well_formed = graphs_fit keeps.decls rule keeps.world
            (isolation_of_program keeps.world keeps.decls) keeps.ordered entry starts
            keeps.welltyped.keyed
            (program_apart (spelling_of text program.tokens) keeps.decls program.is_program)
            keeps.welltyped.sound keeps.has_world.is_world keeps.welltyped.well keeps.are_ordered found
            (bodies_are_made keeps.decls rule keeps.world keeps.welltyped keeps.ordered
            keeps.are_ordered keeps.none_large) entry_is starts_are;
      },
      record {
        decls = keeps.decls;
        world = keeps.world;
        has_world = keeps.has_world;
        lowered = record {
          ordered = keeps.ordered;
          are_ordered = keeps.are_ordered;
          shapes = refl;
          globals = refl;
          functions = refl;
          entry = entry_is;
          starts = starts_are;
        };
        numbered = found;
      },
    )
