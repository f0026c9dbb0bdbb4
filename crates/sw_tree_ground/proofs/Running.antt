-- The machine on the tree of a program does what that on the program's graph does.
use Rattle.std.proofs.Common.{◌≡◌, ℕ, List, [], ◌++◌, length, refl, ap, sym, ◌∙◌, subst}
use Rattle.std.proofs.lemmas.List.{length-map}
use Rattle.sw_tree.specs.declared.decl.Decl.{Decl}
use Rattle.sw_tree_facts.specs.Parts.{of_decls}
use Rattle.sw_graph.specs.Supplied.{IsSupplied}
use Rattle.sw_graph.specs.declared.graph.Graph.{Graph}
use Rattle.sw_decls.specs.declared.signature.AsyncDefault.{AsyncDefault}
use Rattle.sw_typing_rules.specs.Programs.{said}
use Rattle.sw_typing_rules.specs.Worlds.{World}
use Rattle.sw_isolation_rules.specs.Answers.{Answers, answers_in}
use Rattle.sw_value.specs.Reach.{reach}
use Rattle.sw_value.specs.Start.{start_of}
use Rattle.sw_machine_kind_facts.specs.Kinded.{Kinded}
use Rattle.sw_machine_kind_facts.proofs.NeverStuck.{reached_kinded}
use Rattle.sw_lower_rules.specs.Bodies.{AreMade, AreNumbered, Lowered, functions_of, global_kind}
use Rattle.sw_lower_rules.specs.Bodies.{numbers_of, tables_of}
use Rattle.sw_lower_rules.specs.Tables.{Isolation, Tables, isolation_in}
use Rattle.sw_lower_total_facts.specs.Programs.{IsWelltyped, notes_of}
use Rattle.sw_tree_work.specs.Bodies.{Bodies, bodies_of}
use Rattle.sw_tree_work.specs.Facts.{Facts}
use Rattle.sw_tree_step.specs.Items.{first_values, started, tree_events, tree_reach, tree_start_of}
use Rattle.sw_spots.specs.Forms.{facts_of, program}
use Rattle.sw_spots.specs.Spots.{Program}
use Rattle.sw_spots_tree.specs.Needs.{IfsHaveArms}
use Rattle.sw_spots_program.specs.Lowered.{IsMadeOf}
use Rattle.sw_spots_program.proofs.Needing.{program_needs}
use Rattle.sw_tree_same.proofs.Items.{same_events, same_states}
use Rattle.sw_tree_same.proofs.Starting.{start_matches}
use Rattle.sw_tree_same.specs.States.{Ground, StatesMatch, graph_events, graph_reach}
use Rattle.sw_tree_ground.proofs.Standing.{bodies_stand}
use Rattle.sw_tree_ground.proofs.Starting.{entry_begins, firsts_begin}

module _ (decls : List Decl) (rule : AsyncDefault) (world : World) (graph : Graph)
    (welltyped : IsWelltyped decls rule world) (ifs : IfsHaveArms (of_decls decls)) where
  abbrev answers : Answers
  answers = answers_in (said world decls)

  abbrev isolation : Isolation
  isolation = isolation_in (notes_of world decls)

  abbrev tables : Tables
  tables = tables_of world answers isolation decls

  abbrev facts : Facts
  facts = facts_of tables

  abbrev bodies : Bodies
  bodies = bodies_of facts decls

  module _ (lowered : Lowered world answers isolation decls graph)
      (numbered : AreNumbered lowered.ordered) (made : AreMade lowered.ordered)
      (supplied : IsSupplied graph) where
    abbrev p : Program
    p = program tables (numbers_of lowered.ordered) (functions_of lowered.ordered)

    is_made : IsMadeOf world answers isolation decls rule lowered.ordered
    is_made = record {
      keyed = welltyped.keyed;
      sound = welltyped.sound;
      declared = welltyped.declared;
      are = lowered.are_ordered;
      numbered = numbered;
      made = made;
      needs = program_needs world answers decls welltyped.scoped welltyped.written ifs;
    }

    ground : Ground p graph bodies
    ground = record {
      functions = sym lowered.functions;
      stand = bodies_stand world answers isolation decls rule lowered.ordered welltyped.valued is_made;
      supplied = supplied;
    }

    start_match : StatesMatch p graph (tree_start_of facts decls) (start_of graph)
    unfolding tree_start_of
    start_match =
        let entry = entry_begins decls rule world welltyped.declared tables refl lowered.ordered
        graph.entry lowered.entry in
        subst (λ names. StatesMatch p graph (started bodies (length world.globals)
        (first_values (length world.globals) 0 ++ names)) (start_of graph)) (sym entry.names)
        (start_matches p graph bodies ground (length world.globals)
        (first_values (length world.globals) 0) entry.last
        (sym (ap length lowered.globals ∙ length-map world.globals global_kind))
        (firsts_begin decls rule world welltyped.declared tables refl lowered.ordered graph.starts
        lowered.starts) entry.numbered)

    kinded : Kinded graph (start_of graph)
    unfolding reach
    kinded = reached_kinded graph supplied []

    -- So its events are those of the graph, and the states that items lead to match.
    pub events_same : (items : List ℕ) → tree_events bodies (tree_start_of facts decls) items
        ≡ graph_events graph (start_of graph) items
    events_same items =
        same_events p graph bodies ground items (tree_start_of facts decls) (start_of graph) start_match
        kinded

    pub states_match : (items : List ℕ) → StatesMatch p graph
        (tree_reach bodies (tree_start_of facts decls) items) (reach graph items)
    unfolding reach graph_reach
    states_match items =
        same_states p graph bodies ground items (tree_start_of facts decls) (start_of graph) start_match
        kinded
