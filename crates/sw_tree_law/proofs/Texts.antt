-- The machine on the written tree of a text does what that on its graph does.
use Rattle.std.proofs.Common.{◌≡◌, ℕ, None, List, [], flat_map, ap, sym, ◌∙◌, subst}
use Rattle.sw_token.specs.Spelling.{Spelled, spelling_of}
use Rattle.sw_tree.specs.declared.decl.Decl.{Decl}
use Rattle.sw_tree_facts.specs.Parts.{of_decls}
use Rattle.sw_grammar.specs.Around.{index_in}
use Rattle.sw_grammar.specs.Program.{Spells}
use Rattle.sw_arm_facts.proofs.Weighed.{ifs_have_arms}
use Rattle.sw_parse_decl.specs.Programs.{IsProgramOf, most_nests, texts_of}
use Rattle.sw_graph.specs.declared.graph.Graph.{Graph}
use Rattle.sw_decl_words.specs.Placed.{IsFirstPlaced}
use Rattle.sw_decls.specs.declared.signature.AsyncDefault.{AsyncDefault}
use Rattle.sw_typing_rules.specs.Worlds.{World}
use Rattle.sw_isolation_rules.specs.Programs.{noted}
use Rattle.sw_value.specs.Reach.{reach}
use Rattle.sw_value.specs.Start.{start_of}
use Rattle.sw_machine_kind_facts.proofs.LawLemmas as machine
use Rattle.sw_replay.specs.Output.{end_by, line_of, lines_of, output_of}
use Rattle.sw_lower_code.specs.Whole.{Body}
use Rattle.sw_lower_rules.specs.Bodies.{AreMade, AreOrdered, functions_of, numbers_of, program_bodies}
use Rattle.sw_lower_rules.specs.Bodies.{too_large_in}
use Rattle.sw_lower_rules.specs.Tables.{Tables}
use Rattle.sw_lower_total_facts.proofs.Lowering.{bodies_are_made}
use Rattle.sw_lower_total_facts.specs.Programs.{IsWelltyped}
use Rattle.sw_verdict.proofs.GraphsExist.{Keeps, passed}
use Rattle.sw_verdict.proofs.LoweredTexts.{accepted_to_size}
use Rattle.sw_verdict.proofs.OneLowered.{same_order}
use Rattle.sw_verdict.proofs.Passing.{last_finds}
use Rattle.sw_verdict.proofs.SameProgram.{of_same, same_world}
use Rattle.sw_verdict.specs.Phases.{HasProgram, HasWorld, IsGraphOf, Races, answers_of_program}
use Rattle.sw_verdict.specs.Phases.{phases_to_size, tables_of_program}
use Rattle.sw_verdict.specs.Verdict.{Accepts, Breaches}
use Rattle.sw_text_facts.proofs.Sound.{accepted_never_races}
use Rattle.sw_text_facts.proofs.Supplied.{text_supplied}
use Rattle.sw_tree_work.specs.Bodies.{bodies_of}
use Rattle.sw_tree_work.specs.Facts.{Facts}
use Rattle.sw_tree_step.specs.Items.{tree_events, tree_reach, tree_start_of}
use Rattle.sw_spots.specs.Forms.{facts_of, program}
use Rattle.sw_spots.specs.Spots.{Program}
use Rattle.sw_spots_tree.specs.Needs.{IfsHaveArms}
use Rattle.sw_tree_same.specs.States.{JobsMatch, StatesMatch, graph_events}
use Rattle.sw_tree_same.proofs.Zips.{zip_length}
use Rattle.sw_tree_race.specs.Racing.{TreeRacing}
use Rattle.sw_tree_race.proofs.Races.{races}
use Rattle.sw_tree_ground.proofs.Running.{events_same, states_match}
use Rattle.sw_tree_law.specs.Programs.{program_events, program_facts, program_output, program_reach}
use Rattle.sw_tree_law.proofs.Facts.{facts_same}
use Rattle.sw_tree_law.proofs.Output.{count_ended, lines_same}

-- The tokens spell the declarations, however many nests are open.
spells : (tokens : List Spelled) (decls : List Decl) → IsProgramOf decls tokens
    → Spells (index_in (texts_of tokens)) decls tokens
spells tokens decls given = record {
  spelling = given.spelling;
  form = record {
    written = given.form.written;
    spelled = (most_nests, given.form.spelled);
    whole = given.form.whole;
  };
}

-- Each `if` of a text has an arm.
text_ifs : (text : List ℕ) (decls : List Decl) → HasProgram text decls → IfsHaveArms (of_decls decls)
text_ifs text decls program =
    let tokens = spelling_of text program.tokens in
    ifs_have_arms (index_in (texts_of tokens)) decls tokens (spells tokens decls program.is_program)

module _ (rule : AsyncDefault) (text : List ℕ) (graph : Graph)
    (passes : Breaches rule phases_to_size text []) (of : IsGraphOf rule text graph) where
  abbrev keeps : Keeps rule text
  keeps = passed rule text passes

  abbrev ordered : List Body
  ordered = of.lowered.ordered

  abbrev tables : Tables
  tables = tables_of_program of.world of.decls

  abbrev facts : Facts
  facts = facts_of tables

  same : (keeps.decls ≡ of.decls) × (keeps.world ≡ of.world)
  same = same_world rule text keeps.has_world of.has_world

  welltyped : IsWelltyped of.decls rule of.world
  welltyped = of_same (λ world decls. IsWelltyped decls rule world) same keeps.welltyped

  made : AreMade ordered
  made =
      let kept = of_same (λ world decls. AreOrdered (tables_of_program world decls) decls keeps.ordered)
      same keeps.are_ordered in
      bodies_are_made of.decls rule of.world welltyped ordered of.lowered.are_ordered
      (subst (λ bodies. IsFirstPlaced (too_large_in (functions_of bodies)) None)
      (sym (same_order (program_bodies tables of.decls) ordered keeps.ordered
      of.lowered.are_ordered.bodies of.lowered.are_ordered.in_order kept.bodies kept.in_order
      of.numbered)) keeps.none_large)

  abbrev p : Program
  p = program tables (numbers_of ordered) (functions_of ordered)

  -- What the work of the program's tree depends on is what lowering looks up.
  facts_are : program_facts of.world of.decls ≡ facts
  facts_are = facts_same of.world of.decls
      (noted of.world (answers_of_program of.world of.decls) of.decls)

  ran_same : (items : List ℕ) → tree_events (bodies_of facts of.decls) (tree_start_of facts of.decls) items
      ≡ graph_events graph (start_of graph) items
  ran_same =
      events_same of.decls rule of.world graph welltyped
      (text_ifs text of.decls of.has_world.program) of.lowered of.numbered made
      (text_supplied rule text graph passes of)

  pub matched : (items : List ℕ) → StatesMatch p graph (program_reach of.world of.decls items)
      (reach graph items)
  matched items =
      subst (λ (facts : Facts). StatesMatch p graph
      (tree_reach (bodies_of facts of.decls) (tree_start_of facts of.decls) items) (reach graph items))
      (sym facts_are)
      (states_match of.decls rule of.world graph welltyped
      (text_ifs text of.decls of.has_world.program) of.lowered of.numbered made
      (text_supplied rule text graph passes of) items)

  pub text_events : (items : List ℕ)
      → program_events of.world of.decls items ≡ graph_events graph (start_of graph) items
  text_events items =
      ap (λ (facts : Facts). tree_events (bodies_of facts of.decls) (tree_start_of facts of.decls) items)
      facts_are ∙ ran_same items

  pub text_output : (items : List ℕ)
      → program_output of.world of.decls items ≡ output_of graph items
  unfolding lines_of
  text_output items =
      let m = matched items in
      let lines = ap (flat_map line_of) (text_events items) ∙ lines_same graph (start_of graph) items in
      let ended = count_ended p graph _ _ m.jobs in
      let jobs = zip_length (JobsMatch p graph) _ _ m.jobs in
      let end = ap end_by m.halted in
      λ i. record { lines = lines i; end = end i; ended = ended i; jobs = jobs i }

-- No state of the machine on the tree of an accepted text races.
pub never_races : (rule : AsyncDefault) (text : List ℕ) (decls : List Decl) (world : World)
    → Accepts rule text → HasWorld rule text decls world → (items : List ℕ)
    → TreeRacing world (program_reach world decls items) → ⊥
never_races rule text decls world accepts has items racing =
    let found = last_finds rule Races text accepts in
    let graph = found.graph in
    let of = found.of_text in
    let passes = accepted_to_size rule text accepts in
    accepted_never_races rule text graph accepts of items
    (races of.world (p rule text graph passes of) graph (program_reach of.world of.decls items)
    (reach graph items) (matched rule text graph passes of items) of.lowered.shapes of.lowered.globals
    (λ j job frame is running top. machine.never_stuck graph (text_supplied rule text graph passes of)
    items j job frame is running top)
    (of_same (λ world decls. TreeRacing world (program_reach world decls items))
    (same_world rule text has of.has_world) racing))
