-- The graph of a program that keeps the rules is placed, and clean where nothing is shared.
use Rattle.std.proofs.Common.{◌≡◌, ℕ, List, [], ◌∷◌, ◌++◌, Some, None, All, Contains}
use Rattle.std.proofs.Common.{Bool, true, false, flat_map, nat_lt, length, refl, ap, subst, ◌∙◌}
use Rattle.std.proofs.Common.{arith, slice_get}
use Rattle.std.proofs.lemmas.List.Elements.{All-head, All-tail}
use Rattle.std.specs.Prelude.{if◌then◌else◌}
use Rattle.sw_tree.specs.declared.decl.Decl.{Decl}
use Rattle.sw_graph.specs.Clean.{IsClean}
use Rattle.sw_graph.specs.Limits.{IsWithinLimits, excess_of}
use Rattle.sw_graph.specs.Placed.{ActorOfClass, EachInstr, IsPlaced, named_by}
use Rattle.sw_graph.specs.Points.{Middle, point_in, points_of}
use Rattle.sw_graph.specs.declared.function.Excess.TheVariants.{Points, Registers}
use Rattle.sw_graph.specs.declared.function.Function.{Function}
use Rattle.sw_graph.specs.declared.function.RegKind.{RegKind}
use Rattle.sw_graph.specs.declared.function.TheConstants.{MAX_POINTS, MAX_REGISTERS}
use Rattle.sw_graph.specs.declared.graph.Graph.{Graph}
use Rattle.sw_graph.specs.declared.instr.Instr.{Instr}
use Rattle.sw_graph.specs.declared.instr.Instr.TheVariants.{NewClosure}
use Rattle.sw_decls.specs.declared.signature.AsyncDefault.{AsyncDefault}
use Rattle.sw_typing_rules.specs.Programs.{said}
use Rattle.sw_typing_rules.specs.Worlds.{World}
use Rattle.sw_isolation_rules.specs.Answers.{Answers, answers_in}
use Rattle.sw_isolation_rules.specs.Lists.{captures_in, races_in, refusals_in}
use Rattle.sw_isolation_rules.specs.Programs.{global_refusals, refusals}
use Rattle.sw_isolation_rules.specs.Races.{capture_races, races, shape_races}
use Rattle.sw_isolation_rules.specs.declared.note.Note.{Note}
use Rattle.sw_lower_code.specs.Whole.{Body}
use Rattle.sw_lower_rules.specs.Bodies.{AreMade, AreNumbered, functions_of}
use Rattle.sw_lower_rules.specs.Bodies.{placed_excess, too_large_in}
use Rattle.sw_typing_facts.proofs.Programs.DeclStands.{none_left, none_right}
use Rattle.sw_lower_total_facts.proofs.Lowering.{bodies_are_found, bodies_are_made}
use Rattle.sw_lower_total_facts.specs.Programs.{IsWelltyped, notes_of}
use Rattle.sw_lower_first_facts.specs.Programs.{IsGraph}
use Rattle.sw_lower_first_facts.proofs.Isolated.Firsts.{entry_first, starts_first}
use Rattle.sw_lower_first_facts.proofs.Quiet.Alone.{firsts_alone}
use Rattle.sw_lower_placed_facts.specs.Allowed.{IsAllowed, SharesNone}
use Rattle.sw_lower_placed_facts.specs.Bodies.{ArePlaced}
use Rattle.sw_lower_placed_facts.specs.Hosts.{Program, Host}
use Rattle.sw_lower_placed_facts.proofs.Graphs.Clean.{calls_are_clean, closures_are_clean}
use Rattle.sw_lower_placed_facts.proofs.Graphs.Clean.{reads_are_clean, tasks_are_clean}
use Rattle.sw_lower_placed_facts.proofs.Graphs.Functions.{InOrder}
use Rattle.sw_lower_placed_facts.proofs.Graphs.Placed.{BeginsRight, graph_placed}
use Rattle.sw_lower_placed_facts.proofs.Graphs.Shapes.{IsDeclared, actors_of_classes, globals_clean}
use Rattle.sw_lower_placed_facts.proofs.Graphs.Shapes.{shapes_clean, shapes_declared}
use Rattle.sw_lower_placed_facts.proofs.Graphs.Standing.{at_points, made_either}
use Rattle.sw_lower_placed_facts.proofs.Settling.Program.{program_of}
use Rattle.sw_lower_placed_facts.proofs.Settling.Unnamed.{ClosuresFrom, firsts_unnamed, name_at}
use Rattle.sw_lower_placed_facts.proofs.Settling.Unnamed.{starts_give}

-- A function within the limits has too much of nothing.
no_excess : (function : Function) → IsWithinLimits function → excess_of function ≡ None
no_excess function within =
    by (nat_lt MAX_REGISTERS (length function.regs))
    (nat_lt MAX_POINTS (length (points_of function.blocks))) refl refl where
      by : (many long : Bool) → nat_lt MAX_REGISTERS (length function.regs) ≡ many
          → nat_lt MAX_POINTS (length (points_of function.blocks)) ≡ long
          → (if many then Some Registers else if long then Some Points else None) ≡ None
      by false false few short = refl
      by true long large points =
          let most = within.registers in
          grind (arith, large, most)
      by false true few large =
          let most = within.points in
          grind (arith, large, most)

none_large : (functions : List Function) → All IsWithinLimits functions
    → too_large_in functions ≡ []
none_large [] within = refl
none_large (function ∷ functions) within =
    ap (λ excess. placed_excess function.key excess ++ too_large_in functions)
    (no_excess function (All-head IsWithinLimits function functions within))
    ∙ none_large functions (All-tail IsWithinLimits function functions within)

-- the closures that a program makes are its own
closure_from : (program : Program) (host : Host) (regs : List RegKind) (instr : Instr)
    → IsAllowed program host regs instr → ClosuresFrom program instr
closure_from program host regs (NewClosure at r f cs) ok = record {
  owner = ok.uses.owner;
  closure = ok.uses.closure;
  result = ok.uses.result;
  has = ok.uses.has;
  numbered = ok.uses.numbered;
}
closure_from program host regs _ ok = tt

module _ (decls : List Decl) (rule : AsyncDefault) (world : World) (graph : Graph)
    (is : IsWelltyped decls rule world) (lowered : IsGraph world decls graph) where
  abbrev pub ordered : List Body
  ordered = lowered.ordered

  abbrev pub program : Program
  program = program_of world decls ordered

  pub numbered : AreNumbered ordered
  numbered = bodies_are_found decls rule world is ordered lowered.are_ordered

  -- The functions of a graph are within the limits, so each body is made.
  pub made : AreMade ordered
  made = bodies_are_made decls rule world is ordered lowered.are_ordered
      (none_large (functions_of ordered)
      (subst (All IsWithinLimits) lowered.functions graph.well_formed.limits))

  in_order : InOrder program ordered
  in_order = record {
    functions = refl;
    moved = lowered.are_ordered.bodies;
    numbered = numbered;
    named = name_at decls rule world ordered is lowered.are_ordered numbered;
  }

  declared : All IsDeclared world.shapes
  declared = shapes_declared decls rule world is.declared

  actors : All ActorOfClass world.shapes
  actors = actors_of_classes world.shapes declared

  module _ (placed : ArePlaced program) where
    closures_from : (n : ℕ) (function : Function)
        → slice_get (functions_of ordered) n ≡ Some function → (p : ℕ) (instr : Instr)
        → point_in function p ≡ Some (Middle instr) → ClosuresFrom program instr
    closures_from =
        at_points program ordered (λ n function instr. ClosuresFrom program instr) (record {
          allowed = λ n body at host of block index instr ok.
              closure_from program host _ instr ok;
          makes = λ n body at one block index key r operands apart last.
              made_either (ClosuresFrom program) one.shape.kind key r one.k operands tt tt;
          gives = λ n body at one block index key s. tt;
        }) in_order placed

    -- No instruction names what gives a first value.
    none_named : EachInstr graph (λ body instr. (f : ℕ) → Contains graph.starts f
        → Contains (named_by instr) f → ⊥)
    none_named n body there p instr here f starts named =
        let at : slice_get (functions_of ordered) n ≡ Some body =
        subst (λ all. slice_get all n ≡ Some body) lowered.functions there in
        firsts_unnamed decls rule world ordered is lowered.are_ordered numbered made n p f body
        instr at here (closures_from n body at p instr here)
        (starts_give world ordered graph.starts lowered.starts f starts) named

    begins : BeginsRight graph
    begins = record {
      entry = entry_first decls rule world graph is lowered;
      firsts = starts_first decls rule world graph is lowered;
      alone = firsts_alone decls rule world graph is lowered;
      unnamed = none_named;
    }

    pub graph_is_placed : IsPlaced graph
    graph_is_placed =
        graph_placed program ordered in_order placed actors graph lowered.shapes
        lowered.globals lowered.functions lowered.starts begins

    -- what is noted of a program, and what it says
    abbrev answers : Answers
    answers = answers_in (said world decls)

    abbrev notes : List Note
    notes = notes_of world decls

    pub graph_is_clean : refusals world answers decls ≡ [] → races world answers decls ≡ []
        → IsClean graph
    graph_is_clean apart shared =
        let in_shapes = flat_map (shape_races world) world.shapes in
        let in_notes = races_in notes in
        let in_captures = flat_map (capture_races world answers) (captures_in notes) in
        let before : in_shapes ++ in_notes ≡ [] =
        none_left (in_shapes ++ in_notes) in_captures shared in
        let shares : SharesNone program = record {
          races = none_right in_shapes in_notes before;
          captures = none_right (in_shapes ++ in_notes) in_captures shared;
        } in record {
          placed = graph_is_placed;
          closures = closures_are_clean program ordered in_order placed actors shares graph
              lowered.shapes lowered.globals lowered.functions;
          calls = calls_are_clean program ordered in_order placed actors shares graph
              lowered.shapes lowered.globals lowered.functions;
          tasks = tasks_are_clean program ordered in_order placed actors shares graph
              lowered.shapes lowered.globals lowered.functions;
          reads = reads_are_clean program ordered in_order placed actors shares graph
              lowered.shapes lowered.globals lowered.functions;
          conformances = shapes_clean world graph lowered.shapes declared
              (none_left in_shapes in_notes before);
          globals = globals_clean world graph lowered.shapes lowered.globals
              (none_right (refusals_in notes) (flat_map (global_refusals world) world.globals)
              apart);
        }
