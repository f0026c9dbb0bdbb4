-- The graph of a text is supplied, where the phases up to the size of functions find no breach in
-- it.
use Rattle.std.proofs.Common.{◌≡◌, ℕ, List, [], Some, None, All, get_or, slice_get, subst, sym, ◌∙◌}
use Rattle.std.proofs.lemmas.Option.{same_Some, slice_get-get_or, slice_get_within}
use Rattle.sw_types.specs.declared.isolation.CallKind.TheVariants as kinds
use Rattle.sw_graph.specs.Placed.{EachFunction, EachInstr, FunctionAt}
use Rattle.sw_graph.specs.Points.{Middle, point_in}
use Rattle.sw_graph.specs.declared.function.Function.{Function}
use Rattle.sw_graph.specs.declared.graph.Graph.{Graph}
use Rattle.sw_graph.specs.declared.instr.Instr.{Instr}
use Rattle.sw_graph.specs.declared.instr.Instr.TheVariants.{Call, NewTask}
use Rattle.sw_types.specs.declared.isolation.Iso.TheVariants.{Own}
use Rattle.sw_graph.specs.Supplied.{BeginsWell, GivesActor, IsSupplied, ReturnsResult, SetsGlobals}
use Rattle.sw_graph.specs.Supplied.{TakesActor}
use Rattle.sw_token.specs.Spelling.{spelling_of}
use Rattle.sw_decl_words.specs.Placed.{IsFirstPlaced}
use Rattle.sw_decls.specs.declared.signature.AsyncDefault.{AsyncDefault}
use Rattle.sw_lower_code.specs.Whole.{Body}
use Rattle.sw_lower_rules.specs.Bodies.{AreMade, AreOrdered, functions_of, program_bodies}
use Rattle.sw_lower_rules.specs.Bodies.{too_large_in}
use Rattle.sw_lower_total_facts.proofs.Lowering.{bodies_are_made}
use Rattle.sw_lower_total_facts.specs.Programs.{IsWelltyped}
use Rattle.sw_lower_return_facts.proofs.Returning.{all_return}
use Rattle.sw_lower_first_facts.proofs.Isolated.Firsts.{entry_first, starts_first}
use Rattle.sw_lower_first_facts.proofs.Quiet.Alone.{firsts_alone}
use Rattle.sw_lower_first_facts.proofs.Storing.Firsts.{starts_store}
use Rattle.sw_lower_call_facts.specs.Given.{TakesAt}
use Rattle.sw_lower_call_facts.proofs.Giving.Programs.{calls_give, tasks_give}
use Rattle.sw_verdict.specs.Phases.{HasProgram, IsGraphOf, isolation_of_program, phases_to_size}
use Rattle.sw_verdict.specs.Phases.{tables_of_program}
use Rattle.sw_verdict.specs.Verdict.{Breaches}
use Rattle.sw_verdict.proofs.GraphsExist.{Keeps, passed}
use Rattle.sw_verdict.proofs.OneLowered.{same_order}
use Rattle.sw_verdict.proofs.Programs.{program_apart}
use Rattle.sw_verdict.proofs.SameProgram.{of_same, same_world}

-- what holds of each function of a list, by number
each_of : (P : Function → Type 0) (functions : List Function) → All P functions → (n : ℕ)
    (function : Function) → slice_get functions n ≡ Some function → P function
each_of P functions all n function is =
    let below = slice_get_within functions n function is in
    subst P
    (same_Some (get_or functions n function) function
    (sym (slice_get-get_or functions n function below) ∙ is)) (all n function below)

module _ (rule : AsyncDefault) (text : List ℕ) (graph : Graph)
    (passes : Breaches rule phases_to_size text [])
    (of : IsGraphOf rule text graph) where
  abbrev keeps : Keeps rule text
  keeps = passed rule text passes

  abbrev ordered : List Body
  ordered = of.lowered.ordered

  -- What the text keeps is said of the program and the world that its graph is of.
  same : (keeps.decls ≡ of.decls) × (keeps.world ≡ of.world)
  same = same_world rule text keeps.has_world of.has_world

  abbrev program : HasProgram text of.decls
  program = of.has_world.program

  welltyped : IsWelltyped of.decls rule of.world
  welltyped = of_same (λ world decls. IsWelltyped decls rule world) same keeps.welltyped

  kept_ordered : AreOrdered (tables_of_program of.world of.decls) of.decls keeps.ordered
  kept_ordered = of_same
      (λ world decls. AreOrdered (tables_of_program world decls) decls keeps.ordered) same
      keeps.are_ordered

  same_bodies : ordered ≡ keeps.ordered
  same_bodies = same_order (program_bodies (tables_of_program of.world of.decls) of.decls) ordered
      keeps.ordered of.lowered.are_ordered.bodies of.lowered.are_ordered.in_order
      kept_ordered.bodies kept_ordered.in_order of.numbered

  made : AreMade ordered
  made = bodies_are_made of.decls rule of.world welltyped ordered of.lowered.are_ordered
      (subst (λ bodies. IsFirstPlaced (too_large_in (functions_of bodies)) None) (sym same_bodies)
      keeps.none_large)

  returns : EachFunction graph ReturnsResult
  returns = each_of ReturnsResult graph.functions
      (subst (All ReturnsResult) (sym of.lowered.functions)
      (all_return of.decls rule of.world (isolation_of_program of.world of.decls) ordered
      welltyped.keyed (program_apart (spelling_of text program.tokens) of.decls program.is_program)
      welltyped.sound of.has_world.is_world welltyped.well of.lowered.are_ordered of.numbered made))

  -- a function of the graph is one of the program
  listed : (n : ℕ) (function : Function) → slice_get graph.functions n ≡ Some function
      → slice_get (functions_of ordered) n ≡ Some function
  listed n function is =
      subst (λ functions. slice_get functions n ≡ Some function) of.lowered.functions is

  given : (f : ℕ) → TakesAt of.world.shapes (functions_of ordered) f
      → FunctionAt graph f (λ function. function.iso ≡ Own → TakesActor graph.shapes function)
  given f takes function is own =
      subst (λ shapes. TakesActor shapes function) (sym of.lowered.shapes)
      (takes function (listed f function is) own)

  actors : EachInstr graph (GivesActor graph)
  actors n body is p instr at = by instr at where
    by : (one : Instr) → point_in body p ≡ Some (Middle one) → GivesActor graph body one
    by (Call key r kinds.Strong f ss) here =
        given f (calls_give of.decls rule of.world ordered welltyped.keyed welltyped.sound
        of.has_world.is_world of.lowered.are_ordered of.numbered made n p key r f ss body (listed n body is)
        here)
    by (NewTask key r f cs) here =
        given f (tasks_give of.decls rule of.world ordered welltyped
        of.lowered.are_ordered of.numbered made n p key r f cs body (listed n body is) here)
    by _ here = tt

  begins : BeginsWell graph
  begins = record {
    actors = actors;
    entry = entry_first of.decls rule of.world graph welltyped of.lowered;
    firsts = starts_first of.decls rule of.world graph welltyped of.lowered;
  }

  sets : SetsGlobals graph
  sets = record {
    alone = firsts_alone of.decls rule of.world graph welltyped of.lowered;
    values = starts_store of.decls rule of.world graph welltyped of.lowered;
  }

  supplied : IsSupplied graph
  supplied = record { begins = begins; returns = returns; globals = sets }

pub text_supplied : (rule : AsyncDefault) (text : List ℕ) (graph : Graph)
    → Breaches rule phases_to_size text []
    → IsGraphOf rule text graph → IsSupplied graph
text_supplied rule text graph passes of = supplied rule text graph passes of
