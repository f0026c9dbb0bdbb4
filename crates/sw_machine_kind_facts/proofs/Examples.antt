-- Well-formed graphs that get stuck, each for want of one of the facts that supplied graphs have.
use Rattle.std.proofs.Common.{◌≡◌, ℕ, ◌<◌, false, IsTrue, Some, None, List, [], ◌∷◌}
use Rattle.std.proofs.Common.{length}
use Rattle.std.proofs.Common.{refl, ap, arith, lit≤, sym, ◌∙◌, subst, zero, suc}
use Rattle.std.specs.List.{slice_get, All}
use Rattle.std.proofs.lemmas.List.Elements.{All-from_recursion, All-nil}
use Rattle.sw_list.proofs.ListLemmas.{some_injective}
use Rattle.sw_types.specs.declared.isolation.CallKind.TheVariants as kind
use Rattle.sw_types.specs.declared.isolation.Iso.{Iso}
use Rattle.sw_types.specs.declared.isolation.Iso.TheVariants as iso
use Rattle.sw_types.specs.declared.ty.Ty.TheVariants.{Int, Unit as Void}
use Rattle.sw_graph.specs.declared.function.Function.{Function}
use Rattle.sw_graph.specs.declared.function.GlobalKind.{GlobalKind}
use Rattle.sw_graph.specs.declared.function.RegKind.{RegKind}
use Rattle.sw_graph.specs.declared.function.RegKind.TheVariants.{Plain}
use Rattle.sw_graph.specs.declared.graph.Graph.{Graph}
use Rattle.sw_graph.specs.declared.instr.Instr.{Instr}
use Rattle.sw_graph.specs.declared.instr.Instr.TheVariants as instr
use Rattle.sw_graph.specs.declared.instr.Last.TheVariants as last
use Rattle.sw_graph.specs.declared.instr.UnOp.TheVariants.{Neg}
use Rattle.sw_graph.specs.Straight.{IsStraightGraph, StraightFits, is_straight}
use Rattle.sw_graph.specs.WellFormed.{InstrFits, BlockFits, type_in}
use Rattle.sw_types.specs.Named.{is_within}
use Rattle.sw_types.specs.declared.ty.Ty.{Ty}
use Rattle.sw_graph.specs.Points.{points_of}
use Rattle.sw_value.specs.Act.{act_of}
use Rattle.sw_value.specs.Effect.{effect_of}
use Rattle.sw_value.specs.Frame.{point_at, first_frame, take_result}
use Rattle.sw_value.specs.Job.{new_job, top_frame, is_running, dispatch, leave}
use Rattle.sw_value.specs.Lists.{changed_at}
use Rattle.sw_value.specs.Reach.{reach, step_of}
use Rattle.sw_value.specs.Start.{start_of, start_frames}
use Rattle.sw_value.specs.State.{in_job}
use Rattle.sw_value.specs.Transition.{transition_of}
use Rattle.sw_value.specs.Value.{registers}
use Rattle.sw_graph.proofs.KindLemmas.{int_within, void_within}
use Rattle.sw_graph.proofs.StraightLemmas.{straight_graph}
use Rattle.sw_graph.specs.Limits.{IsWithinLimits}
use Rattle.sw_graph.specs.Placed.{EachFunction, IsFirst, starts}
use Rattle.sw_types.specs.declared.isolation.Iso.TheVariants.{Free}
use Rattle.sw_value.specs.Arithmetic.{layer_unary}
use Rattle.sw_value.specs.Call.{called_frame}
use Rattle.sw_value.specs.Effect.{is_stuck, needs, computed_of}
use Rattle.sw_value.specs.Frame.{go_on, set_register}
use Rattle.sw_value.specs.Job.{enter}
use Rattle.sw_value.specs.declared.value.Value.TheVariants as value
use Rattle.sw_machine_kind_facts.proofs.PlainLemmas.{free_gives, none_first, no_globals}
use Rattle.sw_graph.specs.Supplied.{BeginsWell, ReturnsResult, SetsGlobals}
use Rattle.sw_machine_kind_facts.specs.Stuck.{GetsStuck}

-- a function of one block, which takes nothing
abbrev body : Iso → List RegKind → Ty → List Instr → Function
body where_it_runs regs result instrs = record {
  key = 0;
  iso = where_it_runs;
  is_async = false;
  takes = 0;
  sending = [];
  sends = false;
  result = result;
  regs = regs;
  blocks = record { instrs = instrs; last = last.Return None } ∷ [];
}

body_fits : (globals : List GlobalKind) (functions : List Function) (i : Iso) (regs : List RegKind)
    (result : Ty) (instrs : List Instr) → IsTrue (is_straight (body i regs result instrs))
    → All (λ kind. IsTrue (is_within 0 (type_in kind))) regs → IsTrue (is_within 0 result)
    → All (InstrFits [] globals functions (body i regs result instrs)) instrs
    → StraightFits [] globals functions (body i regs result instrs)
body_fits globals functions i regs result instrs straight types result_in fits = record {
  straight = straight;
  takes = omega arith;
  sending = refl;
  types = types;
  result = result_in;
  blocks = All-from_recursion (BlockFits [] globals functions (body i regs result instrs))
      (record { instrs = instrs; last = last.Return None } ∷ []) (
        record {
          instrs = fits;
          last = record {
            registers = All-nil (λ n. n < length regs);
            blocks_in = All-nil (λ n. n < 1);
            kinds = tt;
          };
        },
        tt,
      );
}

-- the graph of two functions, whose first is the entry
abbrev graph_of : (globals : List GlobalKind) (functions : List Function) (first : List ℕ)
    → IsStraightGraph [] globals functions 0 first → Graph
graph_of globals functions first is = record {
  shapes = [];
  globals = globals;
  functions = functions;
  entry = 0;
  starts = first;
  well_formed = straight_graph is;
}

-- what holds of both functions
of_two : (P : Function → Type 0) (f g : Function) → P f → P g → (n : ℕ) (function : Function)
    → slice_get (f ∷ (g ∷ [])) n ≡ Some function → P function
of_two P f g first second zero function is = subst P (some_injective is) first
of_two P f g first second (suc zero) function is = subst P (some_injective is) second
of_two P f g first second (suc (suc n)) function is = absurd (let none : ⊥ = cc in none)

pair : (P : Function → Type 0) (f g : Function) → P f → P g → All P (f ∷ (g ∷ []))
pair P f g first second = All-from_recursion P (f ∷ (g ∷ [])) (first, (second, tt))

-- both functions are small
two_small : (f g : Function) → IsWithinLimits f → IsWithinLimits g → All IsWithinLimits
    (f ∷ (g ∷ []))
two_small f g first second = pair IsWithinLimits f g first second

-- both functions return `Void`
two_void : (f g : Function) → f.result ≡ Void → g.result ≡ Void → (graph : Graph)
    → graph.functions ≡ f ∷ (g ∷ []) → EachFunction graph ReturnsResult
two_void f g first second graph are n function is p passed way here =
    of_two (λ (h : Function). h.result ≡ Void) f g first second n function
    (ap (λ l. slice_get l n) (sym are) ∙ is)

within_none : All (λ kind. IsTrue (is_within 0 (type_in kind))) []
within_none = All-nil (λ kind. IsTrue (is_within 0 (type_in kind)))

within_one : (ty : Ty) → IsTrue (is_within 0 ty)
    → All (λ kind. IsTrue (is_within 0 (type_in kind))) (Plain ty ∷ [])
within_one ty within = All-from_recursion (λ kind. IsTrue (is_within 0 (type_in kind)))
    (Plain ty ∷ []) (within, tt)

-- A global's first-value function stores nothing, and the entry reads the global.
abbrev unset : List GlobalKind
unset = record { ty = Int; mutable = false; actor = None } ∷ []

abbrev reader : Function
reader = body iso.Free (Plain Int ∷ []) Void (instr.LoadGlobal 0 0 0 ∷ [])

abbrev idle : Function
idle = body iso.Free [] Void []

abbrev readers : List Function
readers = reader ∷ (idle ∷ [])

unset_fits : IsStraightGraph [] unset readers 0 (1 ∷ [])
unfolding points_of
unset_fits = record {
  entry_in = lit≤ tt;
  starts_in = All-from_recursion (λ n. n < 2) (1 ∷ []) (lit≤ tt, tt);
  types = All-from_recursion (λ (global : GlobalKind). IsTrue (is_within 0 global.ty)) unset
      (int_within 0, tt);
  first_values = refl;
  limits = two_small reader idle (record { registers = lit≤ tt; points = lit≤ tt })
      (record { registers = lit≤ tt; points = lit≤ tt });
  each = pair (StraightFits [] unset readers) reader idle
      (body_fits unset readers iso.Free (Plain Int ∷ []) Void (instr.LoadGlobal 0 0 0 ∷ []) refl
      (within_one Int (int_within 0)) (void_within 0)
      (All-from_recursion (InstrFits [] unset readers reader) (instr.LoadGlobal 0 0 0 ∷ []) (
        record {
          registers = All-from_recursion (λ n. n < 1) (0 ∷ []) (lit≤ tt, tt);
          functions_in = All-nil (λ n. n < 2);
          globals_in = All-from_recursion (λ n. n < 1) (0 ∷ []) (lit≤ tt, tt);
          shapes_in = All-nil (λ n. n < 0);
          kinds = (refl, λ marked. marked);
        },
        tt,
      )))
      (body_fits unset readers iso.Free [] Void [] refl within_none (void_within 0)
      (All-nil (InstrFits [] unset readers idle)));
}

abbrev unset_graph : Graph
unset_graph = graph_of unset readers (1 ∷ []) unset_fits

unset_stuck : GetsStuck unset_graph
unfolding reach step_of transition_of act_of effect_of point_at start_of start_frames first_frame
    registers new_job top_frame is_running dispatch in_job changed_at leave take_result points_of
unset_stuck = record {
  items = 0 ∷ 0 ∷ 0 ∷ [];
  number = 0;
  job = _;
  at = refl;
  runs = refl;
  frame = _;
  top = refl;
  stuck = refl;
}

free_two : (f g : Function) → f.iso ≡ Free → g.iso ≡ Free → (n : ℕ) (function : Function)
    → slice_get (f ∷ (g ∷ [])) n ≡ Some function → function.iso ≡ Free
free_two f g first second = of_two (λ (function : Function). function.iso ≡ Free) f g first second

first_two : (f g : Function) → IsFirst f → IsFirst g → (n : ℕ) (function : Function)
    → slice_get (f ∷ (g ∷ [])) n ≡ Some function → IsFirst function
first_two f g first second = of_two IsFirst f g first second

pub globals_needed : (graph : Graph) × BeginsWell graph × EachFunction graph ReturnsResult ×
    GetsStuck graph
globals_needed = (
  unset_graph,
  record {
    actors = λ n function is p i here.
        free_gives unset_graph (free_two reader idle refl refl) function i;
    entry = first_two reader idle (record { takes = refl; iso = tt })
        (record { takes = refl; iso = tt }) 0;
    firsts = λ f first. first_two reader idle (record { takes = refl; iso = tt })
        (record { takes = refl; iso = tt }) f;
  },
  two_void reader idle refl refl unset_graph refl,
  unset_stuck,
)

-- A function that is isolated to `self` takes no actor, and the entry calls it on its actor.
abbrev caller : Function
caller = body iso.Free (Plain Void ∷ []) Void (instr.Call 0 0 kind.Strong 1 [] ∷ [])

abbrev isolated : Function
isolated = body iso.Own [] Void []

abbrev callers : List Function
callers = caller ∷ (isolated ∷ [])

actor_fits : IsStraightGraph [] [] callers 0 []
unfolding points_of
actor_fits = record {
  entry_in = lit≤ tt;
  starts_in = All-nil (λ n. n < 2);
  types = All-nil (λ (global : GlobalKind). IsTrue (is_within 0 global.ty));
  first_values = refl;
  limits = two_small caller isolated (record { registers = lit≤ tt; points = lit≤ tt })
      (record { registers = lit≤ tt; points = lit≤ tt });
  each = pair (StraightFits [] [] callers) caller isolated
      (body_fits [] callers iso.Free (Plain Void ∷ []) Void
      (instr.Call 0 0 kind.Strong 1 [] ∷ []) refl (within_one Void (void_within 0)) (void_within 0)
      (All-from_recursion (InstrFits [] [] callers caller)
      (instr.Call 0 0 kind.Strong 1 [] ∷ []) (
        record {
          registers = All-from_recursion (λ n. n < 1) (0 ∷ []) (lit≤ tt, tt);
          functions_in = All-from_recursion (λ n. n < 2) (1 ∷ []) (lit≤ tt, tt);
          globals_in = All-nil (λ n. n < 0);
          shapes_in = All-nil (λ n. n < 0);
          kinds = (tt, (refl, λ marked. marked));
        },
        tt,
      )))
      (body_fits [] callers iso.Own [] Void [] refl within_none (void_within 0)
      (All-nil (InstrFits [] [] callers isolated)));
}

abbrev actor_graph : Graph
actor_graph = graph_of [] callers [] actor_fits

actor_stuck : GetsStuck actor_graph
unfolding reach step_of transition_of act_of effect_of point_at start_of start_frames first_frame
    called_frame registers new_job top_frame is_running dispatch in_job changed_at points_of
actor_stuck = record {
  items = 0 ∷ [];
  number = 0;
  job = _;
  at = refl;
  runs = refl;
  frame = _;
  top = refl;
  stuck = refl;
}

pub begins_needed : (graph : Graph) × EachFunction graph ReturnsResult × SetsGlobals graph ×
    GetsStuck graph
begins_needed = (
  actor_graph,
  two_void caller isolated refl refl actor_graph refl,
  no_globals actor_graph refl,
  actor_stuck,
)

-- A function returns nothing in place of an integer, which the entry negates.
abbrev negater : Function
negater = body iso.Free (Plain Int ∷ Plain Int ∷ []) Void
    (instr.Call 0 0 kind.Plain 1 [] ∷ instr.Un 0 1 Neg (record { reg = 0; at = 0 }) ∷ [])

abbrev nothing : Function
nothing = body iso.Free [] Int []

abbrev negaters : List Function
negaters = negater ∷ (nothing ∷ [])

nothing_fits : IsStraightGraph [] [] negaters 0 []
unfolding points_of
nothing_fits = record {
  entry_in = lit≤ tt;
  starts_in = All-nil (λ n. n < 2);
  types = All-nil (λ (global : GlobalKind). IsTrue (is_within 0 global.ty));
  first_values = refl;
  limits = two_small negater nothing (record { registers = lit≤ tt; points = lit≤ tt })
      (record { registers = lit≤ tt; points = lit≤ tt });
  each = pair (StraightFits [] [] negaters) negater nothing
      (body_fits [] negaters iso.Free (Plain Int ∷ Plain Int ∷ []) Void
      (instr.Call 0 0 kind.Plain 1 [] ∷ instr.Un 0 1 Neg (record { reg = 0; at = 0 }) ∷ []) refl
      (All-from_recursion (λ kind. IsTrue (is_within 0 (type_in kind))) (Plain Int ∷ Plain Int ∷ [])
      (int_within 0, (int_within 0, tt))) (void_within 0)
      (All-from_recursion (InstrFits [] [] negaters negater)
      (instr.Call 0 0 kind.Plain 1 [] ∷ instr.Un 0 1 Neg (record { reg = 0; at = 0 }) ∷ []) (
        record {
          registers = All-from_recursion (λ n. n < 2) (0 ∷ []) (lit≤ tt, tt);
          functions_in = All-from_recursion (λ n. n < 2) (1 ∷ []) (lit≤ tt, tt);
          globals_in = All-nil (λ n. n < 0);
          shapes_in = All-nil (λ n. n < 0);
          kinds = (tt, (refl, λ marked. marked));
        },
        (
          record {
            registers = All-from_recursion (λ n. n < 2) (1 ∷ 0 ∷ []) (lit≤ tt, (lit≤ tt, tt));
            functions_in = All-nil (λ n. n < 2);
            globals_in = All-nil (λ n. n < 0);
            shapes_in = All-nil (λ n. n < 0);
            kinds = (refl, (refl, λ marked. marked));
          },
          tt,
        ),
      )))
      (body_fits [] negaters iso.Free [] Int [] refl within_none (int_within 0)
      (All-nil (InstrFits [] [] negaters nothing)));
}

abbrev nothing_graph : Graph
nothing_graph = graph_of [] negaters [] nothing_fits

nothing_stuck : GetsStuck nothing_graph
unfolding reach step_of transition_of act_of effect_of point_at start_of start_frames first_frame
    called_frame registers new_job top_frame is_running dispatch in_job changed_at enter go_on
    leave take_result set_register points_of
nothing_stuck = record {
  items = 0 ∷ 0 ∷ 0 ∷ [];
  number = 0;
  job = _;
  at = refl;
  runs = refl;
  frame = _;
  top = refl;
  stuck = ap (λ l. is_stuck (needs (layer_unary Neg l) (computed_of 2 0 1))) value.outs-Unit;
}

pub returns_needed : (graph : Graph) × BeginsWell graph × SetsGlobals graph × GetsStuck graph
returns_needed = (
  nothing_graph,
  record {
    actors = λ n function is p i here.
        free_gives nothing_graph (free_two negater nothing refl refl) function i;
    entry = first_two negater nothing (record { takes = refl; iso = tt })
        (record { takes = refl; iso = tt }) 0;
    firsts = λ f first. absurd (none_first nothing_graph refl f (starts f first));
  },
  no_globals nothing_graph refl,
  nothing_stuck,
)
