-- The functions of a program are those of a well-formed graph.
use Rattle.std.proofs.Common.{◌≡◌, ℕ, List, Some, None, map, option_map, refl, sym, ◌∙◌, ap, subst}
use Rattle.std.proofs.lemmas.List.Elements.{All-map}
use Rattle.std.proofs.lemmas.List.Sorted.{All-permutation, IsPermutation-sym}
use Rattle.std.proofs.lemmas.Option.{slice_get-get_or, slice_get-map, same_Some}
use Rattle.std.specs.Prelude.{All, IsOk, Result, Ok, Err, get_or, slice_get}
use Rattle.sw_tree.specs.Contents.{AreKeyed}
use Rattle.sw_tree.specs.declared.decl.Decl.{Decl}
use Rattle.sw_graph.specs.Limits.{IsWithinLimits, excess_of}
use Rattle.sw_graph.specs.WellFormed.{IsWellFormed}
use Rattle.sw_graph.specs.declared.function.Function.{Function}
use Rattle.sw_graph.proofs.LimitLemmas.{within_of}
use Rattle.sw_decls.specs.Declaring.{IsFirstBreach}
use Rattle.sw_decls.specs.declared.signature.AsyncDefault.{AsyncDefault}
use Rattle.sw_typing_rules.specs.Programs.{IsFirstIll}
use Rattle.sw_typing_rules.specs.Worlds.{IsWorldOf, World}
use Rattle.sw_lower_plans.specs.Plan.{Numbers}
use Rattle.sw_lower_code.specs.Whole.{Body, IsWhole, function_of, lower_body}
use Rattle.sw_lower_code.specs.declared.fault.BodyFault.{BodyFault}
use Rattle.sw_lower_code.proofs.WholeFacts.{lowers_whole}
use Rattle.sw_lower_rules.specs.Bodies.{AreMade, AreNumbered, AreOrdered, functions_of, global_kind}
use Rattle.sw_lower_rules.specs.Bodies.{numbers_of, program_bodies}
use Rattle.sw_lower_rules.specs.Tables.{Isolation, Tables}
use Rattle.sw_lower_formed_facts.specs.Trees.{IsHere}
use Rattle.sw_lower_formed_facts.specs.Programs.{tables_in}
use Rattle.sw_lower_rules.specs.Bodies.{AreStarts, IsEntryNumber}
use Rattle.sw_tree.specs.CasePlaces.{CasesApart}
use Rattle.sw_lower_formed_facts.proofs.Bodies.ProgramBodies.{bodies_fit}
use Rattle.sw_lower_formed_facts.proofs.Graphs.{graph_fits}
use Rattle.sw_lower_formed_facts.proofs.Grounded.{ground_of}
use Rattle.sw_lower_formed_facts.proofs.Induction.{block_ok_of, expr_ok}
use Rattle.sw_lower_formed_facts.proofs.Programs.CasesDiffer.{cases_differ}
use Rattle.sw_typing_facts.proofs.Programs.Enums.{only_enums}
use Rattle.sw_typing_facts.proofs.Programs.WordKinds.{word_kinds}

-- A function whose making ends well is within the limits.
made_within : (number : Numbers) (body : Body) → IsOk (lower_body number body)
    → excess_of (function_of number body) ≡ None
made_within number body = by (lower_body number body) (lowers_whole number body) where
  by : (result : Result Function BodyFault) → IsWhole number body result → IsOk result
      → excess_of (function_of number body) ≡ None
  by (Ok function) whole ok = whole.1
  by (Err fault) whole ok = cc

-- the functions of bodies that are made are within the limits
all_limits : (ordered : List Body) → AreMade ordered → All IsWithinLimits (functions_of ordered)
all_limits ordered made =
    All-map IsWithinLimits (function_of (numbers_of ordered)) ordered
    (λ k d below. within_of _ (made_within (numbers_of ordered) _ (made k d below)))

-- each body is found by its name
pub bodies_here : (tables : Tables) (ordered : List Body) → AreNumbered ordered → AreMade ordered
    → All (IsHere tables (numbers_of ordered) (functions_of ordered)) ordered
bodies_here tables ordered numbered made k d below =
    let at : slice_get ordered k ≡ Some (get_or ordered k d) =
    slice_get-get_or ordered k d below in
    record {
      made = made k d below;
      found = λ f is.
          let same : k ≡ f = same_Some k f (sym (numbered k (get_or ordered k d) at) ∙ is) in
          subst (λ n. slice_get (functions_of ordered) n
          ≡ Some (function_of (numbers_of ordered) (get_or ordered k d))) same
          (slice_get-map (function_of (numbers_of ordered)) ordered k
          ∙ ap (option_map (function_of (numbers_of ordered))) at);
    }

-- The functions of a program that keeps the rules are those of a well-formed graph.
pub graphs_fit : (decls : List Decl) (rule : AsyncDefault) (world : World) (isolation : Isolation)
    (ordered : List Body) (entry : ℕ) (starts : List ℕ) → AreKeyed decls → CasesApart decls
    → IsFirstBreach decls None → IsWorldOf decls rule world → IsFirstIll world decls None
    → AreOrdered (tables_in world isolation decls) decls ordered → AreNumbered ordered
    → AreMade ordered → IsEntryNumber decls ordered entry → AreStarts world ordered starts
    → IsWellFormed world.shapes (map global_kind world.globals) (functions_of ordered) entry starts
graphs_fit decls rule world isolation ordered entry starts keys apart sound is well are numbered
    made
    entry_is starts_are =
    let tables = tables_in world isolation decls in
    let number = numbers_of ordered in
    let functions = functions_of ordered in
    let ground = ground_of decls rule world isolation ordered keys is are numbered in
    let kinds = word_kinds decls rule world is in
    let enums = only_enums decls rule world is in
    let differ = cases_differ decls rule world is sound apart in
    graph_fits tables decls ordered entry starts are ground
    (bodies_fit world isolation decls rule number functions keys is sound well ground
    (expr_ok tables number functions ground kinds enums differ)
    (block_ok_of tables number functions ground kinds enums differ)
    (All-permutation (IsHere tables number functions) ordered (program_bodies tables decls)
    (IsPermutation-sym (program_bodies tables decls) ordered are.bodies)
    (bodies_here tables ordered numbered made)))
    (all_limits ordered made) entry_is starts_are
