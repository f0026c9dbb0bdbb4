-- The functions of bodies that fit are those of a well-formed graph.
use Rattle.std.proofs.Common.{◌≡◌, ℕ, ◌<◌, List, [], ◌∷◌, length, map, sym, ◌∙◌, ap, arith, Option}
use Rattle.std.proofs.Common.{Some, None}
use Rattle.std.proofs.lemmas.List.{length-map}
use Rattle.std.proofs.lemmas.List.Elements.{All-map, All-cons, All-nil}
use Rattle.std.proofs.lemmas.List.Sorted.{All-permutation}
use Rattle.std.proofs.lemmas.Option.{slice_get-get_or}
use Rattle.std.specs.Prelude.{All, get_or, slice_get}
use Rattle.sw_tree.specs.declared.decl.Decl.{Decl}
use Rattle.sw_graph.specs.Limits.{IsWithinLimits}
use Rattle.sw_graph.specs.WellFormed.{AllBelow, FunctionFits, IsWellFormed}
use Rattle.sw_decls.specs.declared.signature.GlobalVar.{GlobalVar}
use Rattle.sw_typing_rules.specs.Worlds.{and_then}
use Rattle.sw_lower_plans.specs.declared.name.FunctionName.{FunctionName}
use Rattle.sw_lower_code.specs.Whole.{Body, function_of}
use Rattle.sw_lower_rules.specs.Bodies.{AreOrdered, entry_key, functions_of, global_kind}
use Rattle.sw_lower_rules.specs.Bodies.{numbers_of, program_bodies}
use Rattle.sw_lower_rules.specs.Tables.{Tables, name_of, plain}
use Rattle.sw_lower_rules.proofs.Numbers.{number_within}
use Rattle.sw_lower_formed_facts.specs.Ground.{Ground, IsDeclaredIn}

-- a number that is found is that of a function
number_below : (ordered : List Body) (name : FunctionName) (f : ℕ)
    → numbers_of ordered name ≡ Some f → f < length (functions_of ordered)
number_below ordered name f is =
    let below = number_within (map name_of ordered) name f is in
    omega (
      arith,
      below,
      length-map ordered name_of,
      length-map ordered (function_of (numbers_of ordered)),
    )

entry_below : (ordered : List Body) (key : Option ℕ) (entry : ℕ)
    → Some entry ≡ and_then key (λ one. numbers_of ordered (plain one))
    → entry < length (functions_of ordered)
entry_below ordered None entry is = cc
entry_below ordered (Some key) entry is = number_below ordered (plain key) entry (sym is)

-- each of these numbers is found
starts_below : (ordered : List Body) (globals : List GlobalVar) (starts : List ℕ)
    → map Some starts
    ≡ map (λ (global : GlobalVar). numbers_of ordered (plain global.key.at)) globals
    → AllBelow (length (functions_of ordered)) starts
starts_below ordered [] [] is = All-nil (λ n. n < length (functions_of ordered))
starts_below ordered [] (start ∷ starts) is = cc
starts_below ordered (global ∷ globals) [] is = cc
starts_below ordered (global ∷ globals) (start ∷ starts) is =
    let first : numbers_of ordered (plain global.key.at) ≡ Some start = cc in
    let rest : map Some starts
    ≡ map (λ (one : GlobalVar). numbers_of ordered (plain one.key.at)) globals = cc in
    All-cons (λ n. n < length (functions_of ordered)) start starts
    (number_below ordered (plain global.key.at) start first)
    (starts_below ordered globals starts rest)

-- Functions of all bodies of a program that fit are those of a well-formed graph.
pub graph_fits : (tables : Tables) (decls : List Decl) (ordered : List Body) (entry : ℕ)
    (starts : List ℕ) → AreOrdered tables decls ordered
    → Ground tables (numbers_of ordered) (functions_of ordered)
    → All (λ body. FunctionFits tables.world.shapes (map global_kind tables.world.globals)
    (functions_of ordered) (function_of (numbers_of ordered) body)) (program_bodies tables decls)
    → All IsWithinLimits (functions_of ordered)
    → Some entry ≡ and_then (entry_key decls) (λ key. numbers_of ordered (plain key))
    → map Some starts
    ≡ map (λ (global : GlobalVar). numbers_of ordered (plain global.key.at)) tables.world.globals
    → IsWellFormed tables.world.shapes (map global_kind tables.world.globals)
    (functions_of ordered) entry starts
graph_fits tables decls ordered entry starts are ground fit limits entry_is starts_are = record {
  entry_in = entry_below ordered (entry_key decls) entry entry_is;
  starts_in = starts_below ordered tables.world.globals starts starts_are;
  first_values = sym (length-map starts Some) ∙ ap length starts_are
      ∙ length-map tables.world.globals
      (λ (global : GlobalVar). numbers_of ordered (plain global.key.at))
      ∙ sym (length-map tables.world.globals global_kind);
  types = All-map (λ global. IsDeclaredIn tables global.ty) global_kind tables.world.globals
      (λ k d below. ground.global_types k _ (there tables.world.globals k d below));
  limits = limits;
  each = All-map (FunctionFits tables.world.shapes (map global_kind tables.world.globals)
      (functions_of ordered)) (function_of (numbers_of ordered)) ordered
      (All-permutation Fits (program_bodies tables decls) ordered are.bodies fit);
} where
  Fits : Body → Type 0
  Fits body = FunctionFits tables.world.shapes (map global_kind tables.world.globals)
      (functions_of ordered) (function_of (numbers_of ordered) body)

  there : (globals : List GlobalVar) (k : ℕ) (d : GlobalVar) → k < length globals
      → slice_get globals k ≡ Some (get_or globals k d)
  there globals k d below = slice_get-get_or globals k d below
