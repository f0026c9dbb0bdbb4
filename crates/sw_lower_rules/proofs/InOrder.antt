-- The functions of a lowered graph are those of the program's bodies, in the order of their keys.
use Rattle.std.proofs.Common.{◌≡◌, ℕ, ◌+◌, ◌*◌, ◌<◌, ◌≤◌, Option, Some, None, List, Bool, true}
use Rattle.std.proofs.Common.{false, length, map, get_or, refl, ap, sym, ◌∙◌, arith, subst}
use Rattle.std.specs.List.{slice_get}
use Rattle.std.specs.Option.{option_map}
use Rattle.std.specs.Prelude.{if◌then◌else◌}
use Rattle.std.proofs.lemmas.List.{length-map}
use Rattle.std.proofs.lemmas.List.Sorted.{length_permutation}
use Rattle.std.proofs.lemmas.Option.{get_or_from_slice_get, slice_get-map, slice_get_within}
use Rattle.sw_tree.specs.declared.decl.Decl.{Decl}
use Rattle.sw_graph.specs.declared.function.Function.{Function}
use Rattle.sw_graph.specs.declared.graph.Graph.{Graph}
use Rattle.sw_typing_rules.specs.Worlds.{World}
use Rattle.sw_isolation_rules.specs.Answers.{Answers}
use Rattle.sw_lower_code.specs.Whole.{Body, function_of}
use Rattle.sw_lower_rules.specs.Bodies.{Lowered, numbers_of, order_of, program_bodies, tables_of}
use Rattle.sw_lower_rules.specs.Tables.{Isolation}

-- the body of the function with a number
record BodyAt (ordered : List Body) (number : ℕ) (function : Function) : Type 0 where
  body : Body
  is : slice_get ordered number ≡ Some body
  key : function.key ≡ body.key

body_at : (ordered : List Body) (functions : List Function) (number : ℕ) (function : Function)
    → functions ≡ map (function_of (numbers_of ordered)) ordered
    → slice_get functions number ≡ Some function → BodyAt ordered number function
unfolding function_of
body_at ordered functions number function are at =
    by (slice_get ordered number) refl
    (sym (slice_get-map (function_of (numbers_of ordered)) ordered number)
    ∙ ap (λ list. slice_get list number) (sym are) ∙ at) where
      by : (found : Option Body) → slice_get ordered number ≡ found
          → option_map (function_of (numbers_of ordered)) found ≡ Some function
          → BodyAt ordered number function
      by None is never = cc
      by (Some body) is given =
          let same : function_of (numbers_of ordered) body ≡ function = cc in
          record { body = body; is = is; key = ap (λ (f : Function). f.key) (sym same) }

keys_rise : (one other : Body) → order_of one ≤ order_of other → one.key ≤ other.key
keys_rise one other less = by one.getter other.getter less where
  by : (first second : Bool)
      → 2 * one.key + (if first then 1 else 0) ≤ 2 * other.key + (if second then 1 else 0)
      → one.key ≤ other.key
  by true true is = omega arith
  by true false is = omega arith
  by false true is = omega arith
  by false false is = omega arith

module _ (world : World) (answers : Answers) (isolation : Isolation) (decls : List Decl)
    (graph : Graph) where
  pub as_many_functions : Lowered world answers isolation decls graph
      → length graph.functions
      ≡ length (program_bodies (tables_of world answers isolation decls) decls)
  as_many_functions lowered =
      ap length lowered.functions
      ∙ length-map lowered.ordered (function_of (numbers_of lowered.ordered))
      ∙ length_permutation _ _ lowered.are_ordered.bodies

  pub functions_rise : Lowered world answers isolation decls graph → (i j : ℕ)
      (one other : Function) → i ≤ j → slice_get graph.functions i ≡ Some one
      → slice_get graph.functions j ≡ Some other → one.key ≤ other.key
  functions_rise lowered i j one other before at_i at_j =
      let first = body_at lowered.ordered graph.functions i one lowered.functions at_i in
      let second = body_at lowered.ordered graph.functions j other lowered.functions at_j in
      let within : j < length lowered.ordered =
      slice_get_within lowered.ordered j second.body second.is in
      let d = first.body in
      let here : get_or lowered.ordered i d ≡ first.body =
      get_or_from_slice_get lowered.ordered i first.body d first.is in
      let there : get_or lowered.ordered j d ≡ second.body =
      get_or_from_slice_get lowered.ordered j second.body d second.is in
      let rises : order_of first.body ≤ order_of second.body =
      subst (λ b. order_of b ≤ order_of second.body) here
      (subst (λ b. order_of (get_or lowered.ordered i d) ≤ order_of b) there
      (lowered.are_ordered.in_order i j d before within)) in
      let keys : first.body.key ≤ second.body.key = keys_rise first.body second.body rises in
      omega (arith, keys, first.key, second.key)
