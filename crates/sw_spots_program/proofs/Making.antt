-- Each body of a program is made, and so are the bodies in it.
use Rattle.std.proofs.Common.{◌≡◌, Some, List, [], ◌∷◌, Contains, ap, sym, subst, ◌∙◌}
use Rattle.std.proofs.lemmas.List.Elements.{All-contains}
use Rattle.std.proofs.lemmas.List.Sorted.{Contains-permutation}
use Rattle.std.proofs.lemmas.Option.{same_Some, slice_get-map}
use Rattle.std.specs.List.{AllByRecursion}
use Rattle.std.specs.Option.{option_map}
use Rattle.std.specs.Prelude.{IsOk, slice_get}
use Rattle.sw_tree.specs.declared.decl.Decl.{Decl}
use Rattle.sw_graph.specs.declared.function.Function.{Function}
use Rattle.sw_lower_plans.specs.Plan.{Numbers}
use Rattle.sw_lower_code.specs.Whole.{Body, function_of, lower_body}
use Rattle.sw_lower_rules.specs.Bodies.{AreMade, AreNumbered, AreOrdered, functions_of, numbers_of}
use Rattle.sw_lower_rules.specs.Bodies.{program_bodies}
use Rattle.sw_lower_rules.specs.Tables.{Tables}
use Rattle.sw_typing_facts.proofs.Lists.Listed.{in_first, in_rest, place_in}
use Rattle.sw_spots.specs.Forms.{program}
use Rattle.sw_spots.specs.Spots.{Program}
use Rattle.sw_spots_body.proofs.Begun.{IsMade}

module _ (tables : Tables) (decls : List Decl) (ordered : List Body)
    (are : AreOrdered tables decls ordered) (numbered : AreNumbered ordered)
    (made : AreMade ordered) where
  abbrev numbers : Numbers
  numbers = numbers_of ordered

  abbrev functions : List Function
  functions = functions_of ordered

  abbrev p : Program
  p = program tables numbers functions

  pub is_made : (body : Body) → Contains (program_bodies tables decls) body
      → IsMade p numbers body
  is_made body has =
      let among = Contains-permutation (program_bodies tables decls) ordered body are.bodies has in
      let (k, at) = place_in ordered body among in
      record {
        there = λ number found.
            subst (λ n. slice_get functions n ≡ Some (function_of numbers body))
            (same_Some k number (sym (numbered k body at) ∙ found))
            (slice_get-map (function_of numbers) ordered k
            ∙ ap (option_map (function_of numbers)) at);
        made = All-contains (λ (one : Body). IsOk (lower_body numbers one)) ordered body made among;
      }

  pub are_made : (some : List Body)
      → ((body : Body) → Contains some body → Contains (program_bodies tables decls) body)
      → AllByRecursion (λ body. IsMade p numbers body) some
  are_made [] among = tt
  are_made (body ∷ some) among = (
    is_made body (among body (in_first body some)),
    are_made some (λ one has. among one (in_rest body some one has)),
  )
