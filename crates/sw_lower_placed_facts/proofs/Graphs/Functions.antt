-- The functions of a program are those of its bodies, by number and by name.
use Rattle.std.proofs.Common.{◌≡◌, ℕ, List, Some, Contains, sym, ap, ◌∙◌, map, slice_get}
use Rattle.std.proofs.lemmas.List.Sorted.{Contains-permutation, IsPermutation-sym}
use Rattle.std.proofs.lemmas.Option.{same_Some, slice_get-map}
use Rattle.std.specs.List.Sorted.{IsPermutation}
use Rattle.sw_graph.specs.declared.function.Function.{Function}
use Rattle.sw_lower_plans.specs.declared.name.FunctionName.{FunctionName}
use Rattle.sw_lower_code.specs.Whole.{Body, function_of}
use Rattle.sw_lower_rules.specs.Tables.{name_of}
use Rattle.sw_typing_facts.proofs.Lists.Found.{mapped}
use Rattle.sw_typing_facts.proofs.Lists.Listed.{in_place, place_in}
use Rattle.sw_lower_placed_facts.specs.Hosts.{Program}

-- The functions of a program are those of its bodies in an order, in which each is found by its
-- name.
pub record InOrder (program : Program) (ordered : List Body) : Type 0 where
  pub functions : program.functions ≡ map (function_of program.numbers) ordered
  pub moved : IsPermutation program.bodies ordered
  pub numbered : (n : ℕ) (body : Body) → slice_get ordered n ≡ Some body
      → program.numbers (name_of body) ≡ Some n
  pub named : (name : FunctionName) (f : ℕ) → program.numbers name ≡ Some f
      → (body : Body) × (slice_get ordered f ≡ Some body) × (name_of body ≡ name)

module _ (program : Program) (ordered : List Body) (is : InOrder program ordered) where
  -- the body that a function is of
  pub record OfBody (n : ℕ) (function : Function) : Type 0 where
    pub body : Body
    pub at : slice_get ordered n ≡ Some body
    pub has : Contains program.bodies body
    pub same : function_of program.numbers body ≡ function

  -- The function with a number is that of the body with the number.
  pub of_body : (n : ℕ) (function : Function) → slice_get program.functions n ≡ Some function
      → OfBody n function
  of_body n function there =
      let (body, at, same) = mapped (function_of program.numbers) (slice_get ordered n) function
      (sym (slice_get-map (function_of program.numbers) ordered n)
      ∙ ap (λ all. slice_get all n) (sym is.functions) ∙ there) in
      record {
        body = body;
        at = at;
        has = Contains-permutation ordered program.bodies body
            (IsPermutation-sym program.bodies ordered is.moved) (in_place ordered n body at);
        same = same;
      }

  -- it has the name that has the number
  pub name_is : (name : FunctionName) (f : ℕ) (body : Body) → program.numbers name ≡ Some f
      → slice_get ordered f ≡ Some body → name_of body ≡ name
  name_is name f body found at =
      let (one, one_at, named) = is.named name f found in
      ap name_of (same_Some body one (sym at ∙ one_at)) ∙ named

  -- The function with the number of a body's name is that of the body.
  pub function_is : (body : Body) (name : FunctionName) (f : ℕ) (function : Function)
      → Contains program.bodies body → name_of body ≡ name → program.numbers name ≡ Some f
      → slice_get program.functions f ≡ Some function
      → function_of program.numbers body ≡ function
  function_is body name f function has named found there =
      let (k, at) = place_in ordered body
      (Contains-permutation program.bodies ordered body is.moved has) in
      let same : k ≡ f =
      same_Some k f (sym (is.numbered k body at) ∙ ap program.numbers named ∙ found) in
      let one = of_body f function there in
      ap (function_of program.numbers)
      (same_Some body one.body (sym at ∙ ap (slice_get ordered) same ∙ one.at)) ∙ one.same
