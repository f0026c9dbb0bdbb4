-- The function with the number of a body has the body's header.
use Rattle.std.proofs.Common.{◌≡◌, ℕ, Some, List, Bool, true, false, map, Contains, refl, ap, sym}
use Rattle.std.proofs.Common.{◌∙◌, subst, arith}
use Rattle.std.proofs.lemmas.Bool.{eqb-true}
use Rattle.std.proofs.lemmas.List.{length-map}
use Rattle.std.proofs.lemmas.List.Sorted.{Contains-permutation, IsPermutation-sym}
use Rattle.std.proofs.lemmas.Option.{same_Some, slice_get-map}
use Rattle.std.specs.List.Sorted.{IsPermutation}
use Rattle.std.specs.Option.{option_map}
use Rattle.std.specs.Prelude.{◌==◌, ◌&&◌, IsTrue, slice_get}
use Rattle.sw_types.specs.declared.ty.Ty.{Ty}
use Rattle.sw_graph.specs.declared.function.Function.{Function}
use Rattle.sw_graph.specs.declared.function.RegKind.{RegKind}
use Rattle.sw_lower_plans.specs.declared.name.FunctionName.{FunctionName}
use Rattle.sw_lower_code.specs.Whole.{Body, function_of}
use Rattle.sw_lower_rules.specs.Bodies.{AreNumbered, functions_of, numbers_of}
use Rattle.sw_lower_rules.specs.Tables.{is_named, is_same, name_of}
use Rattle.sw_lower_rules.proofs.Numbers.{number_named, number_within}
use Rattle.sw_lower_formed_facts.specs.Ground.{IsHeader}
use Rattle.sw_lower_formed_facts.proofs.Functions.Takes.{gives_of, kinds_of, takes_of}
use Rattle.sw_typing_facts.proofs.Lists.Listed.{in_place, place_in, some_at}

-- a name is determined by its key and by whether it is that of a getter
same_name : (one other : FunctionName) → IsTrue (is_named one other) → one ≡ other
same_name one other named = by (one.key == other.key) refl one.getter other.getter refl refl named
  where
    parts : (one.key == other.key) ≡ true → one.getter ≡ other.getter → one ≡ other
    parts keys getters =
        let key : one.key ≡ other.key = eqb-true one.key other.key keys in
        λ i. record { key = key i; getter = getters i }

    by : (keys : Bool) → (one.key == other.key) ≡ keys → (first second : Bool)
        → one.getter ≡ first → other.getter ≡ second → IsTrue (keys && is_same first second)
        → one ≡ other
    by true same true true of_one of_other _ = parts same (of_one ∙ sym of_other)
    by true same false false of_one of_other _ = parts same (of_one ∙ sym of_other)
    by true same true false of_one of_other never = cc
    by true same false true of_one of_other never = cc
    by false same first second of_one of_other never = cc

-- the header of the same kinds and result
pub header_as : (functions : List Function) (kinds others : List RegKind) (result other : Ty)
    (f : ℕ) → kinds ≡ others → result ≡ other → IsHeader functions kinds result f
    → IsHeader functions others other f
header_as functions kinds others result other f takes gives header =
    subst (λ all. IsHeader functions all other f) takes
    (subst (λ ty. IsHeader functions kinds ty f) gives header)

-- The bodies of a program in an order in which each is found by its name.
module _ (bodies ordered : List Body)
    (moved : IsPermutation bodies ordered) (numbered : AreNumbered ordered) where
  -- the header of the function at a place
  pub header_at : (f : ℕ) (body : Body) → slice_get ordered f ≡ Some body
      → IsHeader (functions_of ordered) (kinds_of body) body.result f
  header_at f body at = record {
    function = function_of (numbers_of ordered) body;
    at = slice_get-map (function_of (numbers_of ordered)) ordered f
        ∙ ap (option_map (function_of (numbers_of ordered))) at;
    takes_these = takes_of (numbers_of ordered) body;
    gives = gives_of (numbers_of ordered) body;
  }

  -- the header of the function of a body
  pub header_of : (body : Body) (f : ℕ) → Contains bodies body
      → numbers_of ordered (name_of body) ≡ Some f
      → IsHeader (functions_of ordered) (kinds_of body) body.result f
  header_of body f has found =
      let (k, at) = place_in ordered body (Contains-permutation bodies ordered body moved has) in
      let same : k ≡ f = same_Some k f (sym (numbered k body at) ∙ found) in
      header_at f body (subst (λ place. slice_get ordered place ≡ Some body) same at)

  -- A number that is found is that of a body with the name.
  pub record Found (name : FunctionName) (f : ℕ) : Type 0 where
    pub body : Body
    pub has : Contains bodies body
    pub named : name_of body ≡ name
    pub header : IsHeader (functions_of ordered) (kinds_of body) body.result f

  -- the body of a name
  pub body_found : (name : FunctionName) (f : ℕ) → numbers_of ordered name ≡ Some f → Found name f
  body_found name f found =
      let (body, at) = some_at ordered f
      (omega (
        arith,
        number_within (map name_of ordered) name f found,
        length-map ordered name_of,
      )) in
      record {
        body = body;
        has = Contains-permutation ordered bodies body (IsPermutation-sym bodies ordered moved)
            (in_place ordered f body at);
        named = same_name (name_of body) name
            (number_named (map name_of ordered) name (name_of body) f found
            (slice_get-map name_of ordered f ∙ ap (option_map name_of) at));
        header = header_at f body at;
      }
