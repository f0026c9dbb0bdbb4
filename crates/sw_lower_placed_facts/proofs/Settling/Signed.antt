-- The functions of functions, methods and initialisers have the isolation and the result that their
-- signatures declare.
use Rattle.std.proofs.Common.{◌≡◌, ℕ, Bool, List, Some}
use Rattle.std.proofs.Common.{Contains, refl, ap, sym, ◌∙◌, subst}
use Rattle.std.proofs.lemmas.List.Sorted.{Contains-permutation}
use Rattle.std.proofs.lemmas.Option.{same_Some, slice_get-map}
use Rattle.std.specs.Option.{option_map}
use Rattle.std.specs.Prelude.{slice_get}
use Rattle.sw_tree.specs.declared.decl.Decl.{Decl}
use Rattle.sw_types.specs.declared.isolation.Iso.{Iso}
use Rattle.sw_types.specs.declared.ty.Ty.{Ty}
use Rattle.sw_decls.specs.declared.signature.Signature.{Signature}
use Rattle.sw_typing_rules.specs.Worlds.{World}
use Rattle.sw_lower_code.specs.Whole.{Body, function_of}
use Rattle.sw_lower_rules.specs.Bodies.{AreNumbered, AreOrdered}
use Rattle.sw_lower_rules.specs.Bodies.{functions_of}
use Rattle.sw_lower_rules.specs.Bodies.{numbers_of, program_bodies, signed}
use Rattle.sw_lower_rules.specs.Tables.{Tables, name_of, plain}
use Rattle.sw_typing_facts.proofs.Lists.Listed.{place_in}
use Rattle.sw_lower_total_facts.specs.Programs.{noted_tables}
use Rattle.sw_lower_call_facts.proofs.Functions.Signed.{IsSigned}
use Rattle.sw_lower_placed_facts.specs.Allowed.{FunctionIs}
use Rattle.sw_lower_placed_facts.specs.Hosts.{Program}
use Rattle.sw_lower_placed_facts.proofs.Settling.Program.{program_of}

-- The function with the number of a body.
module _ (world : World) (decls : List Decl) (ordered : List Body)
    (are : AreOrdered (noted_tables world decls) decls ordered) (numbered : AreNumbered ordered)
  where
    abbrev tables : Tables
    tables = noted_tables world decls

    abbrev program : Program
    program = program_of world decls ordered

    function_at : (body : Body) (f : ℕ) → Contains (program_bodies tables decls) body
        → numbers_of ordered (name_of body) ≡ Some f
        → slice_get (functions_of ordered) f ≡ Some (function_of (numbers_of ordered) body)
    function_at body f has found =
        let (k, there) = place_in ordered body
        (Contains-permutation (program_bodies tables decls) ordered body are.bodies has) in
        let same : k ≡ f = same_Some k f (sym (numbered k body there) ∙ found) in
        subst (λ place. slice_get (functions_of ordered) place
        ≡ Some (function_of (numbers_of ordered) body)) same
        (slice_get-map (function_of (numbers_of ordered)) ordered k
        ∙ ap (option_map (function_of (numbers_of ordered))) there)

    pub body_function : (body : Body) (f : ℕ) (iso : Iso) (is_async sends : Bool) (result : Ty)
        → Contains (program_bodies tables decls) body
        → numbers_of ordered (name_of body) ≡ Some f → body.iso ≡ iso → body.is_async ≡ is_async
        → body.sends ≡ sends → body.result ≡ result
        → FunctionIs program f iso is_async sends result
    unfolding function_of
    body_function body f iso is_async sends result has found iso_is async_is sends_is result_is =
        record {
          function = function_of (numbers_of ordered) body;
          at = function_at body f has found;
          iso_is = iso_is;
          async_is = async_is;
          sends_is = sends_is;
          result_is = result_is;
        }

    pub signed_function : (func : Signature) (f : ℕ)
        → IsSigned tables (program_bodies tables decls) func
        → numbers_of ordered (plain func.key.at) ≡ Some f
        → FunctionIs program f func.iso func.is_async func.sends func.result
    signed_function func f one found =
        body_function (signed tables func one.takes one.code) f func.iso func.is_async func.sends
        func.result one.has found refl refl refl refl
