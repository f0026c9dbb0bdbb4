-- Functions and methods that are meant take their actors.
use Rattle.std.proofs.Common.{◌≡◌, ℕ, List, [], ◌∷◌, ◌++◌, map, Option, Some, Contains, refl}
use Rattle.std.proofs.Common.{sym, ap, subst, ◌∙◌}
use Rattle.std.proofs.lemmas.List.Sorted.{Contains-permutation}
use Rattle.std.proofs.lemmas.Option.{same_Some, slice_get-map}
use Rattle.std.specs.Option.{option_map}
use Rattle.std.specs.Prelude.{slice_get}
use Rattle.sw_tree.specs.declared.decl.Decl.{Decl}
use Rattle.sw_types.specs.declared.isolation.Iso.TheVariants as iso
use Rattle.sw_types.specs.declared.shape.Shape.{Shape}
use Rattle.sw_graph.specs.declared.function.Function.{Function}
use Rattle.sw_decls.specs.declared.signature.AsyncDefault.{AsyncDefault}
use Rattle.sw_decls.specs.declared.signature.Signature.{Signature}
use Rattle.sw_typing_rules.specs.Worlds.{IsWorldOf, item}
use Rattle.sw_isolation_rules.specs.Answers.{for_some}
use Rattle.sw_isolation_rules.specs.Programs.{func_at}
use Rattle.sw_graph.specs.Supplied.{TakesActor}
use Rattle.sw_lower_code.specs.Code.{Code}
use Rattle.sw_lower_code.specs.Whole.{Body, function_of}
use Rattle.sw_lower_code.specs.declared.taken.Taken.{Taken}
use Rattle.sw_lower_rules.specs.Bodies.{AreNumbered, AreOrdered, func_bodies, func_signed}
use Rattle.sw_lower_rules.specs.Bodies.{func_tree_bodies, functions_of, numbers_of, param_taken}
use Rattle.sw_lower_rules.specs.Bodies.{program_bodies, self_by, self_taken, signed}
use Rattle.sw_lower_rules.specs.Expressions.{body_code}
use Rattle.sw_lower_rules.specs.Statements.{block_code}
use Rattle.sw_lower_rules.specs.Tables.{Tables, name_of, plain}
use Rattle.sw_lower_formed_facts.proofs.Headers.Signed.{for_found}
use Rattle.sw_typing_facts.proofs.Lists.Listed.{in_first, in_place, place_in}
use Rattle.sw_lower_call_facts.specs.Meant.{IsFuncNumber}
use Rattle.sw_lower_call_facts.specs.Taking.{TakesFirst}
use Rattle.sw_lower_call_facts.proofs.Functions.Owners.{owner_is_actor}
use Rattle.sw_lower_call_facts.proofs.Functions.Signed.{tree_of}
use Rattle.sw_lower_call_facts.proofs.Functions.Taking.{takes_actor}

-- The function with the number of a body is that of the body.
pub function_is : (bodies ordered : List Body) (body : Body) (f : ℕ) (function : Function)
    → AreNumbered ordered → Contains ordered body → numbers_of ordered (name_of body) ≡ Some f
    → slice_get (functions_of ordered) f ≡ Some function
    → function_of (numbers_of ordered) body ≡ function
function_is bodies ordered body f function numbered has found at =
    let (k, there) = place_in ordered body has in
    let same : k ≡ f = same_Some k f (sym (numbered k body there) ∙ found) in
    same_Some (function_of (numbers_of ordered) body) function
    (sym (slice_get-map (function_of (numbers_of ordered)) ordered k
    ∙ ap (option_map (function_of (numbers_of ordered))) there)
    ∙ ap (slice_get (functions_of ordered)) same ∙ at)

-- what is taken first by a method of an actor
self_first : (tables : Tables) (owner : Option ℕ) (k : ℕ) (shape : Shape) (rest : List Taken)
    → owner ≡ Some k → slice_get tables.world.shapes k ≡ Some shape
    → self_taken tables owner ++ rest ≡ self_by k shape ∷ rest
self_first tables owner k shape rest same at =
    ap (λ (by : Option ℕ). self_taken tables by ++ rest) same
    ∙ ap (λ found. for_some found (λ shape. self_by k shape ∷ []) ++ rest) at

module _ (tables : Tables) (decls : List Decl) (rule : AsyncDefault)
    (is_world : IsWorldOf decls rule tables.world) (ordered : List Body)
    (are : AreOrdered tables decls ordered) (numbered : AreNumbered ordered) where
  signed_takes : (func : Signature) (params : List Taken) (code : Code (Unit {0}))
      → Contains tables.world.funcs func → func.iso ≡ iso.Own
      → TakesFirst tables.world.shapes
      (signed tables func (self_taken tables func.owner ++ params) code).takes
  signed_takes func params code has own =
      let of = owner_is_actor decls rule tables.world is_world func has own in
      record {
        k = of.k;
        one = self_by of.k of.actor.shape;
        more = params;
        are = self_first tables func.owner of.k of.actor.shape params of.owner of.actor.at;
        kind = refl;
        actor = of.actor;
      }

  -- A function or a method that is meant takes its actor first.
  pub func_takes : (n f : ℕ) (func : Signature) (function : Function)
      → IsFuncNumber tables.world n → slice_get tables.world.funcs n ≡ Some func
      → numbers_of ordered (plain func.key.at) ≡ Some f
      → slice_get (functions_of ordered) f ≡ Some function → function.iso ≡ iso.Own
      → TakesActor tables.world.shapes function
  unfolding func_bodies func_at function_of
  func_takes n f func function meant at found there own =
      let one = tree_of tables decls rule is_world meant.key meant.is in
      let tree = one.tree in
      let code = block_code tables func.owner tree.body in
      let params : List Taken = map (param_taken tables) tree.params in
      let body = signed tables func (self_taken tables func.owner ++ params)
      (body_code func.result code) in
      let number : tables.world.numbers tree.word.at ≡ Some n =
      ap tables.world.numbers one.word ∙ meant.number in
      let has : Contains (func_tree_bodies tables tree) body =
      for_found (func_at tables.world tables.answers tree.word.at) func
      (func_signed tables tree.params tree.body) body
      (ap (λ place. item place tables.world.funcs) number ∙ at)
      (in_first body code.inside) in
      let is = function_is (program_bodies tables decls) ordered body f function numbered
      (Contains-permutation (program_bodies tables decls) ordered body are.bodies
      (one.made body has)) found there in
      subst (TakesActor tables.world.shapes) is
      (takes_actor tables.world.shapes (numbers_of ordered) body
      (signed_takes func params (body_code func.result code)
      (in_place tables.world.funcs n func at)
      (ap (λ (one : Function). one.iso) is ∙ own)))
