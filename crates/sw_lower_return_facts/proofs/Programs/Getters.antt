-- The functions of getters return their results.
use Rattle.std.proofs.Common.{ℕ, ◌+◌, Bool, true, false, List, [], ◌∷◌, Option, Some, None}
use Rattle.std.proofs.lemmas.List.Elements.{All-cons, All-nil}
use Rattle.std.specs.Prelude.{◌&&◌, if◌then◌else◌, slice_get}
use Rattle.sw_tree.specs.declared.decl.PropTree.{PropTree}
use Rattle.sw_types.specs.declared.shape.Part.{Part}
use Rattle.sw_types.specs.declared.shape.Shape.{Shape}
use Rattle.sw_types.specs.declared.ty.Ty.{Ty}
use Rattle.sw_graph.specs.declared.function.Function.{Function}
use Rattle.sw_graph.specs.declared.instr.Operand.{Operand}
use Rattle.sw_decls.specs.declared.signature.GlobalVar.{GlobalVar}
use Rattle.sw_isolation_rules.specs.Answers.{for_some}
use Rattle.sw_isolation_rules.specs.Kinds.{is_isolated, shape_iso}
use Rattle.sw_lower_plans.specs.Plan.{Numbers}
use Rattle.sw_lower_code.specs.Code.{Code}
use Rattle.sw_lower_code.specs.Whole.{Body}
use Rattle.sw_lower_code.specs.declared.taken.Taken.{Taken}
use Rattle.sw_lower_rules.specs.Bodies.{getter, global_getter, part_getter, part_read, prop_getters}
use Rattle.sw_lower_rules.specs.Bodies.{shape_getters, stored_read}
use Rattle.sw_lower_rules.specs.Tables.{Tables}
use Rattle.sw_lower_formed_facts.specs.Trees.{IsHere}
use Rattle.sw_typing_facts.proofs.Lists.Joined.{Gives, both_give, none_gives}
use Rattle.sw_lower_code_facts.proofs.Uses.{has_give}
use Rattle.sw_lower_return_facts.specs.Flows.{CodeFlows}
use Rattle.sw_lower_return_facts.specs.Forms.{BodyReturns}
use Rattle.sw_lower_return_facts.proofs.Bodies.Codes.{value_closes}
use Rattle.sw_lower_return_facts.proofs.Expressions.Induction.{flowing}
use Rattle.sw_lower_return_facts.proofs.Functions.Bodies.{body_returns}

module _ (tables : Tables) (number : Numbers) (functions : List Function) where
  abbrev Given : List Body → Type 0
  Given = Gives (IsHere tables number functions) (BodyReturns number)

  none : Given []
  none = none_gives (IsHere tables number functions) (BodyReturns number)

  one_given : (body : Body) → BodyReturns number body → Given (body ∷ [])
  one_given body returns here =
      All-cons (BodyReturns number) body [] returns (All-nil (BodyReturns number))

  getter_returns : (key : ℕ) (takes : List Taken) (ty : Ty) (read : Code Operand) → CodeFlows read
      → BodyReturns number (getter tables key takes ty read)
  getter_returns key takes ty read flows =
      body_returns number (getter tables key takes ty read) (λ value. value_closes read flows)

  -- the getter of a property
  shape_getters_return : (n i : ℕ) (prop : PropTree) (shape : Shape)
      → Given (shape_getters tables n i prop shape)
  shape_getters_return n i prop shape =
      by (prop.mutable && is_isolated (shape_iso shape)) where
        for_part : (found : Option Part)
            → Given (for_some found (λ part. part_getter tables prop.word.at n i shape part ∷ []))
        for_part None = none
        for_part (Some part) =
            one_given (part_getter tables prop.word.at n i shape part)
            (getter_returns prop.word.at _ part.ty (part_read prop.word.at i part.ty)
            (has_give flowing prop.word.at part.ty _ (λ r. tt)))

        by : (so : Bool) → Given (if so then for_some (slice_get shape.parts i) (λ part.
            part_getter tables prop.word.at n i shape part ∷ []) else [])
        by true = for_part (slice_get shape.parts i)
        by false = none

  -- the getters of the properties of a type
  pub prop_getters_return : (n i : ℕ) (props : List PropTree)
      → Given (prop_getters tables n i props)
  prop_getters_return n i [] = none
  prop_getters_return n i (prop ∷ props) =
      both_give (IsHere tables number functions) (BodyReturns number)
      (for_some (slice_get tables.world.shapes n) (shape_getters tables n i prop))
      (prop_getters tables n (i + 1) props) (by (slice_get tables.world.shapes n))
      (prop_getters_return n (i + 1) props) where
        by : (found : Option Shape) → Given (for_some found (shape_getters tables n i prop))
        by None = none
        by (Some shape) = shape_getters_return n i prop shape

  -- the getter of a global variable, where it has one
  pub global_getters_return : (key g : ℕ) → Given
      (for_some (slice_get tables.world.globals g) (global_getter tables key g))
  global_getters_return key g = by (slice_get tables.world.globals g) where
    one : (global : GlobalVar) (mutable : Bool) → Given (if mutable
        then getter tables key [] global.ty (stored_read key g global.ty) ∷ [] else [])
    one global true =
        one_given (getter tables key [] global.ty (stored_read key g global.ty))
        (getter_returns key [] global.ty (stored_read key g global.ty)
        (has_give flowing key global.ty _ (λ r. tt)))
    one global false = none

    of_actor : (global : GlobalVar) (actor : Option ℕ)
        → Given (for_some actor (λ actor. if global.mutable
        then getter tables key [] global.ty (stored_read key g global.ty) ∷ [] else []))
    of_actor global None = none
    of_actor global (Some actor) = one global global.mutable

    by : (found : Option GlobalVar) → Given (for_some found (global_getter tables key g))
    by None = none
    by (Some global) = of_actor global global.actor
