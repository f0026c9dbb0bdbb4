-- The function of a body that takes an actor first takes one.
use Rattle.std.proofs.Common.{◌≡◌, ℕ, ◌<◌, List, ◌∷◌, ◌++◌, map, Some, refl, sym}
use Rattle.std.proofs.Common.{ap, subst, ◌∙◌, arith, length, cond, None}
use Rattle.std.specs.Option.{option_and_then}
use Rattle.std.specs.Prelude.{IsSome, slice_get}
use Rattle.sw_types.specs.declared.shape.Shape.{Shape}
use Rattle.sw_types.specs.declared.ty.Ty.TheVariants as types
use Rattle.sw_graph.specs.Kinds.{is_actor, number_of, shape_at, shape_of}
use Rattle.sw_graph.specs.declared.function.RegKind.{RegKind}
use Rattle.sw_graph.specs.declared.function.RegKind.TheVariants.{Plain}
use Rattle.sw_graph.specs.Supplied.{TakesActor}
use Rattle.sw_lower_plans.specs.Plan.{Numbers}
use Rattle.sw_lower_code.specs.Whole.{Body, function_of, piece_of}
use Rattle.sw_lower_code.specs.declared.taken.Taken.{Taken}
use Rattle.sw_lower_code.proofs.Takes.{begins_with_takes}
use Rattle.sw_lower_call_facts.specs.Taking.{IsActorAt, TakesFirst}

-- a register of the type of an actor
actor_kind : (shapes : List Shape) (k : ℕ) → IsActorAt shapes k
    → IsSome (shape_of shapes is_actor (Some (Plain (types.Named k))))
actor_kind shapes k actor =
    subst (λ form. IsSome (option_and_then (shape_at shapes is_actor) (number_of (Some form))))
    (sym (types.outs-Named k))
    (subst (λ found. IsSome (option_and_then
    (λ shape. cond (is_actor shape.kind) (Some shape) None) found)) (sym actor.at)
    (subst (λ kind. IsSome (cond (is_actor kind) (Some actor.shape) None)) (sym actor.is) refl))

first_of : (one : Taken) (more : List Taken) (rest : List RegKind) (takes : List Taken)
    (regs : List RegKind) → takes ≡ one ∷ more
    → regs ≡ map (λ (taken : Taken). taken.kind) takes ++ rest
    → slice_get regs 0 ≡ Some one.kind
first_of one more rest takes regs are is =
    ap (λ all. slice_get all 0) is
    ∙ ap (λ all. slice_get (map (λ (taken : Taken). taken.kind) all ++ rest) 0) are

pub takes_actor : (shapes : List Shape) (numbers : Numbers) (body : Body)
    → TakesFirst shapes body.takes → TakesActor shapes (function_of numbers body)
unfolding function_of
takes_actor shapes numbers body first =
    let begins = begins_with_takes numbers body in
    record {
      takes = subst (λ takes. 0 < length takes) (sym first.are) (omega arith);
      kind = subst (λ kind. IsSome (shape_of shapes is_actor kind))
          (sym (first_of first.one first.more begins.0 body.takes (piece_of numbers body).regs
          first.are begins.1 ∙ ap Some first.kind))
          (actor_kind shapes first.k first.actor);
    }
