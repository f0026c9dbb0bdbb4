-- The kinds of what makes a closure or a task, by the function that it is made of.
use Rattle.std.proofs.Common.{◌≡◌, ℕ, List, ◌++◌, length, refl, ap, sym, ◌∙◌, subst, Bool, true}
use Rattle.std.proofs.Common.{false, Option, Some}
use Rattle.std.proofs.Math.Seq.{drop-append_seam, take-append_seam}
use Rattle.std.specs.Prelude.{drop, option_map, slice_get, take}
use Rattle.std.specs.Option.{option_and_then}
use Rattle.sw_types.specs.Accepts.{IsAcceptedAs, layer_is_marked, unmarked, unmarked_layer}
use Rattle.sw_types.specs.declared.shape.Shape.{Shape}
use Rattle.sw_types.specs.declared.ty.Ty.{Ty, roll-Ty}
use Rattle.sw_types.specs.declared.ty.Ty.TheVariants.{Func, Task, outs-Func}
use Rattle.sw_graph.specs.Kinds.{Each, EachOf, Goes, IsCaptured, KindsFit, closure_of, kinds_of}
use Rattle.sw_graph.specs.Kinds.{taken, types_of}
use Rattle.sw_graph.specs.declared.function.Function.{Function}
use Rattle.sw_graph.specs.declared.function.GlobalKind.{GlobalKind}
use Rattle.sw_graph.specs.declared.function.RegKind.{RegKind}
use Rattle.sw_graph.specs.declared.function.RegKind.TheVariants.{Plain}
use Rattle.sw_graph.specs.declared.instr.Instr.TheVariants.{NewClosure, NewTask}
use Rattle.sw_graph.specs.declared.instr.Operand.{Operand}

-- a function type without its mark
unmarks : (marked : Bool) (params : List Ty) (result : Ty)
    → unmarked (Func marked params result) ≡ unmarked (Func false params result)
unmarks marked params result =
    ap (λ outer. roll-Ty (unmarked_layer outer)) (outs-Func marked params result)
    ∙ sym (ap (λ outer. roll-Ty (unmarked_layer outer)) (outs-Func false params result))

-- a mark may be missing
accepts_marked : (marked : Bool) (params : List Ty) (result : Ty)
    → IsAcceptedAs (Func true params result) (Func marked params result)
accepts_marked marked params result = (
  unmarks true params result ∙ sym (unmarks marked params result),
  λ holds. ap layer_is_marked (outs-Func true params result),
)

module _ (shapes : List Shape) (globals : List GlobalKind) (functions : List Function)
    (regs : List RegKind) where
  -- A closure captures the first of what its function takes, and its type has the rest.
  pub closure_fits : (at r f : ℕ) (xs : List Operand) (function : Function)
      (held params : List RegKind) (marked : Bool) (types : List Ty) (result : Ty)
      → slice_get functions f ≡ Some function → taken function ≡ held ++ params
      → function.result ≡ result → length xs ≡ length held
      → Each IsCaptured (kinds_of regs xs) held → types_of params ≡ Some types
      → slice_get regs r ≡ Some (Plain (Func marked types result))
      → KindsFit shapes globals functions regs (NewClosure at r f xs)
  closure_fits at r f xs function held params marked types result found takes gives count each
      typed kind
      = (
        subst (EachOf IsCaptured (kinds_of regs xs)) (sym (ap first found ∙ ap Some first_is)) each,
        subst (λ from. Goes from (slice_get regs r))
            (sym (ap (option_and_then (closure_of (length xs))) found ∙ closure_is))
            (subst (Goes (Some (Plain (Func true types result)))) (sym kind)
            (accepts_marked marked types result)),
      ) where
        first : Option Function → Option (List RegKind)
        first at = option_map (λ (one : Function). take (length xs) (taken one)) at

        first_is : take (length xs) (taken function) ≡ held
        first_is = ap (take (length xs)) takes ∙ ap (λ n. take n (held ++ params)) count
            ∙ take-append_seam held params

        rest_is : drop (length xs) (taken function) ≡ params
        rest_is = ap (drop (length xs)) takes ∙ ap (λ n. drop n (held ++ params)) count
            ∙ drop-append_seam held params

        by_params : List Ty → RegKind
        by_params tys = Plain (Func true tys function.result)

        closure_is : closure_of (length xs) function ≡ Some (Plain (Func true types result))
        closure_is = ap (λ (kinds : List RegKind). option_map by_params (types_of kinds)) rest_is
            ∙ ap (option_map by_params) typed ∙ ap (λ ty. Some (Plain (Func true types ty))) gives

  -- A task takes what it captures and no more.
  pub task_fits : (at r f : ℕ) (xs : List Operand) (function : Function) (held : List RegKind)
      (result : Ty) → slice_get functions f ≡ Some function → taken function ≡ held
      → function.result ≡ result → Each IsCaptured (kinds_of regs xs) held
      → slice_get regs r ≡ Some (Plain (Task result))
      → KindsFit shapes globals functions regs (NewTask at r f xs)
  task_fits at r f xs function held result found takes gives each kind = (
    subst (EachOf IsCaptured (kinds_of regs xs)) (sym (ap (option_map taken) found ∙ ap Some takes))
        each,
    subst (λ from. Goes from (slice_get regs r))
        (sym (ap (option_map (λ (one : Function). Plain (Task one.result))) found
        ∙ ap (λ ty. Some (Plain (Task ty))) gives))
        (subst (Goes (Some (Plain (Task result)))) (sym kind) (refl, λ marked. marked)),
  )
