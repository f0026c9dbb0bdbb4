-- What a meaning of a function calls.
use Rattle.std.proofs.Common.{◌≡◌, ℕ, false, true, ◌||◌, Option, Some, ap, ◌∙◌, slice_get}
use Rattle.sw_types.specs.declared.shape.Shape.{Shape}
use Rattle.sw_types.specs.declared.shape.ShapeKind.TheVariants as shapes
use Rattle.sw_decls.specs.declared.signature.Signature.{Signature}
use Rattle.sw_typing_rules.specs.Worlds.{World}
use Rattle.sw_typing_rules.specs.declared.row.Meaning.TheVariants as means
use Rattle.sw_isolation_rules.specs.Answers.{Answers}
use Rattle.sw_isolation_rules.specs.Kinds.{plain_callee}
use Rattle.sw_isolation_rules.specs.Uses.{used, func_used, meant, called, may_cross}
use Rattle.sw_isolation_rules.specs.Uses.{make_used, made, made_kind, maker_at}
use Rattle.sw_isolation_rules.specs.declared.uses.Base.{Base}
use Rattle.sw_isolation_rules.specs.declared.uses.Used.TheVariants.{Called}

module _ (world : World) (answers : Answers) (owner : Option ℕ) (base : Base) (at number : ℕ) where
  pub meant_func : (func : Signature) → answers.meaning_at at ≡ Some (means.FuncOf number)
      → slice_get world.funcs number ≡ Some func
      → used world answers owner base at
      ≡ Called (plain_callee func.iso func.is_async base.is_self)
      (func.sends || may_cross world func.result)
  unfolding used func_used
  meant_func func is found =
      ap (meant world owner base) is ∙ ap (called world false base.is_self) found

  pub meant_own : (func : Signature) → answers.meaning_at at ≡ Some (means.OwnFunc number)
      → slice_get world.funcs number ≡ Some func
      → used world answers owner base at
      ≡ Called (plain_callee func.iso func.is_async true)
      (func.sends || may_cross world func.result)
  unfolding used func_used
  meant_own func is found = ap (meant world owner base) is ∙ ap (called world false true) found

  pub meant_class : (shape : Shape) (func : Signature)
      → answers.meaning_at at ≡ Some (means.MakeOf number)
      → slice_get world.shapes number ≡ Some shape → shape.kind ≡ shapes.Class
      → maker_at world number ≡ Some func
      → used world answers owner base at
      ≡ Called (plain_callee func.iso func.is_async false)
      (func.sends || may_cross world func.result)
  unfolding used make_used
  meant_class shape func is found kind maker =
      ap (meant world owner base) is ∙ (ap (made world number) found
      ∙ (ap (λ one. made_kind world one number) kind ∙ ap (called world false false) maker))

  pub meant_actor : (shape : Shape) (func : Signature)
      → answers.meaning_at at ≡ Some (means.MakeOf number)
      → slice_get world.shapes number ≡ Some shape → shape.kind ≡ shapes.Actor
      → maker_at world number ≡ Some func
      → used world answers owner base at ≡ Called (record {
        iso = func.iso;
        is_async = func.is_async;
        is_initialiser = true;
        on_self = false;
      }) (func.sends || may_cross world func.result)
  unfolding used make_used
  meant_actor shape func is found kind maker =
      ap (meant world owner base) is ∙ (ap (made world number) found
      ∙ (ap (λ one. made_kind world one number) kind ∙ ap (called world true false) maker))
