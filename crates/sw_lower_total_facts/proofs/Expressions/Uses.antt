-- What is used at a node, by its meaning and by what that stands for.
use Rattle.std.proofs.Common.{◌≡◌, ℕ, Bool, false, Option, Some, ap, ◌∙◌}
use Rattle.std.specs.Prelude.{slice_get}
use Rattle.sw_types.specs.declared.shape.Part.{Part}
use Rattle.sw_types.specs.declared.shape.Shape.{Shape}
use Rattle.sw_decls.specs.declared.signature.GlobalVar.{GlobalVar}
use Rattle.sw_decls.specs.declared.signature.Signature.{Signature}
use Rattle.sw_typing_rules.specs.Worlds.{World, item}
use Rattle.sw_typing_rules.specs.declared.row.Meaning.{Meaning}
use Rattle.sw_isolation_rules.specs.Answers.{Answers}
use Rattle.sw_isolation_rules.specs.Uses.{called, func_used, global, global_used, made, make_used}
use Rattle.sw_isolation_rules.specs.Uses.{meant, part_in, part_of_shape, part_used, used}
use Rattle.sw_isolation_rules.specs.declared.uses.Base.{Base}

module _ (world : World) where
  -- by the meaning
  pub used_by : (answers : Answers) (owner : Option ℕ) (base : Base) (at : ℕ) (meaning : Meaning)
      → answers.meaning_at at ≡ Some meaning
      → used world answers owner base at ≡ meant world owner base (Some meaning)
  unfolding used
  used_by answers owner base at meaning is = ap (meant world owner base) is

  -- a property
  pub part_used_is : (shape_number : Option ℕ) (k i : ℕ) (on_self : Bool) (shape : Shape)
      (part : Part) → shape_number ≡ Some k → slice_get world.shapes k ≡ Some shape
      → slice_get shape.parts i ≡ Some part
      → part_used world shape_number i on_self ≡ part_in world shape on_self (Some part)
  unfolding part_used
  part_used_is shape_number k i on_self shape part number_is shape_is part_is =
      ap (λ found. part_of_shape world (item found world.shapes) i on_self) number_is
      ∙ ap (λ found. part_of_shape world found i on_self) shape_is
      ∙ ap (part_in world shape on_self) part_is

  -- a global variable
  pub global_used_is : (g : ℕ) (one : GlobalVar) → slice_get world.globals g ≡ Some one
      → global_used world g ≡ global world (Some one)
  unfolding global_used
  global_used_is g one is = ap (global world) is

  -- the call of a function
  pub func_used_is : (n : ℕ) (on_self : Bool) (func : Signature)
      → slice_get world.funcs n ≡ Some func
      → func_used world n on_self ≡ called world false on_self (Some func)
  unfolding func_used
  func_used_is n on_self func is = ap (called world false on_self) is

  -- what is made
  pub make_used_is : (k : ℕ) (shape : Shape) → slice_get world.shapes k ≡ Some shape
      → make_used world k ≡ made world k (Some shape)
  unfolding make_used
  make_used_is k shape is = ap (made world k) is
