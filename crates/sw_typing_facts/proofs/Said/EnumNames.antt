-- Only a word, or a chain of one without operators, names an enum.
use Rattle.std.proofs.Common.{◌≡◌, ℕ, List, [], Option, Some, None, refl}
use Rattle.sw_tree.specs.declared.expr.Link.{Link}
use Rattle.sw_tree.specs.declared.name.Name.{Name}
use Rattle.sw_types.specs.declared.ty.Ty.{Ty}
use Rattle.sw_typing_rules.specs.Expressions.{Judged, infix_judged, member_by, member_judged}
use Rattle.sw_typing_rules.specs.Expressions.{value_member}
use Rattle.sw_typing_rules.specs.Judges as is
use Rattle.sw_typing_rules.specs.Words.{Setting}
use Rattle.sw_typing_rules.specs.Worlds.{World}

module _ (world : World) where
  -- A member is no word that names an enum.
  pub member_no_enum : (base : Judged) (name : Name) (k : ℕ)
      → (member_judged world base name).enum ≡ Some k → ⊥
  member_no_enum base name k is = by base.enum is where
    value : (found : Option Ty) → (value_member world base found name).enum ≡ Some k → ⊥
    value None is = cc
    value (Some ty) is = cc

    by : (named : Option ℕ) → (member_by world base named name).enum ≡ Some k → ⊥
    by None is = value base.ty is
    by (Some shape) is = cc

  -- Only a chain without operators may be such a word.
  pub links_enum : (setting : Setting) (left judged : Judged) (links : List Link)
      → is.Links world setting left links judged → (k : ℕ) → judged.enum ≡ Some k
      → (links ≡ []) × (left.enum ≡ Some k) × (judged.key ≡ left.key)
  links_enum setting left judged links (is.no_link _ _) k is = (refl, is, refl)
  links_enum setting left judged links (is.one_link _ _ op at operand more right _ of_right rest)
      k is =
      let later = links_enum setting (infix_judged op at left right) judged more rest k is in cc
