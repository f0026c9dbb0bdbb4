use Rattle.std.proofs.Common.{◌≡◌, ◌+◌, map, min, get_or, sym, ap, subst, ◌∙◌}
use Rattle.sw_types.specs.Parts.{kind_parts, largest_case, parts_together}
use Rattle.sw_types.specs.declared.shape.Part.{Part}
use Rattle.sw_types.proofs.tables.shape_parts.Goals as goal

pub returns-in-Struct : goal.returns-in-Struct
returns-in-Struct c =
    subst (λ kind. c.properties_parts.result
    ≡ kind_parts kind (λ k. get_or c.args.named.now k 0) c.args.shape.now) (sym c.in-Struct.is)
    (c.properties_parts.ensures ∙ ap (λ parts. parts_together (λ k. get_or c.args.named.now k 0)
    (map (λ (part : Part). part.ty) parts)) c.as_slice.ensures)

pub returns-in-Enum : goal.returns-in-Enum
returns-in-Enum c =
    subst (λ kind. c.add.result
    ≡ kind_parts kind (λ k. get_or c.args.named.now k 0) c.args.shape.now) (sym c.in-Enum.is)
    (c.add.ensures ∙ ap (λ most. min 65 (1 + most)) (c.largest_case.ensures
    ∙ ap (largest_case (λ k. get_or c.args.named.now k 0)) c.as_slice-in-Enum.ensures))
