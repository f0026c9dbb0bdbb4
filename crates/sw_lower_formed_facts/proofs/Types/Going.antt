-- Where values of known types go.
use Rattle.std.proofs.Common.{◌≡◌, ℕ, Bool, true, List, Option, Some, None, map, ap, sym, ◌∙◌}
use Rattle.std.proofs.Common.{subst, refl, cond}
use Rattle.std.proofs.lemmas.Option.{slice_get-map}
use Rattle.std.specs.Prelude.{slice_get}
use Rattle.std.specs.Option.{option_and_then, option_map}
use Rattle.sw_types.specs.Accepts.{IsAcceptedAs}
use Rattle.sw_types.specs.declared.shape.CaseShape.{CaseShape}
use Rattle.sw_types.specs.declared.shape.Part.{Part}
use Rattle.sw_types.specs.declared.shape.Shape.{Shape}
use Rattle.sw_types.specs.declared.shape.ShapeKind.{ShapeKind}
use Rattle.sw_types.specs.declared.ty.Ty.{Ty}
use Rattle.sw_types.specs.declared.ty.Ty.TheVariants.{Named, Task, outs-Named, outs-Task}
use Rattle.sw_graph.specs.Kinds.{Goes, awaited, form_of, box_content, is_enum, made_of, number_of}
use Rattle.sw_graph.specs.Kinds.{part as part_kind, payload, shape_at, shape_of}
use Rattle.sw_graph.specs.declared.function.GlobalKind.{GlobalKind}
use Rattle.sw_graph.specs.declared.function.RegKind.{RegKind}
use Rattle.sw_graph.specs.declared.function.RegKind.TheVariants.{BoxOf, Plain}
use Rattle.sw_decls.specs.declared.signature.GlobalVar.{GlobalVar}
use Rattle.sw_lower_rules.specs.Bodies.{global_kind}

-- A type accepts itself.
pub accepts_self : (ty : Ty) → IsAcceptedAs ty ty
accepts_self ty = (refl, λ marked. marked)

-- and one that is the same
pub accepts_same : (from to : Ty) → from ≡ to → IsAcceptedAs from to
accepts_same from to is = subst (IsAcceptedAs from) is (accepts_self from)

-- a value of a known type, and a place of a known type
pub goes_by : (from to : Option RegKind) (given expected : Ty) → from ≡ Some (Plain given)
    → to ≡ Some (Plain expected) → IsAcceptedAs given expected → Goes from to
goes_by from to given expected from_is to_is accepts =
    subst (λ kind. Goes kind to) (sym from_is)
    (subst (Goes (Some (Plain given))) (sym to_is) accepts)

-- a value and a place of the same type
pub goes_same : (from to : Option RegKind) (ty : Ty) → from ≡ Some (Plain ty)
    → to ≡ Some (Plain ty) → Goes from to
goes_same from to ty from_is to_is = goes_by from to ty ty from_is to_is (accepts_self ty)

-- what a box of a type holds
pub box_holds : (kind : Option RegKind) (ty : Ty) → kind ≡ Some (BoxOf ty)
    → box_content kind ≡ Some (Plain ty)
box_holds kind ty is = ap box_content is

-- a value and a box of a known type
pub boxed_goes : (from to : Ty) (one other : Option RegKind) → one ≡ Some (Plain from)
    → other ≡ Some (BoxOf to) → IsAcceptedAs from to → Goes one (box_content other)
boxed_goes from to one other is_from is_to accepts =
    goes_by one (box_content other) from to is_from (ap box_content is_to) accepts

-- the shape of a value of a declared type
pub shape_by : (shapes : List Shape) (is_kind : ShapeKind → Bool) (k : ℕ) (shape : Shape)
    (kind : Option RegKind) → kind ≡ Some (Plain (Named k)) → slice_get shapes k ≡ Some shape
    → is_kind shape.kind ≡ true → shape_of shapes is_kind kind ≡ Some shape
shape_by shapes is_kind k shape kind kind_is at is =
    ap (shape_of shapes is_kind) kind_is
    ∙ ap (λ form. option_and_then (shape_at shapes is_kind) (number_of (Some form))) (outs-Named k)
    ∙ ap (option_and_then (λ s. cond (is_kind s.kind) (Some s) None)) at
    ∙ ap (λ so. cond so (Some shape) None) is

-- and a part of it
pub part_kind_by : (shapes : List Shape) (is_kind : ShapeKind → Bool) (k i : ℕ) (shape : Shape)
    (one : Part) (kind : Option RegKind) → kind ≡ Some (Plain (Named k))
    → slice_get shapes k ≡ Some shape → is_kind shape.kind ≡ true
    → slice_get shape.parts i ≡ Some one
    → part_kind (shape_of shapes is_kind kind) i ≡ Some (Plain one.ty)
part_kind_by shapes is_kind k i shape one kind kind_is at is part_is =
    ap (λ s. part_kind s i) (shape_by shapes is_kind k shape kind kind_is at is)
    ∙ ap (option_map (λ (part : Part). Plain part.ty)) part_is

-- the kind of a global variable
pub global_kind_by : (globals : List GlobalVar) (g : ℕ) (global : GlobalVar)
    → slice_get globals g ≡ Some global
    → option_map (λ (kind : GlobalKind). Plain kind.ty) (slice_get (map global_kind globals) g)
    ≡ Some (Plain global.ty)
global_kind_by globals g global at =
    ap (option_map (λ (kind : GlobalKind). Plain kind.ty))
    (slice_get-map global_kind globals g ∙ ap (option_map global_kind) at)

-- what a task of a type gives
pub awaited_by : (kind : Option RegKind) (ty : Ty) → kind ≡ Some (Plain (Task ty))
    → awaited (form_of kind) ≡ Some (Plain ty)
awaited_by kind ty is =
    ap (λ k. awaited (form_of k)) is ∙ ap (λ form. awaited (Some form)) (outs-Task ty)

-- what a case of an enum is made of
pub case_by : (shapes : List Shape) (k i : ℕ) (shape : Shape) (one : CaseShape)
    → slice_get shapes k ≡ Some shape → is_enum shape.kind ≡ true
    → slice_get shape.cases i ≡ Some one
    → made_of shapes k (Some i) ≡ Some (map Plain one.payload)
case_by shapes k i shape one at is case_is =
    ap (λ found. payload (option_and_then (λ s. cond (is_enum s.kind) (Some s) None) found) i) at
    ∙ ap (λ so. payload (cond so (Some shape) None) i) is
    ∙ ap (option_map (λ (case : CaseShape). map Plain case.payload)) case_is
