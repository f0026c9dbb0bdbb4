-- What a value of a kind is, and where it may go.
use Rattle.std.proofs.Common.{◌≡◌, ℕ, ℤ, ◌⊎◌, inl, inr, Bool, true, false, Option, Some}
use Rattle.std.proofs.Common.{None, cond, List, refl, ap, sym, ◌∙◌, subst}
use Rattle.std.specs.Prelude.{option_and_then, is_some}
use Rattle.std.specs.List.{slice_get}
use Rattle.sw_list.proofs.ListLemmas.{some_injective}
use Rattle.sw_types.specs.declared.shape.Shape.{Shape}
use Rattle.sw_types.specs.declared.shape.ShapeKind.{ShapeKind}
use Rattle.sw_types.specs.declared.shape.ShapeKind.TheVariants as shape
use Rattle.sw_types.specs.declared.ty.Ty.{Ty, out-Ty, roll-Ty, out-roll-Ty, roll-out-Ty}
use Rattle.sw_types.specs.declared.ty.Ty.TheOpen as type
use Rattle.sw_types.specs.Accepts.{IsAcceptedAs, unmarked_layer}
use Rattle.sw_graph.specs.declared.function.RegKind.{RegKind}
use Rattle.sw_graph.specs.declared.function.RegKind.TheVariants.{Plain, BoxOf}
use Rattle.sw_graph.specs.Kinds.{Goes, IsCaptured, form_of, box_content, number_of, shape_of}
use Rattle.sw_graph.specs.Kinds.{shape_at}
use Rattle.sw_graph.specs.Kinds.{is_struct, is_enum, is_class, is_cell, is_actor, parts, payload}
use Rattle.sw_value.specs.declared.value.Value.{Value, out-Value}
use Rattle.sw_value.specs.declared.value.Value.TheOpen as layer
use Rattle.sw_machine_kind_facts.specs.Kinds.{Integer, Truth, Struct, Enum, Reference}
use Rattle.sw_machine_kind_facts.specs.Kinds.{declared_sort, shape_sort, layer_sort, sort_of}
use Rattle.sw_machine_kind_facts.specs.Kinds.{HasKind, integer, truth, void, refers, group, choice, HaveKinds}

-- a value of each sort
pub integer_is : (shapes : List Shape) (cells : List RegKind) (v : Value) (kind : RegKind)
    → HasKind shapes cells v kind → sort_of shapes kind ≡ Integer
    → (n : ℤ) × (out-Value v ≡ layer.Int n)
integer_is shapes cells v kind (integer w k n is s) sort = (n, is)
integer_is shapes cells v kind (truth w k b is s) sort = cc
integer_is shapes cells v kind (void w k is s) sort = cc
integer_is shapes cells v kind (refers w k c from is s at goes) sort = cc
integer_is shapes cells v kind (group w k vs kinds is s are count each) sort = cc
integer_is shapes cells v kind (choice w k tag vs kinds is s are count each) sort = cc

pub truth_is : (shapes : List Shape) (cells : List RegKind) (v : Value) (kind : RegKind)
    → HasKind shapes cells v kind → sort_of shapes kind ≡ Truth
    → (b : Bool) × (out-Value v ≡ layer.Bool b)
truth_is shapes cells v kind (integer w k n is s) sort = cc
truth_is shapes cells v kind (truth w k b is s) sort = (b, is)
truth_is shapes cells v kind (void w k is s) sort = cc
truth_is shapes cells v kind (refers w k c from is s at goes) sort = cc
truth_is shapes cells v kind (group w k vs kinds is s are count each) sort = cc
truth_is shapes cells v kind (choice w k tag vs kinds is s are count each) sort = cc

pub record IsReference (cells : List RegKind) (v : Value) (kind : RegKind) : Type 0 where
  pub cell : ℕ
  pub is : out-Value v ≡ layer.Cell cell
  pub from : RegKind
  pub at : slice_get cells cell ≡ Some from
  pub goes : IsCaptured (Some from) (Some kind)

pub reference_is : (shapes : List Shape) (cells : List RegKind) (v : Value) (kind : RegKind)
    → HasKind shapes cells v kind → sort_of shapes kind ≡ Reference → IsReference cells v kind
reference_is shapes cells v kind (integer w k n is s) sort = absurd (let c : ⊥ = cc in c)
reference_is shapes cells v kind (truth w k b is s) sort = absurd (let c : ⊥ = cc in c)
reference_is shapes cells v kind (void w k is s) sort = absurd (let c : ⊥ = cc in c)
reference_is shapes cells v kind (refers w k c from is s at goes) sort =
    record { cell = c; is = is; from = from; at = at; goes = goes }
reference_is shapes cells v kind (group w k vs kinds is s are count each) sort =
    absurd (let c : ⊥ = cc in c)
reference_is shapes cells v kind (choice w k tag vs kinds is s are count each) sort =
    absurd (let c : ⊥ = cc in c)

pub record IsGroup (shapes : List Shape) (cells : List RegKind) (v : Value) (kind : RegKind)
    : Type 0 where
  pub values : List Value
  pub is : out-Value v ≡ layer.Group values
  pub kinds : List RegKind
  pub are : parts (shape_of shapes is_struct (Some kind)) ≡ Some kinds
  pub have : HaveKinds shapes cells values kinds

pub group_is : (shapes : List Shape) (cells : List RegKind) (v : Value) (kind : RegKind)
    → HasKind shapes cells v kind → sort_of shapes kind ≡ Struct → IsGroup shapes cells v kind
group_is shapes cells v kind (integer w k n is s) sort = absurd (let c : ⊥ = cc in c)
group_is shapes cells v kind (truth w k b is s) sort = absurd (let c : ⊥ = cc in c)
group_is shapes cells v kind (void w k is s) sort = absurd (let c : ⊥ = cc in c)
group_is shapes cells v kind (refers w k c from is s at goes) sort =
    absurd (let c : ⊥ = cc in c)
group_is shapes cells v kind (group w k vs kinds is s are count each) sort = record {
  values = vs;
  is = is;
  kinds = kinds;
  are = are;
  have = record { count = count; each = each };
}
group_is shapes cells v kind (choice w k tag vs kinds is s are count each) sort =
    absurd (let c : ⊥ = cc in c)

pub record IsChoice (shapes : List Shape) (cells : List RegKind) (v : Value) (kind : RegKind)
    : Type 0 where
  pub tag : ℕ
  pub values : List Value
  pub is : out-Value v ≡ layer.Case tag values
  pub kinds : List RegKind
  pub are : payload (shape_of shapes is_enum (Some kind)) tag ≡ Some kinds
  pub have : HaveKinds shapes cells values kinds

pub choice_is : (shapes : List Shape) (cells : List RegKind) (v : Value) (kind : RegKind)
    → HasKind shapes cells v kind → sort_of shapes kind ≡ Enum → IsChoice shapes cells v kind
choice_is shapes cells v kind (integer w k n is s) sort = absurd (let c : ⊥ = cc in c)
choice_is shapes cells v kind (truth w k b is s) sort = absurd (let c : ⊥ = cc in c)
choice_is shapes cells v kind (void w k is s) sort = absurd (let c : ⊥ = cc in c)
choice_is shapes cells v kind (refers w k c from is s at goes) sort =
    absurd (let c : ⊥ = cc in c)
choice_is shapes cells v kind (group w k vs kinds is s are count each) sort =
    absurd (let c : ⊥ = cc in c)
choice_is shapes cells v kind (choice w k tag vs kinds is s are count each) sort = record {
  tag = tag;
  values = vs;
  is = is;
  kinds = kinds;
  are = are;
  have = record { count = count; each = each };
}

-- the shape of a kind's type
pub record IsShape (shapes : List Shape) (is_kind : ShapeKind → Bool) (kind : RegKind)
    (shape : Shape) : Type 0 where
  pub number : ℕ
  pub form : form_of (Some kind) ≡ Some (type.Named number)
  pub at : slice_get shapes number ≡ Some shape
  pub holds : is_kind shape.kind ≡ true
  pub sort : sort_of shapes kind ≡ declared_sort shape.kind

pub shape_found : (shapes : List Shape) (is_kind : ShapeKind → Bool) (k : ℕ) (shape : Shape)
    → shape_at shapes is_kind k ≡ Some shape
    → (slice_get shapes k ≡ Some shape) × (is_kind shape.kind ≡ true)
shape_found shapes is_kind k shape = by (slice_get shapes k) where
  pick : (s : Shape) (b : Bool) → is_kind s.kind ≡ b → cond b (Some s) None ≡ Some shape
      → (Some s ≡ Some shape) × (is_kind shape.kind ≡ true)
  pick s true is e = (e, ap (λ (t : Shape). is_kind t.kind) (sym (some_injective e)) ∙ is)
  pick s false is e = cc

  by : (o : Option Shape)
      → option_and_then (λ (s : Shape). cond (is_kind s.kind) (Some s) None) o ≡ Some shape
      → (o ≡ Some shape) × (is_kind shape.kind ≡ true)
  by None e = cc
  by (Some s) e = pick s (is_kind s.kind) refl e

pub shape_is : (shapes : List Shape) (is_kind : ShapeKind → Bool) (kind : RegKind) (shape : Shape)
    → shape_of shapes is_kind (Some kind) ≡ Some shape → IsShape shapes is_kind kind shape
shape_is shapes is_kind (BoxOf ty) shape e = absurd (let c : ⊥ = cc in c)
shape_is shapes is_kind (Plain ty) shape e = by (out-Ty ty) refl e where
  by : (l : type.Ty-F Ty) → out-Ty ty ≡ l
      → option_and_then (shape_at shapes is_kind) (number_of (Some l)) ≡ Some shape
      → IsShape shapes is_kind (Plain ty) shape
  by (type.Named k) is e = let found = shape_found shapes is_kind k shape e in
      record {
        number = k;
        form = ap Some is;
        at = found.0;
        holds = found.1;
        sort = ap (layer_sort shapes) is ∙ ap shape_sort found.0;
      }
  by type.Int is e = absurd (let c : ⊥ = cc in c)
  by type.Bool is e = absurd (let c : ⊥ = cc in c)
  by type.Unit is e = absurd (let c : ⊥ = cc in c)
  by (type.Func sendable params result) is e = absurd (let c : ⊥ = cc in c)
  by (type.Task result) is e = absurd (let c : ⊥ = cc in c)

pub struct_sort : (k : ShapeKind) → is_struct k ≡ true → declared_sort k ≡ Struct
struct_sort shape.Struct is = refl
struct_sort shape.Enum is = cc
struct_sort shape.Class is = cc
struct_sort shape.Actor is = cc

pub enum_sort : (k : ShapeKind) → is_enum k ≡ true → declared_sort k ≡ Enum
enum_sort shape.Struct is = cc
enum_sort shape.Enum is = refl
enum_sort shape.Class is = cc
enum_sort shape.Actor is = cc

pub cell_sort : (k : ShapeKind) → is_cell k ≡ true → declared_sort k ≡ Reference
cell_sort shape.Struct is = cc
cell_sort shape.Enum is = cc
cell_sort shape.Class is = refl
cell_sort shape.Actor is = refl

pub sort_struct : (shapes : List Shape) (kind : RegKind) (shape : Shape)
    → shape_of shapes is_struct (Some kind) ≡ Some shape → sort_of shapes kind ≡ Struct
sort_struct shapes kind shape e = let is = shape_is shapes is_struct kind shape e in
    is.sort ∙ struct_sort shape.kind is.holds

pub sort_enum : (shapes : List Shape) (kind : RegKind) (shape : Shape)
    → shape_of shapes is_enum (Some kind) ≡ Some shape → sort_of shapes kind ≡ Enum
sort_enum shapes kind shape e = let is = shape_is shapes is_enum kind shape e in
    is.sort ∙ enum_sort shape.kind is.holds

pub sort_cell : (shapes : List Shape) (kind : RegKind) (shape : Shape)
    → shape_of shapes is_cell (Some kind) ≡ Some shape → sort_of shapes kind ≡ Reference
sort_cell shapes kind shape e = let is = shape_is shapes is_cell kind shape e in
    is.sort ∙ cell_sort shape.kind is.holds

pub class_sort : (k : ShapeKind) → is_class k ≡ true → declared_sort k ≡ Reference
class_sort shape.Struct is = cc
class_sort shape.Enum is = cc
class_sort shape.Class is = refl
class_sort shape.Actor is = cc

pub actor_sort : (k : ShapeKind) → is_actor k ≡ true → declared_sort k ≡ Reference
actor_sort shape.Struct is = cc
actor_sort shape.Enum is = cc
actor_sort shape.Class is = cc
actor_sort shape.Actor is = refl

pub sort_actor : (shapes : List Shape) (kind : RegKind)
    → is_some (shape_of shapes is_actor (Some kind)) ≡ true → sort_of shapes kind ≡ Reference
sort_actor shapes kind there = by (shape_of shapes is_actor (Some kind)) refl there where
  by : (o : Option Shape) → shape_of shapes is_actor (Some kind) ≡ o → is_some o ≡ true
      → sort_of shapes kind ≡ Reference
  by None e there = cc
  by (Some shape) e there = let is = shape_is shapes is_actor kind shape e in
      is.sort ∙ actor_sort shape.kind is.holds

-- the sort of a kind by the form of its type
pub sort_form : (shapes : List Shape) (kind : RegKind) (l : type.Ty-F Ty)
    → form_of (Some kind) ≡ Some l → sort_of shapes kind ≡ layer_sort shapes l
sort_form shapes (BoxOf ty) l e = cc
sort_form shapes (Plain ty) l e = ap (layer_sort shapes) (some_injective e)

pub sort_box : (shapes : List Shape) (kind inner : RegKind) → box_content (Some kind) ≡ Some inner
    → sort_of shapes kind ≡ Reference
sort_box shapes (BoxOf ty) inner e = refl
sort_box shapes (Plain ty) inner e = cc

-- A type that accepts another is equal to it, or both are function types.
abbrev AreFunctions : type.Ty-F Ty → type.Ty-F Ty → Type 0
AreFunctions (type.Func sendable params result) (type.Func marked takes gives) = Unit {0}
AreFunctions _ _ = ⊥

same_or_functions : (t u : type.Ty-F Ty) → unmarked_layer t ≡ unmarked_layer u
    → (t ≡ u) ⊎ AreFunctions t u
same_or_functions (type.Func sendable params result) (type.Func marked takes gives) e = inr tt
same_or_functions (type.Func sendable params result) _ e = absurd (let c : ⊥ = cc in c)
same_or_functions _ (type.Func marked takes gives) e = absurd (let c : ⊥ = cc in c)
same_or_functions _ _ e = inl e

pub layers_accept : (a b : Ty) → IsAcceptedAs a b
    → unmarked_layer (out-Ty a) ≡ unmarked_layer (out-Ty b)
layers_accept a b accepts =
    sym (out-roll-Ty (unmarked_layer (out-Ty a))) ∙ ap out-Ty accepts.0
    ∙ out-roll-Ty (unmarked_layer (out-Ty b))

same_type : (a b : Ty) → out-Ty a ≡ out-Ty b → a ≡ b
same_type a b e = sym (roll-out-Ty a) ∙ ap roll-Ty e ∙ roll-out-Ty b

pub captured-trans : (a b c : RegKind) → IsCaptured (Some a) (Some b) → IsCaptured (Some b) (Some c)
    → IsCaptured (Some a) (Some c)
captured-trans (Plain a) (Plain b) (Plain c) first second =
    (first.0 ∙ second.0, λ marked. first.1 (second.1 marked))
captured-trans (BoxOf a) (BoxOf b) (BoxOf c) first second = first ∙ second
captured-trans (Plain a) (BoxOf b) c first second = absurd first
captured-trans (BoxOf a) (Plain b) c first second = absurd first
captured-trans (Plain a) (Plain b) (BoxOf c) first second = absurd second
captured-trans (BoxOf a) (BoxOf b) (Plain c) first second = absurd second

pub captured-refl : (kind : RegKind) → IsCaptured (Some kind) (Some kind)
captured-refl (Plain ty) = (refl, λ marked. marked)
captured-refl (BoxOf ty) = refl

functions_refer : (shapes : List Shape) (t u : type.Ty-F Ty) → AreFunctions t u
    → (layer_sort shapes t ≡ Reference) × (layer_sort shapes u ≡ Reference)
functions_refer shapes (type.Func sendable params result) (type.Func marked takes gives) are =
    (refl, refl)
functions_refer shapes (type.Func sendable params result) _ are = absurd are
functions_refer shapes _ _ are = absurd are

-- A value goes where a value of its kind may go.
pub captured : (shapes : List Shape) (cells : List RegKind) (v : Value) (a b : RegKind)
    → HasKind shapes cells v a → IsCaptured (Some a) (Some b) → HasKind shapes cells v b
captured shapes cells v (BoxOf a) (BoxOf b) has goes =
    subst (λ t. HasKind shapes cells v (BoxOf t)) goes has
captured shapes cells v (BoxOf a) (Plain b) has goes = absurd goes
captured shapes cells v (Plain a) (BoxOf b) has goes = absurd goes
captured shapes cells v (Plain a) (Plain b) has goes =
    elim (same_or_functions (out-Ty a) (out-Ty b) (layers_accept a b goes)) [
      | inl same ↦ subst (λ t. HasKind shapes cells v (Plain t)) (same_type a b same) has
      | inr functions ↦
          let sorts = functions_refer shapes (out-Ty a) (out-Ty b) functions in
          let is = reference_is shapes cells v (Plain a) has sorts.0 in
          refers v (Plain b) is.cell is.from is.is sorts.1 is.at
          (captured-trans is.from (Plain a) (Plain b) is.goes goes)
    ]

pub record WentTo (shapes : List Shape) (cells : List RegKind) (v : Value) (place : Option RegKind)
    : Type 0 where
  pub kind : RegKind
  pub is : place ≡ Some kind
  pub has : HasKind shapes cells v kind

pub goes_captured : (a b : Option RegKind) → Goes a b → IsCaptured a b
goes_captured (Some (Plain a)) (Some (Plain b)) goes = goes
goes_captured _ _ goes = absurd goes

-- the same, by the kind of a register and of a place that may not be there
pub goes_to : (shapes : List Shape) (cells : List RegKind) (v : Value) (from : RegKind)
    (here place : Option RegKind) → HasKind shapes cells v from → here ≡ Some from
    → IsCaptured here place → WentTo shapes cells v place
goes_to shapes cells v from here (Some kind) has is goes = record {
  kind = kind;
  is = refl;
  has = captured shapes cells v from kind has
      (subst (λ h. IsCaptured h (Some kind)) is goes);
}
goes_to shapes cells v from (Some (Plain a)) None has is goes = absurd goes
goes_to shapes cells v from (Some (BoxOf a)) None has is goes = absurd goes
goes_to shapes cells v from None None has is goes = absurd goes

-- The kind of a cell and of a place that its references go to have one form, but for the mark.
pub forms_captured : (a b : RegKind) (l : type.Ty-F Ty) → IsCaptured (Some a) (Some b)
    → form_of (Some b) ≡ Some l
    → (m : type.Ty-F Ty) × (form_of (Some a) ≡ Some m) × (unmarked_layer m ≡ unmarked_layer l)
forms_captured (Plain a) (Plain b) l goes form = (
  out-Ty a,
  refl,
  layers_accept a b goes ∙ ap unmarked_layer (some_injective form),
)
forms_captured (BoxOf a) (BoxOf b) l goes form = cc
forms_captured (Plain a) (BoxOf b) l goes form = absurd goes
forms_captured (BoxOf a) (Plain b) l goes form = absurd goes

pub held_captured : (a b inner : RegKind) → IsCaptured (Some a) (Some b)
    → box_content (Some b) ≡ Some inner → box_content (Some a) ≡ Some inner
held_captured (BoxOf a) (BoxOf b) inner goes is = ap (λ t. Some (Plain t)) goes ∙ is
held_captured (Plain a) (Plain b) inner goes is = cc
held_captured (Plain a) (BoxOf b) inner goes is = absurd goes
held_captured (BoxOf a) (Plain b) inner goes is = absurd goes
