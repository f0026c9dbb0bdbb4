-- Parts of structs and objects, payloads of cases, and what boxes hold: they have their kinds.
use Rattle.std.proofs.Common.{◌≡◌, ℕ, Bool, Option, Some, None, List, refl, ap}
use Rattle.std.proofs.Common.{sym, ◌∙◌, subst, arith, inl, inr}
use Rattle.std.specs.Prelude.{option_and_then}
use Rattle.std.specs.List.{slice_get, slice_set}
use Rattle.std.proofs.lemmas.Bool.{cases_eq}
use Rattle.std.proofs.lemmas.List.{length-set}
use Rattle.std.proofs.lemmas.Option.{slice_get_within, slice_get-map}
use Rattle.sw_list.proofs.ListLemmas.{some_injective}
use Rattle.sw_types.specs.declared.shape.Shape.{Shape}
use Rattle.sw_types.specs.declared.shape.Part.{Part}
use Rattle.sw_types.specs.declared.shape.ShapeKind.{ShapeKind}
use Rattle.sw_types.specs.declared.ty.Ty.{Ty}
use Rattle.sw_types.specs.declared.ty.Ty.TheOpen as type
use Rattle.sw_types.specs.declared.ty.Ty.TheVariants.{Named, outs-Named}
use Rattle.sw_graph.specs.declared.function.RegKind.{RegKind}
use Rattle.sw_graph.specs.declared.function.RegKind.TheVariants.{Plain}
use Rattle.sw_graph.specs.declared.graph.Graph.{Graph}
use Rattle.sw_graph.specs.Kinds.{Goes, form_of, number_of, box_content, shape_of, shape_at}
use Rattle.sw_graph.specs.Kinds.{is_struct}
use Rattle.sw_graph.specs.Kinds.{is_enum, is_class, is_actor, is_cell, part, parts, payload}
use Rattle.sw_graph.specs.Kinds.{made_of}
use Rattle.sw_graph.specs.Payloads.{payload_at}
use Rattle.sw_value.specs.declared.cell.HeapCell.{HeapCell}
use Rattle.sw_value.specs.declared.cell.HeapCell.TheVariants as cell
use Rattle.sw_value.specs.declared.cell.Slot.TheVariants.{Part as PartSlot}
use Rattle.sw_value.specs.declared.value.Value.{Value, out-Value}
use Rattle.sw_value.specs.declared.value.Value.TheVariants.{Group, Case, outs-Group, outs-Case}
use Rattle.sw_value.specs.Cell.{slot_of, with_slot}
use Rattle.sw_value.specs.Value.{field_of, layer_field, with_field, layer_with_field, payload_of}
use Rattle.sw_value.specs.Value.{layer_payload, tag_of, layer_tag, made}
use Rattle.sw_value.proofs.ListLemmas.{set_there}
use Rattle.sw_machine_kind_facts.specs.Kinds.{HasKind, group, choice, HaveKinds, Referents, CellFits}
use Rattle.sw_machine_kind_facts.specs.Kinds.{sort_of, layer_sort, shape_sort}
use Rattle.sw_machine_kind_facts.proofs.ItemLemmas.{found_within, set_other}
use Rattle.sw_machine_kind_facts.proofs.KindLemmas.{group_is, choice_is, sort_struct, sort_enum, shape_found}
use Rattle.sw_machine_kind_facts.proofs.KindLemmas.{struct_sort, enum_sort}

pub goes_there : (a b : Option RegKind) → Goes a b
    → (from : RegKind) × (to : RegKind) × (a ≡ Some from) × (b ≡ Some to)
goes_there (Some a) (Some b) goes = (a, b, refl, refl)
goes_there (Some (Plain a)) None goes = absurd goes
goes_there (Some _) None goes = absurd goes
goes_there None _ goes = absurd goes

-- one of the parts
pub part_among : (o : Option Shape) (i : ℕ)
    → part o i ≡ option_and_then (λ kinds. slice_get kinds i) (parts o)
part_among None i = refl
part_among (Some shape) i = sym (slice_get-map (λ (p : Part). Plain p.ty) shape.parts i)

pub part_shape : (o : Option Shape) (i : ℕ) (kind : RegKind) → part o i ≡ Some kind
    → (shape : Shape) × (o ≡ Some shape)
part_shape None i kind e = cc
part_shape (Some shape) i kind e = (shape, refl)

pub payload_shape : (o : Option Shape) (tag : ℕ) (kinds : List RegKind)
    → payload o tag ≡ Some kinds → (shape : Shape) × (o ≡ Some shape)
payload_shape None tag kinds e = cc
payload_shape (Some shape) tag kinds e = (shape, refl)

pub parts_shape : (o : Option Shape) (kinds : List RegKind)
    → parts o ≡ Some kinds → (shape : Shape) × (o ≡ Some shape)
parts_shape None kinds e = cc
parts_shape (Some shape) kinds e = (shape, refl)

-- a value of a list of some kinds, and one in place of it
pub have_at : (shapes : List Shape) (cells : List RegKind) (vs : List Value) (kinds : List RegKind)
    → HaveKinds shapes cells vs kinds → (i : ℕ) (kind : RegKind) → slice_get kinds i ≡ Some kind
    → (w : Value) × (slice_get vs i ≡ Some w) × HasKind shapes cells w kind
have_at shapes cells vs kinds have i kind at =
    let inside = slice_get_within kinds i kind at in
    let count = have.count in
    let found = found_within vs i (omega (arith, inside, count)) in
    (found.0, found.1, have.each i found.0 kind found.1 at)

pub have_set : (shapes : List Shape) (cells : List RegKind) (vs : List Value) (kinds : List RegKind)
    → HaveKinds shapes cells vs kinds → (i : ℕ) (kind : RegKind) → slice_get kinds i ≡ Some kind
    → (w : Value) → HasKind shapes cells w kind → HaveKinds shapes cells (slice_set vs i w) kinds
have_set shapes cells vs kinds have i kind at w has = record {
  count = length-set vs i w ∙ have.count;
  each = λ j x other here there. elim (cases_eq j i) [
    | inl same ↦
        let old = have_at shapes cells vs kinds have i kind at in
        let is : w ≡ x = some_injective (sym (set_there vs i old.0 w old.1)
        ∙ ap (slice_get (slice_set vs i w)) (sym same) ∙ here) in
        let kinds_same : kind ≡ other =
        some_injective (sym at ∙ ap (slice_get kinds) (sym same) ∙ there) in
        subst (λ k. HasKind shapes cells x k) kinds_same
        (subst (λ y. HasKind shapes cells y kind) is has)
    | inr apart ↦ have.each j x other (sym (set_other vs i j w apart) ∙ here) there
  ];
}

-- a part of a struct
pub field_has : (shapes : List Shape) (cells : List RegKind) (v : Value) (kind : RegKind)
    → HasKind shapes cells v kind → (i : ℕ) (place : RegKind)
    → part (shape_of shapes is_struct (Some kind)) i ≡ Some place
    → (w : Value) × (field_of i v ≡ Some w) × HasKind shapes cells w place
field_has shapes cells v kind has i place at =
    let shape = part_shape (shape_of shapes is_struct (Some kind)) i place at in
    let is = group_is shapes cells v kind has (sort_struct shapes kind shape.0 shape.1) in
    let among : slice_get is.kinds i ≡ Some place =
    sym (ap (option_and_then (λ kinds. slice_get kinds i)) is.are)
    ∙ sym (part_among (shape_of shapes is_struct (Some kind)) i) ∙ at in
    let found = have_at shapes cells is.values is.kinds is.have i place among in
    (found.0, ap (layer_field i) is.is ∙ found.1, found.2)

pub field_put : (shapes : List Shape) (cells : List RegKind) (v : Value) (kind : RegKind)
    → HasKind shapes cells v kind → (i : ℕ) (place : RegKind)
    → part (shape_of shapes is_struct (Some kind)) i ≡ Some place
    → (w : Value) → HasKind shapes cells w place → HasKind shapes cells (with_field i w v) kind
field_put shapes cells v kind has i place at w fits =
    let shape = part_shape (shape_of shapes is_struct (Some kind)) i place at in
    let sort = sort_struct shapes kind shape.0 shape.1 in
    let is = group_is shapes cells v kind has sort in
    let among : slice_get is.kinds i ≡ Some place =
    sym (ap (option_and_then (λ kinds. slice_get kinds i)) is.are)
    ∙ sym (part_among (shape_of shapes is_struct (Some kind)) i) ∙ at in
    let changed = have_set shapes cells is.values is.kinds is.have i place among w fits in
    let result : with_field i w v ≡ Group (slice_set is.values i w) =
    ap (layer_with_field i w v) is.is in
    group (with_field i w v) kind (slice_set is.values i w) is.kinds
    (ap out-Value result ∙ outs-Group (slice_set is.values i w)) sort is.are changed.count
    changed.each

-- a value of the payload of a case that is known
pub payload_has : (shapes : List Shape) (cells : List RegKind) (v : Value) (kind : RegKind)
    → HasKind shapes cells v kind → (tag i : ℕ) → tag_of v ≡ Some tag → (place : RegKind)
    → payload_at shapes (Some kind) tag i ≡ Some place
    → (w : Value) × (payload_of i v ≡ Some w) × HasKind shapes cells w place
payload_has shapes cells v kind has tag i tagged place at = by
    (payload (shape_of shapes is_enum (Some kind)) tag) refl at where
      by : (o : Option (List RegKind)) → payload (shape_of shapes is_enum (Some kind)) tag ≡ o
          → option_and_then (λ kinds. slice_get kinds i) o ≡ Some place
          → (w : Value) × (payload_of i v ≡ Some w) × HasKind shapes cells w place
      by None known at = cc
      by (Some kinds) known at =
          let shape = payload_shape (shape_of shapes is_enum (Some kind)) tag kinds known in
          let is = choice_is shapes cells v kind has (sort_enum shapes kind shape.0 shape.1) in
          let tags : tag ≡ is.tag = some_injective (sym tagged ∙ ap layer_tag is.is) in
          let same : kinds ≡ is.kinds = some_injective (sym known
          ∙ ap (payload (shape_of shapes is_enum (Some kind))) tags ∙ is.are) in
          let found = have_at shapes cells is.values is.kinds is.have i place
          (ap (λ ks. slice_get ks i) (sym same) ∙ at) in
          (found.0, ap (layer_payload i) is.is ∙ found.1, found.2)

-- a struct or a case that is made
named_shape : (shapes : List Shape) (is_kind : ShapeKind → Bool) (k : ℕ)
    → shape_of shapes is_kind (Some (Plain (Named k))) ≡ shape_at shapes is_kind k
named_shape shapes is_kind k =
    ap (λ f. option_and_then (shape_at shapes is_kind) (number_of (Some f))) (outs-Named k)

named_sort : (shapes : List Shape) (is_kind : ShapeKind → Bool) (k : ℕ) (s : Shape)
    → shape_at shapes is_kind k ≡ Some s → sort_of shapes (Plain (Named k)) ≡ shape_sort (Some s)
named_sort shapes is_kind k s e = ap (layer_sort shapes) (outs-Named k)
    ∙ ap shape_sort (shape_found shapes is_kind k s e).0

pub made_has : (shapes : List Shape) (cells : List RegKind) (k : ℕ) (tag : Option ℕ)
    (vs : List Value) (kinds : List RegKind) → made_of shapes k tag ≡ Some kinds
    → HaveKinds shapes cells vs kinds → HasKind shapes cells (made tag vs) (Plain (Named k))
made_has shapes cells k None vs kinds are have =
    let shape = parts_shape (shape_at shapes is_struct k) kinds are in
    let found = shape_found shapes is_struct k shape.0 shape.1 in
    group (Group vs) (Plain (Named k)) vs kinds (outs-Group vs)
    (named_sort shapes is_struct k shape.0 shape.1 ∙ struct_sort shape.0.kind found.1)
    (ap parts (named_shape shapes is_struct k) ∙ are) have.count have.each
made_has shapes cells k (Some tag) vs kinds are have =
    let shape = payload_shape (shape_at shapes is_enum k) tag kinds are in
    let found = shape_found shapes is_enum k shape.0 shape.1 in
    choice (Case tag vs) (Plain (Named k)) tag vs kinds (outs-Case tag vs)
    (named_sort shapes is_enum k shape.0 shape.1 ∙ enum_sort shape.0.kind found.1)
    (ap (λ s. payload s tag) (named_shape shapes is_enum k) ∙ are) have.count have.each

-- a kind with a form is no box
pub unformed : (kind inner : RegKind) (l : type.Ty-F Ty) → form_of (Some kind) ≡ Some l
    → box_content (Some kind) ≡ Some inner → ⊥
unformed (Plain ty) inner l form is = cc
unformed _ inner l form is = cc

-- A box.
pub record IsBox (graph : Graph) (world : Referents) (c : HeapCell) (kind inner : RegKind)
    : Type 0 where
  pub value : Value
  pub is : c ≡ cell.BoxOf value
  pub fits : HasKind graph.shapes world.cells value inner

pub box_is : (graph : Graph) (world : Referents) (c : HeapCell) (kind inner : RegKind)
    → CellFits graph world c kind → box_content (Some kind) ≡ Some inner
    → IsBox graph world c kind inner
box_is graph world (cell.BoxOf v) kind inner fits is = record {
  value = v;
  is = refl;
  fits = subst (HasKind graph.shapes world.cells v) (some_injective (sym fits.is ∙ is)) fits.fits;
}
box_is graph world (cell.Object k vs) kind inner fits is = absurd (unformed kind inner _ fits.0 is)
box_is graph world (cell.Actor k vs) kind inner fits is = absurd (unformed kind inner _ fits.0 is)
box_is graph world (cell.Closure f vs) kind inner fits is =
    absurd (unformed kind inner _ fits.form is)
box_is graph world (cell.TaskOf j) kind inner fits is =
    absurd (unformed kind inner _ fits.form is)

-- An object or an actor.
pub record HasParts (graph : Graph) (world : Referents) (c : HeapCell) (kind : RegKind)
    (shape : Shape)
    : Type 0 where
  pub values : List Value
  pub slot : (i : ℕ) → slot_of (PartSlot i) c ≡ slice_get values i
  pub kinds : List RegKind
  pub are : parts (Some shape) ≡ Some kinds
  pub have : HaveKinds graph.shapes world.cells values kinds
  pub keeps : (i : ℕ) (w : Value) → HaveKinds graph.shapes world.cells (slice_set values i w) kinds
      → CellFits graph world (with_slot (PartSlot i) w c) kind

numbers_same : (kind : RegKind) (j k : ℕ) → form_of (Some kind) ≡ Some (type.Named j)
    → form_of (Some kind) ≡ Some (type.Named k) → j ≡ k
numbers_same kind j k e f = let same : type.Named j ≡ type.Named k = some_injective (sym e ∙ f) in
    cc

shape_same : (shapes : List Shape) (is_kind other : ShapeKind → Bool) (j k : ℕ) (s t : Shape)
    → j ≡ k → shape_at shapes is_kind j ≡ Some s → shape_at shapes other k ≡ Some t → s ≡ t
shape_same shapes is_kind other j k s t same e f =
    some_injective (sym (shape_found shapes is_kind j s e).0 ∙ ap (slice_get shapes) same
    ∙ (shape_found shapes other k t f).0)

-- an object's or actor's own parts are those of the shape that its kind names
own_parts : (shapes : List Shape) (is_kind : ShapeKind → Bool) (kind : RegKind) (j k : ℕ)
    (shape : Shape) (kinds : List RegKind) → form_of (Some kind) ≡ Some (type.Named j)
    → form_of (Some kind) ≡ Some (type.Named k) → parts (shape_at shapes is_kind j) ≡ Some kinds
    → shape_at shapes is_cell k ≡ Some shape → parts (Some shape) ≡ Some kinds
own_parts shapes is_kind kind j k shape kinds own form are at =
    let found = parts_shape (shape_at shapes is_kind j) kinds are in
    let same = shape_same shapes is_kind is_cell j k found.0 shape (numbers_same kind j k own form)
    found.1 at in
    ap (λ s. parts (Some s)) (sym same) ∙ sym (ap parts found.1) ∙ are

pub parts_are : (graph : Graph) (world : Referents) (c : HeapCell) (kind : RegKind) (k : ℕ)
    (shape : Shape) → CellFits graph world c kind → form_of (Some kind) ≡ Some (type.Named k)
    → shape_at graph.shapes is_cell k ≡ Some shape → HasParts graph world c kind shape
parts_are graph world (cell.Object j vs) kind k shape fits form at = let places = fits.1 in
    record {
      values = vs;
      slot = λ i. refl;
      kinds = places.kinds;
      are = own_parts graph.shapes is_class kind j k shape places.kinds fits.0 form places.are at;
      have = places.have;
      keeps = λ i w have. (fits.0, record { kinds = places.kinds; are = places.are; have = have });
    }
parts_are graph world (cell.Actor j vs) kind k shape fits form at = let places = fits.1 in
    record {
      values = vs;
      slot = λ i. refl;
      kinds = places.kinds;
      are = own_parts graph.shapes is_actor kind j k shape places.kinds fits.0 form places.are at;
      have = places.have;
      keeps = λ i w have. (fits.0, record { kinds = places.kinds; are = places.are; have = have });
    }
parts_are graph world (cell.BoxOf v) kind k shape fits form at =
    absurd (unformed kind fits.inner _ form fits.is)
parts_are graph world (cell.Closure f vs) kind k shape fits form at =
    let wrong = some_injective (sym form ∙ fits.form) in absurd (let c : ⊥ = cc in c)
parts_are graph world (cell.TaskOf j) kind k shape fits form at =
    let wrong = some_injective (sym form ∙ fits.form) in absurd (let c : ⊥ = cc in c)
