-- Sendable and the number of parts look at nothing but what a shape holds.
use Rattle.std.proofs.Common.{◌≡◌, ℕ, ◌+◌, Bool, cond, ◌&&◌, ◌||◌, List, [], ◌∷◌, ◌++◌}
use Rattle.std.proofs.Common.{fold, sum_by, min, max, Contains, refl, sym, ap, subst, ◌∙◌, arith}
use Rattle.std.specs.List.{list_all, flat_map}
use Rattle.std.proofs.lemmas.List.Elements.{Contains-append_left, Contains-append_right}
use Rattle.std.proofs.lemmas.List.Concat.{flat_map-append}
use Rattle.std.proofs.lemmas.List.Sums.{sum_by-cons}
use Rattle.sw_types.specs.Depths.{LooksAtHeld}
use Rattle.sw_types.specs.Held.{layer_named, named_by, is_value, part_types, types_in}
use Rattle.sw_types.specs.Parts.{layer_parts, type_parts, parts_together, kind_parts}
use Rattle.sw_types.specs.Parts.{shape_parts, too_many}
use Rattle.sw_types.specs.Sendable.{layer_sends, type_sends, kind_sends, shape_sends}
use Rattle.sw_types.specs.declared.shape.CaseShape.{CaseShape}
use Rattle.sw_types.specs.declared.shape.Shape.{Shape}
use Rattle.sw_types.specs.declared.shape.ShapeKind.{ShapeKind}
use Rattle.sw_types.specs.declared.shape.ShapeKind.TheVariants.{Struct, Enum, Class, Actor}
use Rattle.sw_types.specs.declared.ty.Ty.{Ty, out-Ty}
use Rattle.sw_types.specs.declared.ty.Ty.TheOpen.{Ty-F}
use Rattle.sw_types.specs.declared.ty.Ty.TheOpen as layer

-- two readings agree at the numbers of a list
abbrev Agree : {A : Type 0} → (ℕ → A) → (ℕ → A) → List ℕ → Type 0
Agree f g numbers = (b : ℕ) → Contains numbers b → f b ≡ g b

agree_left : {A : Type 0} (f g : ℕ → A) (xs ys : List ℕ) → Agree f g (xs ++ ys) → Agree f g xs
agree_left f g xs ys agree b has = agree b (Contains-append_left xs ys b has)

agree_right : {A : Type 0} (f g : ℕ → A) (xs ys : List ℕ) → Agree f g (xs ++ ys) → Agree f g ys
agree_right f g xs ys agree b has = agree b (Contains-append_right xs ys b has)

layer_sends_same : (f g : ℕ → Bool) (l : Ty-F Ty) → Agree f g (layer_named l)
    → layer_sends f l ≡ layer_sends g l
layer_sends_same f g layer.Int agree = refl
layer_sends_same f g layer.Bool agree = refl
layer_sends_same f g layer.Unit agree = refl
layer_sends_same f g (layer.Named k) agree = agree k (0, (omega arith), refl)
layer_sends_same f g (layer.Func sendable params result) agree = refl
layer_sends_same f g (layer.Task inner) agree = refl

types_send_same : (f g : ℕ → Bool) (types : List Ty) → Agree f g (flat_map named_by types)
    → list_all (type_sends f) types ≡ list_all (type_sends g) types
types_send_same f g [] agree = refl
types_send_same f g (ty ∷ types) agree =
    let here = layer_sends_same f g (out-Ty ty)
    (agree_left f g (named_by ty) (flat_map named_by types) agree) in
    let rest = types_send_same f g types
    (agree_right f g (named_by ty) (flat_map named_by types) agree) in
    ap (λ b. b && list_all (type_sends f) types) here ∙ ap (λ b. type_sends g ty && b) rest

kind_sends_same : (kind : ShapeKind) (f g : ℕ → Bool) (shape : Shape)
    → Agree f g (cond (is_value kind) (flat_map named_by (types_in shape)) [])
    → kind_sends kind shape (list_all (type_sends f) (types_in shape))
    ≡ kind_sends kind shape (list_all (type_sends g) (types_in shape))
kind_sends_same Struct f g shape agree =
    ap (λ b. shape.conforms || b) (types_send_same f g (types_in shape) agree)
kind_sends_same Enum f g shape agree =
    ap (λ b. shape.conforms || b) (types_send_same f g (types_in shape) agree)
kind_sends_same Class f g shape agree = refl
kind_sends_same Actor f g shape agree = refl

pub sends_looks : LooksAtHeld shape_sends
sends_looks f g shape agree = kind_sends_same shape.kind f g shape agree

layer_parts_same : (f g : ℕ → ℕ) (l : Ty-F Ty) → Agree f g (layer_named l)
    → layer_parts f l ≡ layer_parts g l
layer_parts_same f g layer.Int agree = refl
layer_parts_same f g layer.Bool agree = refl
layer_parts_same f g layer.Unit agree = refl
layer_parts_same f g (layer.Named k) agree = agree k (0, (omega arith), refl)
layer_parts_same f g (layer.Func sendable params result) agree = refl
layer_parts_same f g (layer.Task inner) agree = refl

types_parts_same : (f g : ℕ → ℕ) (types : List Ty) → Agree f g (flat_map named_by types)
    → sum_by (type_parts f) types ≡ sum_by (type_parts g) types
types_parts_same f g [] agree = refl
types_parts_same f g (ty ∷ types) agree =
    let here = layer_parts_same f g (out-Ty ty)
    (agree_left f g (named_by ty) (flat_map named_by types) agree) in
    let rest = types_parts_same f g types
    (agree_right f g (named_by ty) (flat_map named_by types) agree) in
    sum_by-cons (type_parts f) ty types
    ∙ ap (λ n. n + sum_by (type_parts f) types) here
    ∙ ap (λ n. type_parts g ty + n) rest
    ∙ sym (sum_by-cons (type_parts g) ty types)

together_same : (f g : ℕ → ℕ) (types : List Ty) → Agree f g (flat_map named_by types)
    → parts_together f types ≡ parts_together g types
together_same f g types agree = ap (min too_many) (types_parts_same f g types agree)

largest_same : (f g : ℕ → ℕ) (most : ℕ) (cases : List CaseShape)
    → Agree f g (flat_map named_by (flat_map (λ (one : CaseShape). one.payload) cases))
    → fold (λ m (one : CaseShape). max m (parts_together f one.payload)) most cases
    ≡ fold (λ m (one : CaseShape). max m (parts_together g one.payload)) most cases
largest_same f g most [] agree = refl
largest_same f g most (one ∷ cases) agree =
    let apart = subst (Agree f g) (flat_map-append named_by one.payload
    (flat_map (λ (case : CaseShape). case.payload) cases)) agree in
    let here = together_same f g one.payload (agree_left f g (flat_map named_by one.payload)
    (flat_map named_by (flat_map (λ (case : CaseShape). case.payload) cases)) apart) in
    let rest = agree_right f g (flat_map named_by one.payload)
    (flat_map named_by (flat_map (λ (case : CaseShape). case.payload) cases)) apart in
    ap (λ n.
    fold (λ m (case : CaseShape). max m (parts_together f case.payload)) (max most n) cases)
    here ∙ largest_same f g (max most (parts_together g one.payload)) cases rest

kind_parts_same : (kind : ShapeKind) (f g : ℕ → ℕ) (shape : Shape)
    → Agree f g (cond (is_value kind) (flat_map named_by (types_in shape)) [])
    → kind_parts kind f shape ≡ kind_parts kind g shape
kind_parts_same Struct f g shape agree =
    together_same f g (part_types shape) (agree_left f g (flat_map named_by (part_types shape))
    (flat_map named_by (flat_map (λ (case : CaseShape). case.payload) shape.cases))
    (subst (Agree f g) (flat_map-append named_by (part_types shape)
    (flat_map (λ (case : CaseShape). case.payload) shape.cases)) agree))
kind_parts_same Enum f g shape agree =
    ap (λ n. min too_many (1 + n)) (largest_same f g 0 shape.cases
    (agree_right f g (flat_map named_by (part_types shape))
    (flat_map named_by (flat_map (λ (case : CaseShape). case.payload) shape.cases))
    (subst (Agree f g) (flat_map-append named_by (part_types shape)
    (flat_map (λ (case : CaseShape). case.payload) shape.cases)) agree)))
kind_parts_same Class f g shape agree = refl
kind_parts_same Actor f g shape agree = refl

pub parts_looks : LooksAtHeld shape_parts
parts_looks f g shape agree = kind_parts_same shape.kind f g shape agree
