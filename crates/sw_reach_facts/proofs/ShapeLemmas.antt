-- The parts of a struct that is Sendable are, whether or not its shapes are ranked.
use Rattle.std.specs.List.{list_all}
use Rattle.std.proofs.Common.{◌≡◌, ℕ, zero, suc, ◌<◌, Bool, true, false, List, [], ◌∷◌, length}
use Rattle.std.proofs.Common.{get_or, replicate, refl, sym, ap, ◌∙◌, arith, inl, inr, Some}
use Rattle.std.proofs.Common.{slice_get}
use Rattle.std.proofs.lemmas.Bool.{cases_lt, and_parts, and_from, or_cases, or_left, or_right}
use Rattle.std.proofs.lemmas.List.{get_or-map, get_or_past, length-map}
use Rattle.std.proofs.lemmas.Option.{slice_get_within, get_or_from_slice_get}
use Rattle.sw_types.specs.Depths.{by_depth, of_shape}
use Rattle.sw_types.specs.Held.{types_in}
use Rattle.sw_types.specs.Sendable.{layer_sends, type_sends, kind_sends, shape_sends, sends_at}
use Rattle.sw_types.specs.declared.shape.Shape.{Shape}
use Rattle.sw_types.specs.declared.shape.ShapeKind.{ShapeKind}
use Rattle.sw_types.specs.declared.shape.ShapeKind.TheVariants.{Struct, Enum, Class, Actor}
use Rattle.sw_types.specs.declared.ty.Ty.{Ty, out-Ty}
use Rattle.sw_types.specs.declared.ty.Ty.TheOpen.{Ty-F}
use Rattle.sw_types.specs.declared.ty.Ty.TheOpen as layer

-- what sends by one reading sends by another that says so of more
abbrev IsMore : (ℕ → Bool) → (ℕ → Bool) → Type 0
IsMore f g = (k : ℕ) → f k ≡ true → g k ≡ true

layer_more : (f g : ℕ → Bool) → IsMore f g → (l : Ty-F Ty) → layer_sends f l ≡ true
    → layer_sends g l ≡ true
layer_more f g more layer.Int is = refl
layer_more f g more layer.Bool is = refl
layer_more f g more layer.Unit is = refl
layer_more f g more (layer.Named k) is = more k is
layer_more f g more (layer.Func sendable params result) is = is
layer_more f g more (layer.Task inner) is = refl

types_more : (f g : ℕ → Bool) → IsMore f g → (types : List Ty)
    → list_all (type_sends f) types ≡ true → list_all (type_sends g) types ≡ true
types_more f g more [] is = refl
types_more f g more (ty ∷ types) is =
    let both = and_parts (type_sends f ty) (list_all (type_sends f) types) is in
    and_from (type_sends g ty) (list_all (type_sends g) types)
    (layer_more f g more (out-Ty ty) both.0) (types_more f g more types both.1)

kind_more : (kind : ShapeKind) (shape : Shape) (one other : Bool) → (one ≡ true → other ≡ true)
    → kind_sends kind shape one ≡ true → kind_sends kind shape other ≡ true
kind_more Struct shape one other more is = elim (or_cases shape.conforms one is) [
  | inl conforms ↦ or_left shape.conforms other conforms
  | inr all ↦ or_right shape.conforms other (more all)
]
kind_more Enum shape one other more is = elim (or_cases shape.conforms one is) [
  | inl conforms ↦ or_left shape.conforms other conforms
  | inr all ↦ or_right shape.conforms other (more all)
]
kind_more Class shape one other more is = is
kind_more Actor shape one other more is = is

shape_more : (f g : ℕ → Bool) → IsMore f g → (shape : Shape) → shape_sends f shape ≡ true
    → shape_sends g shape ≡ true
shape_more f g more shape is =
    kind_more shape.kind shape (list_all (type_sends f) (types_in shape))
    (list_all (type_sends g) (types_in shape)) (types_more f g more (types_in shape)) is

nothing_said : (n k : ℕ) → get_or (replicate n false) k false ≡ true → ⊥
nothing_said zero k is = cc
nothing_said (suc n) zero is = cc
nothing_said (suc n) (suc k) is = nothing_said n k is

module _ (shapes : List Shape) where
  abbrev said : ℕ → ℕ → Bool
  said depth k = get_or (by_depth false shape_sends shapes depth) k false

  said_deeper : (depth k : ℕ) (shape : Shape) → slice_get shapes k ≡ Some shape
      → said (suc depth) k ≡ shape_sends (said depth) shape
  said_deeper depth k shape at =
      get_or-map (shape_sends (said depth)) shapes k shape false (slice_get_within shapes k shape at)
      ∙ ap (shape_sends (said depth)) (get_or_from_slice_get shapes k shape shape at)

  said_within : (depth k : ℕ) → said depth k ≡ true → k < length shapes
  said_within zero k is = absurd (nothing_said (length shapes) k is)
  said_within (suc depth) k is = elim (cases_lt k (length shapes)) [
    | inl lt ↦ lt
    | inr past ↦
        let none : said (suc depth) k ≡ false =
        get_or_past (by_depth false shape_sends shapes (suc depth)) k false
        (omega (arith, past, length-map shapes (shape_sends (said depth)))) in
        absurd (let e : ⊥ = cc in e)
  ]

  said_more : (depth : ℕ) → IsMore (said depth) (said (suc depth))
  said_more zero k is = absurd (nothing_said (length shapes) k is)
  said_more (suc depth) k is =
      let lt = said_within (suc depth) k is in
      let at = found shapes k lt in
      said_deeper (suc depth) k at.0 at.1
      ∙ shape_more (said depth) (said (suc depth)) (said_more depth) at.0
      (sym (said_deeper depth k at.0 at.1) ∙ is)
    where
      found : (xs : List Shape) (i : ℕ) → i < length xs
          → (x : Shape) × (slice_get xs i ≡ Some x)
      found [] i lt = absurd (omega (arith, lt))
      found (x ∷ xs) zero lt = (x, refl)
      found (x ∷ xs) (suc i) lt = found xs i (omega (arith, lt))

  down : (depth k : ℕ) (shape : Shape) → slice_get shapes k ≡ Some shape → said depth k ≡ true
      → shape_sends (said depth) shape ≡ true
  down zero k shape at is = absurd (nothing_said (length shapes) k is)
  down (suc depth) k shape at is =
      shape_more (said depth) (said (suc depth)) (said_more depth) shape
      (sym (said_deeper depth k shape at) ∙ is)

  -- a shape that is Sendable says so by its kind and its parts
  pub sends_down : (k : ℕ) (shape : Shape) → slice_get shapes k ≡ Some shape
      → sends_at shapes k ≡ true → shape_sends (sends_at shapes) shape ≡ true
  unfolding of_shape
  sends_down k shape at is = down (length shapes) k shape at is
