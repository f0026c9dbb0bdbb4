-- The types that a type names are declared where those of its parts are, and those of its parts
-- where it does.
use Rattle.std.proofs.Common.{◌≡◌, ℕ, zero, suc, ◌<◌, Bool, true, false, ◌&&◌, List, [], ◌∷◌, ◌++◌}
use Rattle.std.proofs.Common.{Option, Some, IsTrue, map, refl, sym, subst, ◌∙◌, slice_get, length}
use Rattle.std.proofs.lemmas.Bool.{lt-ltb, ltb-true}
use Rattle.std.specs.List.{AllByRecursion, list_all}
use Rattle.std.specs.Prelude.{IfSome}
use Rattle.std.proofs.lemmas.Option.{slice_get_within}
use Rattle.sw_types.specs.declared.shape.Shape.{Shape}
use Rattle.sw_typing_rules.proofs.Steps.{and_left, and_right}
use Rattle.sw_types.specs.Named.{is_within, layer_is_within}
use Rattle.sw_types.specs.declared.ty.Ty.{Ty, fold-roll-Ty, out-Ty, roll-Ty, roll-out-Ty}
use Rattle.sw_types.specs.declared.ty.Ty.TheOpen as layer
use Rattle.sw_types.specs.declared.ty.Ty.TheVariants as types

-- The types that a type names are among the first n.
abbrev pub Within : ℕ → Ty → Type 0
Within n ty = IsTrue (is_within n ty)

-- and so are those that each type of a list names
abbrev pub AreWithin : ℕ → List Ty → Type 0
AreWithin n list = AllByRecursion (Within n) list

-- those that a type names, if there is one
abbrev pub IfWithin : ℕ → Option Ty → Type 0
IfWithin n ty = IfSome ty (Within n)

-- those that a type names, by its outermost form
abbrev pub LayerWithin : ℕ → layer.Ty-F Ty → Type 0
LayerWithin n layer.Int = Unit {0}
LayerWithin n layer.Bool = Unit {0}
LayerWithin n layer.Unit = Unit {0}
LayerWithin n (layer.Named k) = k < n
LayerWithin n (layer.Func sendable params result) = AreWithin n params × Within n result
LayerWithin n (layer.Task inner) = Within n inner

both : (a b : Bool) → IsTrue a → IsTrue b → IsTrue (a && b)
both true b first second = second
both false b first second = first

all_within : (n : ℕ) (params : List Ty) → AreWithin n params
    → IsTrue (list_all (λ is. is) (map (is_within n) params))
all_within n [] are = refl
all_within n (param ∷ params) are =
    both (is_within n param) _ are.0 (all_within n params are.1)

within_all : (n : ℕ) (params : List Ty) → IsTrue (list_all (λ is. is) (map (is_within n) params))
    → AreWithin n params
within_all n [] is = tt
within_all n (param ∷ params) is = (
  and_left (is_within n param) _ is,
  within_all n params (and_right (is_within n param) _ is),
)

-- a type of this outermost form
roll_within : (n : ℕ) (form : layer.Ty-F Ty) → LayerWithin n form → Within n (roll-Ty form)
roll_within n layer.Int is = fold-roll-Ty Bool (layer_is_within n) layer.Int
roll_within n layer.Bool is = fold-roll-Ty Bool (layer_is_within n) layer.Bool
roll_within n layer.Unit is = fold-roll-Ty Bool (layer_is_within n) layer.Unit
roll_within n (layer.Named k) is =
    fold-roll-Ty Bool (layer_is_within n) (layer.Named k) ∙ lt-ltb k n is
roll_within n (layer.Func sendable params result) is =
    fold-roll-Ty Bool (layer_is_within n) (layer.Func sendable params result)
    ∙ both (list_all (λ is. is) (map (is_within n) params)) (is_within n result)
    (all_within n params is.0) is.1
roll_within n (layer.Task inner) is =
    fold-roll-Ty Bool (layer_is_within n) (layer.Task inner) ∙ is

-- the outermost form of a type
form_within : (n : ℕ) (form : layer.Ty-F Ty) → Within n (roll-Ty form) → LayerWithin n form
form_within n layer.Int is = tt
form_within n layer.Bool is = tt
form_within n layer.Unit is = tt
form_within n (layer.Named k) is =
    ltb-true k n (sym (fold-roll-Ty Bool (layer_is_within n) (layer.Named k)) ∙ is)
form_within n (layer.Func sendable params result) is =
    let parts = sym (fold-roll-Ty Bool (layer_is_within n) (layer.Func sendable params result))
    ∙ is in (
      within_all n params (and_left (list_all (λ is. is) (map (is_within n) params))
          (is_within n result) parts),
      and_right (list_all (λ is. is) (map (is_within n) params)) (is_within n result) parts,
    )
form_within n (layer.Task inner) is =
    sym (fold-roll-Ty Bool (layer_is_within n) (layer.Task inner)) ∙ is

-- The outermost form of a type names what the type names.
pub out_within : (n : ℕ) (ty : Ty) → Within n ty → LayerWithin n (out-Ty ty)
out_within n ty is = form_within n (out-Ty ty) (subst (Within n) (sym (roll-out-Ty ty)) is)

-- `Int`
pub int_within : (n : ℕ) → Within n types.Int
int_within n = subst (Within n) types.rolls-Int (roll_within n layer.Int tt)

-- `Bool`
pub bool_within : (n : ℕ) → Within n types.Bool
bool_within n = subst (Within n) types.rolls-Bool (roll_within n layer.Bool tt)

-- the unit type
pub unit_within : (n : ℕ) → Within n types.Unit
unit_within n = subst (Within n) types.rolls-Unit (roll_within n layer.Unit tt)

-- a declared type
pub named_within : (n k : ℕ) → k < n → Within n (types.Named k)
named_within n k is = subst (Within n) (types.rolls-Named k) (roll_within n (layer.Named k) is)

-- a type that is among the shapes
pub shape_within : (shapes : List Shape) (k : ℕ) (shape : Shape) → slice_get shapes k ≡ Some shape
    → Within (length shapes) (types.Named k)
shape_within shapes k shape at =
    named_within (length shapes) k (slice_get_within shapes k shape at)

-- a function type
pub func_within : (n : ℕ) (sendable : Bool) (params : List Ty) (result : Ty)
    → AreWithin n params → Within n result → Within n (types.Func sendable params result)
func_within n sendable params result are is =
    subst (Within n) (types.rolls-Func sendable params result)
    (roll_within n (layer.Func sendable params result) (are, is))

-- the type of a task
pub task_within : (n : ℕ) (inner : Ty) → Within n inner → Within n (types.Task inner)
task_within n inner is =
    subst (Within n) (types.rolls-Task inner) (roll_within n (layer.Task inner) is)

-- the result of a function type
pub result_within : (n : ℕ) (marked : Bool) (params : List Ty) (result : Ty)
    → Within n (types.Func marked params result) → Within n result
result_within n marked params result is =
    (subst (LayerWithin n) (types.outs-Func marked params result)
    (out_within n (types.Func marked params result) is)).1

-- the result of a task
pub awaited_within : (n : ℕ) (result : Ty) → Within n (types.Task result) → Within n result
awaited_within n result is =
    subst (LayerWithin n) (types.outs-Task result) (out_within n (types.Task result) is)

-- an element of a list, if there is one at a number
pub get_of_all : {A : Type 0} (P : A → Type 0) (list : List A) (k : ℕ) → AllByRecursion P list
    → IfSome (slice_get list k) P
get_of_all P [] k are = tt
get_of_all P (x ∷ list) zero are = are.0
get_of_all P (x ∷ list) (suc k) are = get_of_all P list k are.1

-- an element of a list
pub at_number : {A : Type 0} (P : A → Type 0) (list : List A) (k : ℕ) (x : A)
    → AllByRecursion P list → slice_get list k ≡ Some x → P x
at_number P list k x are is = subst (λ found. IfSome found P) is (get_of_all P list k are)

-- two lists
pub all_append : {A : Type 0} (P : A → Type 0) (list more : List A) → AllByRecursion P list
    → AllByRecursion P more → AllByRecursion P (list ++ more)
all_append P [] more are others = others
all_append P (x ∷ list) more are others = (are.0, all_append P list more are.1 others)

-- a list after a function
pub all_map : {A B : Type 0} (P : B → Type 0) (f : A → B) → ((x : A) → P (f x)) → (list : List A)
    → AllByRecursion P (map f list)
all_map P f is [] = tt
all_map P f is (x ∷ list) = (is x, all_map P f is list)
