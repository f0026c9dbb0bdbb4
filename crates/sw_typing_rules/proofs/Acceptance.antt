-- The test of types says what acceptance is.
use Rattle.std.proofs.Common.{◌≡◌, Bool, true, false, not, ◌||◌, List, [], ◌∷◌, map, refl}
use Rattle.std.proofs.Common.{sym, subst, ap, ◌∙◌, IsTrue}
use Rattle.std.proofs.lemmas.Bool.{false≢true, eqb-true, eq-eqb}
use Rattle.sw_types.specs.Accepts.{IsAcceptedAs, is_marked, unmarked}
use Rattle.sw_types.specs.declared.ty.Ty.{Ty, out-Ty, roll-Ty, roll-out-Ty, out-roll-Ty}
use Rattle.sw_types.specs.declared.ty.Ty.TheFolds as folds
use Rattle.sw_types.specs.declared.ty.Ty.TheOpen as layer
use Rattle.sw_typing_rules.specs.Fits.{fits, same_type, same_layer, all_same, same_mark}
use Rattle.sw_typing_rules.proofs.Steps.{and_both, and_left, and_right}

abbrev Same : Ty → Type 0
Same a = ((b : Ty) → same_type a b ≡ true → a ≡ b) × (same_type a a ≡ true)

abbrev SameTy : Type 0
SameTy = (a : Ty) × Same a

abbrev types_in : List SameTy → List Ty
types_in ps = map (λ q. q.0) ps

marks_same : (a b : Bool) → same_mark a b ≡ true → a ≡ b
marks_same true b e = sym e
marks_same false true e = e
marks_same false false e = refl

mark_self : (a : Bool) → same_mark a a ≡ true
mark_self true = refl
mark_self false = refl

lists_same : (ps : List SameTy) (ts : List Ty) → all_same (map same_type (types_in ps)) ts ≡ true
    → types_in ps ≡ ts
lists_same [] [] e = refl
lists_same [] (t ∷ ts) e = absurd (false≢true e)
lists_same (p ∷ ps) [] e = absurd (false≢true e)
lists_same (p ∷ ps) (t ∷ ts) e =
    ap (λ x. x ∷ types_in ps) (p.1.0 t (and_left (same_type p.0 t) _ e))
    ∙ ap (λ xs. t ∷ xs) (lists_same ps ts (and_right (same_type p.0 t) _ e))

list_self : (ps : List SameTy) → all_same (map same_type (types_in ps)) (types_in ps) ≡ true
list_self [] = refl
list_self (p ∷ ps) = and_both (same_type p.0 p.0) _ p.1.1 (list_self ps)

abbrev inner : layer.Ty-F SameTy → layer.Ty-F Ty
inner y = folds.map-Ty SameTy Ty (λ q. q.0) y

abbrev tests : layer.Ty-F SameTy → layer.Ty-F (Ty → Bool)
tests y = folds.map-Ty SameTy (Ty → Bool) (λ q. same_type q.0) y

layers_same : (y : layer.Ty-F SameTy) (o : layer.Ty-F Ty)
    → same_layer (folds.map-Ty Ty (Ty → Bool) same_type (inner y)) o ≡ true → inner y ≡ o
layers_same layer.Int layer.Int e = refl
layers_same layer.Int o e = absurd (false≢true e)
layers_same layer.Bool layer.Bool e = refl
layers_same layer.Bool o e = absurd (false≢true e)
layers_same layer.Unit layer.Unit e = refl
layers_same layer.Unit o e = absurd (false≢true e)
layers_same (layer.Named n) (layer.Named k) e = ap layer.Named (eqb-true n k e)
layers_same (layer.Named n) o e = absurd (false≢true e)
layers_same (layer.Func m ps r) (layer.Func n ts t) e =
    let rest = and_right (same_mark m n) _ e in
    ap (λ x. layer.Func x (types_in ps) r.0) (marks_same m n (and_left (same_mark m n) _ e))
    ∙ ap (λ x. layer.Func n x r.0) (lists_same ps ts
    (and_left (all_same (map same_type (types_in ps)) ts) _ rest))
    ∙ ap (λ x. layer.Func n ts x) (r.1.0 t
    (and_right (all_same (map same_type (types_in ps)) ts) _ rest))
layers_same (layer.Func m ps r) o e = absurd (false≢true e)
layers_same (layer.Task r) (layer.Task t) e = ap layer.Task (r.1.0 t e)
layers_same (layer.Task r) o e = absurd (false≢true e)

layer_self : (y : layer.Ty-F SameTy)
    → same_layer (folds.map-Ty Ty (Ty → Bool) same_type (inner y)) (inner y) ≡ true
layer_self layer.Int = refl
layer_self layer.Bool = refl
layer_self layer.Unit = refl
layer_self (layer.Named n) = eq-eqb n n refl
layer_self (layer.Func m ps r) =
    and_both (same_mark m m) _ (mark_self m)
    (and_both (all_same (map same_type (types_in ps)) (types_in ps)) _ (list_self ps) r.1.1)
layer_self (layer.Task r) = r.1.1

at_roll : (l : layer.Ty-F Ty) (b : Ty)
    → same_type (roll-Ty l) b ≡ same_layer (folds.map-Ty Ty (Ty → Bool) same_type l) (out-Ty b)
at_roll l b = ap (λ f. f b)
    (folds.fold-roll-Ty (Ty → Bool) (λ one other. same_layer one (out-Ty other)) l)

same_at : (y : layer.Ty-F SameTy) → Same (roll-Ty (inner y))
same_at y = (
  λ b e. ap roll-Ty (layers_same y (out-Ty b) (sym (at_roll (inner y) b) ∙ e)) ∙ roll-out-Ty b,
  at_roll (inner y) (roll-Ty (inner y))
      ∙ ap (same_layer (folds.map-Ty Ty (Ty → Bool) same_type (inner y))) (out-roll-Ty (inner y))
      ∙ layer_self y,
)

every_type : (a : Ty) → Same a
every_type = folds.ind-Ty Same (λ x y is. subst (λ z. Same (roll-Ty z)) is (same_at y))

pub same_types : (a b : Ty) → same_type a b ≡ true → a ≡ b
same_types a b e = (every_type a).0 b e

pub type_self : (a : Ty) → same_type a a ≡ true
type_self a = (every_type a).1

mark_there : (a b : Bool) → (a || not b) ≡ true → IsTrue b → IsTrue a
mark_there true b e is = refl
mark_there false true e is = absurd (false≢true e)
mark_there false false e is = is

mark_back : (a b : Bool) → (IsTrue b → IsTrue a) → (a || not b) ≡ true
mark_back true b f = refl
mark_back false true f = f refl
mark_back false false f = refl

pub fits_accepts : (from to : Ty) → fits from to ≡ true → IsAcceptedAs from to
fits_accepts from to e = (
  same_types (unmarked from) (unmarked to)
      (and_left (same_type (unmarked from) (unmarked to)) _ e),
  mark_there (is_marked from) (is_marked to)
      (and_right (same_type (unmarked from) (unmarked to)) _ e),
)

pub accepts_fits : (from to : Ty) → IsAcceptedAs from to → fits from to ≡ true
accepts_fits from to is =
    and_both (same_type (unmarked from) (unmarked to)) _
    (subst (λ t. same_type (unmarked from) t ≡ true) is.0 (type_self (unmarked from)))
    (mark_back (is_marked from) (is_marked to) is.1)
