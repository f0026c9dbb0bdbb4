-- The start, frame by frame and actor by actor.
use Rattle.std.proofs.Common.{◌≡◌, ℕ, ◌+◌, max, List, [], ◌∷◌, ◌++◌, take, refl, ap, ◌∙◌, Some, slice_get}
use Rattle.std.proofs.Common.{fold, add-one}
use Rattle.sw_graph.specs.declared.function.Function.{Function}
use Rattle.sw_value.proofs.ListLemmas.{take_next}
use Rattle.sw_color_rules.specs.declared.colors.Owner.TheVariants as owner
use Rattle.sw_color_rules.specs.Palette.{fresh}
use Rattle.sw_color_rules.specs.Machine.{actors_to, global_count, global_colors}

fold-push : {A B : Type 0} (f : B → A → B) (a : B) (xs : List A) (x : A)
    → fold f a (xs ++ x ∷ []) ≡ f (fold f a xs) x
fold-push f a [] x = refl
fold-push f a (y ∷ ys) x = fold-push f (f a y) ys x

pub fold-next : {A B : Type 0} (f : B → A → B) (a : B) (xs : List A) (i : ℕ) (x : A)
    → slice_get xs i ≡ Some x → fold f a (take (i + 1) xs) ≡ f (fold f a (take i xs)) x
fold-next f a xs i x e = ap (fold f a) (take_next xs i x e) ∙ fold-push f a (take i xs) x

pub count_next : (functions : List Function) (i : ℕ) (f : Function) → slice_get functions i ≡ Some f
    → global_count (take (i + 1) functions)
    ≡ max (global_count (take i functions)) (actors_to f.iso)
count_next functions i f e = fold-next (λ n (g : Function). max n (actors_to g.iso)) 0 functions i f e

pub colors_next : (n : ℕ) → global_colors (n + 1) ≡ fresh (owner.Global n) (global_colors n)
colors_next n = ap global_colors (add-one n)
