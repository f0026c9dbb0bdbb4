use Rattle.std.proofs.Common.{◌≡◌, ℕ, ◌+◌, zero, suc, Some, List, [], ◌∷◌, ◌++◌, drop, map, take}
use Rattle.std.proofs.Common.{sym, ap, ◌∙◌, arith}
use Rattle.std.specs.List.{slice_get, slice_set}
use Rattle.sw_list.proofs.ListLemmas.{some_injective}
use Rattle.sw_hb.specs.Entries.{noted}
use Rattle.sw_hb.proofs.entries.note.Goals as goal

-- a list of which the first items are mapped, and one more
one_more : {X : Type 0} (f : X → X) (xs : List X) (i : ℕ) (x : X)
    → slice_get (map f (take i xs) ++ drop i xs) i ≡ Some x
    → slice_set (map f (take i xs) ++ drop i xs) i (f x)
    ≡ map f (take (suc i) xs) ++ drop (suc i) xs
one_more f [] zero x is = cc
one_more f [] (suc i) x is = cc
one_more f (y ∷ xs) zero x is = ap (λ z. f z ∷ xs) (sym (some_injective is))
one_more f (y ∷ xs) (suc i) x is = ap (λ l. f y ∷ l) (one_more f xs i x is)

next : {X : Type 0} (f : X → X) (xs now after : List X) (i : ℕ) (x y : X)
    → now ≡ map f (take i xs) ++ drop i xs → slice_get now i ≡ Some x → y ≡ f x
    → after ≡ slice_set now i y → after ≡ map f (take (i + 1) xs) ++ drop (i + 1) xs
next f xs now after i x y is here made sets =
    let on : suc i ≡ i + 1 = omega arith in
    sets ∙ ap (slice_set now i) made ∙ ap (λ l. slice_set l i (f x)) is
    ∙ one_more f xs i x (ap (λ l. slice_get l i) (sym is) ∙ here)
    ∙ ap (λ k. map f (take k xs) ++ drop k xs) on

pub loop-index-preserved : goal.loop-index-preserved
loop-index-preserved c =
    next (noted c.args.made) c.args.entries.now c.loop-index.entries c.set.new.self
    c.loop-index.index c.at-latest.result.now c.noted.result c.loop-index.invariant
    c.at-latest.ensures c.noted.ensures c.set.ensures
