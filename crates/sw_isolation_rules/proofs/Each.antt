-- Lists of which something holds of each element.
use Rattle.std.proofs.Common.{◌≡◌, Bool, true, false, cond, List, [], ◌∷◌, ◌++◌, map, flat_map}
use Rattle.std.proofs.Common.{Option, Some, None, refl}
use Rattle.std.specs.List.{AllByRecursion, filter}
use Rattle.sw_isolation_rules.specs.Answers.{for_some}

module _ {X : Type 0} (P : X → Type 0) where
  abbrev pub Each : List X → Type 0
  Each list = AllByRecursion P list

  pub each_join : (xs ys : List X) → Each xs → Each ys → Each (xs ++ ys)
  each_join [] ys first second = second
  each_join (x ∷ xs) ys first second = (first.0, each_join xs ys first.1 second)

  pub each_made : {Y : Type 0} (f : Y → List X) → ((y : Y) → Each (f y)) → (ys : List Y)
      → Each (flat_map f ys)
  each_made f are [] = tt
  each_made f are (y ∷ ys) = each_join (f y) (flat_map f ys) (are y) (each_made f are ys)

  pub each_map : {Y : Type 0} (f : Y → X) → ((y : Y) → P (f y)) → (ys : List Y)
      → Each (map f ys)
  each_map f are [] = tt
  each_map f are (y ∷ ys) = (are y, each_map f are ys)

  pub each_if : (is : Bool) (list : List X) → Each list → Each (cond is list [])
  each_if true list are = are
  each_if false list are = tt

  pub each_some : {Y : Type 0} (f : Y → List X) → ((y : Y) → Each (f y)) → (some : Option Y)
      → Each (for_some some f)
  each_some f are None = tt
  each_some f are (Some y) = are y

  kept_cons : (test : X → Bool) (x : X) (xs : List X) (is : Bool) → P x → Each (filter test xs)
      → Each (cond is (x ∷ filter test xs) (filter test xs))
  kept_cons test x xs true first rest = (first, rest)
  kept_cons test x xs false first rest = rest

  pub each_kept : (test : X → Bool) (xs : List X) → Each xs → Each (filter test xs)
  each_kept test [] all = tt
  each_kept test (x ∷ xs) all =
      kept_cons test x xs (test x) all.0 (each_kept test xs all.1)

  passed_cons : (test : X → Bool) (x : X) (xs : List X) (is : Bool) → (is ≡ true → P x)
      → Each (filter test xs) → Each (cond is (x ∷ filter test xs) (filter test xs))
  passed_cons test x xs true first rest = (first refl, rest)
  passed_cons test x xs false first rest = rest

  -- what passes a test
  pub each_passed : (test : X → Bool) → ((x : X) → test x ≡ true → P x) → (xs : List X)
      → Each (filter test xs)
  each_passed test are [] = tt
  each_passed test are (x ∷ xs) =
      passed_cons test x xs (test x) (are x) (each_passed test are xs)

pub mapped : {X Y : Type 0} (P : Y → Type 0) (f : X → Y) (xs : List X)
    → AllByRecursion (λ x. P (f x)) xs → AllByRecursion P (map f xs)
mapped P f [] all = tt
mapped P f (x ∷ xs) all = (all.0, mapped P f xs all.1)
