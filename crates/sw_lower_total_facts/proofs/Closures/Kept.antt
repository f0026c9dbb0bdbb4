-- What a filter keeps, and numbers among others.
use Rattle.std.proofs.Common.{◌≡◌, ℕ, zero, suc, ◌⊎◌, inl, inr, Bool, true, false, cond, List, []}
use Rattle.std.proofs.Common.{◌∷◌, ◌++◌, map, Contains, refl, ap, sym, ◌∙◌, arith, true≢false}
use Rattle.std.proofs.lemmas.Bool.{false≢true}
use Rattle.std.proofs.lemmas.Bool.Decides.{nat_tests}
use Rattle.std.proofs.lemmas.List.Folds.{list_any-append}
use Rattle.std.specs.Prelude.{◌==◌, ◌||◌}
use Rattle.std.specs.List.{filter}
use Rattle.sw_isolation_rules.specs.Captures.{is_among}
use Rattle.sw_typing_facts.proofs.Lists.Listed.{in_rest}
use Rattle.sw_lower_formed_facts.proofs.Programs.SimpleInside.{or_some}

-- A filter after a function keeps what the function makes of what is kept.
pub kept_map : {X Y : Type 0} (p : Y → Bool) (f : X → Y) (xs : List X)
    → filter p (map f xs) ≡ map f (filter (λ x. p (f x)) xs)
kept_map p f [] = refl
kept_map {X} {Y} p f (x ∷ xs) = by (p (f x)) (kept_map p f xs) where
  by : (keeps : Bool) → filter p (map f xs) ≡ map f (filter (λ y. p (f y)) xs)
      → cond keeps (f x ∷ filter p (map f xs)) (filter p (map f xs))
      ≡ map f (cond keeps (x ∷ filter (λ y. p (f y)) xs) (filter (λ y. p (f y)) xs))
  by true rest = ap (λ more. f x ∷ more) rest
  by false rest = rest

-- A filter that all pass keeps all.
pub kept_all : {X : Type 0} (p : X → Bool) → ((x : X) → p x ≡ true) → (xs : List X)
    → filter p xs ≡ xs
kept_all p passes [] = refl
kept_all {X} p passes (x ∷ xs) =
    ap (λ keeps. cond keeps (x ∷ filter p xs) (filter p xs)) (passes x)
    ∙ ap (λ more. x ∷ more) (kept_all p passes xs)

-- what passes is kept
pub kept_in : {X : Type 0} (p : X → Bool) (xs : List X) (x : X) → Contains xs x → p x ≡ true
    → Contains (filter p xs) x
kept_in p [] x has passes = has
kept_in {X} p (y ∷ ys) x has passes =
    by (p y) refl (at has (λ later. kept_in p ys x later passes)) where
      at : Contains (y ∷ ys) x → (Contains ys x → Contains (filter p ys) x)
          → (y ≡ x) ⊎ Contains (filter p ys) x
      at (zero, below, is) later = inl is
      at (suc k, below, is) later = inr (later (k, omega (arith, below), is))

      by : (keeps : Bool) → p y ≡ keeps → (y ≡ x) ⊎ Contains (filter p ys) x
          → Contains (cond keeps (y ∷ filter p ys) (filter p ys)) x
      by true is (inl same) = (0, omega arith, same)
      by true is (inr later) = in_rest y (filter p ys) x later
      by false is (inl same) = absurd (false≢true (sym is ∙ ap p same ∙ passes))
      by false is (inr later) = later

-- and what is kept is of the list and passes
pub of_kept : {X : Type 0} (p : X → Bool) (xs : List X) (x : X) → Contains (filter p xs) x
    → Contains xs x × (p x ≡ true)
of_kept p [] x (k, below, is) = absurd (omega (arith, below))
of_kept {X} p (y ∷ ys) x has = by (p y) refl has (of_kept p ys x) where
  by : (keeps : Bool) → p y ≡ keeps
      → Contains (cond keeps (y ∷ filter p ys) (filter p ys)) x
      → (Contains (filter p ys) x → Contains ys x × (p x ≡ true))
      → Contains (y ∷ ys) x × (p x ≡ true)
  by true is (zero, below, same) later = ((0, omega arith, same), sym (ap p same) ∙ is)
  by true is (suc k, below, same) later =
      let rest = later (k, omega (arith, below), same) in (in_rest y ys x rest.0, rest.1)
  by false is has later = let rest = later has in (in_rest y ys x rest.0, rest.1)

-- Where neither holds the first doesn't.
first_fails : (one other : Bool) → (one || other) ≡ false → one ≡ false
first_fails true other is = absurd (true≢false is)
first_fails false other is = refl

-- A number equals itself.
pub same_key : (one other : ℕ) → one ≡ other → (one == other) ≡ true
same_key one other is = grind (arith, nat_tests, is)

-- a number among others is one of them
pub among_in : (list : List ℕ) (key : ℕ) → is_among list key ≡ true → Contains list key
among_in [] key is = absurd (false≢true is)
among_in (one ∷ list) key is = by (one == key) refl (among_in list key) is where
  by : (same : Bool) → (one == key) ≡ same → (is_among list key ≡ true → Contains list key)
      → (same || is_among list key) ≡ true → Contains (one ∷ list) key
  by true same later is = (0, omega arith, grind (arith, same))
  by false same later is = in_rest one list key (later is)

-- and each of them is among them
pub in_among : (list : List ℕ) (key : ℕ) → Contains list key → is_among list key ≡ true
in_among [] key (k, below, is) = absurd (omega (arith, below))
in_among (one ∷ list) key (zero, below, is) =
    ap (λ same. same || is_among list key) (same_key one key is)
in_among (one ∷ list) key (suc k, below, is) =
    or_some (one == key) (is_among list key)
    (in_among list key (k, omega (arith, below), is))

-- What isn't among two lists isn't among the first.
pub not_among_left : (list more : List ℕ) (key : ℕ) → is_among (list ++ more) key ≡ false
    → is_among list key ≡ false
not_among_left list more key is =
    first_fails (is_among list key) (is_among more key)
    (sym (list_any-append (λ one. one == key) list more) ∙ is)
