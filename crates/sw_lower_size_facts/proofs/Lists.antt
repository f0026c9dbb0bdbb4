-- Code for each item of a list, and lists of bodies.
use Rattle.std.proofs.Common.{ℕ, ◌+◌, ◌*◌, ◌≤◌, List, [], ◌∷◌, ◌++◌, map, flat_map, All, length, ◌≡◌}
use Rattle.std.proofs.Common.{length-append, arith}
use Rattle.std.proofs.lemmas.List.Elements.{All-append, All-cons, All-weaker, All-nil}
use Rattle.std.proofs.lemmas.List.Sums.{sum_by-cons}
use Rattle.std.specs.List.{AllByRecursion, sum}
use Rattle.sw_lower_code.specs.Code.{Code, all, done, each, ◌>>=◌}
use Rattle.sw_lower_code.specs.Whole.{Body}
use Rattle.sw_lower_size_facts.specs.Short.{AreShort, IsShort}
use Rattle.sw_lower_size_facts.proofs.Steps.{before_quiet, makes_more, makes_then, quiet_done}

pub sum-cons : (n : ℕ) (ns : List ℕ) → sum (n ∷ ns) ≡ n + sum ns
sum-cons = sum_by-cons (λ (n : ℕ). n)

-- The code of items, of which each is made of a part of a tree.
module _ {Y Z : Type 0} (part : Y → Z) (size : Y → ℕ) where
  pub each_short : {B : Type 0} (code : Z → Code B) (ys : List Y)
      → AllByRecursion (λ y. IsShort (size y) (code (part y))) ys
      → IsShort (sum (map size ys)) (each code (map part ys))
  unfolding each
  each_short code [] short = quiet_done []
  each_short code (y ∷ ys) short =
      let rest = each code (map part ys) in
      makes_then (3 * size y) (3 * sum (map size ys)) (3 * sum (size y ∷ map size ys))
      (code (part y)) (λ z. rest >>= λ zs. done (z ∷ zs)) short.0
      (λ z. before_quiet (3 * sum (map size ys)) rest (λ zs. done (z ∷ zs))
      (each_short code ys short.1) (λ zs. quiet_done (z ∷ zs)))
      (omega (arith, sum-cons (size y) (map size ys)))

  pub all_short : (code : Z → Code (Unit {0})) (ys : List Y)
      → AllByRecursion (λ y. IsShort (size y) (code (part y))) ys
      → IsShort (sum (map size ys)) (all code (map part ys))
  unfolding all
  all_short code [] short = quiet_done tt
  all_short code (y ∷ ys) short =
      makes_then (3 * size y) (3 * sum (map size ys)) (3 * sum (size y ∷ map size ys))
      (code (part y)) (λ z. all code (map part ys)) short.0 (λ z. all_short code ys short.1)
      (omega (arith, sum-cons (size y) (map size ys)))

-- no body, more bodies or longer ones, and lists after each other
pub none_short : (count size : ℕ) → AreShort count size []
none_short count size =
    record { few = omega arith; each = All-nil (λ (body : Body). IsShort size body.code) }

pub more_short : (bodies : List Body) (a b count size : ℕ) → AreShort a b bodies → a ≤ count
    → b ≤ size → AreShort count size bodies
more_short bodies a b count size short less shorter = record {
  few = omega (arith, short.few, less);
  each = All-weaker (λ (body : Body). IsShort b body.code) (λ (body : Body). IsShort size body.code)
      (λ body one. makes_more (3 * b) (3 * size) body.code one (omega (arith, shorter))) bodies
      short.each;
}

pub both_short : (xs ys : List Body) (a b count size : ℕ) → AreShort a size xs
    → AreShort b size ys → a + b ≤ count → AreShort count size (xs ++ ys)
both_short xs ys a b count size one two most = record {
  few = omega (arith, one.few, two.few, most, length-append xs ys);
  each = All-append (λ (body : Body). IsShort size body.code) xs ys one.each two.each;
}

pub head_short : (body : Body) (bodies : List Body) (a count size : ℕ) → IsShort size body.code
    → AreShort a size bodies → 1 + a ≤ count → AreShort count size (body ∷ bodies)
head_short body bodies a count size first rest most = record {
  few = omega (arith, rest.few, most);
  each = All-cons (λ (body : Body). IsShort size body.code) body bodies first rest.each;
}

-- the bodies in two parts of a tree
pub two_parts : (xs ys : List Body) (a b n : ℕ) → AreShort a a xs → AreShort b b ys → a + b ≤ n
    → AreShort n n (xs ++ ys)
two_parts xs ys a b n one two most =
    both_short xs ys a b n n (more_short xs a a a n one (omega arith) (omega (arith, most)))
    (more_short ys b b b n two (omega arith) (omega (arith, most))) most

-- the bodies in the parts of a tree
pub parts_short : {Y Z : Type 0} (part : Y → Z) (size : Y → ℕ) (inside : Z → List Body)
    (ys : List Y) → AllByRecursion (λ y. AreShort (size y) (size y) (inside (part y))) ys
    → AreShort (sum (map size ys)) (sum (map size ys)) (flat_map inside (map part ys))
parts_short part size inside [] short = none_short 0 0
parts_short part size inside (y ∷ ys) short =
    two_parts (inside (part y)) (flat_map inside (map part ys)) (size y) (sum (map size ys))
    (sum (size y ∷ map size ys)) short.0 (parts_short part size inside ys short.1)
    (omega (arith, sum-cons (size y) (map size ys)))

-- a part of what is so of each item
pub each_part : {A : Type 0} (P Q : A → Type 0) → ((x : A) → P x → Q x) → (xs : List A)
    → AllByRecursion P xs → AllByRecursion Q xs
each_part P Q one [] all = tt
each_part P Q one (x ∷ xs) all = (one x all.0, each_part P Q one xs all.1)
