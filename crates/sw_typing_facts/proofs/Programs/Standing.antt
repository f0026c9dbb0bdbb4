-- Where a declaration stands among those of a program, and that what is made of it is part of what
-- is made of them all.
use Rattle.std.proofs.Common.{◌≡◌, ℕ, zero, suc, ◌+◌, ◌-◌, ◌≤◌, Some, List, [], ◌∷◌, ◌++◌, length}
use Rattle.std.proofs.Common.{Contains, ◌⊎◌, inl, inr, refl, ap, sym, ◌∙◌, subst, arith}
use Rattle.std.proofs.lemmas.Bool.{cases_lt}
use Rattle.std.proofs.lemmas.List.Elements.{Contains-append_cases, Contains-append_left}
use Rattle.std.proofs.lemmas.List.Elements.{Contains-append_right}
use Rattle.std.specs.Prelude.{slice_get}
use Rattle.sw_list.proofs.Members.{none_in}
use Rattle.sw_tree.specs.declared.decl.Decl.{Decl}
use Rattle.sw_list.proofs.ListLemmas.{slice_get_after, slice_get_second, slice_get_before}
use Rattle.sw_list.proofs.ListLemmas.{slice_get_first}
use Rattle.sw_decl_words.specs.Words.{shapes_made}
use Rattle.sw_decl_words.specs.Words.{globals_made}
use Rattle.sw_typing_facts.proofs.Lists.Listed.{in_first, in_rest}

-- A declaration stands among these after n shapes and g global variables, where `number` and
-- `index` stand before them all.
abbrev pub StandsFrom : ℕ → ℕ → List Decl → ℕ → ℕ → Decl → Type 0
StandsFrom number index [] n g decl = ⊥
StandsFrom number index (first ∷ more) n g decl =
    ((number ≡ n) × (index ≡ g) × (first ≡ decl))
    ⊎ StandsFrom (number + shapes_made first) (index + globals_made first) more n g decl

-- the same in a whole program
abbrev pub Stands : List Decl → ℕ → ℕ → Decl → Type 0
Stands decls n g decl = StandsFrom 0 0 decls n g decl

-- a declaration that stands somewhere is one of the program
pub stands_in : (number index : ℕ) (decls : List Decl) (n g : ℕ) (decl : Decl)
    → StandsFrom number index decls n g decl → Contains decls decl
stands_in number index [] n g decl stands = absurd stands
stands_in number index (first ∷ more) n g decl (inl (_, _, same)) =
    subst (Contains (first ∷ more)) same (in_first first more)
stands_in number index (first ∷ more) n g decl (inr later) =
    in_rest first more decl
    (stands_in (number + shapes_made first) (index + globals_made first) more n g decl later)

-- What each declaration makes, by the numbers before it, and what all make together.
module _ {X : Type 0} (makes : ℕ → ℕ → Decl → List X) where
  -- what is made of declarations, by how many shapes and global variables stand before each
  abbrev pub made_from : ℕ → ℕ → List Decl → List X
  made_from number index [] = []
  made_from number index (decl ∷ decls) =
      makes number index decl
      ++ made_from (number + shapes_made decl) (index + globals_made decl) decls

  -- What one of them makes is among what all make.
  pub made_by_one : (number index : ℕ) (decls : List Decl) (n g : ℕ) (decl : Decl) (x : X)
      → StandsFrom number index decls n g decl → Contains (makes n g decl) x
      → Contains (made_from number index decls) x
  made_by_one number index [] n g decl x stands has = absurd stands
  made_by_one number index (first ∷ more) n g decl x (inl (shapes, globals, same)) has =
      Contains-append_left (makes number index first) _ x
      (subst (λ one. Contains (makes number index one) x) (sym same)
      (subst (λ k. Contains (makes k index decl) x) (sym shapes)
      (subst (λ k. Contains (makes n k decl) x) (sym globals) has)))
  made_by_one number index (first ∷ more) n g decl x (inr later) has =
      Contains-append_right (makes number index first) _ x
      (made_by_one (number + shapes_made first) (index + globals_made first) more n g decl x later
      has)

  -- what made something
  pub record MadeBy (number index : ℕ) (decls : List Decl) (x : X) : Type 0 where
    pub n : ℕ
    pub g : ℕ
    pub decl : Decl
    pub stands : StandsFrom number index decls n g decl
    pub has : Contains (makes n g decl) x

  -- What all make was made by one of them.
  pub maker_of : (number index : ℕ) (decls : List Decl) (x : X)
      → Contains (made_from number index decls) x → MadeBy number index decls x
  maker_of number index [] x has = absurd (none_in x has)
  maker_of number index (decl ∷ decls) x has =
      elim (Contains-append_cases (makes number index decl) _ x has) [
        | inl here ↦ record {
          n = number;
          g = index;
          decl = decl;
          stands = inl (refl, refl, refl);
          has = here;
        }
        | inr there ↦
            let one = maker_of (number + shapes_made decl) (index + globals_made decl) decls x there
            in record {
              n = one.n;
              g = one.g;
              decl = one.decl;
              stands = inr one.stands;
              has = one.has;
            }
      ]

-- Where each declaration makes one thing at most, the thing with a number is that of the
-- declaration before which as many stand.
module _ {X : Type 0} (makes : ℕ → ℕ → Decl → List X) (pick : ℕ → ℕ → ℕ) (count : Decl → ℕ)
    (step : (n g : ℕ) (decl : Decl)
    → pick (n + shapes_made decl) (g + globals_made decl) ≡ pick n g + count decl)
    (counted : (n g : ℕ) (decl : Decl) → length (makes n g decl) ≡ count decl)
    (single : (decl : Decl) → count decl ≤ 1) where
  later_place : (number index : ℕ) (decls : List Decl) (n g : ℕ) (decl : Decl)
      → StandsFrom number index decls n g decl → pick number index ≤ pick n g
  later_place number index [] n g decl stands = absurd stands
  later_place number index (first ∷ more) n g decl (inl (shapes, globals, same)) =
      omega (arith, ap (λ k. pick k index) shapes, ap (pick n) globals)
  later_place number index (first ∷ more) n g decl (inr later) =
      omega (
        arith,
        step number index first,
        later_place (number + shapes_made first) (index + globals_made first) more n g decl later,
      )

  -- the number of what a declaration makes
  pub at_place : (number index : ℕ) (decls : List Decl) (n g : ℕ) (decl : Decl) (x : X) (j : ℕ)
      → StandsFrom number index decls n g decl → slice_get (makes n g decl) 0 ≡ Some x
      → pick n g ≡ pick number index + j → slice_get (made_from makes number index decls) j ≡ Some x
  at_place number index [] n g decl x j stands is at = absurd stands
  at_place number index (first ∷ more) n g decl x j (inl (shapes, globals, same)) is at =
      let zero_is : j ≡ 0 =
      omega (arith, at, ap (λ k. pick k index) shapes, ap (pick n) globals) in
      subst (λ k. slice_get (made_from makes number index (first ∷ more)) k ≡ Some x) (sym zero_is)
      (slice_get_before (makes number index first) _ 0 x
      (subst (λ one. slice_get (makes number index one) 0 ≡ Some x) (sym same)
      (subst (λ k. slice_get (makes k index decl) 0 ≡ Some x) (sym shapes)
      (subst (λ k. slice_get (makes n k decl) 0 ≡ Some x) (sym globals) is))))
  at_place number index (first ∷ more) n g decl x j (inr later) is at =
      let above = later_place (number + shapes_made first) (index + globals_made first) more n g
      decl later in
      let i : ℕ = j - count first in
      let split : j ≡ length (makes number index first) + i = omega (
        arith,
        at,
        above,
        step number index first,
        counted number index first,
      ) in
      subst (λ k. slice_get (made_from makes number index (first ∷ more)) k ≡ Some x) (sym split)
      (slice_get_after (makes number index first) _ i
      ∙ at_place (number + shapes_made first) (index + globals_made first) more n g decl x i later
      is (omega (arith, at, split, step number index first, counted number index first)))

  -- what makes the thing with a number
  pub record PlaceOf (number index : ℕ) (decls : List Decl) (j : ℕ) (x : X) : Type 0 where
    pub n : ℕ
    pub g : ℕ
    pub decl : Decl
    pub stands : StandsFrom number index decls n g decl
    pub is : makes n g decl ≡ x ∷ []
    pub at : pick n g ≡ pick number index + j

  only_one : (xs : List X) (j : ℕ) (x : X) → length xs ≤ 1 → slice_get xs j ≡ Some x
      → (xs ≡ x ∷ []) × (j ≡ 0)
  only_one [] j x few at = cc
  only_one (y ∷ []) zero x few at = (cc, refl)
  only_one (y ∷ []) (suc j) x few at = cc
  only_one (y ∷ z ∷ xs) j x few at = absurd (omega (arith, few))

  -- What stands at a place was made by the declaration with that place.
  pub place_of_thing : (number index : ℕ) (decls : List Decl) (j : ℕ) (x : X)
      → slice_get (made_from makes number index decls) j ≡ Some x → PlaceOf number index decls j x
  place_of_thing number index [] j x at = cc
  place_of_thing number index (decl ∷ decls) j x at =
      elim (cases_lt j (length (makes number index decl))) [
        | inl here ↦
            let (is, first) = only_one (makes number index decl) j x
            (omega (arith, counted number index decl, single decl))
            (sym (slice_get_first (makes number index decl) _ j here) ∙ at) in record {
              n = number;
              g = index;
              decl = decl;
              stands = inl (refl, refl, refl);
              is = is;
              at = omega (arith, first);
            }
        | inr there ↦
            let one = place_of_thing (number + shapes_made decl) (index + globals_made decl) decls
            (j - length (makes number index decl)) x
            (sym (slice_get_second (makes number index decl) _ j there) ∙ at) in record {
              n = one.n;
              g = one.g;
              decl = one.decl;
              stands = inr one.stands;
              is = one.is;
              at = omega (
                arith,
                one.at,
                there,
                step number index decl,
                counted number index decl,
              );
            }
      ]
