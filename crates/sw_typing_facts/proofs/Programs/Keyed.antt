-- In a program each key is that of one node, so a key tells its declaration and its property.
use Rattle.std.proofs.Common.{◌≡◌, ℕ, zero, suc, ◌+◌, ◌≤◌, Some, List, [], ◌∷◌}
use Rattle.std.proofs.Common.{Contains, inl, inr, refl, ap, sym, ◌∙◌, arith}
use Rattle.std.proofs.lemmas.Option.{same_Some}
use Rattle.std.specs.Prelude.{slice_get}
use Rattle.sw_tree.proofs.Counting.{Weight, in_all, in_all-cons}
use Rattle.sw_tree.proofs.KeyCounts.{in_decl, in_decls}
use Rattle.sw_tree.specs.Contents.{AreKeyed}
use Rattle.sw_tree.specs.Keys.{keys_of}
use Rattle.sw_tree.specs.declared.decl.Decl.{Decl}
use Rattle.sw_decl_words.specs.Words.{shapes_made}
use Rattle.sw_typing_rules.proofs.OneWorld.{distinct_once}
use Rattle.sw_decl_words.specs.Words.{globals_made}
use Rattle.sw_typing_facts.proofs.Lists.Listed.{place_in}
use Rattle.sw_typing_facts.proofs.Programs.Standing.{Stands, StandsFrom}

-- Each key is that of one declaration at most.
pub key_once : (decls : List Decl) → AreKeyed decls → (k : ℕ) → in_all in_decl decls k ≤ 1
key_once decls keyed k =
    let once = distinct_once (keys_of decls) keyed k in
    omega (arith, once, in_decls decls k)

module _ {X : Type 0} (w : X → Weight) where
  -- what is counted in an item is counted in the list
  pub counted_at : (xs : List X) (i : ℕ) (x : X) (k : ℕ) → slice_get xs i ≡ Some x
      → w x k ≤ in_all w xs k
  counted_at [] i x k at = cc
  counted_at (y ∷ xs) zero x k at =
      let same : y ≡ x = cc in
      omega (arith, in_all-cons w y xs k, ap (λ one. w one k) same)
  counted_at (y ∷ xs) (suc i) x k at =
      omega (arith, in_all-cons w y xs k, counted_at xs i x k at)

  -- and of one that is in it
  pub counted_in : (xs : List X) (x : X) (k : ℕ) → Contains xs x → w x k ≤ in_all w xs k
  counted_in xs x k has = let (i, at) = place_in xs x has in counted_at xs i x k at

  -- Two items with one key are one item.
  pub one_index : (xs : List X) (i j : ℕ) (x y : X) (k : ℕ) → in_all w xs k ≤ 1
      → slice_get xs i ≡ Some x → slice_get xs j ≡ Some y → 1 ≤ w x k → 1 ≤ w y k → i ≡ j
  one_index [] i j x y k once at there here other = cc
  one_index (z ∷ xs) zero zero x y k once at there here other = refl
  one_index (z ∷ xs) zero (suc j) x y k once at there here other =
      let same : z ≡ x = cc in
      absurd (omega (
        arith,
        once,
        in_all-cons w z xs k,
        ap (λ one. w one k) same,
        here,
        counted_at xs j y k there,
        other,
      ))
  one_index (z ∷ xs) (suc i) zero x y k once at there here other =
      let same : z ≡ y = cc in
      absurd (omega (
        arith,
        once,
        in_all-cons w z xs k,
        ap (λ one. w one k) same,
        other,
        counted_at xs i x k at,
        here,
      ))
  one_index (z ∷ xs) (suc i) (suc j) x y k once at there here other =
      ap suc (one_index xs i j x y k (omega (arith, once, in_all-cons w z xs k)) at there here
      other)

  -- Two items of a list that have one key are one.
  pub one_item : (xs : List X) (x y : X) (k : ℕ) → in_all w xs k ≤ 1 → Contains xs x
      → Contains xs y → 1 ≤ w x k → 1 ≤ w y k → x ≡ y
  one_item xs x y k once has holds here other =
      let (i, at) = place_in xs x has in
      let (j, there) = place_in xs y holds in
      let same = one_index xs i j x y k once at there here other in
      same_Some x y (sym at ∙ ap (slice_get xs) same ∙ there)

-- what is counted in a declaration is counted in its program
pub counted_where : (number index : ℕ) (decls : List Decl) (n g : ℕ) (decl : Decl) (k : ℕ)
    → StandsFrom number index decls n g decl → in_decl decl k ≤ in_all in_decl decls k
counted_where number index [] n g decl k stands = absurd stands
counted_where number index (first ∷ more) n g decl k (inl (_, _, same)) =
    omega (arith, in_all-cons in_decl first more k, ap (λ one. in_decl one k) same)
counted_where number index (first ∷ more) n g decl k (inr later) =
    omega (
      arith,
      in_all-cons in_decl first more k,
      counted_where (number + shapes_made first) (index + globals_made first) more n g decl k later,
    )

-- two places of declarations are one
pub record SamePlace (n g : ℕ) (decl : Decl) (m h : ℕ) (other : Decl) : Type 0 where
  pub shapes : n ≡ m
  pub globals : g ≡ h
  pub same : decl ≡ other

one_place_from : (number index : ℕ) (decls : List Decl) (n g : ℕ) (decl : Decl) (m h : ℕ)
    (other : Decl) (k : ℕ) → in_all in_decl decls k ≤ 1 → StandsFrom number index decls n g decl
    → StandsFrom number index decls m h other → 1 ≤ in_decl decl k → 1 ≤ in_decl other k
    → SamePlace n g decl m h other
one_place_from number index [] n g decl m h other k once here there one two = absurd here
one_place_from number index (first ∷ more) n g decl m h other k once (inl (shapes, globals, same))
    (inl (shapes', globals', same')) one two =
    record {
      shapes = sym shapes ∙ shapes';
      globals = sym globals ∙ globals';
      same = sym same ∙ same';
    }
one_place_from number index (first ∷ more) n g decl m h other k once (inl (_, _, same))
    (inr later) one two =
    absurd (omega (
      arith,
      once,
      in_all-cons in_decl first more k,
      ap (λ x. in_decl x k) same,
      one,
      counted_where (number + shapes_made first) (index + globals_made first) more m h other k
          later,
      two,
    ))
one_place_from number index (first ∷ more) n g decl m h other k once (inr later)
    (inl (_, _, same)) one two =
    absurd (omega (
      arith,
      once,
      in_all-cons in_decl first more k,
      ap (λ x. in_decl x k) same,
      two,
      counted_where (number + shapes_made first) (index + globals_made first) more n g decl k later,
      one,
    ))
one_place_from number index (first ∷ more) n g decl m h other k once (inr later) (inr then) one
    two =
    one_place_from (number + shapes_made first) (index + globals_made first) more n g decl m h other
    k (omega (arith, once, in_all-cons in_decl first more k)) later then one two

-- Declarations of a program that have one key among theirs are one.
pub one_place : (decls : List Decl) (n g : ℕ) (decl : Decl) (m h : ℕ) (other : Decl) (k : ℕ)
    → AreKeyed decls → Stands decls n g decl → Stands decls m h other → 1 ≤ in_decl decl k
    → 1 ≤ in_decl other k → SamePlace n g decl m h other
one_place decls n g decl m h other k keyed here there one two =
    one_place_from 0 0 decls n g decl m h other k (key_once decls keyed k) here there one two
