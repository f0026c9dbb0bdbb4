-- Lemmas on the words of specs/Lists.antt.
use Rattle.std.proofs.Common.{get_or, ◌<◌, sym, ◌≡◌, ℕ, ◌+◌, ◌≤◌, Option, Some, None, List, [], ◌∷◌}
use Rattle.std.proofs.Common.{◌++◌, zero, suc, length, take, drop, reverse, refl, ap, ◌∙◌, arith}
use Rattle.std.proofs.Common.{add-one}
use Rattle.std.specs.List.{slice_get, slice_set, filter_map, cons_option}
use Rattle.std.specs.Option.{option_to_list}
use Rattle.std.proofs.lemmas.List.{length-set, take_all, set-append_left}
use mathlib.Core.List.{reverse-cons}
use Rattle.std.proofs.lemmas.List.Elements.{filter_map-append}
use Rattle.std.proofs.lemmas.Option.{slice_get_past, slice_get-get_or}
use Rattle.sw_list.proofs.ListLemmas.{some_injective}
use Rattle.sw_value.specs.Lists.{changed_by, changed_at, each_of}
use Rattle.std.specs.Option.{option_map, option_and_then}

pub changed_at_there : {A : Type 0} (g : A → A) (i : ℕ) (xs : List A) (x : A)
    → slice_get xs i ≡ Some x → changed_at g i xs ≡ slice_set xs i (g x)
unfolding changed_at
changed_at_there g i xs x e = ap (λ o. changed_by o g i xs) e

pub changed_at_past : {A : Type 0} (g : A → A) (i : ℕ) (xs : List A) → length xs ≤ i
    → changed_at g i xs ≡ xs
unfolding changed_at
changed_at_past g i xs past = ap (λ o. changed_by o g i xs) (slice_get_past xs i past)

pub changed_at_none : {A : Type 0} (g : A → A) (i : ℕ) (xs : List A) → slice_get xs i ≡ None
    → changed_at g i xs ≡ xs
unfolding changed_at
changed_at_none g i xs e = ap (λ o. changed_by o g i xs) e

-- an item that is put at an index, or changed there, is found there
pub set_there : {A : Type 0} (xs : List A) (i : ℕ) (x y : A) → slice_get xs i ≡ Some x
    → slice_get (slice_set xs i y) i ≡ Some y
set_there [] i x y e = cc
set_there (z ∷ zs) zero x y e = refl
set_there (z ∷ zs) (suc i) x y e = set_there zs i x y e

pub changed_at_found : {A : Type 0} (g : A → A) (i : ℕ) (xs : List A) (x : A)
    → slice_get xs i ≡ Some x → slice_get (changed_at g i xs) i ≡ Some (g x)
changed_at_found g i xs x e = ap (λ l. slice_get l i) (changed_at_there g i xs x e)
    ∙ set_there xs i x (g x) e

-- the last item of a list, and what stands before it
pub slice_get_end : {A : Type 0} (xs : List A) (x : A)
    → slice_get (xs ++ x ∷ []) (length xs) ≡ Some x
slice_get_end [] x = refl
slice_get_end (y ∷ ys) x = slice_get_end ys x

pub take_prefix : {A : Type 0} (xs : List A) (x : A) → take (length xs) (xs ++ x ∷ []) ≡ xs
take_prefix [] x = refl
take_prefix (y ∷ ys) x = ap (λ l. y ∷ l) (take_prefix ys x)

pub length-changed_at : {A : Type 0} (g : A → A) (i : ℕ) (xs : List A)
    → length (changed_at g i xs) ≡ length xs
unfolding changed_at
length-changed_at {A = A} g i xs = by (slice_get xs i) where
  by : (o : Option A) → length (changed_by o g i xs) ≡ length xs
  by None = refl
  by (Some x) = length-set xs i (g x)

drop_at : {A : Type 0} (xs : List A) (i : ℕ) (x : A) → slice_get xs i ≡ Some x
    → drop i xs ≡ x ∷ drop (suc i) xs
drop_at [] i x e = cc
drop_at (y ∷ ys) zero x e = cc
drop_at (y ∷ ys) (suc i) x e = drop_at ys i x e

filter_map-single : {A B : Type 0} (h : A → Option B) (x : A)
    → filter_map h (x ∷ []) ≡ option_to_list (h x)
filter_map-single {B = B} h x = by (h x) where
  by : (o : Option B) → cons_option o [] ≡ option_to_list o
  by None = refl
  by (Some y) = refl

-- one more item of a list that is taken from its end
pub filter_map_reverse_drop : {A B : Type 0} (h : A → Option B) (first : A) (xs : List A) (i j : ℕ)
    (x : A) → i + 1 ≡ j → slice_get xs i ≡ Some x
    → filter_map h (first ∷ reverse (drop i xs)) ≡ filter_map h (first ∷ reverse (drop j xs))
    ++ option_to_list (h x)
filter_map_reverse_drop h first xs i j x next e =
    let after : suc i ≡ j = omega (arith, next) in
    ap (λ l. filter_map h (first ∷ reverse l)) (drop_at xs i x e)
    ∙ ap (λ l. filter_map h (first ∷ l)) (reverse-cons x (drop (suc i) xs))
    ∙ filter_map-append h (first ∷ reverse (drop (suc i) xs)) (x ∷ [])
    ∙ ap (λ l. filter_map h (first ∷ reverse (drop (suc i) xs)) ++ l) (filter_map-single h x)
    ∙ ap (λ k. filter_map h (first ∷ reverse (drop k xs)) ++ option_to_list (h x)) after

pub take_next : {A : Type 0} (xs : List A) (i : ℕ) (x : A) → slice_get xs i ≡ Some x
    → take (i + 1) xs ≡ take i xs ++ x ∷ []
take_next {A = A} xs i x e = rw add-one (by xs i e) where
  by : (ys : List A) (k : ℕ) → slice_get ys k ≡ Some x → take (suc k) ys ≡ take k ys ++ x ∷ []
  by [] k h = cc
  by (y ∷ ys) zero h = cc
  by (y ∷ ys) (suc k) h = ap (λ l. y ∷ l) (by ys k h)

-- a loop that asks each item: the items so far, one more, and one that gives nothing
pub each_none : {A B : Type 0} (f : A → Option B) (xs : List A) → each_of f (take 0 xs) ≡ Some []
each_none f xs = refl

pub each_push : {A B : Type 0} (f : A → Option B) (xs : List A) (x : A) (ys : List B) (y : B)
    → each_of f xs ≡ Some ys → f x ≡ Some y → each_of f (xs ++ x ∷ []) ≡ Some (ys ++ y ∷ [])
each_push f [] x ys y e h = rw h (ap (λ l. Some (l ++ y ∷ [])) (some_injective e))
each_push {A = A} {B = B} f (z ∷ zs) x ys y e h =
    by (f z) (each_of f zs) (λ ws r. each_push f zs x ws y r h) e where
      by : (o : Option B) (rest : Option (List B))
          → ((ws : List B) → rest ≡ Some ws → each_of f (zs ++ x ∷ []) ≡ Some (ws ++ y ∷ []))
          → option_and_then (λ w. option_map (λ ws. w ∷ ws) rest) o ≡ Some ys
          → option_and_then (λ w. option_map (λ ws. w ∷ ws) (each_of f (zs ++ x ∷ []))) o ≡ Some (ys
          ++ y ∷ [])
      by None rest _ k = cc
      by (Some w) None _ k = cc
      by (Some w) (Some ws) r k = rw (r ws refl) (ap (λ l. Some (l ++ y ∷ [])) (some_injective k))

pub each_missing : {A B : Type 0} (f : A → Option B) (xs : List A) (i : ℕ) (x : A)
    → slice_get xs i ≡ Some x → f x ≡ None → each_of f xs ≡ None
each_missing f [] i x e h = cc
each_missing f (y ∷ ys) zero x e h =
    ap (option_and_then (λ w. option_map (λ ws. w ∷ ws) (each_of f ys))) (ap f (some_injective e)
    ∙ h)
each_missing {B = B} f (y ∷ ys) (suc i) x e h = by (f y) (each_missing f ys i x e h) where
  by : (o : Option B) → each_of f ys ≡ None
      → option_and_then (λ w. option_map (λ ws. w ∷ ws) (each_of f ys)) o ≡ None
  by None _ = refl
  by (Some w) none = ap (option_map (λ ws. w ∷ ws)) none

-- the same at an index of the list
pub each_more : {A B : Type 0} (f : A → Option B) (xs : List A) (i : ℕ) (d : A) (ys : List B)
    (y : B) → i < length xs → each_of f (take i xs) ≡ Some ys → f (get_or xs i d) ≡ Some y
    → each_of f (take (i + 1) xs) ≡ Some (ys ++ y ∷ [])
each_more f xs i d ys y inside so_far h =
    ap (each_of f) (take_next xs i (get_or xs i d) (slice_get-get_or xs i d inside))
    ∙ each_push f (take i xs) (get_or xs i d) ys y so_far h

pub each_lacks : {A B : Type 0} (f : A → Option B) (xs : List A) (i : ℕ) (d : A) → i < length xs
    → f (get_or xs i d) ≡ None → each_of f xs ≡ None
each_lacks f xs i d inside h =
    each_missing f xs i (get_or xs i d) (slice_get-get_or xs i d inside) h

pub each_all : {A B : Type 0} (f : A → Option B) (xs : List A) (i : ℕ) (ys : List B) → length xs ≤ i
    → each_of f (take i xs) ≡ Some ys → each_of f xs ≡ Some ys
each_all f xs i ys past e = ap (each_of f) (sym (take_all i xs past)) ∙ e

pub ruleset each = (each_none, each_more, each_lacks, each_all)

-- an item that is replaced by one equal to it
pub set_back : {A : Type 0} (xs : List A) (i : ℕ) (x y : A) → slice_get xs i ≡ Some x → y ≡ x
    → slice_set xs i y ≡ xs
set_back [] i x y e h = refl
set_back (z ∷ zs) zero x y e h = ap (λ w. w ∷ zs) (h ∙ sym (some_injective e))
set_back (z ∷ zs) (suc i) x y e h = ap (λ l. z ∷ l) (set_back zs i x y e h)

pub get_before : {A : Type 0} (xs : List A) (i : ℕ) (x y : A) → slice_get (xs ++ y ∷ []) i ≡ Some x
    → i < length xs → slice_get xs i ≡ Some x
get_before [] i x y e inside = absurd (omega arith)
get_before (z ∷ zs) zero x y e inside = e
get_before (z ∷ zs) (suc i) x y e inside = get_before zs i x y e (omega arith)

-- a change before an item that was added at the end
pub push_changed : {A : Type 0} (g : A → A) (i : ℕ) (xs : List A) (x y : A)
    → slice_get (xs ++ y ∷ []) i ≡ Some x → i < length xs
    → changed_at g i xs ++ y ∷ [] ≡ slice_set (xs ++ y ∷ []) i (g x)
push_changed g i xs x y e inside =
    ap (λ l. l ++ y ∷ []) (changed_at_there g i xs x (get_before xs i x y e inside))
    ∙ sym (set-append_left xs (y ∷ []) i (g x) inside)

-- an item that is changed where there is one
pub mapped_some : {A : Type 0} (g : A → A) (i : ℕ) (xs : List (Option A)) (x y : A)
    → slice_get xs i ≡ Some (Some x) → y ≡ g x
    → slice_set xs i (Some y) ≡ changed_at (option_map g) i xs
mapped_some g i xs x y e h =
    sym (changed_at_there (option_map g) i xs (Some x) e
    ∙ ap (λ z. slice_set xs i (Some z)) (sym h))

pub mapped_none : {A : Type 0} (g : A → A) (i : ℕ) (xs : List (Option A)) (o : Option A)
    → slice_get xs i ≡ Some o → o ≡ None → slice_set xs i o ≡ changed_at (option_map g) i xs
mapped_none g i xs o e h =
    sym (changed_at_there (option_map g) i xs o e
    ∙ ap (λ z. slice_set xs i z) (ap (option_map g) h ∙ sym h))

pub ruleset changes = (changed_at_there, changed_at_past, set_back)

pub ruleset pushes = (push_changed, changed_at_past)
