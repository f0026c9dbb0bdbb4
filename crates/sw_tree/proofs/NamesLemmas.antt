-- Texts seen through the keys of a set, and what interning keeps.
use Rattle.std.proofs.Common.{◌≡◌, ℕ, ◌+◌, ◌<◌, ◌≤◌, ◌⊎◌, inl, inr, Bool, true, false, cond, not}
use Rattle.std.proofs.Common.{◌||◌, if◌then◌else◌, List, [], ◌∷◌, ◌++◌, map, length, drop, position}
use Rattle.std.proofs.Common.{slice_get, eqb, bytes_eq, Some, None, refl, sym, ap, ◌∙◌, arith}
use Rattle.std.proofs.Common.{length-append, drop-cons, add-one, get_or, true≢false}
use Rattle.std.proofs.lemmas.Bool.{cases_lt}
use Rattle.std.proofs.lemmas.Grind.{common_steps}
use Rattle.std.proofs.lemmas.List.{map-append, drop_all}
use Rattle.std.proofs.lemmas.List.Folds.{position_or_len_push}
use Rattle.std.proofs.lemmas.List.Sums.{prefix_len-le-length, prefix_len_stops}
use Rattle.std.proofs.lemmas.Map.Keys.{IsDistinct-push}
use Rattle.std.proofs.lemmas.Option.{slice_get-get_or}
use Rattle.std.specs.Cmp.Lexicographic.{bytes_decides, nat_list_eq_equiv}
use Rattle.std.specs.List.{list_any, position_or_len, IsDistinct, AllByRecursion}
use Rattle.indexmap.specs.IndexSet.{insert_key}
use Rattle.sw_tree.specs.Names.{id_in, with_text, with_texts}

module _ {X : Type 0} (f : X → List ℕ) where
  pub position_or_len-map : (p : List ℕ → Bool) (xs : List X)
      → position_or_len p (map f xs) ≡ position_or_len (λ x. p (f x)) xs
  position_or_len-map p [] = refl
  position_or_len-map p (x ∷ xs) =
      ap (λ n. cond (not (p (f x))) (1 + n) 0) (position_or_len-map p xs)

  -- the id of a text that a look-up finds
  pub id-found : (text : List ℕ) (texts : List (List ℕ)) (xs : List X) (index : ℕ)
      → map f xs ≡ texts
      → Some index ≡ position (λ x. bytes_eq text (f x)) xs → index ≡ id_in texts text
  unfolding id_in
  id-found text texts xs index same found =
      let at : position_or_len (λ x. bytes_eq text (f x)) xs ≡ index =
      grind (arith, common_steps) in
      sym at ∙ sym (position_or_len-map (bytes_eq text) xs)
      ∙ ap (position_or_len (bytes_eq text)) same

  -- the id of a text that it misses
  pub id-missing : (text : List ℕ) (texts : List (List ℕ)) (xs : List X) → map f xs ≡ texts
      → None ≡ position (λ x. bytes_eq text (f x)) xs → length xs ≡ id_in texts text
  unfolding id_in
  id-missing text texts xs same missing =
      let most = prefix_len-le-length (λ x. not (bytes_eq text (f x))) xs in
      let at : position_or_len (λ x. bytes_eq text (f x)) xs ≡ length xs =
      grind (arith, common_steps, most) in
      sym at ∙ sym (position_or_len-map (bytes_eq text) xs)
      ∙ ap (position_or_len (bytes_eq text)) same

  AllByRecursion-map : (P : List ℕ → Type 0) (xs : List X) → AllByRecursion (λ x. P (f x)) xs
      → AllByRecursion P (map f xs)
  AllByRecursion-map P [] all = tt
  AllByRecursion-map P (x ∷ xs) all = (all.0, AllByRecursion-map P xs all.1)

  pub IsDistinct-map : (xs : List X) → IsDistinct (λ x y. bytes_eq (f x) (f y)) xs
      → IsDistinct bytes_eq (map f xs)
  unfolding IsDistinct
  IsDistinct-map [] distinct = tt
  IsDistinct-map (x ∷ xs) distinct = (
    AllByRecursion-map (λ text. bytes_eq (f x) text ≡ false) xs distinct.0,
    IsDistinct-map xs distinct.1,
  )

  list_any-map : (p : List ℕ → Bool) (xs : List X)
      → list_any p (map f xs) ≡ list_any (λ x. p (f x)) xs
  list_any-map p [] = refl
  list_any-map p (x ∷ xs) = ap (λ b. p (f x) || b) (list_any-map p xs)

  inserted_key : (xs : List X) (x : X)
      → map f (insert_key (λ a b. bytes_eq (f a) (f b)) xs x) ≡ with_text (map f xs) (f x)
  unfolding with_text
  inserted_key xs x =
      chosen (list_any (λ y. bytes_eq (f x) (f y)) xs)
      ∙ ap (λ b. if b then map f xs else map f xs ++ f x ∷ [])
      (sym (list_any-map (bytes_eq (f x)) xs))
    where
      chosen : (b : Bool) → map f (if b then xs else xs ++ x ∷ []) ≡
          (if b then map f xs else map f xs ++ f x ∷ [])
      chosen true = refl
      chosen false = map-append f xs (x ∷ [])

  -- the texts once a key is inserted
  pub inserted : (text : List ℕ) (texts : List (List ℕ)) (xs ys : List X) (x : X) → map f xs ≡ texts
      → f x ≡ text → ys ≡ insert_key (λ a b. bytes_eq (f a) (f b)) xs x
      → map f ys ≡ with_text texts text
  inserted text texts xs ys x same is set = ap (map f) set ∙ inserted_key xs x
      ∙ (λ j. with_text (same j) (is j))

any_before : {X : Type 0} (p : X → Bool) (xs : List X) → position_or_len p xs < length xs
    → list_any p xs ≡ true
any_before p [] before = absurd (omega arith)
any_before p (x ∷ xs) before = by (p x) refl (λ is. any_before p xs (later is))
  where
    later : p x ≡ false → position_or_len p xs < length xs
    later is =
        let one : position_or_len p (x ∷ xs) ≡ 1 + position_or_len p xs =
        ap (λ b. cond (not b) (1 + position_or_len p xs) 0) is in
        omega arith

    by : (b : Bool) → p x ≡ b → (p x ≡ false → list_any p xs ≡ true) → (p x || list_any p xs) ≡ true
    by true is rest = ap (λ b. b || list_any p xs) is
    by false is rest = ap (λ b. b || list_any p xs) is ∙ rest is

-- a text that is there isn't added
pub with_text-known : (texts : List (List ℕ)) (text : List ℕ) → id_in texts text < length texts
    → with_text texts text ≡ texts
unfolding with_text id_in
with_text-known texts text known =
    ap (λ b. if b then texts else texts ++ text ∷ []) (any_before (bytes_eq text) texts known)

pub length-with_text : (texts : List (List ℕ)) (text : List ℕ)
    → length (with_text texts text) ≤ length texts + 1
unfolding with_text
length-with_text texts text = by (list_any (bytes_eq text) texts)
  where
    by : (b : Bool) → length (if b then texts else texts ++ text ∷ []) ≤ length texts + 1
    by true = omega arith
    by false = omega (arith, length-append texts (text ∷ []))

module _ {X : Type 0} (f : X → List ℕ) where
  -- one text more of a list of texts
  pub with_texts-next : (texts new all : List (List ℕ)) (xs : List X) (index : ℕ) (d : X)
      → index < length xs
      → new ≡ with_text texts (f (get_or xs index d))
      → with_texts texts (map f (drop index xs)) ≡ all
      → with_texts new (map f (drop (index + 1) xs)) ≡ all
  unfolding with_texts
  with_texts-next texts new all xs index d within is rest =
      let next : drop index xs ≡ get_or xs index d ∷ drop (index + 1) xs =
      rw (add-one, drop-cons xs index d) refl in
      ap (λ t. with_texts t (map f (drop (index + 1) xs))) is
      ∙ ap (λ l. with_texts texts (map f l)) (sym next) ∙ rest

  -- no text more
  pub with_texts-end : (texts all : List (List ℕ)) (xs : List X) (index : ℕ) → length xs ≤ index
      → with_texts texts (map f (drop index xs)) ≡ all → texts ≡ all
  unfolding with_texts
  with_texts-end texts all xs index past rest =
      ap (λ l. with_texts texts (map f l)) (sym (drop_all index xs past)) ∙ rest

-- A text that is there stands at its id.
pub text_at_id : (texts : List (List ℕ)) (text : List ℕ) → id_in texts text < length texts
    → slice_get texts (id_in texts text) ≡ Some text
unfolding id_in
text_at_id texts text within =
    let passes = prefix_len_stops (λ other. not (bytes_eq text other)) texts text within in
    let same : bytes_eq text (get_or texts (position_or_len (bytes_eq text) texts) text) ≡ true =
    grind (arith, common_steps) in
    slice_get-get_or texts (position_or_len (bytes_eq text) texts) text within
    ∙ ap Some (sym ((bytes_decides text
    (get_or texts (position_or_len (bytes_eq text) texts) text)).0 same))

id_in-push : (texts : List (List ℕ)) (text other : List ℕ) → id_in texts text < length texts
    → id_in (texts ++ other ∷ []) text ≡ id_in texts text
unfolding id_in
id_in-push texts text other within =
    let pushed = position_or_len_push (bytes_eq text) texts other in
    let apart : eqb (position_or_len (bytes_eq text) texts) (length texts) ≡ false =
    grind (arith, common_steps) in
    pushed ∙ ap (λ b. cond b (length texts + cond (bytes_eq text other) 0 1)
    (position_or_len (bytes_eq text) texts)) apart

-- Interning leaves the ids of the texts that are there.
pub id_stays : (texts : List (List ℕ)) (text other : List ℕ) → id_in texts text < length texts
    → id_in (with_text texts other) text ≡ id_in texts text
unfolding with_text
id_stays texts text other within = by (list_any (bytes_eq other) texts)
  where
    by : (b : Bool) → id_in (if b then texts else texts ++ other ∷ []) text ≡ id_in texts text
    by true = refl
    by false = id_in-push texts text other within

any_within : {X : Type 0} (p : X → Bool) (xs : List X) → list_any p xs ≡ true
    → position_or_len p xs < length xs
any_within p [] some = absurd (true≢false (sym some))
any_within p (x ∷ xs) some =
    by (p x) refl (λ is. any_within p xs (ap (λ b. b || list_any p xs) (sym is) ∙ some))
  where
    by : (b : Bool) → p x ≡ b → (p x ≡ false → position_or_len p xs < length xs)
        → position_or_len p (x ∷ xs) < length (x ∷ xs)
    by true is rest =
        let none : position_or_len p (x ∷ xs) ≡ 0 =
        ap (λ b. cond (not b) (1 + position_or_len p xs) 0) is in
        omega arith
    by false is rest =
        let one : position_or_len p (x ∷ xs) ≡ 1 + position_or_len p xs =
        ap (λ b. cond (not b) (1 + position_or_len p xs) 0) is in
        let more = rest is in
        omega arith

none_within : {X : Type 0} (p : X → Bool) (xs : List X) → list_any p xs ≡ false
    → position_or_len p xs ≡ length xs
none_within p xs none = by (cases_lt (position_or_len p xs) (length xs))
  where
    by : (position_or_len p xs < length xs) ⊎ (length xs ≤ position_or_len p xs)
        → position_or_len p xs ≡ length xs
    by (inl within) = absurd (true≢false (sym (any_before p xs within) ∙ none))
    by (inr past) = omega (arith, prefix_len-le-length (λ x. not (p x)) xs)

id_in-new : (texts : List (List ℕ)) (text : List ℕ) → list_any (bytes_eq text) texts ≡ false
    → id_in (texts ++ text ∷ []) text ≡ length texts
unfolding id_in
id_in-new texts text none =
    let same : bytes_eq text text ≡ true = (bytes_decides text text).1 refl in
    let all = none_within (bytes_eq text) texts none in
    let last : eqb (position_or_len (bytes_eq text) texts) (length texts) ≡ true =
    grind (arith, common_steps) in
    position_or_len_push (bytes_eq text) texts text
    ∙ ap (λ b. cond b (length texts + cond (bytes_eq text text) 0 1)
    (position_or_len (bytes_eq text) texts)) last
    ∙ ap (λ b. length texts + cond b 0 1) same ∙ omega arith

-- An interned text has the id that it was given, and is there.
pub id_of_interned : (texts : List (List ℕ)) (text : List ℕ)
    → (id_in (with_text texts text) text ≡ id_in texts text)
    × (id_in texts text < length (with_text texts text))
unfolding with_text id_in
id_of_interned texts text = by (list_any (bytes_eq text) texts) refl
  where
    by : (b : Bool) → list_any (bytes_eq text) texts ≡ b
        → (id_in (if b then texts else texts ++ text ∷ []) text ≡ id_in texts text)
        × (id_in texts text < length (if b then texts else texts ++ text ∷ []))
    by true is = (refl, any_within (bytes_eq text) texts is)
    by false is =
        let all = none_within (bytes_eq text) texts is in
        (id_in-new texts text is ∙ sym all, omega (arith, all, length-append texts (text ∷ [])))

-- Interning leaves texts distinct.
pub IsDistinct-with_text : (texts : List (List ℕ)) (text : List ℕ) → IsDistinct bytes_eq texts
    → IsDistinct bytes_eq (with_text texts text)
unfolding with_text
IsDistinct-with_text texts text distinct = by (list_any (bytes_eq text) texts) refl
  where
    by : (b : Bool) → list_any (bytes_eq text) texts ≡ b
        → IsDistinct bytes_eq (if b then texts else texts ++ text ∷ [])
    by true is = distinct
    by false is = IsDistinct-push nat_list_eq_equiv texts text distinct is

length_grows : (texts : List (List ℕ)) (text : List ℕ)
    → length texts ≤ length (with_text texts text)
unfolding with_text
length_grows texts text = by (list_any (bytes_eq text) texts)
  where
    by : (b : Bool) → length texts ≤ length (if b then texts else texts ++ text ∷ [])
    by true = omega arith
    by false = omega (arith, length-append texts (text ∷ []))

-- The same for several texts, interned in turn.
pub ids_stay : (texts more : List (List ℕ)) (text : List ℕ) → id_in texts text < length texts
    → (id_in (with_texts texts more) text ≡ id_in texts text)
    × (id_in texts text < length (with_texts texts more))
unfolding with_texts
ids_stay texts [] text within = (refl, within)
ids_stay texts (other ∷ more) text within =
    let stays = id_stays texts text other within in
    let longer = length_grows texts other in
    let rest = ids_stay (with_text texts other) more text (omega (arith, stays, longer)) in
    (rest.0 ∙ stays, omega (arith, rest.1, stays))

pub ids_of_interned : (texts more : List (List ℕ))
    → AllByRecursion (λ text. id_in (with_texts texts more) text < length (with_texts texts more))
    more
unfolding with_texts
ids_of_interned texts [] = tt
ids_of_interned texts (text ∷ more) =
    let given = id_of_interned texts text in
    let stays = ids_stay (with_text texts text) more text (omega (arith, given.0, given.1)) in
    (omega (arith, stays.0, stays.1), ids_of_interned (with_text texts text) more)
