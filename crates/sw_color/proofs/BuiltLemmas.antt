-- Lists whose items are each made of the items before it.
use Rattle.std.proofs.Common.{◌≡◌, ℕ, zero, suc, ◌+◌, ◌<◌, ◌≤◌, List, [], ◌∷◌, ◌++◌, length, get_or}
use Rattle.std.proofs.Common.{take, refl, ap, sym, ◌∙◌, arith, Some, slice_get, length-append, fold}
use Rattle.std.proofs.lemmas.List.{get_or_append_left, get_or_at, take-take, take_at, take_all}
use Rattle.std.proofs.lemmas.Option.{same_Some}

-- the list `done`, and then for each of the others one more item, made of all items before it
abbrev pub built : {A B : Type 0} → (List A → B → A) → List A → List B → List A
built f done bs = fold (λ earlier b. earlier ++ f earlier b ∷ []) done bs

pub built_length : {A B : Type 0} (f : List A → B → A) (done : List A) (bs : List B)
    → length (built f done bs) ≡ length done + length bs
built_length f done [] = omega arith
built_length f done (b ∷ bs) =
    omega (
      arith,
      built_length f (done ++ f done b ∷ []) bs,
      length-append done (f done b ∷ []),
    )

-- what is done stays
pub built_keeps : {A B : Type 0} (f : List A → B → A) (done : List A) (bs : List B) (i : ℕ) (d : A)
    → i < length done → get_or (built f done bs) i d ≡ get_or done i d
built_keeps f done [] i d inside = refl
built_keeps f done (b ∷ bs) i d inside =
    let more : i < length (done ++ f done b ∷ []) =
    omega (arith, inside, length-append done (f done b ∷ [])) in
    built_keeps f (done ++ f done b ∷ []) bs i d more
    ∙ get_or_append_left done (f done b ∷ []) d i inside

built_front : {A B : Type 0} (f : List A → B → A) (done : List A) (bs : List B)
    → take (length done) (built f done bs) ≡ done
built_front f done [] = take_all (length done) done (omega arith)
built_front f done (b ∷ bs) =
    let next = f done b ∷ [] in
    let more : length done ≤ length (done ++ next) = omega (arith, length-append done next) in
    sym (take-take (length done) (length (done ++ next)) (built f (done ++ next) bs) more)
    ∙ ap (take (length done)) (built_front f (done ++ next) bs)
    ∙ take_at done next (length done) refl

-- each further item is made of those before it
pub built_at : {A B : Type 0} (f : List A → B → A) (done : List A) (bs : List B) (k i : ℕ) (b : B)
    (d : A) → i ≡ length done + k → slice_get bs k ≡ Some b
    → get_or (built f done bs) i d ≡ f (take i (built f done bs)) b
built_at f done [] k i b d place there = cc
built_at f done (c ∷ bs) zero i b d place there =
    let next = f done c ∷ [] in
    let here : i ≡ length done = omega (arith, place) in
    let inside : i < length (done ++ next) = omega (arith, here, length-append done next) in
    let before : take i (built f (done ++ next) bs) ≡ done =
    ap (λ n. take n (built f (done ++ next) bs)) here ∙ built_front f done (c ∷ bs) in
    built_keeps f (done ++ next) bs i d inside ∙ get_or_at done (f done c) [] d i (sym here)
    ∙ ap (λ x. f x c) (sym before)
    ∙ ap (f (take i (built f (done ++ next) bs))) (same_Some c b there)
built_at f done (c ∷ bs) (suc k) i b d place there =
    let further : i ≡ length (done ++ f done c ∷ []) + k =
    omega (arith, place, length-append done (f done c ∷ [])) in
    built_at f (done ++ f done c ∷ []) bs k i b d further there

-- one more
pub built_more : {A B : Type 0} (f : List A → B → A) (done : List A) (bs : List B) (b : B)
    → built f done (bs ++ b ∷ []) ≡ built f done bs ++ f (built f done bs) b ∷ []
built_more f done [] b = refl
built_more f done (c ∷ bs) b = built_more f (done ++ f done c ∷ []) bs b
