-- How loops do what the code of each item does.
use Rattle.std.proofs.Common.{◌≡◌, ◌+◌, ◌<◌, ◌≤◌, ℕ, List, [], ◌∷◌, ◌++◌, Result, Ok, Err, refl, ap}
use Rattle.std.proofs.Common.{append_assoc, drop, get_or, length, map, sym, take, ◌∙◌}
use Rattle.std.proofs.lemmas.List.{at_drop_all, drop_more}
use Rattle.sw_lower_plans.specs.Run.{Making, Run, run_after, with_vars}
use Rattle.sw_lower_plans.specs.declared.fault.CodeFault.{CodeFault}
use Rattle.sw_lower_code.specs.Code.{Code, all, andthen, done, scope, ◌>>=◌}
use Rattle.sw_lower_uses.specs.Gathering.{each_after}

-- what a run gives
abbrev pub Outcome : Type 0 → Type 0
Outcome A = Result (A × Making) CodeFault

-- what runs after a run, where it gives the same
pub after_same : {A B : Type 0} (run : Outcome A) (f g : A → Run B)
    → ((a : A) (s : Making) → f a s ≡ g a s) → run_after run f ≡ run_after run g
after_same (Ok at) f g same = same at.0 at.1
after_same (Err fault) f g same = refl

-- what runs after two runs
pub after_then : {A B C : Type 0} (run : Outcome A) (f : A → Run B) (g : B → Run C) (h : A → Run C)
    → ((a : A) (s : Making) → run_after (f a s) g ≡ h a s)
    → run_after (run_after run f) g ≡ run_after run h
after_then (Ok at) f g h same = same at.0 at.1
after_then (Err fault) f g h same = refl

-- code, and after it what gives the same
pub then_same : {A B : Type 0} (code : Code A) (f g : A → Code B) (s : Making)
    → ((a : A) (t : Making) → (f a).run t ≡ (g a).run t) → (code >>= f).run s ≡ (code >>= g).run s
unfolding andthen
then_same code f g s same = after_same (code.run s) (λ a. (f a).run) (λ a. (g a).run) same

-- code that gives a value, and what follows
pub given_then : {A B : Type 0} (code : Code A) (f : A → Code B) (s : Making) (a : A) (t : Making)
    → code.run s ≡ Ok (a, t) → (code >>= f).run s ≡ (f a).run t
unfolding andthen
given_then code f s a t is = ap (λ r. run_after r (λ a. (f a).run)) is

-- code that ends early
pub first_fails : {A B : Type 0} (code : Code A) (f : A → Code B) (s : Making) (fault : CodeFault)
    → code.run s ≡ Err fault → (code >>= f).run s ≡ Err fault
unfolding andthen
first_fails code f s fault is = ap (λ r. run_after r (λ a. (f a).run)) is

-- code, and two codes after it
pub then_then : {A B C : Type 0} (code : Code A) (f : A → Code B) (g : B → Code C)
    (h : A → Code C) (s : Making) → ((a : A) (t : Making) → (f a >>= g).run t ≡ (h a).run t)
    → ((code >>= f) >>= g).run s ≡ (code >>= h).run s
unfolding andthen
then_then code f g h s same =
    after_then (code.run s) (λ a. (f a).run) (λ b. (g b).run) (λ a. (h a).run) same

pub done_then : {A B : Type 0} (value : A) (f : A → Code B) (s : Making)
    → (done value >>= f).run s ≡ (f value).run s
unfolding andthen done
done_then value f s = refl

-- code whose variables are seen in it alone
module _ {A : Type 0} (code : Code A) (s : Making) where
  pub scope_ends : (value : A) (t u : Making) (count : ℕ) → count ≡ length s.vars
      → code.run s ≡ Ok (value, t) → u ≡ record t { vars = take count t.vars }
      → (scope code).run s ≡ Ok (value, u)
  unfolding scope
  scope_ends value t u count counted is forgets =
      ap (with_vars (length s.vars)) is
      ∙ (ap (λ n. Ok (value, record t { vars = take n t.vars })) (sym counted)
      ∙ ap (λ making. Ok (value, making)) (sym forgets))

  pub scope_fails : (fault : CodeFault) → code.run s ≡ Err fault → (scope code).run s ≡ Err fault
  unfolding scope
  scope_fails fault is = ap (with_vars (length s.vars)) is

-- the first of the items that are left
pub next_item : {A : Type 0} (xs : List A) (i : ℕ) (x : A) → i < length xs → x ≡ get_or xs i x
    → drop i xs ≡ x ∷ drop (i + 1) xs
next_item xs i x lt is = drop_more xs i x lt ∙ ap (λ y. y ∷ drop (i + 1) xs) (sym is)

-- one item more is there
pub map_next : {A B : Type 0} (f : A → B) (xs : List A) (i : ℕ) (made whole : List B) (x : A)
    (y : B) → i < length xs → x ≡ get_or xs i x → y ≡ f x → made ++ map f (drop i xs) ≡ whole
    → (made ++ y ∷ []) ++ map f (drop (i + 1) xs) ≡ whole
map_next f xs i made whole x y lt is one left =
    append_assoc made (y ∷ []) (map f (drop (i + 1) xs))
    ∙ (ap (λ z. made ++ z ∷ map f (drop (i + 1) xs)) one
    ∙ (sym (ap (λ ys. made ++ map f ys) (next_item xs i x lt is)) ∙ left))

-- no item is left
pub no_item : {A : Type 0} (xs : List A) (i : ℕ) → length xs ≤ i → drop i xs ≡ []
no_item xs i le = at_drop_all (λ ys. ys) xs i le

module _ {A : Type 0} (code : A → Code (Unit {0})) (rest : List A) (s : Making)
    (whole : Outcome (Unit {0})) (left : (all code rest).run s ≡ whole) where
  -- the first of what is left is done
  pub all_next : (x : A) (later : List A) (t : Making) → rest ≡ x ∷ later
      → (code x).run s ≡ Ok (tt, t) → (all code later).run t ≡ whole
  unfolding all andthen
  all_next x later t is one = sym (ap (λ r. run_after r (λ _. (all code later).run)) one)
      ∙ (sym (ap (λ ys. (all code ys).run s) is) ∙ left)

  -- it isn't
  pub all_fails : (x : A) (later : List A) (fault : CodeFault) → rest ≡ x ∷ later
      → (code x).run s ≡ Err fault → whole ≡ Err fault
  unfolding all andthen
  all_fails x later fault is one = sym left ∙ (ap (λ ys. (all code ys).run s) is
      ∙ ap (λ r. run_after r (λ _. (all code later).run)) one)

  -- all is done
  pub all_ends : rest ≡ [] → whole ≡ Ok (tt, s)
  unfolding all done
  all_ends is = sym left ∙ ap (λ ys. (all code ys).run s) is

module _ {A B : Type 0} (code : A → Code B) where
  -- items, and others after them
  pub each_append : (xs others : List A) (made : List B) (s : Making)
      → each_after code (xs ++ others) made s
      ≡ run_after (each_after code xs made s) (λ ys. each_after code others ys)
  each_append [] others made s = refl
  each_append (x ∷ xs) others made s = sym (after_then ((code x).run s)
      (λ y. each_after code xs (made ++ y ∷ [])) (λ ys. each_after code others ys)
      (λ y. each_after code (xs ++ others) (made ++ y ∷ []))
      (λ y t. sym (each_append xs others (made ++ y ∷ []) t)))

  module _ (rest : List A) (made : List B) (s : Making) (whole : Outcome (List B))
      (left : each_after code rest made s ≡ whole) where
    -- the first of what is left is made
    pub each_next : (x : A) (later : List A) (y : B) (t : Making) → rest ≡ x ∷ later
        → (code x).run s ≡ Ok (y, t) → each_after code later (made ++ y ∷ []) t ≡ whole
    each_next x later y t is one =
        sym (ap (λ r. run_after r (λ y. each_after code later (made ++ y ∷ []))) one)
        ∙ (sym (ap (λ ys. each_after code ys made s) is) ∙ left)

    -- it isn't
    pub each_fails : (x : A) (later : List A) (fault : CodeFault) → rest ≡ x ∷ later
        → (code x).run s ≡ Err fault → whole ≡ Err fault
    each_fails x later fault is one = sym left ∙ (ap (λ ys. each_after code ys made s) is
        ∙ ap (λ r. run_after r (λ y. each_after code later (made ++ y ∷ []))) one)

    -- all is made
    pub each_ends : rest ≡ [] → whole ≡ Ok (made, s)
    each_ends is = sym left ∙ ap (λ ys. each_after code ys made s) is
