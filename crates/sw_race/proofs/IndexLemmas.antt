-- An index keeps its counts and its mark.
use Rattle.std.proofs.Common.{◌≡◌, ℕ, zero, suc, ◌<◌, ◌≤◌, inl, inr, Bool, true, false}
use Rattle.std.proofs.Common.{cond, not, nat_lt, Option, Some, None, List, [], ◌∷◌, ◌++◌, length}
use Rattle.std.proofs.Common.{count_by, take, refl, ap, sym, subst, ◌∙◌, arith, length-append}
use Rattle.std.specs.Prelude.{◌&&◌, ◌||◌, IsTrue, MatchOption, OnOk, OnErr, Result, Ok, Err}
use Rattle.std.specs.declared.alloc.AllocError.{AllocError}
use Rattle.std.specs.List.{slice_get, slice_set}
use Rattle.std.proofs.lemmas.Bool.{cases_order, cases_eq, lt-ltb}
use Rattle.std.proofs.lemmas.List.Sums.{sum_by-cons}
use Rattle.indexmap.specs.IndexMap.{IndexMap}
use Rattle.sw_list.proofs.ListLemmas.{slice_get_before}
use Rattle.sw_value.specs.declared.race.Place.{Place}
use Rattle.sw_value.proofs.BusyLemmas.{count_at}
use Rattle.sw_value.proofs.ListLemmas.{set_there, take_prefix}
use Rattle.sw_race.specs.declared.target.Target.{Target}
use Rattle.sw_race.specs.declared.uses.Uses.{Uses}
use Rattle.sw_race.specs.Index.{are_clashing, IsClear, IsIndexed}
use Rattle.sw_race.specs.Uses.{uses_in, uses_of, reads, writes, is_shared, is_alone, with_use}
use Rattle.sw_race.specs.With.{is_same_place}
use Rattle.sw_race.proofs.UsesLemmas.{one, uses_push, replaced_counts}
use Rattle.sw_race.proofs.WithLemmas.{and_left, and_right, place_is, place_same, or_swap}

-- Each job with that target, if it is one, clashes with no other job.
abbrev HasNoRival : List (Option Target) → Option Target → Type 0
HasNoRival targets next = (j k : ℕ) (a b : Target) → next ≡ Some a
    → slice_get targets j ≡ Some (Some a) → slice_get targets k ≡ Some (Some b)
    → IsTrue (are_clashing a b) → j ≡ k

-- two items that pass a test are counted
two_counted : {A : Type 0} (P : A → Bool) (xs : List A) (j k : ℕ) (x y : A)
    → slice_get xs j ≡ Some x → slice_get xs k ≡ Some y → P x ≡ true → P y ≡ true → j < k
    → 2 ≤ count_by P xs
two_counted P [] j k x y here there px py less = cc
two_counted P (z ∷ zs) j zero x y here there px py less = absurd (omega (arith, less))
two_counted P (z ∷ zs) zero (suc k) x y here there px py less =
    let same : P z ≡ P x = cc in
    let o = ap one (same ∙ px) in
    let rest = count_at P zs k y there in
    let p = ap one py in
    omega (arith, sum_by-cons (λ w. cond (P w) 1 0) z zs, o, rest, p)
two_counted P (z ∷ zs) (suc j) (suc k) x y here there px py less =
    let rest = two_counted P zs j k x y here there px py (omega (arith, less)) in
    omega (arith, sum_by-cons (λ w. cond (P w) 1 0) z zs, rest)

-- two that are apart, in either order
two_apart : {A : Type 0} (P : A → Bool) (xs : List A) (j k : ℕ) (x y : A)
    → slice_get xs j ≡ Some x → slice_get xs k ≡ Some y → P x ≡ true → P y ≡ true
    → (j ≡ k → ⊥) → 2 ≤ count_by P xs
two_apart P xs j k x y here there px py apart = elim (cases_order j k) [
  | inl e ↦ absurd (apart e)
  | inr (inl less) ↦ two_counted P xs j k x y here there px py less
  | inr (inr more) ↦ two_counted P xs k j y x there here py px more
]

or_right : (a b : Bool) → b ≡ true → a || b ≡ true
or_right true b e = refl
or_right false b e = e

or_left : (a b : Bool) → a ≡ true → a || b ≡ true
or_left true b e = refl
or_left false b e = cc

-- a target and another that clashes with it share their location
shares : (xs : List (Option Target)) (j k : ℕ) (a b : Target) → slice_get xs j ≡ Some (Some a)
    → slice_get xs k ≡ Some (Some b) → are_clashing a b ≡ true → (j ≡ k → ⊥)
    → is_shared a.writes (uses_of a.place xs) ≡ true
shares xs j k a b here there clash apart = by a.writes b.writes refl refl where
  place : is_same_place a.place b.place ≡ true
  place = and_left (is_same_place a.place b.place) (a.writes || b.writes) clash

  other : is_same_place b.place a.place ≡ true
  other = ap (is_same_place b.place) (place_is a.place b.place place) ∙ place_same b.place

  one_writes : a.writes || b.writes ≡ true
  one_writes = and_right (is_same_place a.place b.place) (a.writes || b.writes) clash

  writing : b.writes ≡ true → 0 < count_by (writes a.place) xs
  writing e =
      let test : writes a.place (Some b) ≡ true = ap (λ s. s && b.writes) other ∙ e in
      let some = count_at (writes a.place) xs k (Some b) there in
      let o = ap one test in
      omega (arith, some, o)

  reading : b.writes ≡ false → 0 < count_by (reads a.place) xs
  reading e =
      let test : reads a.place (Some b) ≡ true = ap (λ s. s && not b.writes) other ∙ ap not e in
      let some = count_at (reads a.place) xs k (Some b) there in
      let o = ap one test in
      omega (arith, some, o)

  both : a.writes ≡ true → b.writes ≡ true → 2 ≤ count_by (writes a.place) xs
  both e f =
      two_apart (writes a.place) xs j k (Some a) (Some b) here there
      (ap (λ s. s && a.writes) (place_same a.place) ∙ e)
      (ap (λ s. s && b.writes) other ∙ f) apart

  by : (w v : Bool) → a.writes ≡ w → b.writes ≡ v → is_shared w (uses_of a.place xs) ≡ true
  by true true e f =
      let two = both e f in
      or_right (nat_lt 0 (count_by (reads a.place) xs)) (nat_lt 1 (count_by (writes a.place) xs))
      (lt-ltb 1 (count_by (writes a.place) xs) (omega (arith, two)))
  by true false e f =
      or_left (nat_lt 0 (count_by (reads a.place) xs)) (nat_lt 1 (count_by (writes a.place) xs))
      (lt-ltb 0 (count_by (reads a.place) xs) (reading f))
  by false true e f = lt-ltb 0 (count_by (writes a.place) xs) (writing f)
  by false false e f =
      let none : false || false ≡ true = ap (λ w. w || false) (sym e)
      ∙ ap (λ v. a.writes || v) (sym f) ∙ one_writes in
      cc

-- who is alone has no rival
pub alone_apart : {S : Type 0} (table : IndexMap Place Uses S) (xs : List (Option Target))
    → ((p : Place) → uses_in table p ≡ uses_of p xs) → (next : Option Target)
    → is_alone table next ≡ true → HasNoRival xs next
alone_apart table xs counts None alone j k a b is here there clash = cc
alone_apart table xs counts (Some t) alone j k a b is here there clash = elim (cases_eq j k) [
  | inl e ↦ e
  | inr apart ↦
      let same : t ≡ a = cc in
      let shared = ap (λ u. is_shared t.writes u) (counts t.place)
      ∙ ap (λ (x : Target). is_shared x.writes (uses_of x.place xs)) same
      ∙ shares xs j k a b here there clash apart in
      let off : not true ≡ true = ap not (sym shared) ∙ alone in
      cc
]

pub clashing_swap : (a b : Target) → are_clashing a b ≡ true → are_clashing b a ≡ true
clashing_swap a b clash =
    let place = place_is a.place b.place
    (and_left (is_same_place a.place b.place) (a.writes || b.writes) clash) in
    let either = or_swap a.writes b.writes
    (and_right (is_same_place a.place b.place) (a.writes || b.writes) clash) in
    ap (λ s. s && (b.writes || a.writes))
    (ap (is_same_place b.place) place ∙ place_same b.place) ∙ either

-- an item other than the one that is put
pub other_stays : {A : Type 0} (xs : List A) (j k : ℕ) (y : A) → (j ≡ k → ⊥)
    → slice_get (slice_set xs j y) k ≡ slice_get xs k
other_stays [] j k y apart = refl
other_stays (x ∷ xs) zero zero y apart = absurd (apart refl)
other_stays (x ∷ xs) zero (suc k) y apart = refl
other_stays (x ∷ xs) (suc j) zero y apart = refl
other_stays (x ∷ xs) (suc j) (suc k) y apart = other_stays xs j k y (λ e. apart (ap suc e))

-- the mark stays where the target that is new has no rival
pub clear_replaced : (xs : List (Option Target)) (j : ℕ) (old next : Option Target)
    → slice_get xs j ≡ Some old → IsClear xs → HasNoRival (slice_set xs j next) next
    → IsClear (slice_set xs j next)
clear_replaced xs j old next here clear alone = record { one = λ k l a b. by k l a b } where
  there : slice_get (slice_set xs j next) j ≡ Some next
  there = set_there xs j old next here

  at : (k : ℕ) (a : Target) → j ≡ k → slice_get (slice_set xs j next) k ≡ Some (Some a)
      → next ≡ Some a
  at k a e is =
      let same = ap (slice_get (slice_set xs j next)) e in
      cc (sym there ∙ same ∙ is)

  by : (k l : ℕ) (a b : Target) → slice_get (slice_set xs j next) k ≡ Some (Some a)
      → slice_get (slice_set xs j next) l ≡ Some (Some b) → IsTrue (are_clashing a b) → k ≡ l
  by k l a b first second clash = elim (cases_eq j k) [
    | inl e ↦
        alone k l a b (at k a e first) first second clash
    | inr apart ↦ elim (cases_eq j l) [
      | inl f ↦ sym (alone l k b a (at l b f second) second first (clashing_swap a b clash))
      | inr others ↦
          clear.one k l a b (sym (other_stays xs j k next apart) ∙ first)
          (sym (other_stays xs j l next others) ∙ second) clash
    ]
  ]

-- a job without target at the end
pushed_none : (xs : List (Option Target)) (k : ℕ) (a : Target)
    → slice_get (xs ++ None ∷ []) k ≡ Some (Some a) → slice_get xs k ≡ Some (Some a)
pushed_none [] zero a is = cc
pushed_none [] (suc k) a is = cc
pushed_none (x ∷ xs) zero a is = is
pushed_none (x ∷ xs) (suc k) a is = pushed_none xs k a is

pub grown_indexed : {S : Type 0} (table : IndexMap Place Uses S) (clear : Bool)
    (xs ys : List (Option Target)) → ys ≡ xs ++ None ∷ [] → IsIndexed table clear xs
    → IsIndexed table clear ys
grown_indexed table clear xs ys is indexed = subst (IsIndexed table clear) (sym is) (record {
  counts = λ p. indexed.counts p ∙ sym (uses_push xs p);
  is_clear = λ e. record {
    one = λ j k a b first second clash. (indexed.is_clear e).one j k a b (pushed_none xs j a first)
        (pushed_none xs k b second) clash;
  };
})

pub shrunk_indexed : {S : Type 0} (table : IndexMap Place Uses S) (clear : Bool)
    (xs ys : List (Option Target)) → ys ≡ xs ++ None ∷ [] → IsIndexed table clear ys
    → IsIndexed table clear xs
shrunk_indexed table clear xs ys is indexed = record {
  counts = λ p. indexed.counts p ∙ ap (uses_of p) is ∙ uses_push xs p;
  is_clear = λ e. record {
    one = λ j k a b first second clash. (indexed.is_clear e).one j k a b
        (ap (λ l. slice_get l j) is ∙ slice_get_before xs (None ∷ []) j (Some a) first)
        (ap (λ l. slice_get l k) is ∙ slice_get_before xs (None ∷ []) k (Some b) second) clash;
  };
}

-- what stands before the last
pub same_first : {A : Type 0} (xs ys : List A) (x y : A) → xs ++ x ∷ [] ≡ ys ++ y ∷ [] → xs ≡ ys
same_first xs ys x y e =
    let count = ap length e in
    let len : length xs ≡ length ys =
    omega (arith, count, length-append xs (x ∷ []), length-append ys (y ∷ [])) in
    sym (take_prefix xs x) ∙ ap (take (length xs)) e ∙ ap (λ n. take n (ys ++ y ∷ [])) len
    ∙ take_prefix ys y

-- what a push leaves, whether there was memory or not
pub push_indexed : {S : Type 0} (table : IndexMap Place Uses S) (clear : Bool)
    (xs ys : List (Option Target)) (result : Result (Unit {0}) AllocError)
    → OnOk result (ys ≡ xs ++ None ∷ []) → OnErr result (ys ≡ xs) → IsIndexed table clear xs
    → IsIndexed table clear ys
push_indexed table clear xs ys (Ok tt) ok err indexed = grown_indexed table clear xs ys ok indexed
push_indexed table clear xs ys (Err e) ok err indexed =
    subst (IsIndexed table clear) (sym err) indexed

-- what a pop leaves, where the last job has no target
pub pop_indexed : {S : Type 0} (table : IndexMap Place Uses S) (clear : Bool)
    (xs ys : List (Option Target)) (last : Option (Option Target)) (earlier : List (Option Target))
    → xs ≡ earlier ++ None ∷ []
    → MatchOption last ((xs ≡ []) × (ys ≡ [])) (λ x. xs ≡ ys ++ x ∷ []) → IsIndexed table clear xs
    → IsIndexed table clear ys
pop_indexed table clear xs ys None earlier is (none, empty) indexed =
    let last : List (Option Target) = None ∷ [] in
    let count = ap length (sym none ∙ is) in
    absurd (omega (arith, count, length-append earlier last))
pop_indexed table clear xs ys (Some x) earlier is popped indexed =
    let same = same_first ys earlier x None (sym popped ∙ is) in
    shrunk_indexed table clear ys xs (is ∙ ap (λ l. l ++ None ∷ []) (sym same)) indexed

-- the last of a list, put in place of one without target
set_last : {A : Type 0} (xs : List A) (x y : A)
    → slice_set (xs ++ x ∷ []) (length xs) y ≡ xs ++ y ∷ []
set_last [] x y = refl
set_last (z ∷ xs) x y = ap (λ l. z ∷ l) (set_last xs x y)

pub put_last : (xs ys zs earlier : List (Option Target)) (n : ℕ) (next : Option Target)
    → earlier ≡ xs → n ≡ length earlier → ys ≡ xs ++ None ∷ [] → zs ≡ slice_set ys n next
    → zs ≡ xs ++ next ∷ []
put_last xs ys zs earlier n next same number grown set =
    set ∙ ap (λ l. slice_set l n next) grown
    ∙ ap (λ k. slice_set (xs ++ None ∷ []) k next) (number ∙ ap length same)
    ∙ set_last xs None next

-- What is kept where a target is replaced: what was counted in and taken out, and the mark where
-- the target that is new has no rival.
pub replaced_indexed : {S : Type 0} (before after : IndexMap Place Uses S) (was clear : Bool)
    (mid : Place → Uses) (xs ys : List (Option Target)) (j : ℕ) (old next : Option Target)
    → slice_get xs j ≡ Some old → ys ≡ slice_set xs j next → IsIndexed before was xs
    → ((p : Place) → mid p ≡ with_use next p (uses_in before p))
    → ((p : Place) → with_use old p (uses_in after p) ≡ mid p)
    → (clear ≡ true → (was ≡ true) × (is_alone after next ≡ true))
    → IsIndexed after clear ys
replaced_indexed before after was clear mid xs ys j old next here set indexed more less mark =
    subst (IsIndexed after clear) (sym set) (record {
      counts = counts;
      is_clear = λ e. let (it, alone) = mark e in
          clear_replaced xs j old next here (indexed.is_clear it)
          (alone_apart after (slice_set xs j next) counts next alone);
    }) where
      counts : (p : Place) → uses_in after p ≡ uses_of p (slice_set xs j next)
      counts p = replaced_counts xs j old next (uses_in before p) (mid p) (uses_in after p) p here
          (indexed.counts p) (more p) (less p)
