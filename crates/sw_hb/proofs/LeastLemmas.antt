-- Of the accesses that are found for the members of a list that of the least job.
use Rattle.std.proofs.Common.{◌≡◌, ◌<◌, ◌≤◌, inl, inr, Bool, true, false, cond, ltb, Option}
use Rattle.std.proofs.Common.{Some, None, List, [], ◌∷◌, ◌++◌, Contains, refl, sym, subst, ap, ◌∙◌}
use Rattle.std.proofs.Common.{append_assoc, append-nil, arith}
use Rattle.std.specs.Bool.{Decides}
use Rattle.std.specs.List.{fold}
use Rattle.std.proofs.lemmas.Bool.Decides.{Decides-ltb, not_from_Decides}
use Rattle.std.proofs.lemmas.List.Elements.{Contains-append_cases, Contains-append_left}
use Rattle.std.proofs.lemmas.List.Elements.{Contains-append_right}
use Rattle.sw_list.proofs.ListLemmas.{some_injective}
use Rattle.sw_list.proofs.Members.{none_in, one_in, in_one}
use Rattle.sw_value.specs.declared.race.Access.{Access}
use Rattle.sw_hb.specs.Entries.{of_lesser_job}

module _ {X : Type 0} (f : X → Option Access) where
  -- none is found, or one whose job is no greater than that of any other
  abbrev pub IsLeast : List X → Option Access → Type 0
  IsLeast xs None = (x : X) → Contains xs x → f x ≡ None
  IsLeast xs (Some a) = ((x : X) × Contains xs x × (f x ≡ Some a))
      × ((x : X) (c : Access) → Contains xs x → f x ≡ Some c → a.job ≤ c.job)

  abbrev pub least : Option Access → List X → Option Access
  least first xs = fold (λ first x. of_lesser_job first (f x)) first xs

  module _ (xs : List X) (y : X) where
    -- what holds of the members of a list, and of one more
    of_all : (P : X → Type 0) → ((x : X) → Contains xs x → P x) → P y → (x : X)
        → Contains (xs ++ y ∷ []) x → P x
    of_all P before here x has = elim (Contains-append_cases xs (y ∷ []) x has) [
      | inl earlier ↦ before x earlier
      | inr last ↦ subst P (one_in y x last) here
    ]

    earlier_in : (x : X) → Contains xs x → Contains (xs ++ y ∷ []) x
    earlier_in x has = Contains-append_left xs (y ∷ []) x has

    last_in : Contains (xs ++ y ∷ []) y
    last_in = Contains-append_right xs (y ∷ []) y (in_one y)

    NoGreater : Access → X → Type 0
    NoGreater a x = (c : Access) → f x ≡ Some c → a.job ≤ c.job

    kept : (a : Access) → IsLeast xs (Some a) → NoGreater a y → IsLeast (xs ++ y ∷ []) (Some a)
    unfolding NoGreater
    kept a ((x, has, is), no_greater) here = (
      (x, earlier_in x has, is),
      λ z c among found. of_all (NoGreater a) (λ w before d. no_greater w d before) here z among
          c found,
    )

    taken : (c : Access) → f y ≡ Some c → ((x : X) → Contains xs x → NoGreater c x)
        → IsLeast (xs ++ y ∷ []) (Some c)
    unfolding NoGreater
    taken c found no_greater = (
      (y, last_in, found),
      λ z d among other. of_all (NoGreater c) no_greater
          (λ e same. let one : c ≡ e = some_injective (sym found ∙ same) in
          let jobs : c.job ≡ e.job = ap (λ (a : Access). a.job) one in omega (arith, jobs)) z
          among d other,
    )

    step : (first next : Option Access) → IsLeast xs first → f y ≡ next
        → IsLeast (xs ++ y ∷ []) (of_lesser_job first next)
    unfolding NoGreater
    step None None none quiet = of_all (λ x. f x ≡ None) none quiet
    step (Some a) None is quiet = kept a is (λ c found. absurd (cc (quiet, found)))
    step None (Some c) none found =
        taken c found (λ x has d other. let quiet = none x has in absurd (cc (quiet, other)))
    step (Some a) (Some c) is found = by (ltb c.job a.job) (Decides-ltb c.job a.job)
      where
        by : (less : Bool) → Decides less (c.job < a.job)
            → IsLeast (xs ++ y ∷ []) (cond less (Some c) (Some a))
        by true decides = taken c found (λ x has d other.
            omega (arith, decides.0 refl, is.1 x d has other))
        by false decides =
            let not = not_from_Decides false decides refl in
            kept a is (λ d other.
            let one : c ≡ d = some_injective (sym found ∙ other) in
            let jobs : c.job ≡ d.job = ap (λ (b : Access). b.job) one in
            omega (arith, not, jobs))

  least_from : (later xs : List X) (first : Option Access) → IsLeast xs first
      → IsLeast (xs ++ later) (least first later)
  least_from [] xs first is = subst (λ l. IsLeast l first) (sym (append-nil xs)) is
  least_from (y ∷ later) xs first is =
      subst (λ l. IsLeast l (least (of_lesser_job first (f y)) later))
      (append_assoc xs (y ∷ []) later)
      (least_from later (xs ++ y ∷ []) (of_lesser_job first (f y)) (step xs y first (f y) is refl))

  pub least_is : (xs : List X) → IsLeast xs (least None xs)
  least_is xs = least_from xs [] None (λ x has. absurd (none_in x has))
