-- The members of the last group lead to each other, and else to what is settled alone.
use Rattle.std.proofs.Common.{◌≡◌, ◌≢◌, ◌↔◌, ℕ, ◌+◌, ◌<◌, ◌≤◌, ◌⊎◌, inl, inr, Bool, List, length}
use Rattle.std.proofs.Common.{get_or, Some, slice_get, IsTrue, sym, subst, ◌∙◌, arith}
use Rattle.std.proofs.lemmas.Bool.{cases_eq, cases_lt}
use Rattle.std.proofs.lemmas.List.Elements.{Contains-push}
use Rattle.std.proofs.lemmas.Option.{slice_get_within, slice_get-get_or, get_or_from_slice_get}
use Rattle.sw_list.proofs.ListLemmas.{some_injective}
use Rattle.sw_types.specs.Paths.{IsEdge, Path, one, more}
use Rattle.sw_types.specs.Walks.{progress_at, IsWalk, LeadBack, with_group}
use Rattle.sw_types.specs.declared.ordering.Group.{Group}
use Rattle.sw_types.specs.declared.ordering.Progress.TheVariants.{Open, Settled}
use Rattle.sw_types.specs.declared.ordering.Walk.{Walk}
use Rattle.sw_types.proofs.Grouping.{last_first}
use Rattle.sw_types.proofs.Searching.{joined}
use Rattle.sw_types.proofs.Walking.{same_place, open_not_settled}

-- a number of the group
abbrev pub IsMember : Walk → Group → ℕ → ℕ → Type 0
IsMember walk group k place =
    (progress_at walk.progress k ≡ Open place) × (group.first ≤ place)

module _ (edges : List (List ℕ)) (walk : Walk) (group : Group)
    (is : IsWalk edges (with_group walk group)) where
  pub stands : (k place : ℕ) → progress_at walk.progress k ≡ Open place
      → slice_get walk.opened place ≡ Some k
  stands k place opened = (is.listed.placed k place).0 opened

  pub first_within : group.first < length walk.opened
  first_within = (is.grouped.grounded group (Contains-push walk.groups group)).0

  -- members lead to each other
  pub leads_between : (a b place other : ℕ) → IsMember walk group a place → IsMember walk group b other → a ≢ b
      → Path edges a b
  leads_between a b place other from to ne = is.linked.linked a b place from.0
      (inl (
        other,
        to.0,
        λ g has le.
            let first = last_first walk.groups group is.grouped.increasing g has in
            let later = to.1 in omega (arith, first, later),
      )) ne

  pub member_at : (place : ℕ) → group.first ≤ place → place < length walk.opened
      → IsMember walk group (get_or walk.opened place 0) place
  member_at place le lt = ((is.listed.placed _ place).1 (slice_get-get_or walk.opened place 0 lt), le)

  -- a member that isn't alone leads back to itself
  returns_over : (a c place other : ℕ) → IsMember walk group a place → IsMember walk group c other → place ≢ other
      → Path edges a a
  returns_over a c place other from to ne =
      joined edges a c a (leads_between a c place other from to apart)
      (leads_between c a other place to from (λ e. apart (sym e)))
    where
      apart : a ≢ c
      apart e = ne (same_place place other (sym from.0
          ∙ subst (λ j. progress_at walk.progress j ≡ Open other) (sym e) to.0))

  -- a path from a member that leads to what is settled alone, but for itself, ends there
  path_settled : (a b : ℕ) → ((c : ℕ) → IsEdge edges a c
      → (progress_at walk.progress c ≡ Settled) ⊎ (a ≡ c)) → Path edges a b
      → (progress_at walk.progress b ≡ Settled) ⊎ IsEdge edges a a
  path_settled a b step (one c leads) = elim (step b leads) [
    | inl settled ↦ inl settled
    | inr e ↦ inr (subst (IsEdge edges a) (sym e) leads)
  ]
  path_settled a b step (more c d path leads) = elim (path_settled a c step path) [
    | inl settled ↦ inl (is.settled.closed c b settled leads)
    | inr itself ↦ inr itself
  ]

  module _ (done : length walk.waiting ≤ group.waiting) where
    -- what members lead to is settled or a member
    pub leads_to : (a b place : ℕ) → IsMember walk group a place → IsEdge edges a b
        → (progress_at walk.progress b ≡ Settled) ⊎ ((other : ℕ) × IsMember walk group b other)
    leads_to a b place member leads = elim (is.linked.closed a b place member.0 leads) [
      | inl settled ↦ inl settled
      | inr ahead ↦ elim ahead [
        | inl (other, opened, of) ↦
            inr (other, (opened, of group (Contains-push walk.groups group) member.1))
        | inr (at, e, of) ↦ absurd
            (let le = of group (Contains-push walk.groups group) member.1 in
            let lt = slice_get_within walk.waiting at b e in
            omega (arith, le, lt, done))
      ]
    ]

    module _ (returns : Bool) (says : IsTrue returns ↔ LeadBack edges walk.opened group.first) where
      pub member_returns : (a place : ℕ) → IsMember walk group a place → IsTrue returns → Path edges a a
      member_returns a place member said = elim (cases_eq place group.first) [
        | inl e ↦ elim (says.0 said) [
          | inl two ↦ returns_over a _ place (group.first + 1) member
              (member_at (group.first + 1) (omega arith) two) (λ same. omega (arith, e, same))
          | inr itself ↦
              (let same = get_or_from_slice_get walk.opened group.first a 0
              (subst (λ p. slice_get walk.opened p ≡ Some a) e (stands a place member.0)) in
              subst (λ k. Path edges k k) same (one _ itself))
        ]
        | inr ne ↦ returns_over a _ place group.first member
            (member_at group.first (omega arith) first_within) ne
      ]

      pub returns_member : (a place : ℕ) → IsMember walk group a place → Path edges a a → IsTrue returns
      returns_member a place member path = elim (cases_lt (group.first + 1) (length walk.opened)) [
        | inl two ↦ says.1 (inl two)
        | inr le ↦
            (let alone : (k p : ℕ) → IsMember walk group k p → p ≡ group.first = λ k p it.
            let under = slice_get_within walk.opened p k (stands k p it.0) in
            let from = it.1 in omega (arith, under, from, le) in
            let here : slice_get walk.opened group.first ≡ Some a =
            subst (λ p. slice_get walk.opened p ≡ Some a) (alone a place member)
            (stands a place member.0) in
            elim (path_settled a a (λ c leads. elim (leads_to a c place member leads) [
              | inl settled ↦ inl settled
              | inr (other, too) ↦ inr (some_injective (sym here
                  ∙ subst (λ p. slice_get walk.opened p ≡ Some c) (alone c other too)
                  (stands c other too.0)))
            ]) path) [
              | inl settled ↦ absurd (open_not_settled place (sym member.0 ∙ settled))
              | inr itself ↦ says.1 (inr (subst (λ k. IsEdge edges k k)
                  (sym (get_or_from_slice_get walk.opened group.first a 0 here)) itself))
            ])
      ]
