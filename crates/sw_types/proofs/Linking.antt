-- What open numbers lead to, after a step of a walk.
use Rattle.std.proofs.Common.{◌≡◌, ◌≢◌, ℕ, ◌+◌, ◌-◌, ◌<◌, ◌≤◌, ◌⊎◌, inl, inr, List, [], ◌∷◌}
use Rattle.std.proofs.Common.{◌++◌, length, get_or, Contains, Some, slice_get, sym, ap, subst}
use Rattle.std.proofs.Common.{◌∙◌, arith}
use Rattle.std.proofs.lemmas.Bool.{cases_eq, cases_lt}
use Rattle.std.proofs.lemmas.List.{length_push}
use Rattle.std.proofs.lemmas.List.Elements.{Contains-append_left, Contains-push}
use Rattle.std.proofs.lemmas.List.Elements.{Contains-push_cases}
use Rattle.std.proofs.lemmas.Option.{slice_get_within}
use Rattle.sw_list.proofs.ListLemmas.{slice_get_before, slice_get_first, slice_get_second, at_seam}
use Rattle.sw_list.proofs.ListLemmas.{slice_get_after, some_injective}
use Rattle.sw_list.proofs.Members.{member_at, stands_at}
use Rattle.sw_types.specs.Paths.{IsEdge, Path, one, more}
use Rattle.sw_types.specs.Walks.{progress_at, OfGroups, IsAhead, AreLinked, AreListed, AreGrouped}
use Rattle.sw_types.specs.Walks.{AllWait, with_open, with_waiting}
use Rattle.sw_types.specs.declared.ordering.Group.{Group}
use Rattle.sw_types.specs.declared.ordering.Progress.TheVariants.{Fresh, Open, Settled}
use Rattle.sw_types.specs.declared.ordering.Walk.{Walk}
use Rattle.sw_types.proofs.Grouping.{waits_before}
use Rattle.sw_types.proofs.Searching.{joined}
use Rattle.sw_types.proofs.Walking.{cases_set, same_place, fresh_not_open, fresh_not_settled}

module _ (edges : List (List ℕ)) (walk : Walk) (t : ℕ) where
  -- what is ahead stays so where one more target waits
  ahead_more : (place b : ℕ) → IsAhead walk place b → IsAhead (with_waiting walk (t ∷ [])) place b
  ahead_more place b (inl here) = inl here
  ahead_more place b (inr (at, e, of)) =
      inr (at, slice_get_before walk.waiting (t ∷ []) at b e, of)

  -- the last target that waits alone is no longer ahead
  ahead_less : (place b : ℕ) → IsAhead (with_waiting walk (t ∷ [])) place b
      → IsAhead walk place b ⊎ (t ≡ b)
  ahead_less place b (inl here) = inl (inl here)
  ahead_less place b (inr (at, e, of)) = elim (cases_lt at (length walk.waiting)) [
    | inl lt ↦ inl (inr (at, sym (slice_get_first walk.waiting (t ∷ []) at lt) ∙ e, of))
    | inr le ↦ inr
        (let under = slice_get_within (walk.waiting ++ t ∷ []) at b e in
        let last : length walk.waiting ≡ at = omega (arith, under, length_push walk.waiting t) in
        some_injective (sym (at_seam walk.waiting t [])
        ∙ ap (slice_get (walk.waiting ++ t ∷ [])) last ∙ e))
  ]

  pub linked_settled : AreLinked edges (with_waiting walk (t ∷ []))
      → progress_at walk.progress t ≡ Settled → AreLinked edges walk
  linked_settled was settled = record {
    linked = λ a b place is ahead ne. was.linked a b place is (ahead_more place b ahead) ne;
    closed = λ a b place is leads. elim (was.closed a b place is leads) [
      | inl done ↦ inl done
      | inr ahead ↦ elim (ahead_less place b ahead) [
        | inl still ↦ inr still
        | inr e ↦ inl (subst (λ j. progress_at walk.progress j ≡ Settled) e settled)
      ]
    ];
  }

  module _ (was : AreLinked edges (with_waiting walk (t ∷ [])))
      (last : AllWait (with_waiting walk (t ∷ []))) where
    -- each open number leads to the last target that waits
    leads_to_last : (a place : ℕ) → progress_at walk.progress a ≡ Open place → a ≢ t
        → Path edges a t
    leads_to_last a place is ne = was.linked a t place is (inr (
      length walk.waiting,
      at_seam walk.waiting t [],
      λ group has le. waits_before walk t last group has,
    )) ne

    module _ (own : ℕ) (opened : progress_at walk.progress t ≡ Open own) (groups : List Group)
        (old : (group : Group) → Contains groups group → Contains walk.groups group)
        (kept : (group : Group) → Contains walk.groups group → group.first ≤ own
        → Contains groups group)
        (until : (group : Group) → Contains groups group → group.first ≤ own) where
      -- what is said of fewer groups is said of all, at a place before the target
      of_before : (P : Group → Type 0) (place : ℕ) → place ≤ own → OfGroups P groups place
          → OfGroups P walk.groups place
      of_before P place before of group has le =
          of group (kept group has (omega (arith, le, before))) le

      -- and from a later place, at the target's
      of_own : (P : Group → Type 0) (place : ℕ) → own ≤ place → OfGroups P groups place
          → OfGroups P walk.groups own
      of_own P place later of group has le =
          of group (kept group has le) (omega (arith, le, later))

      ahead_in_all : (place other b : ℕ)
          → ((P : Group → Type 0) → OfGroups P groups place → OfGroups P walk.groups other)
          → IsAhead (record walk { groups = groups }) place b
          → IsAhead (with_waiting walk (t ∷ [])) other b
      ahead_in_all place other b spread (inl (q, e, of)) =
          inl (q, e, spread (λ (group : Group). group.first ≤ q) of)
      ahead_in_all place other b spread (inr (at, e, of)) =
          inr (
            at,
            slice_get_before walk.waiting (t ∷ []) at b e,
            spread (λ (group : Group). group.waiting ≤ at) of,
          )

      ahead_in_fewer : (place b : ℕ) → IsAhead walk place b
          → IsAhead (record walk { groups = groups }) place b
      ahead_in_fewer place b (inl (q, e, of)) = inl (q, e, λ group has le. of group (old group has) le)
      ahead_in_fewer place b (inr (at, e, of)) =
          inr (at, e, λ group has le. of group (old group has) le)

      -- by way of the target
      leads_over : (a b place : ℕ) → progress_at walk.progress a ≡ Open place → a ≢ b
          → IsAhead (with_waiting walk (t ∷ [])) own b → Path edges a b
      leads_over a b place is ne ahead = elim (cases_eq a t) [
        | inl e ↦ was.linked a b own (subst (λ j. progress_at walk.progress j ≡ Open own) (sym e)
            opened) ahead ne
        | inr other ↦ elim (cases_eq t b) [
          | inl e ↦ subst (Path edges a) e (leads_to_last a place is other)
          | inr onward ↦ joined edges a t b (leads_to_last a place is other)
              (was.linked t b own opened ahead onward)
        ]
      ]

      pub linked_united : AreLinked edges (record walk { groups = groups })
      linked_united = record {
        linked = λ a b place is ahead ne. elim (cases_lt own place) [
          | inl later ↦ leads_over a b place is ne (ahead_in_all place own b
              (λ P. of_own P place (omega (arith, later))) ahead)
          | inr before ↦ was.linked a b place is (ahead_in_all place place b
              (λ P. of_before P place before) ahead) ne
        ];
        closed = λ a b place is leads. elim (was.closed a b place is leads) [
          | inl done ↦ inl done
          | inr ahead ↦ elim (ahead_less place b ahead) [
            | inl still ↦ inr (ahead_in_fewer place b still)
            | inr e ↦ inr (inl (
              own,
              subst (λ j. progress_at walk.progress j ≡ Open own) e opened,
              λ group has le. until group has,
            ))
          ]
        ];
      }

    module _ (listed : AreListed edges (with_waiting walk (t ∷ [])))
        (grouped : AreGrouped (with_waiting walk (t ∷ []))) (targets : List ℕ)
        (row : targets ≡ get_or edges t []) (fresh : progress_at walk.progress t ≡ Fresh)
        (lt : t < length walk.progress) where
      abbrev own : Group
      own = record { first = length walk.opened; waiting = length walk.waiting }

      abbrev new : Walk
      new = with_waiting (with_open walk t) targets

      -- open numbers stood before it
      before : (a place : ℕ) → progress_at walk.progress a ≡ Open place → place < length walk.opened
      before a place is = slice_get_within walk.opened place a ((listed.placed a place).0 is)

      other_than : (a place : ℕ) → progress_at walk.progress a ≡ Open place → a ≢ t
      other_than a place is e = fresh_not_open place (sym fresh
          ∙ subst (λ j. progress_at walk.progress j ≡ Open place) e is)

      leads_here : (a place : ℕ) → progress_at walk.progress a ≡ Open place → Path edges a t
      leads_here a place is = leads_to_last a place is (other_than a place is)

      cases_new : (k : ℕ) → ((k ≡ t) × (progress_at new.progress k ≡ Open (length walk.opened)))
          ⊎ ((k ≢ t) × (progress_at new.progress k ≡ progress_at walk.progress k))
      cases_new k = cases_set walk.progress t k (Open (length walk.opened)) lt

      -- what waits after the others is a target of the number
      is_target : (b at : ℕ) → length walk.waiting ≤ at
          → slice_get (walk.waiting ++ targets) at ≡ Some b → IsEdge edges t b
      is_target b at le e = subst (λ l. Contains l b) row (member_at targets (at - length walk.waiting)
          b (sym (slice_get_second walk.waiting targets at le) ∙ e))

      linked_from : (b : ℕ) → IsAhead new (length walk.opened) b → t ≢ b → Path edges t b
      linked_from b (inl (q, e, of)) ne = elim (cases_new b) [
        | inl (same, now) ↦ absurd (ne (sym same))
        | inr (other, was) ↦ absurd
            (let under = before b q (sym was ∙ e) in
            let le = of own (Contains-push walk.groups own) (omega arith) in
            omega (arith, under, le))
      ]
      linked_from b (inr (at, e, of)) ne =
          one b (is_target b at (of own (Contains-push walk.groups own) (omega arith)) e)

      linked_old : (a b place : ℕ) → progress_at walk.progress a ≡ Open place → IsAhead new place b
          → a ≢ b → Path edges a b
      linked_old a b place is (inl (q, e, of)) ne = elim (cases_new b) [
        | inl (same, now) ↦ subst (Path edges a) (sym same) (leads_here a place is)
        | inr (other, still) ↦ was.linked a b place is (inl (
          q,
          sym still ∙ e,
          λ group has le.
              of group (Contains-append_left walk.groups (own ∷ []) group has) le,
        )) ne
      ]
      linked_old a b place is (inr (at, e, of)) ne = elim (cases_lt at (length walk.waiting)) [
        | inl old ↦ was.linked a b place is (inr (
          at,
          slice_get_before walk.waiting (t ∷ []) at b
              (sym (slice_get_first walk.waiting targets at old) ∙ e),
          λ group has le.
              of group (Contains-append_left walk.groups (own ∷ []) group has) le,
        )) ne
        | inr le ↦ more t b (leads_here a place is) (is_target b at le e)
      ]

      closed_from : (b : ℕ) → IsEdge edges t b → IsAhead new (length walk.opened) b
      closed_from b leads =
          let (j, e) = stands_at targets b (subst (λ l. Contains l b) (sym row) leads) in
          inr (
            length walk.waiting + j,
            slice_get_after walk.waiting targets j ∙ e,
            λ group has le.
                elim (Contains-push_cases walk.groups own group has) [
                  | inl old ↦ (let under = waits_before walk t last group old in omega (arith, under))
                  | inr same ↦ subst (λ (g : Group). g.waiting ≤ length walk.waiting + j) same
                      (omega arith)
                ],
          )

      -- the new group is no group of a place before it
      of_new : (P : Group → Type 0) (place : ℕ) → place < length walk.opened
          → OfGroups P walk.groups place → OfGroups P new.groups place
      of_new P place under of group has le = elim (Contains-push_cases walk.groups own group has) [
        | inl old ↦ of group old le
        | inr same ↦ absurd (let first : length walk.opened ≤ place =
            subst (λ (g : Group). g.first ≤ place) (sym same) le in omega (arith, first, under))
      ]

      ahead_old : (place b : ℕ) → place < length walk.opened
          → IsAhead (with_waiting walk (t ∷ [])) place b → IsAhead new place b
      ahead_old place b under (inl (q, e, of)) = elim (cases_new b) [
        | inl (same, now) ↦ absurd (other_than b q e same)
        | inr (other, still) ↦ inl (
          q,
          still ∙ e,
          of_new (λ (group : Group). group.first ≤ q) place under of,
        )
      ]
      ahead_old place b under (inr (at, e, of)) = elim (cases_lt at (length walk.waiting)) [
        | inl old ↦ inr (
          at,
          slice_get_before walk.waiting targets at b
              (sym (slice_get_first walk.waiting (t ∷ []) at old) ∙ e),
          of_new (λ (group : Group). group.waiting ≤ at) place under of,
        )
        | inr le ↦
            (let end = slice_get_within (walk.waiting ++ t ∷ []) at b e in
            let last : length walk.waiting ≡ at =
            omega (arith, end, le, length_push walk.waiting t) in
            let same : t ≡ b = some_injective (sym (at_seam walk.waiting t [])
            ∙ ap (slice_get (walk.waiting ++ t ∷ [])) last ∙ e) in
            elim (cases_new b) [
              | inl (_, now) ↦ inl (
                length walk.opened,
                now,
                of_new (λ (group : Group). group.first ≤ length walk.opened) place under
                    (λ group has below. let lower = (grouped.grounded group has).0 in
                    omega (arith, lower)),
              )
              | inr (other, still) ↦ absurd (other (sym same))
            ])
      ]

      pub linked_open : AreLinked edges (with_waiting (with_open walk t) targets)
      linked_open = record {
        linked = λ a b place is ahead ne. elim (cases_new a) [
          | inl (same, now) ↦
              (let at : length walk.opened ≡ place = same_place _ _ (sym now ∙ is) in
              subst (λ j. Path edges j b) (sym same) (linked_from b
              (subst (λ p. IsAhead new p b) (sym at) ahead) (λ e. ne (same ∙ e))))
          | inr (other, still) ↦ linked_old a b place (sym still ∙ is) ahead ne
        ];
        closed = λ a b place is leads. elim (cases_new a) [
          | inl (same, now) ↦
              (let at : length walk.opened ≡ place = same_place _ _ (sym now ∙ is) in
              inr (subst (λ p. IsAhead new p b) at
              (closed_from b (subst (λ j. IsEdge edges j b) same leads))))
          | inr (other, still) ↦ elim (was.closed a b place (sym still ∙ is) leads) [
            | inl done ↦ elim (cases_new b) [
              | inl (same, now) ↦ absurd (fresh_not_settled (sym fresh
                  ∙ subst (λ j. progress_at walk.progress j ≡ Settled) same done))
              | inr (_, kept) ↦ inl (kept ∙ done)
            ]
            | inr ahead ↦ inr (ahead_old place b (before a place (sym still ∙ is)) ahead)
          ]
        ];
      }
