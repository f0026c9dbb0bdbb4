-- Facts that are decided: whether accesses conflict, and the best number of which a fact holds.
use Rattle.std.proofs.Common.{◌≡◌, ℕ, zero, suc, ◌<◌, ◌≤◌, ◌⊎◌, inl, inr, ◌||◌}
use Rattle.std.proofs.Common.{subst, ap, ◌∙◌, arith}
use Rattle.std.proofs.lemmas.Bool.{cases_eq, cases_lt, cases_Bool}
use Rattle.sw_value.specs.declared.race.Access.{Access}
use Rattle.sw_value.specs.declared.race.Place.{Place}
use Rattle.sw_value.specs.declared.race.Place.TheVariants.{Prop, Global, BoxOf}
use Rattle.sw_value.specs.Racing.{IsConflict}
use Rattle.sw_value.proofs.RaceLemmas.{Decided}

same_place : (p q : Place) → Decided (p ≡ q)
same_place (Prop c i) (Prop d j) = elim (cases_eq c d) [
  | inl e ↦ elim (cases_eq i j) [
    | inl f ↦ inl (ap (λ x. Prop x i) e ∙ ap (Prop d) f)
    | inr other ↦ inr (λ same. other cc)
  ]
  | inr other ↦ inr (λ same. other cc)
]
same_place (Global g) (Global h) = elim (cases_eq g h) [
  | inl e ↦ inl (ap Global e)
  | inr other ↦ inr (λ same. other cc)
]
same_place (BoxOf c) (BoxOf d) = elim (cases_eq c d) [
  | inl e ↦ inl (ap BoxOf e)
  | inr other ↦ inr (λ same. other cc)
]
same_place (Prop c i) (Global h) = inr (λ same. cc)
same_place (Prop c i) (BoxOf d) = inr (λ same. cc)
same_place (Global g) (Prop d j) = inr (λ same. cc)
same_place (Global g) (BoxOf d) = inr (λ same. cc)
same_place (BoxOf c) (Prop d j) = inr (λ same. cc)
same_place (BoxOf c) (Global h) = inr (λ same. cc)

pub conflict_decided : (a b : Access) → Decided (IsConflict a b)
conflict_decided a b = elim (same_place a.place b.place) [
  | inr other ↦ inr (λ c. other c.same)
  | inl same ↦ elim (cases_Bool (a.writes || b.writes)) [
    | inl writes ↦ inl (record { same = same; writes = writes })
    | inr reads ↦ inr (λ c. let writes = c.writes in cc)
  ]
]

-- Of the numbers below n of which a fact holds, the last of those with the least value.
pub record IsBest (P : ℕ → Type 0) (value : ℕ → ℕ) (n p : ℕ) : Type 0 where
  pub within : p < n
  pub holds : P p
  pub least : (i : ℕ) → i < n → P i → value p ≤ value i
  pub latest : (i : ℕ) → i < n → P i → value i ≡ value p → i ≤ p

module _ (P : ℕ → Type 0) (value : ℕ → ℕ) (decide : (k : ℕ) → Decided (P k)) where
  abbrev Outcome : ℕ → Type 0
  Outcome n = ((p : ℕ) × IsBest P value n p) ⊎ ((k : ℕ) → k < n → P k → ⊥)

  -- one below n + 1 is below n, or n
  below_or_at : (n i : ℕ) → i < suc n → (i < n) ⊎ (i ≡ n)
  below_or_at n i below = elim (cases_lt i n) [
    | inl less ↦ inl less
    | inr more ↦ inr (omega (arith, below, more))
  ]

  -- n doesn't count, or it is no better
  kept : (n p : ℕ) → IsBest P value n p → (P n → value p < value n) → IsBest P value (suc n) p
  kept n p best worse = record {
    within = omega (arith, best.within);
    holds = best.holds;
    least = λ i below holds. elim (below_or_at n i below) [
      | inl less ↦ best.least i less holds
      | inr at ↦ omega (arith, worse (subst P at holds), ap value at)
    ];
    latest = λ i below holds same. elim (below_or_at n i below) [
      | inl less ↦ best.latest i less holds same
      | inr at ↦ absurd (omega (arith, worse (subst P at holds), ap value at, same))
    ];
  }

  -- n is no worse than all below
  taken : (n : ℕ) → P n → ((i : ℕ) → i < n → P i → value n ≤ value i) → IsBest P value (suc n) n
  taken n holds no_worse = record {
    within = omega arith;
    holds = holds;
    least = λ i below other. elim (below_or_at n i below) [
      | inl less ↦ no_worse i less other
      | inr at ↦ omega (arith, ap value at)
    ];
    latest = λ i below other same. omega (arith, below);
  }

  pub find_best : (n : ℕ) → Outcome n
  find_best zero = inr (λ k below holds. absurd (omega (arith, below)))
  find_best (suc n) = by (find_best n) (decide n)
    where
      by : Outcome n → Decided (P n) → Outcome (suc n)
      by (inl (p, best)) (inr not) = inl (p, kept n p best (λ holds. absurd (not holds)))
      by (inl (p, best)) (inl holds) = elim (cases_lt (value p) (value n)) [
        | inl worse ↦ inl (p, kept n p best (λ _. worse))
        | inr better ↦ inl (
          n,
          taken n holds (λ i less other.
              omega (arith, better, best.least i less other)),
        )
      ]
      by (inr none) (inl holds) =
          inl (n, taken n holds (λ i less other. absurd (none i less other)))
      by (inr none) (inr not) = inr (λ k below holds. elim (below_or_at n k below) [
        | inl less ↦ none k less holds
        | inr at ↦ not (subst P at holds)
      ])
