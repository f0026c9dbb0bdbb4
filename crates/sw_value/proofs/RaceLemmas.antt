-- Every state has a least race or none, and it has one least race.
use Rattle.std.proofs.Common.{◌≡◌, ℕ, zero, suc, ◌<◌, ◌≤◌, Bool, true, false, ◌||◌, cond}
use Rattle.std.proofs.Common.{Option, Some, None, length, refl, ap, sym, subst, ◌∙◌, arith}
use Rattle.std.proofs.Common.{inl, inr, ◌⊎◌}
use Rattle.std.specs.Prelude.{option_and_then, is_some}
use Rattle.std.specs.List.{slice_get}
use Rattle.std.proofs.lemmas.Bool.{cases_order, cases_lt, cases_eq, cases_Bool}
use Rattle.std.proofs.lemmas.Option.{slice_get_within}
use Rattle.sw_list.proofs.ListLemmas.{some_injective}
use Rattle.sw_graph.specs.declared.graph.Graph.{Graph}
use Rattle.sw_value.specs.declared.job.Job.{Job}
use Rattle.sw_value.specs.declared.race.Access.{Access}
use Rattle.sw_value.specs.declared.race.Place.{Place}
use Rattle.sw_value.specs.declared.race.Place.TheVariants.{Prop, Global, BoxOf}
use Rattle.sw_value.specs.declared.race.Race.{Race}
use Rattle.sw_value.specs.declared.state.State.{State}
use Rattle.sw_value.specs.Access.{job_access, next_access}
use Rattle.sw_value.specs.Racing.{IsConflict, IsRace, Racing, IsNoLater, IsLeastRace}
use Rattle.sw_value.proofs.AccessLemmas.{next_names_its_job}

-- a fact holds, or it does not
abbrev pub Decided : Type 0 → Type 0
Decided P = P ⊎ (P → ⊥)

-- the least number below n for which a fact holds
pub record IsLeast (P : ℕ → Type 0) (n m : ℕ) : Type 0 where
  pub within : m < n
  pub holds : P m
  pub first : (k : ℕ) → k < m → P k → ⊥

pub find_least : (P : ℕ → Type 0) → ((k : ℕ) → Decided (P k)) → (n : ℕ) → ((m : ℕ) × IsLeast P n m)
    ⊎ ((k : ℕ) → k < n → P k → ⊥)
find_least P decide zero = inr (λ k below p. absurd (omega arith))
find_least P decide (suc n) = by (find_least P decide n) (decide n) where
  by : ((m : ℕ) × IsLeast P n m) ⊎ ((k : ℕ) → k < n → P k → ⊥) → Decided (P n)
      → ((m : ℕ) × IsLeast P (suc n) m) ⊎ ((k : ℕ) → k < suc n → P k → ⊥)
  by (inl (m, least)) _ =
      let below = least.within in
      inl (m, record { within = omega (arith, below); holds = least.holds; first = least.first })
  by (inr none) (inl p) = inl (n, record { within = omega arith; holds = p; first = none })
  by (inr none) (inr not) = inr (λ k below p. elim (cases_lt k n) [
    | inl less ↦ none k less p
    | inr more ↦ let last : k ≡ n = omega arith in not (subst P last p)
  ])

same_place : (p q : Place) → Decided (p ≡ q)
same_place (Prop c i) (Prop d j) = by (cases_eq c d) (cases_eq i j) where
  by : (c ≡ d) ⊎ (c ≡ d → ⊥) → (i ≡ j) ⊎ (i ≡ j → ⊥) → Decided (Prop c i ≡ Prop d j)
  by (inl e) (inl f) = inl (ap (λ x. Prop x i) e ∙ ap (Prop d) f)
  by (inr n) _ = inr (λ h. n cc)
  by (inl e) (inr n) = inr (λ h. n cc)
same_place (Global g) (Global h) = by (cases_eq g h) where
  by : (g ≡ h) ⊎ (g ≡ h → ⊥) → Decided (Global g ≡ Global h)
  by (inl e) = inl (ap Global e)
  by (inr n) = inr (λ same. n cc)
same_place (BoxOf c) (BoxOf d) = by (cases_eq c d) where
  by : (c ≡ d) ⊎ (c ≡ d → ⊥) → Decided (BoxOf c ≡ BoxOf d)
  by (inl e) = inl (ap BoxOf e)
  by (inr n) = inr (λ same. n cc)
same_place (Prop c i) (Global h) = inr (λ same. cc)
same_place (Prop c i) (BoxOf d) = inr (λ same. cc)
same_place (Global g) (Prop d j) = inr (λ same. cc)
same_place (Global g) (BoxOf d) = inr (λ same. cc)
same_place (BoxOf c) (Prop d j) = inr (λ same. cc)
same_place (BoxOf c) (Global h) = inr (λ same. cc)

conflict_decided : (a b : Access) → Decided (IsConflict a b)
conflict_decided a b = by (same_place a.place b.place) (cases_Bool (a.writes || b.writes)) where
  by : Decided (a.place ≡ b.place) → ((a.writes || b.writes) ≡ true)
      ⊎ ((a.writes || b.writes) ≡ false) → Decided (IsConflict a b)
  by (inl e) (inl w) = inl (record { same = e; writes = w })
  by (inr n) _ = inr (λ c. n c.same)
  by (inl e) (inr r) = inr (λ c. let w = c.writes in cc)

-- jobs i and j race, i the first
record IsRaceOf (graph : Graph) (state : State) (i j : ℕ) : Type 0 where
  one : Access
  other : Access
  order : i < j
  one_next : next_access graph state i ≡ Some one
  other_next : next_access graph state j ≡ Some other
  conflict : IsConflict one other

race_decided : (graph : Graph) (state : State) (i j : ℕ) → Decided (IsRaceOf graph state i j)
race_decided graph state i j =
    by (cases_lt i j) (next_access graph state i) refl (next_access graph state j) refl where
      by_conflict : i < j → (a : Access) → next_access graph state i ≡ Some a → (b : Access)
          → next_access graph state j ≡ Some b → Decided (IsConflict a b)
          → Decided (IsRaceOf graph state i j)
      by_conflict less a e b f (inl c) =
          inl
          (record { one = a; other = b; order = less; one_next = e; other_next = f; conflict = c })
      by_conflict less a e b f (inr n) = inr (λ r.
          let one : r.one ≡ a = some_injective (sym r.one_next ∙ e) in
          let other : r.other ≡ b = some_injective (sym r.other_next ∙ f) in
          n (subst (λ x. IsConflict x b) one (subst (IsConflict r.one) other r.conflict)))

      by : (i < j) ⊎ (j ≤ i) → (o : Option Access) → next_access graph state i ≡ o
          → (p : Option Access)
          → next_access graph state j ≡ p → Decided (IsRaceOf graph state i j)
      by (inr more) _ _ _ _ = inr (λ r. let less = r.order in absurd (omega (arith, less, more)))
      by (inl less) None e _ _ = inr (λ r. let some = r.one_next in cc)
      by (inl less) (Some a) e None f = inr (λ r. let some = r.other_next in cc)
      by (inl less) (Some a) e (Some b) f = by_conflict less a e b f (conflict_decided a b)

race_of : (graph : Graph) (state : State) (i j : ℕ) → (r : IsRaceOf graph state i j)
    → (r.one.job ≡ i) × (r.other.job ≡ j)
    × IsRace graph state (record { first = r.one; second = r.other })
race_of graph state i j r =
    let first = next_names_its_job graph state i r.one r.one_next in
    let second = next_names_its_job graph state j r.other r.other_next in
    let less = r.order in (
      first,
      second,
      record {
        order = omega (arith, first, second, less);
        first_next = ap (next_access graph state) first ∙ r.one_next;
        second_next = ap (next_access graph state) second ∙ r.other_next;
        conflict = r.conflict;
      },
    )

of_race : (graph : Graph) (state : State) (race : Race) → IsRace graph state race
    → IsRaceOf graph state race.first.job race.second.job
of_race graph state race is = record {
  one = race.first;
  other = race.second;
  order = is.order;
  one_next = is.first_next;
  other_next = is.second_next;
  conflict = is.conflict;
}

-- a job that accesses something is there
next_within : (graph : Graph) (state : State) (j : ℕ) (a : Access)
    → next_access graph state j ≡ Some a → j < length state.jobs
unfolding next_access
next_within graph state j a = by_halt (is_some state.halted) where
  by_job : (o : Option Job) → slice_get state.jobs j ≡ o
      → option_and_then (job_access graph state j) o ≡ Some a → j < length state.jobs
  by_job None _ h = cc
  by_job (Some job) there h = slice_get_within state.jobs j job there

  by_halt : (b : Bool) → cond b None
      (option_and_then (job_access graph state j) (slice_get state.jobs j)) ≡ Some a
      → j < length state.jobs
  by_halt true h = cc
  by_halt false h = by_job (slice_get state.jobs j) refl h

-- job i races with a job of a higher number, or with none
races_decided : (graph : Graph) (state : State) (i : ℕ)
    → Decided ((j : ℕ) × IsLeast (IsRaceOf graph state i) (length state.jobs) j)
races_decided graph state i =
    by (find_least (IsRaceOf graph state i) (race_decided graph state i) (length state.jobs)) where
      by : ((j : ℕ) × IsLeast (IsRaceOf graph state i) (length state.jobs) j)
          ⊎ ((k : ℕ) → k < length state.jobs → IsRaceOf graph state i k → ⊥)
          → Decided ((j : ℕ) × IsLeast (IsRaceOf graph state i) (length state.jobs) j)
      by (inl least) = inl least
      by (inr none) = inr (λ (j, least). none j least.within least.holds)

-- the least job that job i races with, where it races
least_second : (graph : Graph) (state : State) (i j : ℕ) → IsRaceOf graph state i j → (k : ℕ)
    × IsLeast (IsRaceOf graph state i) (length state.jobs) k
least_second graph state i j r =
    by (find_least (IsRaceOf graph state i) (race_decided graph state i) (length state.jobs)) where
      by : ((k : ℕ) × IsLeast (IsRaceOf graph state i) (length state.jobs) k)
          ⊎ ((k : ℕ) → k < length state.jobs → IsRaceOf graph state i k → ⊥) → (k : ℕ)
          × IsLeast (IsRaceOf graph state i) (length state.jobs) k
      by (inl least) = least
      by (inr none) = absurd (none j (next_within graph state j r.other r.other_next) r)

pub least_race : (graph : Graph) (state : State) → ((race : Race) × IsLeastRace graph state race)
    ⊎ (Racing graph state → ⊥)
least_race graph state = by
    (find_least (λ i. (j : ℕ) × IsLeast (IsRaceOf graph state i) (length state.jobs) j)
    (races_decided graph state) (length state.jobs)) where
      no_later : (i j : ℕ) → ((k : ℕ) → k < i
          → ((l : ℕ) × IsLeast (IsRaceOf graph state k) (length state.jobs) l) → ⊥)
          → ((l : ℕ) → l < j → IsRaceOf graph state i l → ⊥) → (race other : Race)
          → race.first.job ≡ i
          → race.second.job ≡ j → IsRace graph state other → IsNoLater race other
      no_later i j first second race other one two is = elim (cases_order i other.first.job) [
        | inl e ↦ inr (
          one ∙ e,
          elim (cases_lt other.second.job j) [
            | inl less ↦ absurd (second other.second.job less
                (subst (λ k. IsRaceOf graph state k other.second.job) (sym e)
                (of_race graph state other is)))
            | inr more ↦ omega (arith, two, more)
          ],
        )
        | inr (inl less) ↦ inl (omega (arith, one, less))
        | inr (inr more) ↦ absurd
            (first other.first.job more
            (least_second graph state other.first.job other.second.job
            (of_race graph state other is)))
      ]

      by : ((i : ℕ)
          × IsLeast (λ i. (j : ℕ) × IsLeast (IsRaceOf graph state i) (length state.jobs) j)
          (length state.jobs) i)
          ⊎ ((i : ℕ) → i < length state.jobs
          → ((j : ℕ) × IsLeast (IsRaceOf graph state i) (length state.jobs) j) → ⊥)
          → ((race : Race) × IsLeastRace graph state race) ⊎ (Racing graph state → ⊥)
      by (inl (i, least)) =
          let j = least.holds.0 in
          let r = least.holds.1.holds in
          let is = race_of graph state i j r in
          let race : Race = record { first = r.one; second = r.other } in
          inl (
            race,
            record {
              is_race = is.2;
              least =
                  λ other other_is.
                  no_later i j least.first least.holds.1.first race other is.0 is.1
                  other_is;
            },
          )
      by (inr none) = inr (λ (race, is).
          none race.first.job (next_within graph state race.first.job race.first is.first_next)
          (least_second graph state race.first.job race.second.job (of_race graph state race is)))

-- two races of the same jobs are one
same_race : (graph : Graph) (state : State) (a b : Race) → IsRace graph state a
    → IsRace graph state b → a.first.job ≡ b.first.job → a.second.job ≡ b.second.job → a ≡ b
same_race graph state a b one other e f =
    let first : a.first ≡ b.first =
    some_injective (sym one.first_next ∙ ap (next_access graph state) e ∙ other.first_next) in
    let second : a.second ≡ b.second =
    some_injective (sym one.second_next ∙ ap (next_access graph state) f ∙ other.second_next) in
    ap (λ x. record { first = x; second = a.second }) first
    ∙ ap (λ x. record { first = b.first; second = x }) second

pub one_least_race : (graph : Graph) (state : State) (a b : Race) → IsLeastRace graph state a
    → IsLeastRace graph state b → a ≡ b
one_least_race graph state a b one other =
    by (one.least b other.is_race) (other.least a one.is_race) where
      by : IsNoLater a b → IsNoLater b a → a ≡ b
      by (inl less) (inl more) = absurd (omega (arith, less, more))
      by (inl less) (inr (e, _)) = absurd (omega (arith, less, e))
      by (inr (e, _)) (inl more) = absurd (omega (arith, more, e))
      by (inr (e, f)) (inr (_, g)) =
          same_race graph state a b one.is_race other.is_race e (omega (arith, f, g))
