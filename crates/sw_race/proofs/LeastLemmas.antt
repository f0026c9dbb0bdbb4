-- The least race of a state is that of the first job that is in one.
use Rattle.std.proofs.Common.{◌≡◌, ℕ, ◌+◌, ◌<◌, ◌≤◌, ◌⊎◌, inl, inr, eqb, Bool, true, false, cond}
use Rattle.std.proofs.Common.{Some, None, ap, sym, ◌∙◌, arith, length}
use Rattle.std.specs.List.{slice_get}
use Rattle.std.specs.Prelude.{option_and_then, is_some}
use Rattle.std.proofs.lemmas.Bool.{cases_order}
use Rattle.std.proofs.lemmas.Bool.Decides.{nat_tests}
use Rattle.std.proofs.lemmas.Option.{slice_get_past}
use Rattle.sw_graph.specs.declared.graph.Graph.{Graph}
use Rattle.sw_value.specs.declared.race.Access.{Access}
use Rattle.sw_value.specs.declared.race.Race.{Race}
use Rattle.sw_value.specs.declared.state.State.{State}
use Rattle.sw_value.specs.Access.{job_access, next_access}
use Rattle.sw_value.specs.Racing.{IsRace, IsNoLater}
use Rattle.sw_race.specs.Index.{IsFoundOfAll}
use Rattle.sw_race.specs.With.{other_of, IsFound}

-- no race has its first job among the first n
pub NoneBefore : Graph → State → ℕ → Type 0
NoneBefore graph state n = (race : Race) → IsRace graph state race → n ≤ race.first.job

pub none_first : (graph : Graph) (state : State) → NoneBefore graph state 0
unfolding NoneBefore
none_first graph state race is = omega arith

pub none_next : (graph : Graph) (state : State) (j : ℕ) → NoneBefore graph state j
    → IsFound graph state j None → NoneBefore graph state (j + 1)
unfolding NoneBefore
none_next graph state j before none race is = elim (cases_order j race.first.job) [
  | inl e ↦ absurd (none race (record { is_race = is; takes_part = inl (sym e) }))
  | inr (inl less) ↦ omega (arith, less)
  | inr (inr more) ↦ let low = before race is in absurd (omega (arith, low, more))
]

-- the race of the first job that is in one
pub least_found : (graph : Graph) (state : State) (j : ℕ) (race : Race)
    → NoneBefore graph state j → IsFound graph state j (Some race)
    → IsFoundOfAll graph state (Some race)
unfolding NoneBefore
least_found graph state j race before found = record {
  is_race = found.is_race_of.is_race;
  least = λ other is. least other is;
} where
  one : IsRace graph state race
  one = found.is_race_of.is_race

  low : j ≤ race.first.job
  low = before race one

  first : race.first.job ≡ j
  first = by found.is_race_of.takes_part where
    by : (race.first.job ≡ j) ⊎ (race.second.job ≡ j) → race.first.job ≡ j
    by (inl e) = e
    by (inr e) = let order = one.order in absurd (omega (arith, e, order, low))

  other_is : (r : Race) → r.first.job ≡ j → other_of j r ≡ r.second.job
  other_is r e =
      let test : eqb r.first.job j ≡ true = grind (arith, nat_tests, e) in
      ap (λ b. cond b r.second.job r.first.job) test

  least : (other : Race) → IsRace graph state other → IsNoLater race other
  least other is = by (cases_order j other.first.job) where
    by : (j ≡ other.first.job) ⊎ ((j < other.first.job) ⊎ (other.first.job < j))
        → IsNoLater race other
    by (inl e) =
        let less = found.least other (record { is_race = is; takes_part = inl (sym e) }) in
        let mine = other_is race first in
        let its = other_is other (sym e) in
        inr (first ∙ e, omega (arith, less, mine, its))
    by (inr (inl less)) = inl (omega (arith, first, less))
    by (inr (inr more)) = let lowest = before other is in absurd (omega (arith, lowest, more))

-- a race is of jobs that are there
within : (graph : Graph) (state : State) (j : ℕ) (a : Access) → next_access graph state j ≡ Some a
    → length state.jobs ≤ j → ⊥
unfolding next_access
within graph state j a next past = by (is_some state.halted) next where
  none : slice_get state.jobs j ≡ None
  none = slice_get_past state.jobs j past

  by : (halted : Bool)
      → cond halted None (option_and_then (job_access graph state j) (slice_get state.jobs j))
      ≡ Some a → ⊥
  by true e = cc
  by false e =
      let all = ap (option_and_then (job_access graph state j)) none in
      cc (sym e ∙ all)

pub none_at_all : (graph : Graph) (state : State) (j : ℕ) → NoneBefore graph state j
    → length state.jobs ≤ j → IsFoundOfAll graph state None
unfolding NoneBefore
none_at_all graph state j before past (race, is) =
    let low = before race is in
    within graph state race.first.job race.first is.first_next (omega (arith, low, past))

pub ruleset searches = (none_first, none_next, least_found)
