-- The first unordered pair, found among the rivals of one more event.
use Rattle.std.proofs.Common.{◌≡◌, ◌↔◌, ℕ, ◌<◌, ◌≤◌, ◌⊎◌, inl, inr, Option, Some, None, List, []}
use Rattle.std.proofs.Common.{◌∷◌, ◌++◌, length, refl, sym, subst, ap, ◌∙◌, arith}
use Rattle.std.proofs.Common.{append_assoc, append-nil}
use Rattle.std.specs.List.{slice_get}
use Rattle.std.specs.Option.{option_and_then}
use Rattle.std.proofs.lemmas.Bool.{cases_eq, cases_lt}
use Rattle.std.proofs.lemmas.Option.{slice_get-get_or}
use Rattle.sw_list.proofs.ListLemmas.{some_injective, slice_get_before}
use Rattle.sw_value.specs.declared.race.Access.{Access}
use Rattle.sw_value.specs.Transition.{Transition}
use Rattle.sw_value.proofs.RaceLemmas.{Decided}
use Rattle.sw_before.specs.Before.{Before}
use Rattle.sw_before.specs.Clocks.{rank_of, heard, clocks_of}
use Rattle.sw_before.specs.Rivals.{IsRival, IsLatestRival, IsUnheard, IsFirstUnheard}
use Rattle.sw_before.specs.Unordered.{AccessesAt, IsFirstUnordered, AreOrdered}
use Rattle.sw_before.specs.Unordered.{AreNamed}
use Rattle.sw_before.proofs.BeforeLemmas.{before_rises}
use Rattle.sw_before.proofs.ClockLemmas.{are_clocks, before_next}
use Rattle.sw_before.proofs.CountLemmas.{rank_mono}
use Rattle.sw_before.proofs.PairLemmas.{one_access, access_within, first_stays, none_without}
use Rattle.sw_before.proofs.PairLemmas.{none_left, first_of}
use Rattle.sw_before.proofs.Searching.{conflict_decided, find_best}

-- ---- rivals are decided
module _ (events : List Transition) where
  access_decided : (p : ℕ) → ((a : Access) × AccessesAt events p a)
      ⊎ ((a : Access) → AccessesAt events p a → ⊥)
  access_decided p = by (slice_get events p) refl
    where
      by_event : (t : Transition) → slice_get events p ≡ Some t → (o : Option Access)
          → t.accesses ≡ o → ((a : Access) × AccessesAt events p a)
          ⊎ ((a : Access) → AccessesAt events p a → ⊥)
      by_event t is (Some a) makes = inl (a, record { event = t; is_event = is; makes = makes })
      by_event t is None quiet = inr (λ a at.
          let same : t ≡ at.event = some_injective (sym is ∙ at.is_event) in
          let none : at.event.accesses ≡ None =
          ap (λ (x : Transition). x.accesses) (sym same) ∙ quiet in
          let some = at.makes in cc)

      by : (o : Option Transition) → slice_get events p ≡ o
          → ((a : Access) × AccessesAt events p a) ⊎ ((a : Access) → AccessesAt events p a → ⊥)
      by (Some t) is = by_event t is t.accesses refl
      by None is = inr (λ a at. let some = at.is_event in cc)

  rival_decided : (b : Access) (p : ℕ) (a : Access) → AccessesAt events p a
      → Decided (IsRival events b p a)
  rival_decided b p a at = elim (cases_eq a.job b.job) [
    | inl same ↦ inr (λ rival. rival.jobs same)
    | inr other ↦ elim (conflict_decided a b) [
      | inl conflict ↦ inl (record { there = at; jobs = other; conflict = conflict })
      | inr none ↦ inr (λ rival. none rival.conflict)
    ]
  ]

  -- whether the event at p is a rival of which something holds that is decided
  rival_with : (b : Access) (p : ℕ) (Q : Access → Type 0) → ((a : Access) → Decided (Q a))
      → Decided ((a : Access) × IsRival events b p a × Q a)
  rival_with b p Q decide = elim (access_decided p) [
    | inr none ↦ inr (λ (a, rival, q). none a rival.there)
    | inl (a, at) ↦ elim (rival_decided b p a at) [
      | inr not ↦ inr (λ (c, rival, q).
          not (subst (IsRival events b p) (one_access events p c a rival.there at) rival))
      | inl is ↦ elim (decide a) [
        | inl q ↦ inl (a, is, q)
        | inr not ↦ inr (λ (c, rival, q).
            not (subst Q (one_access events p c a rival.there at) q))
      ]
    ]
  ]

  abbrev RivalOf : Access → ℕ → ℕ → Type 0
  RivalOf b job p = (a : Access) × IsRival events b p a × (a.job ≡ job)

  -- a job that has a rival has a latest one
  pub latest_rival : (b : Access) (i : ℕ) (c : Access) → IsRival events b i c
      → (p : ℕ) × (a : Access) × IsLatestRival events b p a × (a.job ≡ c.job) × (i ≤ p)
  latest_rival b i c rival = elim (find_best (RivalOf b c.job) (λ _. 0) decide (length events)) [
    | inr none ↦ absurd (none i inside (c, rival, refl))
    | inl (p, best) ↦ (
        let (a, is, job) = best.holds in (
          p,
          a,
          record {
            rival = is;
            latest = λ k d other same. best.latest k (access_within events k d other.there)
                (d, other, same ∙ job) refl;
          },
          job,
          best.latest i inside (c, rival, refl) refl,
        )
        )
  ]
    where
      decide : (k : ℕ) → Decided (RivalOf b c.job k)
      decide k = rival_with b k (λ a. a.job ≡ c.job) (λ a. cases_eq a.job c.job)

      inside : i < length events
      inside = access_within events i c rival.there

-- the job of the access at a position, if there is one
job_of : Option Access → ℕ
job_of None = 0
job_of (Some a) = a.job

abbrev job_at : List Transition → ℕ → ℕ
job_at events p = job_of (option_and_then (λ t. t.accesses) (slice_get events p))

at_job : (events : List Transition) (p : ℕ) (a : Access) → AccessesAt events p a
    → job_at events p ≡ a.job
unfolding job_of
at_job events p a at =
    ap (λ o. job_of (option_and_then (λ (t : Transition). t.accesses) o)) at.is_event
    ∙ ap job_of at.makes

-- ---- one more event
module _ (events : List Transition) (e : Transition) where
  abbrev longer : List Transition
  longer = events ++ e ∷ []

  abbrev clock : ℕ → ℕ
  clock = heard (clocks_of events) e

  before_decided : (p : ℕ) → Decided (Before longer p (length events))
  before_decided p = by (slice_get events p) refl
    where
      by : (o : Option Transition) → slice_get events p ≡ o
          → Decided (Before longer p (length events))
      by None none = inr (λ before.
          let is = slice_get-get_or events p e (before_rises longer p (length events) before) in
          cc)
      by (Some t) is =
          let next = before_next events (clocks_of events) (are_clocks events) e p t is in
          elim (cases_lt (clock t.job) (rank_of t.job events p)) [
            | inl unheard ↦ inr (λ before. omega (arith, unheard, next.0 before))
            | inr heard ↦ inl (next.1 heard)
          ]

  free_decided : (p : ℕ) → Decided (¬ (Before longer p (length events)))
  free_decided p = elim (before_decided p) [
    | inl before ↦ inr (λ free. free before)
    | inr free ↦ inl free
  ]

  abbrev Free : Access → ℕ → Type 0
  Free b p = (a : Access) × IsRival events b p a × (¬ (Before longer p (length events)))

  first_or_none : (b : Access) → e.accesses ≡ Some b → AreOrdered events
      → ((a : Access) × IsFirstUnordered longer a b) ⊎ AreOrdered longer
  first_or_none b makes ordered = elim (find_best (Free b) (job_at events) decide (length events)) [
    | inr none ↦ inr (none_left events e b makes ordered (λ p a rival.
        elim (before_decided p) [
          | inl before ↦ before
          | inr free ↦ absurd
              (none p (access_within events p a rival.there) (a, rival, free))
        ]))
    | inl (p, best) ↦ (
        let (a, rival, free) = best.holds in
        let job_is = at_job events p a rival.there in
        inl (
          a,
          first_of events e b makes ordered p a rival free
              (λ i c other apart. omega (
                arith,
                job_is,
                at_job events i c other.there,
                best.least i (access_within events i c other.there) (c, other, apart),
              ))
              (λ i c other apart same.
              best.latest i (access_within events i c other.there) (c, other, apart)
              (at_job events i c other.there ∙ same ∙ sym job_is)),
        )
        )
  ]
    where
      decide : (p : ℕ) → Decided (Free b p)
      decide p = rival_with events b p (λ _. ¬ (Before longer p (length events)))
          (λ _. free_decided p)

  -- ---- what the latest rivals tell
  module _ (named : AreNamed longer) (b : Access) (makes : e.accesses ≡ Some b)
      (ordered : AreOrdered events) where
    before_rival : (p : ℕ) (a : Access) → IsRival events b p a
        → Before longer p (length events) ↔ (rank_of a.job events p ≤ clock a.job)
    before_rival p a rival =
        let at = rival.there in
        let job : a.job ≡ at.event.job =
        named p at.event a (slice_get_before events (e ∷ []) p at.event at.is_event)
        at.makes in
        subst (λ j. Before longer p (length events) ↔ (rank_of j events p ≤ clock j)) (sym job)
        (before_next events (clocks_of events) (are_clocks events) e p at.event at.is_event)

    unheard_of : (p : ℕ) (a : Access) → IsRival events b p a
        → ¬ (Before longer p (length events)) → IsUnheard clock events p a
    unheard_of p a rival free = elim (cases_lt (clock a.job) (rank_of a.job events p)) [
      | inl unheard ↦ unheard
      | inr heard ↦ absurd (free ((before_rival p a rival).1 heard))
    ]

    -- with a rival the latest one of its job is unheard
    later_unheard : (i : ℕ) (c : Access) → IsRival events b i c → IsUnheard clock events i c
        → (p : ℕ) × (a : Access) × IsLatestRival events b p a × (a.job ≡ c.job)
        × IsUnheard clock events p a
    later_unheard i c rival unheard =
        let (p, a, latest, job, later) = latest_rival events b i c rival in
        let unheard_later : clock c.job < rank_of c.job events p =
        omega (arith, unheard, rank_mono c.job events i p later) in (
          p,
          a,
          latest,
          job,
          subst (λ j. clock j < rank_of j events p) (sym job) unheard_later,
        )

    pub heard_all : ((p : ℕ) (a : Access) → IsLatestRival events b p a
        → ¬ (IsUnheard clock events p a)) → AreOrdered longer
    heard_all all = none_left events e b makes ordered (λ i c rival.
        elim (cases_lt (clock c.job) (rank_of c.job events i)) [
          | inr heard ↦ (before_rival i c rival).1 heard
          | inl unheard ↦ (
              let (p, a, latest, job, still) = later_unheard i c rival unheard in
              absurd (all p a latest still)
              )
        ])

    pub first_unheard : (p : ℕ) (a : Access) → IsFirstUnheard clock events b p a
        → IsFirstUnordered longer a b
    first_unheard p a first = first_of events e b makes ordered p a first.rival.rival
        (λ before. omega (
          arith,
          first.unheard,
          (before_rival p a first.rival.rival).0 before,
        ))
        (λ i c rival free.
        let (k, d, latest, job, still) = later_unheard i c rival (unheard_of i c rival free) in
        omega (arith, first.least k d latest still, job))
        (λ i c rival free same. first.rival.latest i c rival same)

-- ---- every list of events
abbrev Outcome : List Transition → Type 0
Outcome events = ((a : Access) × (b : Access) × IsFirstUnordered events a b) ⊎ AreOrdered events

outcome_step : (events : List Transition) (e : Transition) → Outcome events
    → Outcome (events ++ e ∷ [])
outcome_step events e (inl (a, b, first)) = inl (a, b, first_stays events (e ∷ []) a b first)
outcome_step events e (inr ordered) = by e.accesses refl
  where
    by : (o : Option Access) → e.accesses ≡ o → Outcome (events ++ e ∷ [])
    by None quiet = inr (none_without events e ordered quiet)
    by (Some b) makes = elim (first_or_none events e b makes ordered) [
      | inl (a, first) ↦ inl (a, b, first)
      | inr none ↦ inr none
    ]

outcome_from : (later events : List Transition) → Outcome events → Outcome (events ++ later)
outcome_from [] events outcome = subst Outcome (sym (append-nil events)) outcome
outcome_from (e ∷ later) events outcome = subst Outcome (append_assoc events (e ∷ []) later)
    (outcome_from later (events ++ e ∷ []) (outcome_step events e outcome))

pub first_decided : (events : List Transition) → Outcome events
first_decided events = outcome_from events [] (inr none)
  where
    none : AreOrdered []
    none p q a b is = let at = is.first.is_event in cc
