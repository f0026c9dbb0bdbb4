-- Unordered pairs after one more event, and the first of them.
use Rattle.std.proofs.Common.{◌≡◌, ◌≢◌, ℕ, ◌<◌, ◌≤◌, ◌⊎◌, inl, inr, Some, None, List, [], ◌∷◌}
use Rattle.std.proofs.Common.{◌++◌, length, sym, subst, ap, ◌∙◌, arith}
use Rattle.std.proofs.lemmas.Option.{slice_get_within}
use Rattle.std.proofs.lemmas.Bool.{cases_lt}
use Rattle.sw_list.proofs.ListLemmas.{some_injective, slice_get_before, at_seam}
use Rattle.sw_value.specs.declared.race.Access.{Access}
use Rattle.sw_value.specs.Racing.{IsConflict}
use Rattle.sw_value.specs.Transition.{Transition}
use Rattle.sw_before.specs.Before.{Before}
use Rattle.sw_before.specs.Rivals.{IsRival}
use Rattle.sw_before.specs.Unordered.{AccessesAt, IsUnordered, IsFirstUnordered, AreOrdered}
use Rattle.sw_before.proofs.BeforeLemmas.{before_more, before_less, get_within}
use Rattle.sw_before.proofs.KnownLemmas.{at_end}

-- there is one access of an event
pub one_access : (events : List Transition) (p : ℕ) (a b : Access) → AccessesAt events p a
    → AccessesAt events p b → a ≡ b
one_access events p a b one other =
    let same : one.event ≡ other.event = some_injective (sym one.is_event ∙ other.is_event) in
    some_injective (sym one.makes ∙ ap (λ (t : Transition). t.accesses) same ∙ other.makes)

pub access_within : (events : List Transition) (p : ℕ) (a : Access) → AccessesAt events p a
    → p < length events
access_within events p a at = slice_get_within events p at.event at.is_event

-- ---- later events change no pair
module _ (events later : List Transition) where
  pub access_up : (p : ℕ) (a : Access) → AccessesAt events p a → AccessesAt (events ++ later) p a
  access_up p a at = record {
    event = at.event;
    is_event = slice_get_before events later p at.event at.is_event;
    makes = at.makes;
  }

  pub access_down : (p : ℕ) (a : Access) → p < length events → AccessesAt (events ++ later) p a
      → AccessesAt events p a
  access_down p a below at = record {
    event = at.event;
    is_event = get_within events later p at.event below at.is_event;
    makes = at.makes;
  }

  pair_up : (p q : ℕ) (a b : Access) → IsUnordered events p q a b
      → IsUnordered (events ++ later) p q a b
  pair_up p q a b is = record {
    earlier = is.earlier;
    first = access_up p a is.first;
    second = access_up q b is.second;
    jobs = is.jobs;
    conflict = is.conflict;
    free = λ before. is.free
        (before_less events later p q (access_within events q b is.second) before);
  }

  pub pair_down : (p q : ℕ) (a b : Access) → q < length events
      → IsUnordered (events ++ later) p q a b → IsUnordered events p q a b
  pair_down p q a b below is = record {
    earlier = is.earlier;
    first = access_down p a (omega (arith, is.earlier, below)) is.first;
    second = access_down q b below is.second;
    jobs = is.jobs;
    conflict = is.conflict;
    free = λ before. is.free (before_more events later p q before);
  }

  -- What was the first pair stays it.
  pub first_stays : (a b : Access) → IsFirstUnordered events a b
      → IsFirstUnordered (events ++ later) a b
  first_stays a b first = record {
    p = first.p;
    q = first.q;
    is = pair_up first.p first.q a b first.is;
    least = λ i j c d is. elim (cases_lt j (length events)) [
      | inl below ↦ first.least i j c d (pair_down i j c d below is)
      | inr past ↦ omega (arith, past, access_within events first.q b first.is.second)
    ];
    job = λ i c d is. first.job i c d (down i c d is);
    latest = λ i c d is. first.latest i c d (down i c d is);
  }
    where
      down : (i : ℕ) (c d : Access) → IsUnordered (events ++ later) i first.q c d
          → IsUnordered events i first.q c d
      down i c d is = pair_down i first.q c d (access_within events first.q b first.is.second) is

-- ---- two first pairs are one
module _ (events : List Transition) (a b c d : Access) (one : IsFirstUnordered events a b)
    (other : IsFirstUnordered events c d) where
  same_second : one.q ≡ other.q
  same_second = omega (
    arith,
    one.least other.p other.q c d other.is,
    other.least one.p one.q a b one.is,
  )

  -- each of them is a pair that ends where the other one does
  other_there : IsUnordered events other.p one.q c d
  other_there = subst (λ q. IsUnordered events other.p q c d) (sym same_second) other.is

  one_there : IsUnordered events one.p other.q a b
  one_there = subst (λ q. IsUnordered events one.p q a b) same_second one.is

  same_job : a.job ≡ c.job
  same_job = omega (arith, one.job other.p c d other_there, other.job one.p a b one_there)

  same_first : one.p ≡ other.p
  same_first = omega (
    arith,
    one.latest other.p c d other_there (sym same_job),
    other.latest one.p a b one_there same_job,
  )

  pub one_first : (a ≡ c) × (b ≡ d)
  one_first = (
    one_access events one.p a c one.is.first
        (subst (λ p. AccessesAt events p c) (sym same_first) other.is.first),
    one_access events one.q b d one.is.second other_there.second,
  )

-- ---- one more event
module _ (events : List Transition) (e : Transition) where
  abbrev longer : List Transition
  longer = events ++ e ∷ []

  access_place : (p : ℕ) (a : Access) → AccessesAt longer p a
      → (p < length events) ⊎ ((p ≡ length events) × (e.accesses ≡ Some a))
  access_place p a at = elim (at_end events e at.event p at.is_event) [
    | inl below ↦ inl below
    | inr (end, same) ↦ inr (end, ap (λ (t : Transition). t.accesses) (sym same) ∙ at.makes)
  ]

  -- an event that accesses nothing brings no pair
  pub none_without : AreOrdered events → e.accesses ≡ None → AreOrdered longer
  none_without ordered quiet p q a b is = elim (access_place q b is.second) [
    | inl below ↦ ordered p q a b (pair_down events (e ∷ []) p q a b below is)
    | inr (end, makes) ↦ absurd (cc (quiet, makes))
  ]

  module _ (b : Access) (makes : e.accesses ≡ Some b) (ordered : AreOrdered events) where
    -- all pairs end in the event, if there was none before
    pub ends_here : (i j : ℕ) (c d : Access) → IsUnordered longer i j c d → j ≡ length events
    ends_here i j c d is = elim (access_place j d is.second) [
      | inl below ↦ absurd (ordered i j c d (pair_down events (e ∷ []) i j c d below is))
      | inr (end, _) ↦ end
    ]

    at_the_end : AccessesAt longer (length events) b
    at_the_end = record { event = e; is_event = at_seam events e []; makes = makes }

    -- they are its rivals that don't happen before it
    pub rival_of : (p : ℕ) (a d : Access) → IsUnordered longer p (length events) a d
        → IsRival events b p a
    rival_of p a d is =
        let same : d ≡ b = one_access longer (length events) d b is.second at_the_end in record {
          there = access_down events (e ∷ []) p a is.earlier is.first;
          jobs = subst (λ x. a.job ≢ x.job) same is.jobs;
          conflict = subst (λ x. IsConflict a x) same is.conflict;
        }

    pub pair_of : (p : ℕ) (a : Access) → IsRival events b p a
        → ¬ (Before longer p (length events)) → IsUnordered longer p (length events) a b
    pair_of p a rival free = record {
      earlier = access_within events p a rival.there;
      first = access_up events (e ∷ []) p a rival.there;
      second = at_the_end;
      jobs = rival.jobs;
      conflict = rival.conflict;
      free = free;
    }

    -- Where all rivals happen before it there is no pair.
    pub none_left : ((p : ℕ) (a : Access) → IsRival events b p a
        → Before longer p (length events)) → AreOrdered longer
    none_left all p q a d is =
        let at : IsUnordered longer p (length events) a d =
        subst (λ k. IsUnordered longer p k a d) (ends_here p q a d is) is in
        at.free (all p a (rival_of p a d at))

    -- The pair of the latest rival of the least job that has one that doesn't happen before it.
    pub first_of : (p : ℕ) (a : Access) → IsRival events b p a
        → ¬ (Before longer p (length events))
        → ((i : ℕ) (c : Access) → IsRival events b i c → ¬ (Before longer i (length events))
        → a.job ≤ c.job)
        → ((i : ℕ) (c : Access) → IsRival events b i c → ¬ (Before longer i (length events))
        → c.job ≡ a.job → i ≤ p)
        → IsFirstUnordered longer a b
    first_of p a rival free least latest = record {
      p = p;
      q = length events;
      is = pair_of p a rival free;
      least = λ i j c d is. omega (arith, ends_here i j c d is);
      job = λ i c d is. least i c (rival_of i c d is) is.free;
      latest = λ i c d is. latest i c (rival_of i c d is) is.free;
    }
