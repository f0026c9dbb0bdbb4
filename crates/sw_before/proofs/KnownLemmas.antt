-- What is known on channels after one more event.
use Rattle.std.proofs.Common.{◌≡◌, ◌↔◌, ℕ, ◌<◌, ◌⊎◌, inl, inr, Some, List, [], ◌∷◌, ◌++◌, Contains}
use Rattle.std.proofs.Common.{length, sym, subst, ap, ◌∙◌, arith, length-append}
use Rattle.std.specs.List.{slice_get}
use Rattle.std.proofs.lemmas.Bool.{cases_lt}
use Rattle.std.proofs.lemmas.Option.{slice_get_within}
use Rattle.sw_list.proofs.ListLemmas.{some_injective, slice_get_before, at_seam}
use Rattle.sw_value.specs.Transition.{Transition}
use Rattle.sw_before.specs.Before.{LeadsAt, Before}
use Rattle.sw_before.specs.Channels.{Channel, told_by, heard_by, IsKnown}
use Rattle.sw_before.specs.Closure.{one, through}
use Rattle.sw_before.proofs.BeforeLemmas.{before_less, before_more, before_rises, get_within}
use Rattle.sw_before.proofs.ChannelLemmas.{from_channel, leads_by_channel}
use Rattle.sw_before.proofs.ClosureLemmas.{OrSame, last_step}

pub known_within : (events : List Transition) (c : Channel) (p : ℕ) → IsKnown events c p
    → p < length events
known_within events c p known =
    let inside = slice_get_within events known.teller known.event known.is_event in
    elim known.reaches [
      | inl e ↦ subst (λ v. v < length events) (sym e) inside
      | inr b ↦ omega (arith, inside, before_rises events p known.teller b)
    ]

module _ (events : List Transition) (e : Transition) where
  abbrev longer : List Transition
  longer = events ++ e ∷ []

  pub end_is : (t : Transition) → slice_get longer (length events) ≡ Some t → t ≡ e
  end_is t is = some_injective (sym is ∙ at_seam events e [])

  -- a position of the longer list is one of the list, or the end
  pub at_end : (t : Transition) (p : ℕ) → slice_get longer p ≡ Some t
      → (p < length events) ⊎ ((p ≡ length events) × (t ≡ e))
  at_end t p is = elim (cases_lt p (length events)) [
    | inl below ↦ inl below
    | inr past ↦ (
        let inside = slice_get_within longer p t is in
        let at : p ≡ length events =
        omega (arith, inside, past, length-append events (e ∷ [])) in
        inr (at, end_is t (ap (slice_get longer) (sym at) ∙ is))
        )
  ]

  nearer : (p q : ℕ) → q < length events → OrSame (LeadsAt longer) p q
      → OrSame (LeadsAt events) p q
  nearer p q below (inl same) = inl same
  nearer p q below (inr b) = inr (before_less events (e ∷ []) p q below b)

  further : (p q : ℕ) → OrSame (LeadsAt events) p q → OrSame (LeadsAt longer) p q
  further p q (inl same) = inl same
  further p q (inr b) = inr (before_more events (e ∷ []) p q b)

  -- What happens before the event at the end is known on a channel that it hears.
  pub heard_at_end : (p : ℕ) → Before longer p (length events)
      → (c : Channel) × Contains (heard_by e) c × IsKnown events c p
  heard_at_end p before =
      let h = last_step (LeadsAt longer) p (length events) before in
      let step = h.2 in
      let carried = (leads_by_channel step.first step.second).0 step.leads in (
        carried.0,
        subst (λ t. Contains (heard_by t) carried.0) (end_is step.second step.is_second) carried.2,
        record {
          teller = h.0;
          event = step.first;
          is_event = get_within events (e ∷ []) h.0 step.first step.earlier step.is_first;
          told = carried.1;
          reaches = nearer p h.0 step.earlier h.1;
        },
      )

  pub end_hears : (c : Channel) (p : ℕ) → Contains (heard_by e) c → IsKnown events c p
      → Before longer p (length events)
  end_hears c p hears known = from (further p known.teller known.reaches)
    where
      step : LeadsAt longer known.teller (length events)
      step = record {
        earlier = slice_get_within events known.teller known.event known.is_event;
        first = known.event;
        second = e;
        is_first = slice_get_before events (e ∷ []) known.teller known.event known.is_event;
        is_second = at_seam events e [];
        leads = from_channel known.event e c known.told hears;
      }

      from : OrSame (LeadsAt longer) p known.teller → Before longer p (length events)
      from (inl same) = subst (λ v. Before longer v (length events)) (sym same)
          (one known.teller (length events) step)
      from (inr b) = through p known.teller (length events) b
          (one known.teller (length events) step)

  pub before_end : (p : ℕ) → Before longer p (length events)
      ↔ ((c : Channel) × Contains (heard_by e) c × IsKnown events c p)
  before_end p = (heard_at_end p, λ (c, hears, known). end_hears c p hears known)

  pub known_more : (c : Channel) (p : ℕ) → IsKnown events c p → IsKnown longer c p
  known_more c p known = record {
    teller = known.teller;
    event = known.event;
    is_event = slice_get_before events (e ∷ []) known.teller known.event known.is_event;
    told = known.told;
    reaches = further p known.teller known.reaches;
  }

  pub known_end : (c : Channel) (p : ℕ) → Contains (told_by e) c
      → OrSame (LeadsAt longer) p (length events) → IsKnown longer c p
  known_end c p tells reaches = record {
    teller = length events;
    event = e;
    is_event = at_seam events e [];
    told = tells;
    reaches = reaches;
  }

  pub known_back : (c : Channel) (p : ℕ) → IsKnown longer c p
      → IsKnown events c p
      ⊎ (Contains (told_by e) c × OrSame (LeadsAt longer) p (length events))
  known_back c p known = elim (at_end known.event known.teller known.is_event) [
    | inl below ↦ inl (record {
      teller = known.teller;
      event = known.event;
      is_event = get_within events (e ∷ []) known.teller known.event below known.is_event;
      told = known.told;
      reaches = nearer p known.teller below known.reaches;
    })
    | inr at ↦ inr (
      subst (λ t. Contains (told_by t) c) at.1 known.told,
      subst (λ q. OrSame (LeadsAt longer) p q) at.0 known.reaches,
    )
  ]

  pub known_grows : (c : Channel) (p : ℕ) → IsKnown longer c p
      ↔ (IsKnown events c p ⊎ (Contains (told_by e) c
      × ((p ≡ length events) ⊎ Before longer p (length events))))
  known_grows c p = (known_back c p, back)
    where
      back : IsKnown events c p ⊎ (Contains (told_by e) c
          × OrSame (LeadsAt longer) p (length events)) → IsKnown longer c p
      back (inl known) = known_more c p known
      back (inr (tells, reaches)) = known_end c p tells reaches
