-- What happens before an event doesn't depend on later events.
use Rattle.std.proofs.Common.{◌≡◌, ◌↔◌, ℕ, ◌<◌, Some, List, ◌++◌, length, sym, ◌∙◌, arith}
use Rattle.std.specs.List.{slice_get}
use Rattle.sw_list.proofs.ListLemmas.{slice_get_before, slice_get_first}
use Rattle.sw_value.specs.Transition.{Transition}
use Rattle.sw_before.specs.Before.{LeadsAt, Before}
use Rattle.sw_before.proofs.ClosureLemmas.{mapped, rises, bounded}

leads_rises : (events : List Transition) (p q : ℕ) → LeadsAt events p q → p < q
leads_rises events p q leads = leads.earlier

pub before_rises : (events : List Transition) (p q : ℕ) → Before events p q → p < q
before_rises events = rises (LeadsAt events) (leads_rises events)

module _ (events later : List Transition) where
  pub get_within : (p : ℕ) (t : Transition) → p < length events
      → slice_get (events ++ later) p ≡ Some t → slice_get events p ≡ Some t
  get_within p t within is = sym (slice_get_first events later p within) ∙ is

  leads_more : (p q : ℕ) → LeadsAt events p q → LeadsAt (events ++ later) p q
  leads_more p q leads = record {
    earlier = leads.earlier;
    first = leads.first;
    second = leads.second;
    is_first = slice_get_before events later p leads.first leads.is_first;
    is_second = slice_get_before events later q leads.second leads.is_second;
    leads = leads.leads;
  }

  leads_less : (p q : ℕ) → q < length events → LeadsAt (events ++ later) p q → LeadsAt events p q
  leads_less p q within leads = record {
    earlier = leads.earlier;
    first = leads.first;
    second = leads.second;
    is_first =
        get_within p leads.first (omega (arith, within, leads.earlier)) leads.is_first;
    is_second = get_within q leads.second within leads.is_second;
    leads = leads.leads;
  }

  pub before_more : (p q : ℕ) → Before events p q → Before (events ++ later) p q
  before_more p q before = mapped (LeadsAt events) (LeadsAt (events ++ later)) leads_more p q before

  pub before_less : (p q : ℕ) → q < length events → Before (events ++ later) p q
      → Before events p q
  before_less p q within = bounded (LeadsAt (events ++ later)) (LeadsAt events) (length events)
      (leads_rises (events ++ later)) leads_less p q within

  pub before_stays : (p q : ℕ) → q < length events
      → Before (events ++ later) p q ↔ Before events p q
  before_stays p q within = (before_less p q within, before_more p q)
