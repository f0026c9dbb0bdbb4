-- The access of a step comes after each earlier access that it conflicts with: the job that makes it
-- knows them.
use Rattle.std.proofs.Common.{◌≡◌, ◌<◌, inl, inr, ℕ, Option, Some, List, [], ◌∷◌, ◌++◌, length}
use Rattle.std.proofs.Common.{sym, subst, ap, ◌∙◌, arith}
use Rattle.sw_graph.specs.declared.graph.Graph.{Graph}
use Rattle.sw_value.specs.declared.effect.Act.{Act}
use Rattle.sw_value.specs.declared.race.Access.{Access}
use Rattle.sw_value.specs.declared.state.State.{State}
use Rattle.sw_value.specs.Access.{next_access}
use Rattle.sw_value.specs.Transition.{Transition, transition_by}
use Rattle.sw_partition.specs.Regions.{Regions}
use Rattle.sw_view_facts.specs.Views.{Colours}
use Rattle.sw_before.specs.Before.{Before}
use Rattle.sw_before.specs.Unordered.{AccessesAt, AreOrdered}
use Rattle.sw_before.proofs.BeforeLemmas.{before_more, get_within}
use Rattle.sw_before.proofs.KnownLemmas.{at_end}
use Rattle.sw_secure_facts.specs.Secure.{IsSecure}
use Rattle.sw_order_facts.specs.Informed.{IsInformed, IsOfColour}
use Rattle.sw_order_facts.proofs.Growing.{job_before}
use Rattle.sw_order_facts.proofs.Holding.{accessed_holders}
use Rattle.sw_order_facts.proofs.Learning.{holders_know}

module _ (graph : Graph) (states : ℕ → List (Option Regions)) (state : State) (colours : Colours)
    (s : IsSecure graph states state colours) (events : List Transition)
    (informed : IsInformed graph state colours events) (j : ℕ) (act : Act) where
  abbrev t : Transition
  t = transition_by graph state j act

  abbrev longer : List Transition
  longer = events ++ transition_by graph state j act ∷ []

  -- an access before the end
  earlier : (p : ℕ) (a : Access) → p < length events → AccessesAt longer p a
      → AccessesAt events p a
  earlier p a below at = record {
    event = at.event;
    is_event = get_within events (t ∷ []) p at.event below at.is_event;
    makes = at.makes;
  }

  -- it comes before the access of the step, if both are of one place
  comes_before : (p : ℕ) (a b : Access) → AccessesAt events p a
      → next_access graph state j ≡ Some b → a.place ≡ b.place
      → Before (events ++ transition_by graph state j act ∷ []) p (length events)
  comes_before p a b at next same =
      let found = accessed_holders graph states state colours s j b next in
      job_before events t p
      (holders_know graph states state colours s events informed j found.0 found.2 p
      (informed.touches p a found.0 at
      (subst (λ x. IsOfColour graph state colours x found.0) (sym same) found.1)))

  pub ordered_more : AreOrdered events → AreOrdered (events ++ transition_by graph state j act ∷ [])
  ordered_more ordered p q a b u =
      elim (at_end events t u.second.event q u.second.is_event) [
        | inl below ↦ ordered p q a b (record {
          earlier = u.earlier;
          first = earlier p a (let less = u.earlier in omega (arith, less, below)) u.first;
          second = earlier q b below u.second;
          jobs = u.jobs;
          conflict = u.conflict;
          free = λ before. u.free (before_more events (t ∷ []) p q before);
        })
        | inr now ↦
            let less : p < length events = (let e = u.earlier in let at = now.0 in
            omega (arith, e, at)) in
            u.free (subst (Before longer p) (sym now.0)
            (comes_before p a b (earlier p a less u.first)
            (ap (λ (x : Transition). x.accesses) (sym now.1) ∙ u.second.makes) u.conflict.same))
      ]
