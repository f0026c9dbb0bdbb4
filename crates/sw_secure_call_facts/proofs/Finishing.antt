-- After a call whose view is sound the state is secure, and the colours that become one may.
use Rattle.std.proofs.Common.{◌≡◌, Some, None, List, [], ◌∷◌, Contains, refl, sym}
use Rattle.std.proofs.Common.{subst, ap, ◌∙◌, inl, inr}
use Rattle.sw_list.proofs.Members.{first_in, first_or_later, later_in, one_in}
use Rattle.sw_owner_facts.specs.Colours.{Actor as Owner, Colour, OfJob, OfActor}
use Rattle.sw_owner_facts.specs.Owned.{IsSound}
use Rattle.sw_owner_facts.specs.View.{Here, Element, HoldsLive}
use Rattle.sw_view_facts.specs.Views.{Colours, here_at}
use Rattle.sw_secure_facts.proofs.Kept.{some_own_kept}
use Rattle.sw_secure_facts.specs.Painting.{MayUnite, Unites, begun_here}
use Rattle.sw_secure_facts.specs.Secure.{IsSecure}
use Rattle.sw_secure_facts.proofs.Secured.{secured}
use Rattle.sw_secure_call_facts.proofs.After.{all_lent, with_begun}
use Rattle.sw_secure_call_facts.proofs.Before.{first, held_at_first, lent_first}
use Rattle.sw_secure_call_facts.proofs.Pushing.{have_after, new, next}
use Rattle.sw_secure_call_facts.proofs.Rest.{heres_after, memory_after, waits_after}
use Rattle.sw_secure_call_facts.proofs.Setup.{Setup, begun, lent_colours}

pub secure_after : (s : Setup) (joined : List Colour) (after : Colours)
    (unites : Unites s.q.job joined (with_begun s) after) → IsSound (new s joined after unites)
    → IsSecure s.graph s.states (next s) after
secure_after s joined after unites sound =
    secured s.graph s.states s.state s.colours s.secure s.q.job after
    (have_after s joined after unites) sound (memory_after s joined after unites)
    (heres_after s joined after unites) (waits_after s joined after unites)

-- where the new colour of `Here` is the job's
pub may_join_new : (s : Setup) → s.on ≡ None → MayUnite s.q (all_lent s)
may_join_new s none = by (lent_colours s) refl where
  own : begun s ≡ OfJob s.q.job s.number
  own = ap (λ o. begun_here o s.q.job s.number) none

  by : (ds : List Colour) → lent_colours s ≡ ds → MayUnite s.q (all_lent s)
  by [] is = inr (
    begun s,
    first_in (begun s) (lent_colours s),
    λ c has. inl (sym (one_in (begun s) c (subst (λ l. Contains (begun s ∷ l) c) is has))),
    inr (s.number, own),
  )
  by (d ∷ ds) is =
      let kept = some_own_kept (first s) s.q s.secure.coloured.sound.owned d ds
      (λ c has. lent_first s c (subst (λ l. Contains l c) (sym is) has)) in
      inr (
        kept.0,
        later_in (begun s) (lent_colours s) kept.0 (subst (λ l. Contains l kept.0) (sym is) kept.1),
        λ c has. elim (first_or_later (begun s) (lent_colours s) c has) [
          | inl same ↦ inr (s.number, sym same ∙ own)
          | inr there ↦ kept.2 c (subst (λ l. Contains l c) is there)
        ],
        kept.3,
      )

-- where it is that of the actor on which the caller stands
pub may_join_here : (s : Setup) (a : Owner) → s.on ≡ Some a → here_at s.colours s.q ≡ OfActor a
    → MayUnite s.q (all_lent s)
may_join_here s a on here =
    inr (some_own_kept (first s) s.q s.secure.coloured.sound.owned (begun s) (lent_colours s) held)
  where
    held : (c : Colour) → Contains (begun s ∷ lent_colours s) c
        → (y : Element) × HoldsLive (first s) s.q y c
    held c has = elim (first_or_later (begun s) (lent_colours s) c has) [
      | inl same ↦ (
        Here,
        held_at_first s Here c tt
            (here ∙ sym (ap (λ o. begun_here o s.q.job s.number) on) ∙ same),
      )
      | inr there ↦ lent_first s c there
    ]
