-- Calls of what is isolated to an actor, from there and from elsewhere, and of actors'
-- initialisers.
use Rattle.std.proofs.Common.{◌≡◌, ◌⊎◌, true, false, cond, Some, None, List, []}
use Rattle.std.proofs.Common.{◌+◌, ◌∷◌, Contains, sym, subst, ap, ◌∙◌, inl, inr}
use Rattle.std.specs.Option.{option_map_or}
use Rattle.std.specs.List.{slice_get}
use Rattle.sw_list.proofs.Members.{first_in, first_or_later, later_in, none_in}
use Rattle.sw_types.specs.declared.isolation.CallKind.TheVariants.{Same, Strong, Make}
use Rattle.sw_value.specs.declared.job.Status.TheVariants.{Ready}
use Rattle.sw_value.specs.Job.{enter, is_running, is_running_status}
use Rattle.sw_value.specs.declared.state.State.{State}
use Rattle.sw_value.specs.State.{in_job}
use Rattle.sw_value.proofs.ListLemmas.{changed_at_found}
use Rattle.sw_owner_facts.specs.Colours.{Actor as Owner, Colour, OfActor, On}
use Rattle.sw_owner_facts.specs.Owned.{IsSound}
use Rattle.sw_owner_facts.specs.View.{above, FrameShape, Here, IsDisconnected, IsolatedTo}
use Rattle.sw_owner_facts.specs.View.{IsUnheld, MakesActor}
use Rattle.sw_owner_facts.proofs.CallLemmas.{called_make, called_same, called_strong}
use Rattle.sw_region_facts.specs.Calling.{Lends, result_from}
use Rattle.sw_region_facts.specs.Moves.{Gathers, Sends}
use Rattle.sw_view_facts.specs.Views.{Colours, here_at, isolation_in, result_in, shape_with}
use Rattle.sw_view_facts.specs.Views.{stands_on}
use Rattle.sw_secure_facts.specs.Painting.{Unites, begun_here}
use Rattle.sw_secure_facts.proofs.Uniting.{actors_stay}
use Rattle.sw_secure_call_facts.proofs.After.{all_lent, held_after, joint, sound_where_free}
use Rattle.sw_secure_call_facts.proofs.After.{sound_where_given, sound_where_here, stays}
use Rattle.sw_secure_call_facts.proofs.After.{still_free}
use Rattle.sw_secure_call_facts.proofs.After.{turns, with_begun}
use Rattle.sw_secure_call_facts.proofs.Before.{held_in, lent_free, taken}
use Rattle.sw_secure_call_facts.proofs.Holds.{called, result_is, shape_is, shares}
use Rattle.sw_secure_call_facts.proofs.Joined.{begun_alone, call, here_free, later, lent_one, mixed}
use Rattle.sw_secure_call_facts.proofs.Joined.{new_shape, same_executor, within}
use Rattle.sw_secure_call_facts.proofs.Pushing.{new, new_here, stepped}
use Rattle.sw_secure_call_facts.proofs.Setup.{Setup, begun, elements, lent_colours}

-- the new `Here` has the actor's colour
actor_here : (s : Setup) (a : Owner) → s.on ≡ Some a → (joined : List Colour) (after : Colours)
    (unites : Unites s.q.job joined (with_begun s) after)
    → (new s joined after unites).here (above s.q) ≡ OfActor a
actor_here s a on joined after unites = new_here s joined after unites
    ∙ ap (λ o. turns s joined after unites (begun_here o s.q.job s.number)) on
    ∙ actors_stay s.q.job unites.numbers unites.kept a

module _ (s : Setup) (after : Colours) (unites : Unites s.q.job (all_lent s) (with_begun s) after)
  where
    -- a callee of the caller's isolation
    pub same_sound : (a : Owner) → s.on ≡ Some a → s.kind ≡ Same → s.t.crossing ≡ false
        → s.t.executor ≡ s.f.executor → isolation_in s.callee s.t.regs ≡ IsolatedTo a
        → here_at s.colours s.q ≡ OfActor a → IsSound (later s after unites)
    same_sound a on kind crossing executor isolation here =
        called_same (mixed s after unites) (later s after unites) s.q a
        (sound_where_here s (Here ∷ s.lent) gathers (λ y has. later_in Here s.lent y has) after
        unites a
        on here (first_in Here s.lent))
        (record {
          called = call s after unites;
          stays = ap (λ (h : FrameShape). h.crossing) (new_shape s after unites) ∙ crossing;
          executor = same_executor s after unites executor;
          isolation = ap (λ (h : FrameShape). h.isolation) (new_shape s after unites) ∙ isolation;
          here = actor_here s a on (all_lent s) after unites;
          caller_here = (held_after s (all_lent s) after unites s.q Here (OfActor a)
              (held_in s s.moves.taken Here (OfActor a) tt here)).holds
              ∙ actors_stay s.q.job unites.numbers unites.kept a;
          result = shares s (all_lent s) after unites (within s after unites)
              (lent_one s after unites) Here
              (subst (λ k. Contains (result_from k s.lent) Here) (sym kind) (first_in Here s.lent));
        })
      where
        gathers : Gathers (elements s) (Here ∷ s.lent) s.moves.given s.moves.taken
        gathers = subst (λ k. Lends k (elements s) s.lent s.moves.given s.moves.taken) kind
            s.moves.lends

    -- an actor's initialiser
    pub make_sound : s.on ≡ None → s.kind ≡ Make → s.t.crossing ≡ false
        → s.t.executor ≡ s.f.executor → isolation_in s.callee s.t.regs ≡ MakesActor
        → IsSound (later s after unites)
    make_sound on kind crossing executor isolation =
        called_make (mixed s after unites) (later s after unites) s.q
        (sound_where_given s sends on after unites)
        (record {
          called = call s after unites;
          stays = ap (λ (h : FrameShape). h.crossing) (new_shape s after unites) ∙ crossing;
          executor = same_executor s after unites executor;
          isolation = ap (λ (h : FrameShape). h.isolation) (new_shape s after unites) ∙ isolation;
          here = here_free s after unites (λ d has. elim (first_or_later (begun s) (lent_colours s)
              d
              has) [
                | inl is ↦ subst (IsDisconnected (taken s) s.q.job) is (begun_alone s after unites
                    on)
                | inr there ↦ lent_free s sends d there
              ]);
        })
      where
        sends : Sends (elements s) s.lent s.moves.given s.moves.taken
        sends = subst (λ k. Lends k (elements s) s.lent s.moves.given s.moves.taken) kind
            s.moves.lends

-- a callee on an actor, from elsewhere: no colour becomes one with another
module _ (s : Setup) (after : Colours) (unites : Unites s.q.job [] (with_begun s) after)
    (kind : s.kind ≡ Strong) where
  sends : Sends (elements s) s.lent s.moves.given s.moves.taken
  sends = subst (λ k. Lends k (elements s) s.lent s.moves.given s.moves.taken) kind s.moves.lends

  nothing : (d : Colour) → Contains [] d → Contains (all_lent s) d
  nothing d has = absurd (none_in d has)

  free : (d : Colour) → Contains (lent_colours s) d
      → (turns s [] after unites (begun s) ≡ turns s [] after unites d)
      ⊎ IsDisconnected (joint s [] after unites) s.q.job (turns s [] after unites d)
  free d has =
      let lent = lent_free s sends d has in
      let same = stays s [] after unites d (none_in d) in
      inr (record {
        number = lent.number;
        owner = same ∙ lent.owner;
        unheld = subst (λ c. IsUnheld (joint s [] after unites) c) (sym same)
            (still_free s [] after unites d (none_in d) lent.unheld);
      })

  away : s.t.crossing ≡ true → (new s [] after unites).running s.q.job ≡ false
  unfolding in_job enter is_running
  away crosses = ap (λ (w : State). option_map_or is_running (slice_get w.jobs s.q.job) false)
      (stepped s)
      ∙ ap (λ o. option_map_or is_running o false)
      (changed_at_found (enter s.t (s.f.point + 1)) s.q.job s.state.jobs s.job s.x.top.there)
      ∙ ap (λ b. is_running_status (cond b Ready s.job.status)) crosses

  pub strong_sound : (a : Owner) → s.on ≡ Some a → s.t.crossing ≡ true
      → stands_on s.t.executor ≡ On a → isolation_in s.callee s.t.regs ≡ IsolatedTo a
      → result_in s.graph (Some s.function) s.t s.callee ≡ None
      → IsSound (new s [] after unites)
  strong_sound a on crosses executor isolation result =
      called_strong (joint s [] after unites) (new s [] after unites) s.q a
      (sound_where_free s [] after unites (λ n has. absurd (none_in _ has)))
      (record {
        called = called s [] after unites nothing free;
        crosses = ap (λ (h : FrameShape). h.crossing) shape ∙ crosses;
        leaves = away crosses;
        callee = record {
          isolation = ap (λ (h : FrameShape). h.isolation) shape ∙ isolation;
          executor = ap (λ (h : FrameShape). h.executor) shape ∙ executor;
          here = actor_here s a on [] after unites;
        };
        result = result_is s [] after unites nothing free ∙ result;
      })
    where
      shape : (new s [] after unites).shape (above s.q)
          ≡ shape_with s.graph (Some s.function) s.t (Some s.callee)
      shape = shape_is s [] after unites nothing free
