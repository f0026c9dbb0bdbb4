-- Calls of what isn't isolated, and of closures: the new frame has the colour of what it is lent.
use Rattle.std.proofs.Common.{◌≡◌, ◌≢◌, ◌⊎◌, ℕ, true, false, cond, Option, Some, None, List, []}
use Rattle.std.proofs.Common.{◌∷◌, Contains, refl, sym, subst, ap, ◌∙◌, inl, inr}
use Rattle.std.specs.Option.{option_and_then}
use Rattle.sw_list.proofs.Members.{first_in, later_in, one_in}
use Rattle.sw_types.specs.declared.isolation.CallKind.TheVariants.{Plain, Weak}
use Rattle.sw_types.specs.declared.isolation.Iso.{Iso}
use Rattle.sw_types.specs.declared.isolation.Iso.TheVariants as iso
use Rattle.sw_graph.specs.Bodies.{is_actor_initialiser}
use Rattle.sw_value.specs.declared.executor.Executor.TheVariants.{Generic}
use Rattle.sw_value.specs.declared.value.Value.{Value}
use Rattle.sw_value.specs.Value.{reference_of, value_at}
use Rattle.sw_owner_facts.specs.Calls.{SharesArgument}
use Rattle.sw_owner_facts.specs.Colours.{Actor as Owner, Colour, OfActor}
use Rattle.sw_owner_facts.specs.Owned.{IsSound}
use Rattle.sw_owner_facts.specs.View.{above, Element, FrameShape, Here, HoldsLive}
use Rattle.sw_owner_facts.specs.View.{IsDisconnected, IsolatedTo, MakesActor}
use Rattle.sw_owner_facts.specs.View.{Nonisolated}
use Rattle.sw_owner_facts.proofs.CallLemmas.{called_plain, called_weak}
use Rattle.sw_region_facts.specs.Calling.{Lends, result_from}
use Rattle.sw_region_facts.specs.Moves.{Gathers, GathersApart}
use Rattle.sw_view_facts.specs.Views.{Colours, isolation_by, isolation_in, on_actor, stands_on}
use Rattle.sw_secure_facts.specs.Painting.{Unites}
use Rattle.sw_secure_facts.proofs.Uniting.{actors_stay}
use Rattle.sw_secure_call_facts.proofs.After.{all_lent, held_after, lent_taken, sound_where_new}
use Rattle.sw_secure_call_facts.proofs.After.{with_begun}
use Rattle.sw_secure_call_facts.proofs.Before.{taken}
use Rattle.sw_secure_call_facts.proofs.Holds.{shares}
use Rattle.sw_secure_call_facts.proofs.Joined.{above_here, begun_alone, call, here_free}
use Rattle.sw_secure_call_facts.proofs.Joined.{is_kept, later, lent_one, mixed, new_shape}
use Rattle.sw_secure_call_facts.proofs.Joined.{region_lent}
use Rattle.sw_secure_call_facts.proofs.Joined.{same_executor, within}
use Rattle.sw_secure_call_facts.proofs.Setup.{Setup, begun, elements, lent_colours}

-- what a function is isolated to, if it is no actor's initialiser
pub not_making : (iso : Iso) (regs : List (Option Value)) → isolation_by iso regs ≢ MakesActor
not_making iso.Free regs is = cc
not_making iso.Caller regs is = cc
not_making (iso.Global g) regs is = cc
not_making iso.Own regs is = by (option_and_then reference_of (value_at regs 0)) is where
  by : (o : Option ℕ) → on_actor o ≡ MakesActor → ⊥
  by None is = cc
  by (Some c) is = cc

module _ (s : Setup) (after : Colours) (unites : Unites s.q.job (all_lent s) (with_begun s) after)
    (none : s.on ≡ None) where
  -- the new frame takes the colour of an argument, or nothing has that
  module _ (gathers : Gathers (elements s) s.lent s.moves.given s.moves.taken)
      (result : result_from s.kind s.lent ≡ s.lent) where
    pub sound_mixed : IsSound (mixed s after unites)
    sound_mixed = sound_where_new s s.lent gathers (λ y has. has) after unites none

    pub here_taken : ((y : Element) × Contains s.lent y
        × SharesArgument (mixed s after unites) (later s after unites) s.q y)
        ⊎ IsDisconnected (mixed s after unites) s.q.job ((later s after unites).here (above s.q))
    here_taken = by (lent_colours s) refl where
      by : (ds : List Colour) → lent_colours s ≡ ds → ((y : Element) × Contains s.lent y
          × SharesArgument (mixed s after unites) (later s after unites) s.q y)
          ⊎ IsDisconnected (mixed s after unites) s.q.job ((later s after unites).here (above s.q))
      by [] is = inr (here_free s after unites (λ d has. subst (IsDisconnected (taken s) s.q.job)
          (only d has) (begun_alone s after unites none))) where
            only : (d : Colour) → Contains (begun s ∷ lent_colours s) d → begun s ≡ d
            only d has = one_in (begun s) d (subst (λ l. Contains (begun s ∷ l) d) is has)
      by (d ∷ ds) is =
          let has : Contains (lent_colours s) d =
          subst (λ l. Contains l d) (sym is) (first_in d ds) in
          let held = lent_taken s s.lent gathers (λ y there. there) d has in
          inl (
            held.0,
            held.1,
            record {
              colour = subst (HoldsLive (mixed s after unites) s.q held.0)
                  (is_kept s after unites d (later_in (begun s) (lent_colours s) d has)
                  ∙ sym (above_here s after unites))
                  (held_after s (all_lent s) after unites s.q held.0 d held.2);
              result = shares s (all_lent s) after unites (within s after unites)
                  (lent_one s after unites) held.0
                  (subst (λ l. Contains l held.0) (sym result) held.1);
            },
          )

  -- a nonisolated callee, or a closure
  pub plain_sound : s.kind ≡ Plain → s.t.crossing ≡ false → s.t.executor ≡ s.f.executor
      → is_actor_initialiser s.callee ≡ false
      → ((a : Owner) → isolation_by s.callee.iso s.t.regs ≡ IsolatedTo a
      → Contains (lent_colours s) (OfActor a)) → IsSound (later s after unites)
  plain_sound kind stays executor makes own =
      called_plain (mixed s after unites) (later s after unites) s.q (sound_mixed gathers result)
      (record {
        called = call s after unites;
        stays = ap (λ (h : FrameShape). h.crossing) (new_shape s after unites) ∙ stays;
        executor = same_executor s after unites executor;
        isolated = λ a is.
            let has = own a (sym isolation ∙ is) in
            above_here s after unites
            ∙ sym (is_kept s after unites (OfActor a)
            (later_in (begun s) (lent_colours s) (OfActor a) has))
            ∙ actors_stay s.q.job unites.numbers unites.kept a;
        no_initialiser = λ is. not_making s.callee.iso s.t.regs (sym isolation ∙ is);
        here = elim (here_taken gathers result) [
          | inl (y, has, share) ↦ inl (y, share)
          | inr free ↦ inr free
        ];
      })
    where
      gathers : Gathers (elements s) s.lent s.moves.given s.moves.taken
      gathers = subst (λ k. Lends k (elements s) s.lent s.moves.given s.moves.taken) kind
          s.moves.lends

      result : result_from s.kind s.lent ≡ s.lent
      result = ap (λ k. result_from k s.lent) kind

      isolation : ((later s after unites).shape (above s.q)).isolation
          ≡ isolation_by s.callee.iso s.t.regs
      isolation = ap (λ (h : FrameShape). h.isolation) (new_shape s after unites)
          ∙ ap (λ b. cond b MakesActor (isolation_by s.callee.iso s.t.regs)) makes

  -- a nonisolated callee that leaves its caller's actor
  pub weak_sound : s.kind ≡ Weak → s.t.crossing ≡ true → s.t.executor ≡ Generic
      → isolation_in s.callee s.t.regs ≡ Nonisolated → IsSound (later s after unites)
  weak_sound kind crosses executor isolation =
      called_weak (mixed s after unites) (later s after unites) s.q
      (sound_mixed apart.gathers result)
      (record {
        called = call s after unites;
        crosses = ap (λ (h : FrameShape). h.crossing) (new_shape s after unites) ∙ crosses;
        executor = ap (λ (h : FrameShape). h.executor) (new_shape s after unites)
            ∙ ap stands_on executor;
        isolation = ap (λ (h : FrameShape). h.isolation) (new_shape s after unites) ∙ isolation;
        here = elim (here_taken apart.gathers result) [
          | inl (y, has, share) ↦ inl (
            y,
            share,
            λ one. apart.apart y has
                (sym (region_lent s (all_lent s) after unites y) ∙ one
                ∙ region_lent s (all_lent s) after unites Here),
          )
          | inr free ↦ inr free
        ];
      })
    where
      apart : GathersApart (elements s) s.lent s.moves.given s.moves.taken
      apart = subst (λ k. Lends k (elements s) s.lent s.moves.given s.moves.taken) kind
          s.moves.lends

      result : result_from s.kind s.lent ≡ s.lent
      result = ap (λ k. result_from k s.lent) kind
