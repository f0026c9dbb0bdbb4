-- The view of a call in which colours have become one, before the frame begins.
use Rattle.std.proofs.Common.{◌≡◌, ℕ, Option, Some, None, List, [], ◌∷◌, Contains, refl, sym}
use Rattle.std.proofs.Common.{subst, ap, ◌∙◌, inl, inr, true}
use Rattle.std.specs.List.{slice_get}
use Rattle.sw_list.proofs.Members.{first_in, first_or_later, none_in}
use Rattle.sw_value.specs.declared.value.Value.{Value}
use Rattle.sw_owner_facts.specs.Colours.{Actor as Owner, Colour, OfJob, OfActor}
use Rattle.sw_owner_facts.specs.Owned.{IsSound}
use Rattle.sw_owner_facts.specs.View.{Element, HoldsLive, IsDisconnected, IsUnheld}
use Rattle.sw_owner_facts.specs.View.{View, Frame as Spot, Here}
use Rattle.sw_region_facts.specs.FrameRegions.{TogetherIn}
use Rattle.sw_region_facts.specs.Moves.{Gathers, Sends}
use Rattle.sw_reach_facts.specs.Reached.{colours_of}
use Rattle.sw_view_facts.specs.Renaming.{MayUnite, recoloured_by, united}
use Rattle.sw_view_facts.specs.Views.{Colours, here_at, view_of}
use Rattle.sw_view_facts.proofs.RenameLemmas.{hands_over, held_from, held_to, unites_all}
use Rattle.sw_secure_facts.specs.Painting.{Unites, begun_here, with_here}
use Rattle.sw_secure_facts.proofs.Uniting.{joins_kept, others_stay, united_colour}
use Rattle.sw_secure_facts.proofs.Uniting.{united_is}
use Rattle.sw_secure_call_facts.proofs.Before.{given, held_in, heres, lent_free}
use Rattle.sw_secure_call_facts.proofs.Before.{lent_given, regions_in, sent_free, sound_taken}
use Rattle.sw_secure_call_facts.proofs.Before.{taken, together_in, top}
use Rattle.sw_secure_facts.proofs.Numbers.{new_unheld, not_reached}
use Rattle.sw_secure_call_facts.proofs.Renamed.{becomes_or_stays}
use Rattle.sw_secure_call_facts.proofs.Setup.{Setup, begun, elements, lent_colours}
use Rattle.sw_secure_call_facts.proofs.Uniting.{unites_free}

-- the colours with that of the new `Here`
abbrev pub with_begun : Setup → Colours
with_begun s = with_here s.q.job (begun s) s.colours

-- what may become one
abbrev pub all_lent : Setup → List Colour
all_lent s = begun s ∷ lent_colours s

-- nothing holds the number of the new colour
pub begun_free : (s : Setup) → IsUnheld (taken s) (OfJob s.q.job s.number)
begun_free s = new_unheld s.number s.colours s.numbered s.graph (regions_in s s.moves.taken) s.state
    (heres s) s.q.job

-- what is given away is none of the colours that may become one
pub sent_apart_from_lent : (s : Setup) (k : ℕ) (v : Value) (d : Colour)
    → slice_get s.values k ≡ Some v → slice_get s.callee.sending k ≡ Some true
    → Contains (colours_of s.state.cells s.colours.cells v) d → Contains (all_lent s) d → ⊥
sent_apart_from_lent s k v d at sends has lent = elim (first_or_later (begun s) (lent_colours s) d
    lent) [
      | inl is ↦ by s.on is
      | inr there ↦ let held = lent_given s d there in free.unheld s.q held.0 held.1
    ]
  where
    free : IsDisconnected (given s) s.q.job d
    free = let from = s.sent_holds k v d at sends has in sent_free s from.0 d from.1 from.2

    by : (o : Option Owner) → begun_here o s.q.job s.number ≡ d → ⊥
    by None is = not_reached s.number s.colours s.numbered s.state.cells v s.q.job
        (subst (Contains (colours_of s.state.cells s.colours.cells v)) (sym is) has)
    by (Some a) is = let clash : OfActor a ≡ OfJob s.q.job free.number = is ∙ free.owner in
        let no : ⊥ = cc in no

module _ (s : Setup) (joined : List Colour) (after : Colours)
    (unites : Unites s.q.job joined (with_begun s) after) where
  abbrev pub turns : Colour → Colour
  turns = united_colour s.q.job unites.numbers unites.kept

  -- the colours that have become one, without that of the new `Here`
  abbrev pub between : Colours
  between = united s.q.job unites.numbers unites.kept s.colours

  pub between_is : between ≡ recoloured_by turns s.colours
  between_is = united_is s.q.job unites.numbers unites.kept s.colours

  pub after_is : after ≡ recoloured_by turns (with_begun s)
  after_is = unites.is ∙ united_is s.q.job unites.numbers unites.kept (with_begun s)

  abbrev pub joint : View
  joint = view_of s.graph (regions_in s s.moves.taken) s.state between

  -- ---- what is held
  pub held_before : (p : Spot) (y : Element) (d : Colour) → HoldsLive joint p y d
      → (c : Colour) × HoldsLive (taken s) p y c × (turns c ≡ d)
  held_before p y d h =
      held_from s.graph (regions_in s s.moves.taken) s.state s.colours (heres s) turns p y d
      (subst (λ cs. HoldsLive (view_of s.graph (regions_in s s.moves.taken) s.state cs) p y d)
      between_is h)

  pub held_after : (p : Spot) (y : Element) (c : Colour) → HoldsLive (taken s) p y c
      → HoldsLive joint p y (turns c)
  held_after p y c h =
      subst (λ cs. HoldsLive (view_of s.graph (regions_in s s.moves.taken) s.state cs) p y
      (turns c))
      (sym between_is)
      (held_to s.graph (regions_in s s.moves.taken) s.state s.colours (heres s) turns p y c h)

  -- ---- colours that none becomes one with
  pub stays : (d : Colour) → (Contains joined d → ⊥) → turns d ≡ d
  stays d apart = others_stay s.q.job unites.numbers unites.kept d
      (λ n has is. apart (subst (Contains joined) (sym is) (unites.only n has)))

  pub alone : (c d : Colour) → (Contains joined d → ⊥) → turns c ≡ d → c ≡ d
  alone c d apart is = elim (becomes_or_stays s.q.job unites.numbers unites.kept c) [
    | inl (n, has, same) ↦
        let kept : unites.kept ≡ d =
        sym (ap turns same ∙ joins_kept s.q.job unites.numbers unites.kept n has) ∙ is in
        absurd (apart (subst (Contains joined) kept
        (unites.among (OfJob s.q.job n) (unites.only n has))))
    | inr same ↦ sym same ∙ is
  ]

  pub still_free : (d : Colour) → (Contains joined d → ⊥) → IsUnheld (taken s) d → IsUnheld joint d
  still_free d apart none p y h =
      let found = held_before p y d h in
      none p y (subst (HoldsLive (taken s) p y) (alone found.0 d apart found.2) found.1)

  -- ---- soundness
  -- where none that becomes another is held
  pub sound_where_free : ((n : ℕ) → Contains joined (OfJob s.q.job n)
      → IsUnheld (taken s) (OfJob s.q.job n)) → IsSound joint
  sound_where_free none = hands_over s.graph (regions_in s s.moves.taken) s.state s.q.job
      unites.kept unites.numbers s.colours (heres s) (λ n has. none n (unites.only n has))
      (sound_taken s)

-- where what is lent has come together
module _ (s : Setup) (xs : List Element)
    (gathers : Gathers (elements s) xs s.moves.given s.moves.taken)
    (within : (y : Element) → Contains s.lent y → Contains xs y) where
  -- what is lent is held
  pub lent_taken : (d : Colour) → Contains (lent_colours s) d
      → (y : Element) × Contains s.lent y × HoldsLive (taken s) s.q y d
  lent_taken d has = let from = s.lent_holds d has in (
    from.0,
    from.1,
    held_in s s.moves.taken from.0 d (gathers.still from.0 (within from.0 from.1)) from.2,
  )

  module _ (after : Colours) (unites : Unites s.q.job (all_lent s) (with_begun s) after) where
    -- each colour that becomes one is that of `Here`, or is held by an element that is together
    -- with all that is lent
    may : (y : Element) → ((z : Element) → Contains s.lent z → TogetherIn (elements s) s.moves.taken
        z y)
        → ((n : ℕ) → begun s ≡ OfJob s.q.job n → IsUnheld (taken s) (OfJob s.q.job n))
        → (n : ℕ) → Contains unites.numbers n → MayUnite (taken s) s.q y unites.kept n
    may y all new n has = elim (first_or_later (begun s) (lent_colours s) (OfJob s.q.job n)
        (unites.only n has)) [
          | inl is ↦ inr (inl (new n is))
          | inr there ↦ let held = lent_taken (OfJob s.q.job n) there in
              inr (inr (held.0, held.2, together_in s s.moves.taken held.0 y (all held.0 held.1)))
        ]

    abbrev Joint : Type 0
    Joint = IsSound (joint s (all_lent s) after unites)

    by_holder : (y : Element) → HoldsLive (taken s) s.q y unites.kept
        → ((z : Element) → Contains s.lent z → TogetherIn (elements s) s.moves.taken z y)
        → ((n : ℕ) → begun s ≡ OfJob s.q.job n → IsUnheld (taken s) (OfJob s.q.job n)) → Joint
    by_holder y holds all new = unites_all s.graph (regions_in s s.moves.taken) s.state s.q y
        unites.kept unites.numbers s.colours (heres s) (top s) holds (may y all new) (sound_taken s)

    -- the new colour of `Here` is the job's
    pub sound_where_new : s.on ≡ None → Joint
    sound_where_new none = elim (first_or_later (begun s) (lent_colours s) unites.kept
        (unites.among (begun s) (first_in (begun s) (lent_colours s)))) [
          | inl is ↦ by s.lent refl (sym (sym here ∙ is))
          | inr there ↦ let held = lent_taken unites.kept there in
              by_holder held.0 held.2 (λ z has. gathers.together z held.0 (within z has)
              (within held.0 held.1)) new
        ]
      where
        here : begun s ≡ OfJob s.q.job s.number
        here = ap (λ o. begun_here o s.q.job s.number) none

        new : (n : ℕ) → begun s ≡ OfJob s.q.job n → IsUnheld (taken s) (OfJob s.q.job n)
        new n is = subst (IsUnheld (taken s)) (sym here ∙ is) (begun_free s)

        free_kept : unites.kept ≡ OfJob s.q.job s.number → (y : Element)
            → ((z : Element) → Contains s.lent z → TogetherIn (elements s) s.moves.taken z y)
            → Joint
        free_kept kept y all = subst (λ k. IsSound (view_of s.graph (regions_in s s.moves.taken)
            s.state (united s.q.job unites.numbers k s.colours))) (sym kept)
            (unites_free s.graph (regions_in s s.moves.taken) s.state s.q y s.number unites.numbers
            s.colours (heres s) (top s) (begun_free s)
            (λ n has. subst (λ k. MayUnite (taken s) s.q y k n) kept (may y all new n has))
            (sound_taken s))

        by : (ys : List Element) → s.lent ≡ ys → unites.kept ≡ OfJob s.q.job s.number → Joint
        by [] is kept = free_kept kept Here
            (λ z has. absurd (none_in z (subst (λ l. Contains l z) is has)))
        by (y ∷ ys) is kept = free_kept kept y
            (λ z has. gathers.together z y (within z has)
            (within y (subst (λ l. Contains l y) (sym is) (first_in y ys))))

    -- it is the actor's, which the caller's `Here` holds
    pub sound_where_here : (a : Owner) → s.on ≡ Some a → here_at s.colours s.q ≡ OfActor a
        → Contains xs Here → Joint
    sound_where_here a is here has =
        by_holder Here (held_in s s.moves.taken Here unites.kept tt (here ∙ sym kept))
        (λ z there. gathers.together z Here (within z there) has)
        (λ n same. absurd (let clash : OfActor a ≡ OfJob s.q.job n = sym own ∙ same in
        let no : ⊥ = cc in no))
      where
        own : begun s ≡ OfActor a
        own = ap (λ o. begun_here o s.q.job s.number) is

        kept : unites.kept ≡ OfActor a
        kept = elim (unites.others (begun s) (first_in (begun s) (lent_colours s))) [
          | inl same ↦ sym same ∙ own
          | inr (n, there, same) ↦ absurd (let clash : OfActor a ≡ OfJob s.q.job n = sym own ∙ same
              in
              let no : ⊥ = cc in no)
        ]

-- where what is lent is given away too
pub sound_where_given : (s : Setup) → Sends (elements s) s.lent s.moves.given s.moves.taken
    → s.on ≡ None → (after : Colours)
    → (unites : Unites s.q.job (all_lent s) (with_begun s) after)
    → IsSound (joint s (all_lent s) after unites)
sound_where_given s sends none after unites = sound_where_free s (all_lent s) after unites
    (λ n has. elim (first_or_later (begun s) (lent_colours s) (OfJob s.q.job n) has) [
      | inl is ↦ subst (IsUnheld (taken s))
          (sym (ap (λ o. begun_here o s.q.job s.number) none) ∙ is) (begun_free s)
      | inr there ↦ (lent_free s sends (OfJob s.q.job n) there).unheld
    ])
