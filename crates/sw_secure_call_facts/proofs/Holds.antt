-- What the frame of a call holds where it begins: what it is lent has the colour of its `Here`, or
-- nothing else holds it, and what is given to it nothing else holds.
use Rattle.std.proofs.Common.{◌≡◌, ◌⊎◌, ℕ, Bool, true, false, cond, Option, Some, None, List, []}
use Rattle.std.proofs.Common.{length, Contains, refl, sym, subst, ap, ◌∙◌, arith, inl, inr}
use Rattle.std.specs.List.{slice_get}
use Rattle.std.specs.Option.{option_map, option_map_or}
use Rattle.sw_list.proofs.Members.{first_in, later_in, first_or_later, none_in}
use Rattle.sw_graph.specs.declared.function.Function.{Function}
use Rattle.std.proofs.lemmas.Bool.{cases_eq}
use Rattle.std.proofs.lemmas.Option.{slice_get_within}
use Rattle.sw_value.specs.declared.value.Value.{Value}
use Rattle.sw_value.specs.Value.{value_at}
use Rattle.sw_partition.specs.Regions.{Regions}
use Rattle.sw_region_ops.specs.Elements.{element_at, elements_of}
use Rattle.sw_machine_kind_facts.proofs.BeginLemmas.{register_is}
use Rattle.sw_machine_kind_facts.proofs.ItemLemmas.{found_within}
use Rattle.sw_owner_facts.specs.Calls.{Called, ResultWith}
use Rattle.sw_owner_facts.specs.Colours.{Colour}
use Rattle.sw_owner_facts.specs.View.{above, Element, Here, Register, HoldsLive, InOneRegion}
use Rattle.sw_owner_facts.specs.View.{IsDisconnected, FrameShape}
use Rattle.sw_region_facts.specs.Calling.{result_from}
use Rattle.sw_region_facts.specs.FrameRegions.{TogetherIn, region_in}
use Rattle.sw_region_facts.specs.Moves.{if_tracked}
use Rattle.sw_region_facts.proofs.Annotated.{lent_here}
use Rattle.sw_reach_facts.specs.Reached.{colours_of}
use Rattle.sw_view_facts.specs.Views.{Colours, annotated, colours_by, elements_in, elements_with}
use Rattle.sw_view_facts.specs.Views.{region_by, shape_with, result_in, tracked_in}
use Rattle.sw_view_facts.proofs.CallLemmas.{enters_calls, enters_shape, enters_shares}
use Rattle.sw_store_facts.proofs.Bare.{untracked_bare}
use Rattle.sw_color_rules.specs.Plans.{sending_of}
use Rattle.sw_secure_facts.specs.Painting.{Unites, passed}
use Rattle.sw_secure_facts.proofs.Recoloured.{reached_was}
use Rattle.sw_secure_facts.proofs.Uniting.{actors_stay}
use Rattle.std.proofs.lemmas.List.Elements.{Contains-append_right}
use Rattle.sw_secure_call_facts.proofs.After.{after_is, all_lent, alone, between, joint, still_free}
use Rattle.sw_secure_call_facts.proofs.After.{sent_apart_from_lent, stays, turns, with_begun}
use Rattle.sw_secure_call_facts.proofs.Before.{free_taken, regions_in, sent_free}
use Rattle.sw_secure_call_facts.proofs.Passed.{passed_in}
use Rattle.sw_secure_call_facts.proofs.Pushing.{behind_now, cells_stay, enters, entry, have_after}
use Rattle.sw_secure_call_facts.proofs.Pushing.{kinded_next, new, new_here, next, stands_now}
use Rattle.sw_secure_call_facts.proofs.Pushing.{there_now}
use Rattle.sw_secure_call_facts.proofs.Setup.{Setup, begun, elements, lent_colours}

no_result : (b : Bool) (o : Option ℕ) → o ≡ None → cond b None o ≡ None
no_result true o is = refl
no_result false o is = is

module _ (s : Setup) (joined : List Colour) (after : Colours)
    (unites : Unites s.q.job joined (with_begun s) after)
    (within : (d : Colour) → Contains joined d → Contains (all_lent s) d)
    (lent_ok : (d : Colour) → Contains (lent_colours s) d
    → (turns s joined after unites (begun s) ≡ turns s joined after unites d)
    ⊎ IsDisconnected (joint s joined after unites) s.q.job (turns s joined after unites d)) where
  abbrev turn : Colour → Colour
  turn = turns s joined after unites

  abbrev es : List (Option ℕ)
  es = elements_of s.graph.shapes s.callee.regs

  abbrev e : Regions
  e = (entry s joined after unites).0

  abbrev shows : Value → List Colour
  shows v = colours_of s.state.cells s.colours.cells v

  -- what a register holds is what one of the values reached
  record FromValue (r : ℕ) (d : Colour) : Type 0 where
    value : Value
    at : slice_get s.values r ≡ Some value
    old : Colour
    has : Contains (shows value) old
    is : turn old ≡ d
    sends : Bool
    sending : slice_get s.callee.sending r ≡ Some sends

  from_value : (r : ℕ) (d : Colour) → Contains (colours_by (next s) after (Some s.t) r) d
      → FromValue r d
  from_value r d has = by (value_at s.t.regs r) refl has where
    by : (o : Option Value) → value_at s.t.regs r ≡ o
        → Contains (option_map_or (colours_of (next s).cells after.cells) o []) d → FromValue r d
    by None none has = absurd (none_in d has)
    by (Some v) is has =
        let at : slice_get s.values r ≡ Some v =
        sym (ap (λ l. value_at l r) s.regs ∙ register_is (length s.callee.regs) s.values r) ∙ is in
        let low = slice_get_within s.values r v at in
        let few = s.few in
        let sends = found_within s.callee.sending r (omega (arith, low, few)) in
        let old = reached_was s.graph s.state turn s.colours
        (actors_stay s.q.job unites.numbers unites.kept) v d
        (subst (λ (c : Colours). Contains (colours_of s.state.cells c.cells v) d)
        (after_is s joined after unites)
        (subst (λ cells. Contains (colours_of cells after.cells v) d) (cells_stay s) has)) in
        record {
          value = v;
          at = at;
          old = old.0;
          has = old.1;
          is = old.2;
          sends = sends.0;
          sending = sends.1;
        }

  region_is : (y : Element)
      → (new s joined after unites).region (above s.q) y ≡ region_in es e y
  region_is y =
      ap (λ o. region_by (elements_in s.graph o) (annotated s.states (next s) (above s.q)) y)
      (there_now s joined after unites)
      ∙ ap (λ g. region_by (elements_with s.graph g) (annotated s.states (next s) (above s.q)) y)
      s.is
      ∙ ap (λ o. region_by es o y) (stands_now s joined after unites)

  lent_together : (r : ℕ) (d : Colour) → Contains (colours_by (next s) after (Some s.t) r) d
      → slice_get s.callee.sending r ≡ Some false → TogetherIn es e (Register r) Here
  lent_together r d has keeps = by (element_at es r) refl where
    by : (o : Option ℕ) → element_at es r ≡ o → TogetherIn es e (Register r) Here
    by None none = absurd (untracked_bare s.graph s.secure.coloured.clean (next s) (kinded_next s)
        after (have_after s joined after unites) (above s.q) s.t (there_now s joined after unites)
        s.callee s.is r none d has)
    by (Some k) is = lent_here s.graph s.callee (s.states s.t.function)
        (s.secure.coloured.annotates s.t.function s.callee s.is) e (entry s joined after unites).1 r
        k
        keeps is

  -- a value that is lent
  in_lent : (r : ℕ) (v : Value) (c : Colour) → slice_get s.values r ≡ Some v
      → slice_get s.callee.sending r ≡ Some false → Contains (shows v) c
      → Contains (lent_colours s) c
  in_lent r v c at keeps has =
      Contains-append_right s.called (passed s.state s.colours (sending_of s.graph s.t.function)
      s.t.regs) c
      (subst (λ l. Contains (passed s.state s.colours l s.t.regs) c)
      (sym (ap (λ o. option_map_or (λ (g : Function). g.sending) o []) s.is))
      (subst (λ l. Contains (passed s.state s.colours s.callee.sending l) c) (sym s.regs)
      (passed_in s.state s.colours s.callee.sending (length s.callee.regs) s.values r v c at keeps
      has)))

  -- what the new frame holds is with its `Here`, or was given to it
  record IsLent (y : Element) (d : Colour) : Type 0 where
    together : TogetherIn es e y Here
    old : Colour
    has : Contains (all_lent s) old
    is : turn old ≡ d

  record IsGiven (y : Element) (d : Colour) : Type 0 where
    r : ℕ
    here : y ≡ Register r
    value : Value
    at : slice_get s.values r ≡ Some value
    gives : slice_get s.callee.sending r ≡ Some true
    has : Contains (shows value) d
    alone : Contains joined d → ⊥

  given_itself : (r : ℕ) (v : Value) (c d : Colour) → slice_get s.values r ≡ Some v
      → slice_get s.callee.sending r ≡ Some true → Contains (shows v) c → turn c ≡ d
      → IsGiven (Register r) d
  given_itself r v c d at gives has is =
      let apart : Contains joined c → ⊥ =
      λ j. sent_apart_from_lent s r v c at gives has (within c j) in
      let same : c ≡ d = sym (stays s joined after unites c apart) ∙ is in
      record {
        r = r;
        here = refl;
        value = v;
        at = at;
        gives = gives;
        has = subst (Contains (shows v)) same has;
        alone = subst (λ b. Contains joined b → ⊥) same apart;
      }

  parts : (y : Element) (d : Colour) → HoldsLive (new s joined after unites) (above s.q) y d
      → IsLent y d ⊎ IsGiven y d
  parts Here d h = inl (record {
    together = refl;
    old = begun s;
    has = first_in (begun s) (lent_colours s);
    is = sym (new_here s joined after unites) ∙ h.holds;
  })
  parts (Register r) d h = by from.sends from.sending where
    shown : Contains (colours_by (next s) after (Some s.t) r) d
    shown = subst (λ o. Contains (colours_by (next s) after o r) d) (there_now s joined after
        unites)
        h.holds

    from : FromValue r d
    from = from_value r d shown

    by : (b : Bool) → slice_get s.callee.sending r ≡ Some b
        → IsLent (Register r) d ⊎ IsGiven (Register r) d
    by false keeps = inl (record {
      together = lent_together r d shown keeps;
      old = from.old;
      has = later_in (begun s) (lent_colours s) from.old
          (in_lent r from.value from.old from.at keeps from.has);
      is = from.is;
    })
    by true gives = inr (given_itself r from.value from.old d from.at gives from.has from.is)

  not_both : (y z : Element) (d : Colour) → IsLent y d → IsGiven z d → ⊥
  not_both y z d a b =
      let same : a.old ≡ d = alone s joined after unites a.old d b.alone a.is in
      sent_apart_from_lent s b.r b.value d b.at b.gives b.has
      (subst (Contains (all_lent s)) same a.has)

  pub held_together : (y z : Element) (d : Colour)
      → HoldsLive (new s joined after unites) (above s.q) y d
      → HoldsLive (new s joined after unites) (above s.q) z d
      → InOneRegion (new s joined after unites) (above s.q) y z
  held_together y z d h k = by (parts y d h) (parts z d k) where
    by : IsLent y d ⊎ IsGiven y d → IsLent z d ⊎ IsGiven z d
        → InOneRegion (new s joined after unites) (above s.q) y z
    by (inl a) (inl b) = region_is y ∙ a.together ∙ sym b.together ∙ sym (region_is z)
    by (inl a) (inr b) = absurd (not_both y z d a b)
    by (inr a) (inl b) = absurd (not_both z y d b a)
    by (inr a) (inr b) = elim (cases_eq a.r b.r) [
      | inl same ↦ ap ((new s joined after unites).region (above s.q))
          (a.here ∙ ap Register same ∙ sym b.here)
      | inr differ ↦ absurd (s.sent_apart a.r b.r a.value b.value d differ a.at a.gives b.at
          b.gives a.has b.has)
    ]

  pub held_own : (y : Element) (d : Colour)
      → HoldsLive (new s joined after unites) (above s.q) y d
      → ((new s joined after unites).here (above s.q) ≡ d)
      ⊎ IsDisconnected (joint s joined after unites) s.q.job d
  held_own y d h = elim (parts y d h) [
    | inl a ↦ elim (first_or_later (begun s) (lent_colours s) a.old a.has) [
      | inl same ↦ inl (new_here s joined after unites ∙ ap turn same ∙ a.is)
      | inr there ↦ elim (lent_ok a.old there) [
        | inl one ↦ inl (new_here s joined after unites ∙ one ∙ a.is)
        | inr free ↦ inr (subst (IsDisconnected (joint s joined after unites) s.q.job) a.is free)
      ]
    ]
    | inr b ↦
        let from = s.sent_holds b.r b.value d b.at b.gives b.has in
        let free = sent_free s from.0 d from.1 from.2 in
        inr (record {
          number = free.number;
          owner = free.owner;
          unheld = still_free s joined after unites d b.alone (free_taken s d free.unheld);
        })
  ]

  abbrev sources : List Element
  sources = cond s.sends []
      (if_tracked (element_at (elements s) s.t.result) (result_from s.kind s.lent))

  pub called : Called (joint s joined after unites) (new s joined after unites) s.q
  called = enters_calls s.graph s.states s.state s.q s.f s.t s.function (regions_in s s.moves.taken)
      (between s joined after unites) after s.moves.taken (enters s joined after unites) s.c sources
      (behind_now s joined after unites) s.moves.result held_together held_own

  -- the shape of the new frame
  pub shape_is : (new s joined after unites).shape (above s.q)
      ≡ shape_with s.graph (Some s.function) s.t (Some s.callee)
  shape_is = enters_shape s.graph s.states s.state s.q s.f s.t s.function
      (regions_in s s.moves.taken) (between s joined after unites) after s.moves.taken
      (enters s joined after unites) ∙ ap (shape_with s.graph (Some s.function) s.t) s.is

  pub result_is : ((new s joined after unites).shape (above s.q)).result
      ≡ result_in s.graph (Some s.function) s.t s.callee
  result_is = ap (λ (h : FrameShape). h.result) shape_is

  -- the register that waits is with what the result may come from
  pub shares : (y : Element) → Contains (result_from s.kind s.lent) y
      → ResultWith (joint s joined after unites) (new s joined after unites) s.q y
  shares y has r is = by s.sends refl (element_at (elements s) s.t.result) refl r is where
    with_sources : Contains sources y
        → ResultWith (joint s joined after unites) (new s joined after unites) s.q y
    with_sources source = enters_shares s.graph s.states s.state s.q s.f s.t s.function
        (regions_in s s.moves.taken) (between s joined after unites) after s.moves.taken
        (enters s joined after unites) s.c sources (behind_now s joined after unites)
        s.moves.result y source

    by : (b : Bool) → s.sends ≡ b → (o : Option ℕ)
        → element_at (elements s) s.t.result ≡ o
        → ResultWith (joint s joined after unites) (new s joined after unites) s.q y
    by true sends o at r is =
        let none : ((new s joined after unites).shape (above s.q)).result ≡ None =
        result_is ∙ ap (λ b. cond b None (tracked_in s.graph s.t.result s.function))
        (s.sends_too sends) in
        let clash : None ≡ Some r = sym none ∙ is in
        absurd (let no : ⊥ = cc in no)
    by false sends None at r is =
        let none : ((new s joined after unites).shape (above s.q)).result ≡ None =
        result_is ∙ no_result s.callee.sends (option_map (λ (_ : ℕ). s.t.result)
        (element_at (elements s) s.t.result)) (ap (option_map (λ (_ : ℕ). s.t.result)) at) in
        let clash : None ≡ Some r = sym none ∙ is in
        absurd (let no : ⊥ = cc in no)
    by false sends (Some k) at r is = with_sources
        (subst (λ b. Contains (cond b []
        (if_tracked (element_at (elements s) s.t.result) (result_from s.kind s.lent))) y)
        (sym sends)
        (subst (λ o. Contains (if_tracked o (result_from s.kind s.lent)) y) (sym at) has)) r is
