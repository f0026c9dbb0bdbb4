-- The views of a call before the frame begins: arguments are given away, then the others are lent.
use Rattle.std.proofs.Common.{◌≡◌, ◌≢◌, ℕ, false, Option, Some, List, Contains, sym, ap}
use Rattle.std.proofs.Common.{◌∙◌}
use Rattle.sw_list.proofs.Members.{later_in}
use Rattle.sw_types.specs.declared.isolation.CallKind.{CallKind}
use Rattle.sw_types.specs.declared.isolation.CallKind.TheVariants.{Plain, Same, Weak, Strong, Make}
use Rattle.sw_partition.specs.Regions.{Regions}
use Rattle.sw_owner_facts.specs.Colours.{Colour}
use Rattle.sw_owner_facts.specs.Owned.{IsSound}
use Rattle.sw_owner_facts.specs.View.{Element, Here, HoldsLive, InOneRegion, IsDisconnected}
use Rattle.sw_owner_facts.specs.View.{IsFrame}
use Rattle.sw_owner_facts.specs.View.{IsTop, IsUnheld, View, Frame as Spot}
use Rattle.sw_owner_facts.specs.Within.{Weakened}
use Rattle.sw_owner_facts.proofs.WithinLemmas.{given_is_disconnected, weakened}
use Rattle.sw_region_facts.specs.Calling.{Lends}
use Rattle.sw_region_facts.specs.FrameRegions.{IsWeaker, LiveIn, TogetherIn}
use Rattle.sw_region_facts.specs.Moves.{Sends}
use Rattle.sw_view_facts.specs.Changes.{HoldsIn}
use Rattle.sw_view_facts.specs.Steps.{ChangesFrame}
use Rattle.sw_view_facts.specs.Views.{annotated, closes_at, frame_at, here_at, is_return, over}
use Rattle.sw_view_facts.specs.Views.{state_with, view_of}
use Rattle.sw_view_facts.specs.Renaming.{HasHere}
use Rattle.sw_view_facts.proofs.EffectLemmas.{over_other, over_there}
use Rattle.sw_view_facts.proofs.ShapeLemmas.{open_here}
use Rattle.sw_view_facts.proofs.StepLemmas.{regions_give, regions_weaken}
use Rattle.sw_view_facts.proofs.TopLemmas.{untouched}
use Rattle.sw_store_facts.proofs.Holding.{holds_live, one_region}
use Rattle.sw_store_facts.proofs.Stepping as step
use Rattle.sw_secure_facts.proofs.Heres.{have_heres}
use Rattle.sw_secure_call_facts.proofs.Setup.{Setup, elements, lent_colours}

-- a call leaves the caller's regions weaker, and what it lends was live
lends_weaker : (kind : CallKind) (es : List (Option ℕ)) (xs : List Element) (a b : Regions)
    → Lends kind es xs a b → IsWeaker es a b
lends_weaker Plain es xs a b l = l.uses.weaker
lends_weaker Same es xs a b l = l.uses.weaker
lends_weaker Weak es xs a b l = l.gathers.uses.weaker
lends_weaker Strong es xs a b l = l.weaker
lends_weaker Make es xs a b l = l.weaker

lends_live : (kind : CallKind) (es : List (Option ℕ)) (xs : List Element) (a b : Regions)
    → Lends kind es xs a b → (y : Element) → Contains xs y → LiveIn es a y
lends_live Plain es xs a b l y has = l.uses.used y has
lends_live Same es xs a b l y has = l.uses.used y (later_in Here xs y has)
lends_live Weak es xs a b l y has = l.gathers.uses.used y has
lends_live Strong es xs a b l y has = (l.sent y has).used
lends_live Make es xs a b l y has = (l.sent y has).used

module _ (s : Setup) where
  abbrev pub first : View
  first = view_of s.graph (annotated s.states s.state) s.state s.colours

  -- the caller is in another region state
  abbrev pub regions_in : Regions → Spot → Option Regions
  regions_in r = over (annotated s.states s.state) s.q r

  abbrev pub seen_in : Regions → View
  seen_in r = view_of s.graph (regions_in r) s.state s.colours

  abbrev pub given : View
  given = seen_in s.moves.given

  abbrev pub taken : View
  taken = seen_in s.moves.taken

  pub frame_is : frame_at s.state s.q ≡ Some s.f
  frame_is = step.frame_is s.graph s.states s.state s.colours s.secure.coloured s.q s.job s.f
      s.function s.instr s.x

  pub before : annotated s.states s.state s.q ≡ Some s.a
  before = ap (state_with s.states) frame_is ∙ s.at

  pub there : (r : Regions) → regions_in r s.q ≡ Some r
  there r = over_there (annotated s.states s.state) s.q r

  pub elsewhere : (r : Regions) (p : Spot) → p ≢ s.q
      → regions_in r p ≡ annotated s.states s.state p
  elsewhere r p differ = over_other (annotated s.states s.state) s.q r p differ

  pub same : ChangesFrame s.state s.state s.q s.f s.f
  same = untouched s.state s.q s.job s.f s.x.top

  pub goes_on : closes_at s.graph s.function s.f.point ≡ false
  goes_on = open_here s.graph s.function s.f.point (ap is_return s.x.here)

  pub top : IsTop first s.q
  top = same.top

  pub heres : (p : Spot) → IsFrame first p → HasHere s.colours p
  heres = have_heres s.graph s.states s.state s.colours s.secure.heres

  -- ---- what is held
  pub held_at_first : (y : Element) (d : Colour) → LiveIn (elements s) s.a y
      → HoldsIn s.state s.colours s.f (here_at s.colours s.q) y d → HoldsLive first s.q y d
  held_at_first y d live holds = holds_live s.graph s.state s.colours s.q s.f s.function same.was
      s.x.is same.alone same.top goes_on (annotated s.states s.state) s.a before y d live holds

  pub held_in : (r : Regions) (y : Element) (d : Colour) → LiveIn (elements s) r y
      → HoldsIn s.state s.colours s.f (here_at s.colours s.q) y d
      → HoldsLive (seen_in r) s.q y d
  held_in r y d live holds = holds_live s.graph s.state s.colours s.q s.f s.function same.was
      s.x.is same.alone same.top goes_on (regions_in r) r (there r) y d live holds

  pub together_in : (r : Regions) (y z : Element) → TogetherIn (elements s) r y z
      → InOneRegion (seen_in r) s.q y z
  together_in r y z one = one_region s.graph s.state s.colours s.q s.f s.function same.was
      s.x.is same.alone same.top goes_on (regions_in r) r (there r) y z one

  -- ---- arguments are given away
  weaker_given : IsWeaker (elements s) s.a s.moves.given
  weaker_given = s.moves.gives.sends.weaker

  weakens_given : Weakened first given
  weakens_given = regions_weaken s.graph (annotated s.states s.state) (regions_in s.moves.given)
      s.state s.colours s.q s.job s.f s.x.top s.function s.x.is s.a s.moves.given before
      (there s.moves.given) (elsewhere s.moves.given) weaker_given

  pub sound_given : IsSound given
  sound_given = weakened first given s.secure.coloured.sound weakens_given

  -- what is given away is the job's, and nothing live holds it
  pub sent_free : (y : Element) (d : Colour) → Contains s.sent y
      → HoldsIn s.state s.colours s.f (here_at s.colours s.q) y d
      → IsDisconnected given s.q.job d
  sent_free y d has holds =
      let sent = s.moves.gives.sends.sent y has in
      given_is_disconnected first given s.q y s.secure.coloured.sound
      (regions_give s.graph (annotated s.states s.state) (regions_in s.moves.given) s.state
      s.colours s.q s.job s.f s.x.top s.function s.x.is s.a s.moves.given before
      (there s.moves.given) (elsewhere s.moves.given) weaker_given y sent) d
      (held_at_first y d sent.used holds)

  -- ---- the others are lent
  weaker_taken : IsWeaker (elements s) s.moves.given s.moves.taken
  weaker_taken = lends_weaker s.kind (elements s) s.lent s.moves.given s.moves.taken s.moves.lends

  apart_taken : (p : Spot) → p ≢ s.q → regions_in s.moves.taken p ≡ regions_in s.moves.given p
  apart_taken p differ = elsewhere s.moves.taken p differ ∙ sym (elsewhere s.moves.given p differ)

  weakens_taken : Weakened given taken
  weakens_taken = regions_weaken s.graph (regions_in s.moves.given) (regions_in s.moves.taken)
      s.state s.colours s.q s.job s.f s.x.top s.function s.x.is s.moves.given s.moves.taken
      (there s.moves.given) (there s.moves.taken) apart_taken weaker_taken

  pub sound_taken : IsSound taken
  sound_taken = weakened given taken sound_given weakens_taken

  -- what nothing holds stays so
  pub free_taken : (d : Colour) → IsUnheld given d → IsUnheld taken d
  free_taken d none p y h =
      none p y ((weakens_taken.frames p h.frame).held h)

  pub lent_live : (y : Element) → Contains s.lent y → LiveIn (elements s) s.moves.given y
  lent_live y has =
      lends_live s.kind (elements s) s.lent s.moves.given s.moves.taken s.moves.lends y has

  -- what is lent was held
  pub lent_given : (d : Colour) → Contains (lent_colours s) d
      → (y : Element) × HoldsLive given s.q y d
  lent_given d has = let from = s.lent_holds d has in
      (from.0, held_in s.moves.given from.0 d (lent_live from.0 from.1) from.2)

  pub lent_first : (d : Colour) → Contains (lent_colours s) d
      → (y : Element) × HoldsLive first s.q y d
  lent_first d has = let from = s.lent_holds d has in
      (from.0, held_at_first from.0 d (weaker_given.live from.0 (lent_live from.0 from.1)) from.2)

  -- where what is lent is given away, it is free
  pub lent_free : Sends (elements s) s.lent s.moves.given s.moves.taken → (d : Colour)
      → Contains (lent_colours s) d → IsDisconnected taken s.q.job d
  lent_free sends d has =
      let from = s.lent_holds d has in
      let sent = sends.sent from.0 from.1 in
      given_is_disconnected given taken s.q from.0 sound_given
      (regions_give s.graph (regions_in s.moves.given) (regions_in s.moves.taken) s.state
      s.colours s.q s.job s.f s.x.top s.function s.x.is s.moves.given s.moves.taken
      (there s.moves.given) (there s.moves.taken) apart_taken weaker_taken from.0 sent) d
      (held_in s.moves.given from.0 d sent.used from.2)
