-- A call whose new frame has the colour of what it is lent.
use Rattle.std.proofs.Common.{◌≡◌, ◌⊎◌, Some, None, List, Contains}
use Rattle.std.proofs.Common.{sym, subst, ap, ◌∙◌, inl, inr}
use Rattle.sw_list.proofs.Members.{first_in, later_in}
use Rattle.sw_owner_facts.specs.Calls.{Called}
use Rattle.sw_owner_facts.specs.Colours.{Colour, OfJob}
use Rattle.sw_owner_facts.specs.View.{above, Element, HoldsLive, IsDisconnected, View, FrameShape}
use Rattle.sw_owner_facts.specs.View.{IsUnheld}
use Rattle.sw_region_facts.specs.FrameRegions.{region_in}
use Rattle.sw_view_facts.specs.Views.{Colours, elements_in, elements_with, frame_under, function_of}
use Rattle.sw_view_facts.specs.Views.{region_by, shape_by, shape_with, stands_on}
use Rattle.sw_secure_facts.specs.Painting.{Unites, begun_here}
use Rattle.sw_secure_facts.proofs.Uniting.{joined_become}
use Rattle.sw_secure_call_facts.proofs.After.{all_lent, begun_free, held_before, joint, turns}
use Rattle.sw_secure_call_facts.proofs.After.{with_begun}
use Rattle.sw_secure_call_facts.proofs.Before.{frame_is, regions_in, there}
use Rattle.sw_secure_call_facts.proofs.Holds.{called, shape_is}
use Rattle.sw_secure_call_facts.proofs.Pushing.{new, new_here}
use Rattle.sw_secure_call_facts.proofs.Renamed.{becomes_or_stays}
use Rattle.sw_secure_call_facts.proofs.Setup.{Setup, begun, elements, lent_colours}
use Rattle.sw_secure_call_facts.proofs.Before.{taken}

-- the shape of the caller's frame
pub caller_shape : (s : Setup) (joined : List Colour) (after : Colours)
    (unites : Unites s.q.job joined (with_begun s) after)
    → (joint s joined after unites).shape s.q
    ≡ shape_with s.graph (function_of s.graph (frame_under s.state s.q.job s.q.depth)) s.f
    (Some s.function)
caller_shape s joined after unites =
    ap (shape_by s.graph (function_of s.graph (frame_under s.state s.q.job s.q.depth))) (frame_is s)
    ∙ ap (shape_with s.graph (function_of s.graph (frame_under s.state s.q.job s.q.depth)) s.f)
    s.x.is

-- the region of an element of the caller's, where arguments are lent
pub region_lent : (s : Setup) (joined : List Colour) (after : Colours)
    (unites : Unites s.q.job joined (with_begun s) after) (y : Element)
    → (joint s joined after unites).region s.q y ≡ region_in (elements s) s.moves.taken y
region_lent s joined after unites y =
    ap (λ o. region_by (elements_in s.graph o) (regions_in s s.moves.taken s.q) y) (frame_is s)
    ∙ ap (λ o. region_by (elements_with s.graph o) (regions_in s s.moves.taken s.q) y) s.x.is
    ∙ ap (λ o. region_by (elements s) o y) (there s s.moves.taken)

module _ (s : Setup) (after : Colours) (unites : Unites s.q.job (all_lent s) (with_begun s) after)
  where
    abbrev pub mixed : View
    mixed = joint s (all_lent s) after unites

    abbrev pub later : View
    later = new s (all_lent s) after unites

    abbrev turn : Colour → Colour
    turn = turns s (all_lent s) after unites

    pub is_kept : (d : Colour) → Contains (all_lent s) d → turn d ≡ unites.kept
    is_kept = joined_become s.q.job (all_lent s) (with_begun s) after unites

    pub begun_kept : turn (begun s) ≡ unites.kept
    begun_kept = is_kept (begun s) (first_in (begun s) (lent_colours s))

    pub within : (d : Colour) → Contains (all_lent s) d → Contains (all_lent s) d
    within d has = has

    pub lent_one : (d : Colour) → Contains (lent_colours s) d
        → (turn (begun s) ≡ turn d) ⊎ IsDisconnected mixed s.q.job (turn d)
    lent_one d has = inl (begun_kept ∙ sym (is_kept d (later_in (begun s) (lent_colours s) d has)))

    pub above_here : later.here (above s.q) ≡ unites.kept
    above_here = new_here s (all_lent s) after unites ∙ begun_kept

    pub call : Called mixed later s.q
    call = called s (all_lent s) after unites within lent_one

    pub new_shape : later.shape (above s.q)
        ≡ shape_with s.graph (Some s.function) s.t (Some s.callee)
    new_shape = shape_is s (all_lent s) after unites within lent_one

    pub same_executor : s.t.executor ≡ s.f.executor
        → (later.shape (above s.q)).executor ≡ (later.shape s.q).executor
    same_executor same = ap (λ (h : FrameShape). h.executor) new_shape
        ∙ ap stands_on same
        ∙ sym (ap (λ (h : FrameShape). h.executor)
        (call.caller.shape ∙ caller_shape s (all_lent s) after unites))

    -- where nothing that becomes one is held, neither is what it becomes
    pub kept_unheld : ((d : Colour) → Contains (all_lent s) d → IsUnheld (taken s) d)
        → IsUnheld mixed unites.kept
    kept_unheld free p y h =
        let found = held_before s (all_lent s) after unites p y unites.kept h in
        elim (becomes_or_stays s.q.job unites.numbers unites.kept found.0) [
          | inl (n, has, is) ↦ free (OfJob s.q.job n) (unites.only n has) p y
              (subst (HoldsLive (taken s) p y) is found.1)
          | inr same ↦ free unites.kept
              (unites.among (begun s) (first_in (begun s) (lent_colours s))) p y
              (subst (HoldsLive (taken s) p y) (sym same ∙ found.2) found.1)
        ]

    -- if what isn't held is all the job's, the new `Here` is disconnected
    pub here_free : ((d : Colour) → Contains (all_lent s) d → IsDisconnected (taken s) s.q.job d)
        → IsDisconnected mixed s.q.job (later.here (above s.q))
    here_free free =
        let kept = free unites.kept (unites.among (begun s) (first_in (begun s) (lent_colours s)))
        in
        record {
          number = kept.number;
          owner = above_here ∙ kept.owner;
          unheld = subst (IsUnheld mixed) (sym above_here) (kept_unheld
              (λ d has. (free d has).unheld));
        }

    -- the colour of `Here`, if it is new, is disconnected
    pub begun_alone : s.on ≡ None → IsDisconnected (taken s) s.q.job (begun s)
    begun_alone none =
        let is : begun s ≡ OfJob s.q.job s.number = ap (λ o. begun_here o s.q.job s.number) none in
        record {
          number = s.number;
          owner = is;
          unheld = subst (IsUnheld (taken s)) (sym is) (begun_free s);
        }
