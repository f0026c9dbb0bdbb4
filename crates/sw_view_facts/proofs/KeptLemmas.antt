-- Frames of jobs whose frames a step leaves as they are.
use Rattle.std.specs.Option.{option_map}
use Rattle.std.proofs.Common.{◌≡◌, ℕ, zero, suc, Option, Contains, refl, sym, subst, ap, ◌∙◌}
use Rattle.sw_graph.specs.declared.graph.Graph.{Graph}
use Rattle.sw_value.specs.declared.frame.Frame.{Frame}
use Rattle.sw_value.specs.declared.state.State.{State}
use Rattle.sw_partition.specs.Regions.{Regions}
use Rattle.sw_owner_facts.specs.Colours.{Colour}
use Rattle.sw_owner_facts.specs.View.{Element, FrameShape, Here, Holds, IsFrame, IsLive, Register}
use Rattle.sw_owner_facts.specs.View.{View, Frame as Spot}
use Rattle.sw_owner_facts.specs.Within.{Kept}
use Rattle.sw_view_facts.specs.Changes.{KeepsReach}
use Rattle.sw_view_facts.specs.Views.{Colours, awaited_by, colours_by, elements_in, frame_at}
use Rattle.sw_view_facts.specs.Views.{frame_under, function_of, here_at, live_by, region_by}
use Rattle.sw_view_facts.specs.Views.{shape_by, view_of}
use Rattle.sw_view_facts.proofs.HeldLemmas.{colours_kept}

module _ (graph : Graph) (regions later : Spot → Option Regions) (state next : State)
    (colours after : Colours) (p : Spot)
    (frames : (d : ℕ) → frame_at next (record { job = p.job; depth = d })
    ≡ frame_at state (record { job = p.job; depth = d }))
    (back : IsFrame (view_of graph later next after) p
    → IsFrame (view_of graph regions state colours) p)
    (here : here_at after p ≡ here_at colours p) (stays : later p ≡ regions p)
    (reach : KeepsReach state next colours after) where
  abbrev old : View
  old = view_of graph regions state colours

  abbrev new : View
  new = view_of graph later next after

  under_same : (d : ℕ) → frame_under next p.job d ≡ frame_under state p.job d
  under_same zero = refl
  under_same (suc d) = frames d

  shape_same : new.shape p ≡ old.shape p
  shape_same = ap (λ u. shape_by graph (function_of graph u) (frame_at next p)) (under_same p.depth)
      ∙ ap (shape_by graph (function_of graph (frame_under state p.job p.depth))) (frames p.depth)

  region_same : (x : Element) → new.region p x ≡ old.region p x
  region_same x = ap (λ o. region_by (elements_in graph o) (later p) x) (frames p.depth)
      ∙ ap (λ s. region_by (elements_in graph (frame_at state p)) s x) stays

  live_same : (r : ℕ) → new.live p r ≡ old.live p r
  live_same r = ap (λ o. live_by (elements_in graph o) (awaited_by next p) (later p) r)
      (frames p.depth)
      ∙ ap (λ o. live_by (elements_in graph (frame_at state p))
      (option_map (λ (f : Frame). f.result) o) (later p) r) (frames (suc p.depth))
      ∙ ap (λ s. live_by (elements_in graph (frame_at state p)) (awaited_by state p) s r) stays

  reached_same : (o : Option Frame) (r : ℕ) → frame_at state p ≡ o
      → colours_by next after o r ≡ colours_by state colours o r
  reached_same = colours_kept state next colours after reach p

  pub kept_as_is : Kept old new p
  kept_as_is = record {
    shape = shape_same;
    here = here;
    held = λ {x} {c} h. record {
      frame = back h.frame;
      not_closing = sym (ap (λ (s : FrameShape). s.closing) shape_same) ∙ h.not_closing;
      live = lives x h.live;
      holds = holds x c h.holds;
    };
    together = λ {x} {y} t. region_same x ∙ t ∙ sym (region_same y);
  }
    where
      lives : (x : Element) → IsLive new p x → IsLive old p x
      lives Here l = tt
      lives (Register r) l = sym (live_same r) ∙ l

      holds : (x : Element) (c : Colour) → Holds new p x c → Holds old p x c
      holds Here c h = sym here ∙ h
      holds (Register r) c h = subst (λ l. Contains l c)
          (ap (λ o. colours_by next after o r) (frames p.depth)
          ∙ reached_same (frame_at state p) r refl) h
