-- A call or a return, as a change of views: the frames that it leaves as they are.
use Rattle.std.specs.Option.{option_map, option_map_or}
use Rattle.std.specs.List.{slice_get}
use Rattle.std.proofs.Common.{◌≡◌, ◌≢◌, ℕ, zero, suc, Option, Some, None, [], Contains, refl, sym}
use Rattle.std.proofs.Common.{subst, ap, ◌∙◌, inl, inr}
use Rattle.sw_graph.specs.declared.function.Function.{Function}
use Rattle.sw_graph.specs.declared.graph.Graph.{Graph}
use Rattle.sw_value.specs.declared.frame.Frame.{Frame}
use Rattle.sw_value.specs.declared.state.State.{State}
use Rattle.sw_value.specs.Value.{value_at}
use Rattle.sw_partition.specs.Regions.{Regions}
use Rattle.sw_owner_facts.specs.Colours.{Colour}
use Rattle.sw_owner_facts.specs.View.{Element, Here, Register, above, View, FrameShape, IsLive}
use Rattle.sw_owner_facts.specs.View.{Holds, Frame as Spot}
use Rattle.sw_owner_facts.specs.Within.{Kept}
use Rattle.sw_owner_facts.proofs.FrameLemmas.{cases_frame}
use Rattle.sw_reach_facts.specs.Reached.{colours_of}
use Rattle.sw_view_facts.specs.Views.{Colours, frame_at, frame_under, function_of, shape_by}
use Rattle.sw_view_facts.specs.Views.{elements_in, elements_with, region_by, live_by, colours_by}
use Rattle.sw_view_facts.specs.Views.{awaited_by, view_of}
use Rattle.sw_view_facts.specs.Shifts.{Shifts}
use Rattle.sw_view_facts.proofs.HeldLemmas.{colours_kept}

above_same : (s t : Spot) → above s ≡ above t → s ≡ t
above_same s t e = λ i. record { job = (e i).job; depth = below (e i).depth } where
  below : ℕ → ℕ
  below zero = zero
  below (suc n) = n

module _ (graph : Graph) (regions later : Spot → Option Regions) (state next : State)
    (colours after : Colours) (p : Spot) (f g : Frame)
    (m : Shifts graph regions later state next colours after p f g) where
  abbrev old : View
  old = view_of graph regions state colours

  abbrev new : View
  new = view_of graph later next after

  function_same : function_of graph (Some g) ≡ function_of graph (Some f)
  function_same = ap (slice_get graph.functions) m.call.function

  pub function_stays : (s : Spot) → s ≢ above p
      → function_of graph (frame_at next s) ≡ function_of graph (frame_at state s)
  function_stays s apart = elim (cases_frame s p) [
    | inl same ↦
        ap (λ t. function_of graph (frame_at next t)) same ∙ ap (function_of graph) m.now
        ∙ function_same ∙ sym (ap (function_of graph) m.was)
        ∙ sym (ap (λ t. function_of graph (frame_at state t)) same)
    | inr differ ↦ ap (function_of graph) (m.others s differ apart)
  ]

  under_stays : (j d : ℕ) → ((e : ℕ) → d ≡ suc e → record { job = j; depth = e } ≢ above p)
      → function_of graph (frame_under next j d) ≡ function_of graph (frame_under state j d)
  under_stays j zero apart = refl
  under_stays j (suc d) apart = function_stays (record { job = j; depth = d }) (apart d refl)

  pub elements_stay : (s : Spot) → s ≢ above p
      → elements_in graph (frame_at next s) ≡ elements_in graph (frame_at state s)
  elements_stay s apart = ap (elements_with graph) (function_stays s apart)

  result_stays : (s : Spot) → s ≢ above p → option_map (λ (h : Frame). h.result) (frame_at next s)
      ≡ option_map (λ (h : Frame). h.result) (frame_at state s)
  result_stays s apart = elim (cases_frame s p) [
    | inl same ↦
        ap (λ t. option_map (λ (h : Frame). h.result) (frame_at next t)) same
        ∙ ap (option_map (λ (h : Frame). h.result)) m.now ∙ ap Some m.call.result
        ∙ sym (ap (option_map (λ (h : Frame). h.result)) m.was)
        ∙ sym (ap (λ t. option_map (λ (h : Frame). h.result) (frame_at state t)) same)
    | inr differ ↦ ap (option_map (λ (h : Frame). h.result)) (m.others s differ apart)
  ]

  pub shape_stays : (s : Spot) → s ≢ above p → new.shape s ≡ old.shape s
  shape_stays s apart = by (frame_at state s) refl where
    under : Option Function
    under = function_of graph (frame_under state s.job s.depth)

    frames : (h : Option Frame) → frame_at state s ≡ h → (u : Option Function)
        → shape_by graph u (frame_at next s) ≡ shape_by graph u h
    frames h is u = elim (cases_frame s p) [
      | inl same ↦
          ap (shape_by graph u) (ap (frame_at next) same ∙ m.now) ∙ m.shape u
          ∙ ap (shape_by graph u) (sym m.was ∙ sym (ap (frame_at state) same) ∙ is)
      | inr differ ↦ ap (shape_by graph u) (m.others s differ apart ∙ is)
    ]

    by : (h : Option Frame) → frame_at state s ≡ h → new.shape s ≡ old.shape s
    by None is = frames None is (function_of graph (frame_under next s.job s.depth))
        ∙ sym (ap (shape_by graph under) is)
    by (Some h) is =
        ap (λ u. shape_by graph u (frame_at next s)) (under_stays s.job s.depth (λ e d same.
        let clash : None ≡ Some h =
        sym m.none ∙ ap (λ t. frame_at state (above t)) (sym same)
        ∙ ap (λ n. frame_at state (record { job = s.job; depth = n })) (sym d) ∙ is in
        let x : ⊥ = cc in x))
        ∙ frames (Some h) is under ∙ sym (ap (shape_by graph under) is)

  reached_stays : (p : Spot) (o : Option Frame) (r : ℕ) → frame_at state p ≡ o
      → colours_by next after o r ≡ colours_by state colours o r
  reached_stays = colours_kept state next colours after m.reached

  -- frames that are neither of the two stay
  pub kept_others : (s : Spot) → s ≢ p → s ≢ above p → Kept old new s
  kept_others s differ apart = record {
    shape = shape_stays s apart;
    here = m.heres s apart;
    held = λ {x} {c} h. record {
      frame = m.back s apart h.frame;
      not_closing = sym (ap (λ (t : FrameShape). t.closing) (shape_stays s apart)) ∙ h.not_closing;
      live = lives x h.live;
      holds = holds x c h.holds;
    };
    together = λ {x} {y} t. region_same x ∙ t ∙ sym (region_same y);
  }
    where
      region_same : (x : Element) → new.region s x ≡ old.region s x
      region_same x = ap (λ e. region_by e (later s) x) (elements_stay s apart)
          ∙ ap (λ o. region_by (elements_in graph (frame_at state s)) o x)
          (m.regions_stay s differ apart)

      live_same : (r : ℕ) → new.live s r ≡ old.live s r
      live_same r = ap (λ e. live_by e (awaited_by next s) (later s) r) (elements_stay s apart)
          ∙ ap (λ a. live_by (elements_in graph (frame_at state s)) a (later s) r)
          (result_stays (above s) (λ e. differ (above_same s p e)))
          ∙ ap (λ o. live_by (elements_in graph (frame_at state s)) (awaited_by state s) o r)
          (m.regions_stay s differ apart)

      lives : (x : Element) → IsLive new s x → IsLive old s x
      lives Here l = tt
      lives (Register r) l = sym (live_same r) ∙ l

      holds : (x : Element) (c : Colour) → Holds new s x c → Holds old s x c
      holds Here c h = sym (m.heres s apart) ∙ h
      holds (Register r) c h = subst (λ l. Contains l c)
          (ap (λ o. colours_by next after o r) (m.others s differ apart)
          ∙ reached_stays s (frame_at state s) r refl) h

  -- what a register of the frame p holds that keeps its value
  pub value_stays : (r : ℕ) → value_at g.regs r ≡ value_at f.regs r
      → new.colours p r ≡ old.colours p r
  value_stays r keeps =
      ap (λ o. colours_by next after o r) m.now
      ∙ ap (λ v. option_map_or (colours_of next.cells after.cells) v []) keeps
      ∙ reached_stays p (Some f) r m.was ∙ sym (ap (λ o. colours_by state colours o r) m.was)
