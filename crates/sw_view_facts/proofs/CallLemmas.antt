-- A call, from the machine's step to a move of views.
use Rattle.std.proofs.Common.{◌≡◌, ◌⊎◌, ◌+◌, ℕ, false, Option, Some, List, refl, sym, subst, ap}
use Rattle.std.proofs.Common.{◌∙◌, Bool, true, cond, option_map, option_and_then, Contains, None}
use Rattle.std.proofs.Common.{slice_get, ◌≢◌}
use Rattle.sw_list.proofs.ListLemmas.{some_injective}
use Rattle.sw_graph.specs.declared.function.Function.{Function}
use Rattle.sw_graph.specs.declared.graph.Graph.{Graph}
use Rattle.sw_graph.specs.Points.{Middle}
use Rattle.sw_value.specs.declared.effect.Effect.TheVariants.{Enter}
use Rattle.sw_value.specs.declared.frame.Frame.{Frame}
use Rattle.sw_value.specs.declared.state.State.{State}
use Rattle.sw_value.specs.Frame.{go_on}
use Rattle.sw_value.specs.Job.{enter}
use Rattle.sw_value.specs.Reach.{step_of}
use Rattle.sw_value.specs.State.{in_job}
use Rattle.sw_partition.specs.Regions.{Regions}
use Rattle.sw_region_ops.specs.Elements.{elements_of, element_at}
use Rattle.sw_owner_facts.specs.Calls.{Called, ResultWith}
use Rattle.sw_owner_facts.specs.Colours.{Colour}
use Rattle.sw_owner_facts.specs.View.{Element, HoldsLive, InOneRegion, IsDisconnected, FrameShape}
use Rattle.sw_owner_facts.specs.View.{View, above, Frame as Spot, IsLive, Register}
use Rattle.sw_region_facts.specs.FrameRegions.{LiveIn, TogetherIn, region_in}
use Rattle.sw_region_facts.specs.Moves.{Sets}
use Rattle.sw_view_facts.specs.Calling.{Enters}
use Rattle.sw_view_facts.specs.Changes.{KeepsShape}
use Rattle.sw_view_facts.specs.Views.{Colours, annotated, closes_at, elements_in, elements_with}
use Rattle.sw_view_facts.specs.Views.{frame_under, function_of, is_return, shape_by, shape_with}
use Rattle.sw_view_facts.specs.Views.{view_of, frame_at, tracked_in}
use Rattle.sw_view_facts.proofs.ChangeLemmas.{comes_itself, comes_here}
use Rattle.sw_view_facts.proofs.EffectLemmas.{step_is}
use Rattle.sw_view_facts.proofs.EnterLemmas.{calls, now, now_above, not_waiting, region_now}
use Rattle.sw_view_facts.proofs.EnterLemmas.{region_then}
use Rattle.sw_view_facts.proofs.ShapeLemmas.{open_after, open_here, shape_kept}
use Rattle.sw_view_facts.proofs.TopLemmas.{ends_with, frame_was}

module _ (graph : Graph) (states : ℕ → List (Option Regions)) (state : State) (p : Spot)
    (f t : Frame) (function : Function) (regions : Spot → Option Regions) (colours after : Colours)
    (made : Regions)
    (x : Enters graph states state p f t function regions colours after made) where
  abbrev old : View
  old = view_of graph regions state colours

  abbrev next : State
  next = step_of graph state p.job

  abbrev new : View
  new = view_of graph (annotated states next) next after

  open_before : closes_at graph function f.point ≡ false
  open_before = open_here graph function f.point (ap is_return x.stands.here)

  keeps : KeepsShape graph f (go_on (f.point + 1) f)
  unfolding go_on
  keeps = shape_kept graph function f (go_on (f.point + 1) f)
      (record { function = refl; executor = refl; crossing = refl; result = refl }) x.stands.is refl
      (open_after graph function f.point (Middle x.instr) x.stands.here x.ordinary ∙ sym open_before)

  stepped : next ≡ in_job (enter t (f.point + 1)) p.job state
  stepped = step_is graph state p x.job f function (Middle x.instr) (Enter t (f.point + 1)) x.stands
      x.gives refl

  -- The callee's elements that share a colour are in one region, and what it holds has the colour
  -- of its `Here`, or was sent.
  pub enters_calls : (c : Regions) (sources : List Element) → annotated states next p ≡ Some c
      → Sets (elements_of graph.shapes function.regs) t.result sources made c
      → ((y z : Element) (d : Colour) → HoldsLive new (above p) y d → HoldsLive new (above p) z d
      → InOneRegion new (above p) y z)
      → ((y : Element) (d : Colour) → HoldsLive new (above p) y d
      → (new.here (above p) ≡ d) ⊎ IsDisconnected old p.job d)
      → Called old new p
  enters_calls c sources = subst (λ s. annotated states s p ≡ Some c
      → Sets (elements_of graph.shapes function.regs) t.result sources made c
      → ((y z : Element) (d : Colour) → HoldsLive (view_of graph (annotated states s) s after) (above p) y d
      → HoldsLive (view_of graph (annotated states s) s after) (above p) z d
      → InOneRegion (view_of graph (annotated states s) s after) (above p) y z)
      → ((y : Element) (d : Colour)
      → HoldsLive (view_of graph (annotated states s) s after) (above p) y d
      → ((view_of graph (annotated states s) s after).here (above p) ≡ d)
      ⊎ IsDisconnected old p.job d)
      → Called old (view_of graph (annotated states s) s after) p) (sym stepped) by where
        later : State
        later = in_job (enter t (f.point + 1)) p.job state

        by : annotated states later p ≡ Some c
            → Sets (elements_of graph.shapes function.regs) t.result sources made c
            → ((y z : Element) (d : Colour)
            → HoldsLive (view_of graph (annotated states later) later after) (above p) y d
            → HoldsLive (view_of graph (annotated states later) later after) (above p) z d
            → InOneRegion (view_of graph (annotated states later) later after) (above p) y z)
            → ((y : Element) (d : Colour)
            → HoldsLive (view_of graph (annotated states later) later after) (above p) y d
            → ((view_of graph (annotated states later) later after).here (above p) ≡ d)
            ⊎ IsDisconnected old p.job d)
            → Called old (view_of graph (annotated states later) later after) p
        by behind sets meets held =
            let split = ends_with x.job.frames p.depth f x.stands.top.top x.stands.top.height in
            calls graph states regions state colours after p x.job split.0 f t made c
            x.stands.top.there split.1 split.2 x.stands.running keeps x.cells x.heres x.before
            x.elsewhere behind
            (λ y z one two same. subst (λ e. TogetherIn e c y z) (sym elements_same)
            (sets.together y z y z (comes_itself t.result sources y one)
            (comes_itself t.result sources z two)
            (subst (λ e. TogetherIn e made y z) elements_same same)))
            (λ y one live. subst (λ e. LiveIn e made y) (sym elements_same)
            (sets.live y one (subst (λ e. LiveIn e c y) elements_same live)))
            meets held opened
          where
            elements_same : elements_in graph (Some f) ≡ elements_of graph.shapes function.regs
            elements_same = ap (elements_with graph) x.stands.is

            opened : (old.shape p).closing ≡ false
            opened = ap (λ (s : FrameShape). s.closing)
                (ap (shape_by graph (function_of graph (frame_under state p.job p.depth)))
                (frame_was state p x.job f x.stands.top)
                ∙ ap (shape_with graph (function_of graph (frame_under state p.job p.depth)) f)
                x.stands.is) ∙ open_before

  -- the register that waits, if the result may be in a region of the caller's
  result_is : (r : ℕ) → (new.shape (above p)).result ≡ Some r
      → frame_at next (above p) ≡ Some t → r ≡ t.result
  result_is r is there = by (slice_get graph.functions t.function)
      (sym (ap (λ o. (shape_by graph under o).result) there) ∙ is) where
        under : Option Function
        under = function_of graph (frame_under next (above p).job (above p).depth)

        tracked : (o : Option ℕ) → option_map (λ (_ : ℕ). t.result) o ≡ Some r → r ≡ t.result
        tracked None e = cc
        tracked (Some k) e = sym (some_injective e)

        inside : (o : Option Function) → option_and_then (tracked_in graph t.result) o ≡ Some r
            → r ≡ t.result
        inside None e = cc
        inside (Some function) e =
            tracked (element_at (elements_of graph.shapes function.regs) t.result) e

        unsent : (b : Bool) → cond b None (option_and_then (tracked_in graph t.result) under) ≡ Some r
            → r ≡ t.result
        unsent true e = cc
        unsent false e = inside under e

        by : (o : Option Function) → (shape_with graph under t o).result ≡ Some r → r ≡ t.result
        by None e = cc
        by (Some callee) e = unsent callee.sends e

  -- The result register is with each element that the result may come from.
  pub enters_shares : (c : Regions) (sources : List Element) → annotated states next p ≡ Some c
      → Sets (elements_of graph.shapes function.regs) t.result sources made c
      → (s : Element) → Contains sources s → ResultWith old new p s
  enters_shares c sources behind sets s source r is y d held same =
      let split = ends_with x.job.frames p.depth f x.stands.top.top x.stands.top.height in
      let later = in_job (enter t (f.point + 1)) p.job state in
      let there : frame_at next (above p) ≡ Some t =
      ap (λ w. frame_at w (above p)) stepped
      ∙ now_above graph states regions state colours after p x.job split.0 f t made c
      x.stands.top.there split.1 split.2 x.stands.running keeps x.cells x.heres x.before
      x.elsewhere in
      let behind_later : annotated states later p ≡ Some c =
      ap (λ w. annotated states w p) (sym stepped) ∙ behind in
      let apart : y ≢ Register t.result =
      not_waiting graph states regions state colours after p x.job split.0 f t made c
      x.stands.top.there split.1 split.2 x.stands.running keeps x.cells x.heres x.before
      x.elsewhere behind_later y
      (subst (λ w. IsLive (view_of graph (annotated states w) w after) p y) stepped held.live) in
      let now : (z : Element) → new.region p z ≡ region_in (elements_in graph (Some f)) c z =
      λ z. ap (λ w. (view_of graph (annotated states w) w after).region p z) stepped
      ∙ region_now graph states regions state colours after p x.job split.0 f t made c
      x.stands.top.there split.1 split.2 x.stands.running keeps x.cells x.heres x.before
      x.elsewhere behind_later z in
      let then : (z : Element) → old.region p z ≡ region_in (elements_in graph (Some f)) made z =
      region_then graph states regions state colours after p x.job split.0 f t made c
      x.stands.top.there split.1 split.2 x.stands.running keeps x.cells x.heres x.before
      x.elsewhere behind_later in
      let elements_same : elements_in graph (Some f) ≡ elements_of graph.shapes function.regs =
      ap (elements_with graph) x.stands.is in
      now y
      ∙ subst (λ e. TogetherIn e c y (Register t.result)) (sym elements_same)
      (sets.together y (Register t.result) y s (comes_itself t.result sources y apart)
      (comes_here t.result sources t.result refl s source)
      (subst (λ e. TogetherIn e made y s) elements_same (sym (then y) ∙ same ∙ then s)))
      ∙ sym (now (Register t.result))
      ∙ ap (λ k. new.region p (Register k)) (sym (result_is r is there))

  -- the frame that is pushed, above its caller's function
  pub enters_shape : new.shape (above p)
      ≡ shape_with graph (Some function) t (slice_get graph.functions t.function)
  unfolding go_on
  enters_shape =
      let split = ends_with x.job.frames p.depth f x.stands.top.top x.stands.top.height in
      let there : frame_at next (above p) ≡ Some t =
      ap (λ w. frame_at w (above p)) stepped
      ∙ now_above graph states regions state colours after p x.job split.0 f t made made
      x.stands.top.there split.1 split.2 x.stands.running keeps x.cells x.heres x.before
      x.elsewhere in
      let under : frame_at next p ≡ Some (go_on (f.point + 1) f) =
      ap (λ w. frame_at w p) stepped
      ∙ now graph states regions state colours after p x.job split.0 f t made made
      x.stands.top.there split.1 split.2 x.stands.running keeps x.cells x.heres x.before
      x.elsewhere in
      ap (shape_by graph (function_of graph (frame_at next p))) there
      ∙ ap (λ o. shape_with graph (function_of graph o) t (slice_get graph.functions t.function))
      under
      ∙ ap (λ o. shape_with graph o t (slice_get graph.functions t.function)) x.stands.is
