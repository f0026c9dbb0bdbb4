-- The state after a step that changes one frame is secure, if its view is sound and its memory is
-- owned.
use Rattle.std.proofs.Common.{◌≡◌, ℕ, true, false, Option, Some, List, length, refl, sym}
use Rattle.std.proofs.Common.{subst, ap, ◌∙◌, arith}
use Rattle.std.specs.List.{slice_get}
use Rattle.std.proofs.lemmas.Option.{slice_get_within}
use Rattle.sw_types.specs.declared.ty.Ty.{Ty}
use Rattle.sw_graph.specs.declared.function.Function.{Function}
use Rattle.sw_graph.specs.declared.graph.Graph.{Graph}
use Rattle.sw_graph.specs.Points.{Point}
use Rattle.sw_value.specs.declared.cell.HeapCell.{HeapCell}
use Rattle.sw_value.specs.declared.effect.Effect.{Effect}
use Rattle.sw_value.specs.declared.frame.Frame.{Frame}
use Rattle.sw_value.specs.declared.job.Job.{Job}
use Rattle.sw_value.specs.declared.job.Status.TheVariants.{Waiting}
use Rattle.sw_value.specs.declared.state.State.{State}
use Rattle.sw_value.specs.Effect.{point_effect}
use Rattle.sw_value.specs.Reach.{after_effect, step_of}
use Rattle.sw_partition.specs.Regions.{Regions}
use Rattle.sw_machine_kind_facts.specs.Standing.{AwaitFits, StatusFits, awaited_in}
use Rattle.sw_machine_kind_facts.proofs.EffectLemmas.{going}
use Rattle.sw_machine_kind_facts.proofs.ItemLemmas.{found_within}
use Rattle.sw_owner_facts.specs.Colours.{Colour}
use Rattle.sw_owner_facts.specs.View.{Frame as Spot}
use Rattle.sw_reach_facts.specs.Coloured.{HaveColours}
use Rattle.sw_view_facts.specs.Effects.{is_inside}
use Rattle.sw_view_facts.specs.Renaming.{united}
use Rattle.sw_view_facts.specs.Standing.{StandsAt}
use Rattle.sw_view_facts.specs.Views.{Colours}
use Rattle.sw_view_facts.proofs.EffectLemmas.{inside_executes, step_is}
use Rattle.sw_store_facts.specs.Sound.{HasSoundView, HaveHeres}
use Rattle.sw_secure_facts.specs.Memory.{OwnsMemory}
use Rattle.sw_secure_facts.specs.Painting.{Unites}
use Rattle.sw_secure_facts.specs.Secure.{HeresFit, IsSecure, WaitsFit}
use Rattle.sw_secure_facts.proofs.Heres.{have_heres}
use Rattle.sw_secure_facts.proofs.Recoloured.{have_united, heres_united, memory_united}
use Rattle.sw_secure_facts.proofs.Secured.{later_kinds, secured}
use Rattle.sw_secure_facts.proofs.Staying.{heres_inside, memory_stays, waits_inside, waits_on_job}

-- what stands in two lists at one index
same_item : {X : Type 0} (xs ys : List X) (k : ℕ) (x y : X) → slice_get xs k ≡ Some x
    → slice_get ys k ≡ Some x → slice_get ys k ≡ Some y → slice_get xs k ≡ Some y
same_item xs ys k x y old new is = old ∙ sym new ∙ is

module _ (graph : Graph) (states : ℕ → List (Option Regions)) (state : State) (colours : Colours)
    (s : IsSecure graph states state colours) where
  -- a job that waits: there is a result, the same before and after a step
  pub result_was : (item on r j : ℕ) (result : Ty) (o : Job) → slice_get state.jobs j ≡ Some o
      → o.status ≡ Waiting on r
      → slice_get (later_kinds graph states state colours s item).kinded.world.results on
      ≡ Some result → slice_get s.coloured.kinded.world.results on ≡ Some result
  result_was item on r j result o at waits is =
      let kinded = s.coloured.kinded in
      let inside = slice_get_within state.jobs j o at in
      let count = kinded.fits.job_count in
      let own = found_within kinded.world.results j (omega (arith, inside, count)) in
      let goes = going graph kinded.world o own.0 (kinded.fits.jobs j o own.0 at own.1)
      (λ v ended. let clash = sym waits ∙ ended in cc) in
      let fits : AwaitFits graph kinded.world.results goes.top on r =
      subst (StatusFits graph kinded.world goes.top) waits goes.status in
      same_item s.coloured.kinded.world.results
      (later_kinds graph states state colours s item).kinded.world.results on fits.result result
      fits.is ((later_kinds graph states state colours s item).grows.results on fits.result fits.is)
      is

  module _ (q : Spot) (job : Job) (f : Frame) (function : Function) (point : Point)
      (x : StandsAt graph state q job f function point) (e : Effect) (inside : is_inside e ≡ true)
      (gives : point_effect graph state (length job.frames) f point ≡ e) where
    abbrev next : State
    next = step_of graph state q.job

    pub steps : next ≡ after_effect q.job e state
    steps = step_is graph state q job f function point e x gives (inside_executes e inside)

    -- what waits does as it has to
    pub waiting_secured : (after : Colours) → HeresFit state after
        → HaveColours graph next.cells after.cells → HasSoundView graph states next after
        → OwnsMemory graph next after
        → WaitsFit graph (later_kinds graph states state colours s q.job).kinded.world.results next
        → IsSecure graph states next after
    waiting_secured after heres have sound memory waits =
        secured graph states state colours s q.job after have sound memory
        (subst (λ t. HeresFit t after) (sym steps)
        (heres_inside graph state q job f x.top e inside after after refl heres)) waits

    pub effect_secured : waits_on_job e ≡ false → (after : Colours) → HeresFit state after
        → HaveColours graph next.cells after.cells → HasSoundView graph states next after
        → OwnsMemory graph next after → IsSecure graph states next after
    effect_secured no_wait after heres have sound memory =
        waiting_secured after heres have sound memory
        (subst (WaitsFit graph (later_kinds graph states state colours s
        q.job).kinded.world.results)
        (sym steps)
        (waits_inside graph state q job f x.top e inside s.coloured.kinded.world.results
        (later_kinds graph states state colours s q.job).kinded.world.results
        (ap awaited_in x.running) no_wait
        (λ on result j r o at waits is. result_was q.job on r j result o at waits is) s.waits))

    -- memory stays, and colours become one
    pub united_secured : waits_on_job e ≡ false
        → (after_effect q.job e state).cells ≡ state.cells
        → (after_effect q.job e state).globals ≡ state.globals → (numbers : List ℕ)
        (kept : Colour) → HasSoundView graph states next (united q.job numbers kept colours)
        → IsSecure graph states next (united q.job numbers kept colours)
    united_secured no_wait cells globals numbers kept sound =
        let stay = ap (λ (t : State). t.cells) steps ∙ cells in
        effect_secured no_wait (united q.job numbers kept colours)
        (heres_united graph state q.job numbers kept colours s.heres)
        (subst (λ (l : List HeapCell). HaveColours graph l (united q.job numbers kept
        colours).cells)
        (sym stay) (have_united graph state q.job numbers kept colours s.coloured.have)) sound
        (memory_stays graph (united q.job numbers kept colours) state next stay
        (ap (λ (t : State). t.globals) steps ∙ globals)
        (memory_united graph state q.job numbers kept colours s.memory))

    pub unites_secured : waits_on_job e ≡ false
        → (after_effect q.job e state).cells ≡ state.cells
        → (after_effect q.job e state).globals ≡ state.globals → (joined : List Colour)
        (after : Colours) → Unites q.job joined colours after → HasSoundView graph states next after
        → IsSecure graph states next after
    unites_secured no_wait cells globals joined after u sound =
        subst (IsSecure graph states next) (sym u.is)
        (united_secured no_wait cells globals u.numbers u.kept
        (subst (HasSoundView graph states next) u.is sound))

    -- each frame has a colour for its `Here` afterwards
    pub heres_next : HaveHeres graph states next colours
    heres_next = have_heres graph states next colours (subst (λ t. HeresFit t colours) (sym steps)
        (heres_inside graph state q job f x.top e inside colours colours refl s.heres))
