-- The step of a call: the frame that begins, and the one below it.
use Rattle.std.proofs.Common.{◌≡◌, ◌≢◌, ◌+◌, ℕ, suc, Option, Some, List, length, refl, sym}
use Rattle.std.proofs.Common.{subst, ap, ◌∙◌, arith}
use Rattle.sw_graph.specs.declared.function.Function.{Function}
use Rattle.sw_graph.specs.Points.{Middle}
use Rattle.sw_graph.specs.Sure.{SureWay}
use Rattle.sw_value.specs.declared.effect.Effect.TheVariants.{Enter}
use Rattle.sw_value.specs.declared.state.State.{State}
use Rattle.sw_value.specs.Frame.{go_on}
use Rattle.sw_value.specs.Job.{enter}
use Rattle.sw_value.specs.Reach.{step_of}
use Rattle.sw_value.specs.State.{in_job}
use Rattle.sw_solve.specs.Annotation.{value_at}
use Rattle.sw_partition.specs.Regions.{Regions}
use Rattle.sw_machine_kind_facts.specs.Kinded.{Kinded}
use Rattle.sw_machine_kind_facts.specs.Standing.{FrameFits}
use Rattle.sw_owner_facts.specs.Colours.{Colour}
use Rattle.sw_owner_facts.specs.View.{above, View, Frame as Spot}
use Rattle.sw_region_facts.proofs.Annotated.{reached_at}
use Rattle.sw_reach_facts.specs.Coloured.{HaveColours}
use Rattle.sw_view_facts.specs.Calling.{Enters}
use Rattle.sw_view_facts.specs.Changes.{KeepsShape}
use Rattle.sw_view_facts.specs.Renaming.{HasHere}
use Rattle.sw_view_facts.specs.Views.{Colours, annotated, frame_at, here_at, is_return}
use Rattle.sw_view_facts.specs.Views.{state_with, view_of}
use Rattle.sw_view_facts.proofs.EffectLemmas.{step_is}
use Rattle.sw_view_facts.proofs.EnterLemmas as entering
use Rattle.sw_view_facts.proofs.ShapeLemmas.{open_after, open_here, shape_kept}
use Rattle.sw_view_facts.proofs.TopLemmas.{ends_with}
use Rattle.sw_store_facts.proofs.Bare.{fits_at}
use Rattle.sw_secure_facts.specs.Painting.{Unites}
use Rattle.sw_secure_facts.proofs.Recoloured.{have_recoloured}
use Rattle.sw_secure_facts.proofs.Secured.{later_kinds}
use Rattle.sw_secure_facts.proofs.Uniting.{actors_stay}
use Rattle.sw_secure_call_facts.proofs.After.{after_is, between, between_is, turns, with_begun}
use Rattle.sw_secure_call_facts.proofs.Before.{elsewhere, heres, regions_in, there, top}
use Rattle.sw_secure_call_facts.proofs.HereAbove.{here_above, here_elsewhere}
use Rattle.sw_secure_call_facts.proofs.Setup.{Setup, begun}

module _ (s : Setup) where
  abbrev pub next : State
  next = step_of s.graph s.state s.q.job

  pub stepped : next ≡ in_job (enter s.t (s.f.point + 1)) s.q.job s.state
  stepped = step_is s.graph s.state s.q s.job s.f s.function (Middle s.instr)
      (Enter s.t (s.f.point + 1)) s.x s.gives refl

  pub cells_stay : next.cells ≡ s.state.cells
  unfolding in_job
  cells_stay = ap (λ (t : State). t.cells) stepped

  pub globals_stay : next.globals ≡ s.state.globals
  unfolding in_job
  globals_stay = ap (λ (t : State). t.globals) stepped

  pub kinded_next : Kinded s.graph next
  kinded_next = (later_kinds s.graph s.states s.state s.colours s.secure s.q.job).kinded

  keeps : KeepsShape s.graph s.f (go_on (s.f.point + 1) s.f)
  unfolding go_on
  keeps = shape_kept s.graph s.function s.f (go_on (s.f.point + 1) s.f)
      (record { function = refl; executor = refl; crossing = refl; result = refl }) s.x.is refl
      (open_after s.graph s.function s.f.point (Middle s.instr) s.x.here s.ordinary
      ∙ sym (open_here s.graph s.function s.f.point (ap is_return s.x.here)))

  pub own_here : HasHere s.colours s.q
  own_here = heres s s.q (let high = s.x.top.height in let is = top s in omega (arith, is))

  row_height : length own_here.row ≡ suc s.q.depth
  row_height = s.secure.heres.frames s.q.job s.job own_here.row s.x.top.there own_here.rows
      ∙ s.x.top.height

  module _ (joined : List Colour) (after : Colours)
      (unites : Unites s.q.job joined (with_begun s) after) where
    abbrev cs : Colours
    cs = between s joined after unites

    pub cells_same : after.cells ≡ cs.cells
    cells_same = ap (λ (c : Colours). c.cells) (after_is s joined after unites)
        ∙ sym (ap (λ (c : Colours). c.cells) (between_is s joined after unites))

    pub heres_same : (p : Spot) → p ≢ above s.q → here_at after p ≡ here_at cs p
    heres_same p differ = ap (λ (c : Colours). here_at c p) (after_is s joined after unites)
        ∙ here_elsewhere s.colours s.q (begun s) own_here row_height (turns s joined after unites) p
        differ
        ∙ sym (ap (λ (c : Colours). here_at c p) (between_is s joined after unites))

    pub new_here : here_at after (above s.q) ≡ turns s joined after unites (begun s)
    new_here = ap (λ (c : Colours). here_at c (above s.q)) (after_is s joined after unites)
        ∙ here_above s.colours s.q (begun s) own_here row_height (turns s joined after unites)

    pub have_after : HaveColours s.graph next.cells after.cells
    have_after = subst (λ cells. HaveColours s.graph cells after.cells) (sym cells_stay)
        (subst (λ (c : Colours). HaveColours s.graph s.state.cells c.cells)
        (sym (after_is s joined after unites))
        (have_recoloured s.graph s.state (turns s joined after unites) (with_begun s)
        (actors_stay s.q.job unites.numbers unites.kept) s.secure.coloured.have))

    pub enters : Enters s.graph s.states s.state s.q s.f s.t s.function
        (regions_in s s.moves.taken) cs after s.moves.taken
    enters = record {
      job = s.job;
      instr = s.instr;
      stands = s.x;
      gives = s.gives;
      ordinary = s.ordinary;
      before = there s s.moves.taken;
      elsewhere = elsewhere s s.moves.taken;
      cells = cells_same;
      heres = heres_same;
    }

    abbrev pub new : View
    new = view_of s.graph (annotated s.states next) next after

    pub there_now : frame_at next (above s.q) ≡ Some s.t
    there_now =
        let split = ends_with s.job.frames s.q.depth s.f s.x.top.top s.x.top.height in
        ap (λ w. frame_at w (above s.q)) stepped
        ∙ entering.now_above s.graph s.states (regions_in s s.moves.taken) s.state cs after s.q
        s.job
        split.0 s.f s.t s.moves.taken s.moves.taken s.x.top.there split.1 split.2 s.x.running keeps
        cells_same heres_same (there s s.moves.taken) (elsewhere s s.moves.taken)

    pub here_now : frame_at next s.q ≡ Some (go_on (s.f.point + 1) s.f)
    here_now =
        let split = ends_with s.job.frames s.q.depth s.f s.x.top.top s.x.top.height in
        ap (λ w. frame_at w s.q) stepped
        ∙ entering.now s.graph s.states (regions_in s s.moves.taken) s.state cs after s.q s.job
        split.0 s.f s.t s.moves.taken s.moves.taken s.x.top.there split.1 split.2 s.x.running keeps
        cells_same heres_same (there s s.moves.taken) (elsewhere s s.moves.taken)

    pub others_now : (p : Spot) → p ≢ s.q → p ≢ above s.q
        → frame_at next p ≡ frame_at s.state p
    others_now p differ apart =
        let split = ends_with s.job.frames s.q.depth s.f s.x.top.top s.x.top.height in
        ap (λ w. frame_at w p) stepped
        ∙ (entering.shifts s.graph s.states (regions_in s s.moves.taken) s.state cs after s.q s.job
        split.0 s.f s.t s.moves.taken s.moves.taken s.x.top.there split.1 split.2 s.x.running keeps
        cells_same heres_same (there s s.moves.taken) (elsewhere s s.moves.taken)).others p differ
        apart

    pub behind_now : annotated s.states next s.q ≡ Some s.c
    unfolding go_on
    behind_now = ap (state_with s.states) here_now ∙ s.behind

    fits : (awaits : Option ℕ) × FrameFits s.graph kinded_next.world.cells awaits s.t
    fits = fits_at s.graph next kinded_next (above s.q) s.t there_now

    -- the region state in which the frame begins
    pub entry : (e : Regions) × (value_at (s.states s.t.function) 0 ≡ Some e)
    entry =
        let same : fits.1.function ≡ s.callee =
        (let both : Some fits.1.function ≡ Some s.callee = sym fits.1.is ∙ s.is in cc) in
        let way : SureWay s.callee 0 fits.1.stands.passed =
        subst (λ n. SureWay s.callee n fits.1.stands.passed) s.begins
        (subst (λ (b : Function). SureWay b s.t.point fits.1.stands.passed) same
        fits.1.stands.way) in
        reached_at s.graph s.callee (s.states s.t.function)
        (s.secure.coloured.annotates s.t.function s.callee s.is) 0 fits.1.stands.passed way

    pub stands_now : annotated s.states next (above s.q) ≡ Some entry.0
    stands_now = ap (state_with s.states) there_now
        ∙ ap (value_at (s.states s.t.function)) s.begins ∙ entry.1
