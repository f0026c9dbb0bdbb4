-- What a running job's top frame has at its point: a place, a region state, values of the kinds of
-- its registers, and what its isolation gives.
use Rattle.std.proofs.Common.{◌≡◌, ℕ, true, Option, Some, List, Contains, sym, subst}
use Rattle.std.proofs.Common.{ap, ◌∙◌, arith}
use Rattle.std.specs.Option.{is_some}
use Rattle.std.specs.List.{slice_get}
use Rattle.sw_list.proofs.ListLemmas.{some_injective}
use Rattle.sw_graph.specs.declared.function.Function.{Function}
use Rattle.sw_graph.specs.declared.function.RegKind.{RegKind}
use Rattle.sw_graph.specs.declared.graph.Graph.{Graph}
use Rattle.sw_graph.specs.declared.instr.Instr.{Instr}
use Rattle.sw_graph.specs.Bodies.{has_self}
use Rattle.sw_graph.specs.Clean.{is_untracked}
use Rattle.sw_graph.specs.Kinds.{is_actor, shape_of}
use Rattle.sw_graph.specs.Points.{Middle, Point}
use Rattle.sw_graph.specs.Sure.{SureWay}
use Rattle.sw_graph.specs.WellFormed.{InstrFits}
use Rattle.sw_value.specs.declared.frame.Frame.{Frame}
use Rattle.sw_value.specs.declared.job.Job.{Job}
use Rattle.sw_value.specs.declared.state.State.{State}
use Rattle.sw_value.specs.declared.value.Value.{Value}
use Rattle.sw_value.specs.Value.{layer_reference, reference_of, value_at}
use Rattle.sw_solve.specs.Annotation as annotation
use Rattle.sw_partition.specs.Regions.{Regions}
use Rattle.sw_machine_kind_facts.specs.Kinds.{HasKind, SlotsFit}
use Rattle.sw_machine_kind_facts.specs.Standing.{FrameFits, PlaceOfPoint}
use Rattle.sw_machine_kind_facts.proofs.ItemLemmas.{found_within}
use Rattle.sw_machine_kind_facts.proofs.KindLemmas.{reference_is, sort_actor}
use Rattle.sw_machine_kind_facts.proofs.OperandLemmas.{function_fits, instr_fits}
use Rattle.sw_owner_facts.specs.Colours.{Actor, Colour, OfActor, On}
use Rattle.sw_owner_facts.specs.View.{IsFrame, IsolatedTo, View, Frame as Spot}
use Rattle.sw_region_facts.proofs.Annotated.{reached_at}
use Rattle.sw_reach_facts.specs.Reached.{colours_of}
use Rattle.sw_reach_facts.proofs.FitLemmas.{colours_fit, conformances_hold}
use Rattle.sw_reach_facts.proofs.SendableLemmas.{crosses_nothing}
use Rattle.sw_view_facts.specs.Standing.{StandsAt}
use Rattle.sw_view_facts.specs.Views.{Colours, annotated, frame_at, here_at, isolation_in}
use Rattle.sw_view_facts.specs.Views.{stands_on, state_with, view_at}
use Rattle.sw_view_facts.proofs.IsolationLemmas.{executor_isolated, here_isolated}
use Rattle.sw_view_facts.proofs.IsolationLemmas.{stands_isolated}
use Rattle.sw_view_facts.proofs.TopLemmas.{frame_was, height_is}
use Rattle.sw_store_facts.specs.Sound.{IsColoured}
use Rattle.sw_store_facts.proofs.Bare.{fits_at, value_within}

module _ (graph : Graph) (states : ℕ → List (Option Regions)) (state : State) (colours : Colours)
    (s : IsColoured graph states state colours) (q : Spot) (job : Job) (f : Frame)
    (function : Function) (point : Point) (x : StandsAt graph state q job f function point) where
  pub frame_there : frame_at state q ≡ Some f
  frame_there = frame_was state q job f x.top

  fits : (awaits : Option ℕ) × FrameFits graph s.kinded.world.cells awaits f
  fits = fits_at graph state s.kinded q f frame_there

  same_function : fits.1.function ≡ function
  same_function = some_injective (sym fits.1.is ∙ x.is)

  pub place : PlaceOfPoint function f.point
  place = subst (λ (b : Function). PlaceOfPoint b f.point) same_function fits.1.stands.place

  pub slots : SlotsFit graph.shapes s.kinded.world.cells f.regs function.regs
  slots = subst (λ (b : Function). SlotsFit graph.shapes s.kinded.world.cells f.regs b.regs)
      same_function fits.1.stands.slots

  pub state_at : (a : Regions) × (annotation.value_at (states f.function) f.point ≡ Some a)
  state_at = reached_at graph function (states f.function)
      (s.annotates f.function function x.is) f.point fits.1.stands.passed
      (subst (λ (b : Function). SureWay b f.point fits.1.stands.passed) same_function
      fits.1.stands.way)

  pub annotated_at : annotated states state q ≡ Some state_at.0
  annotated_at = ap (state_with states) frame_there ∙ state_at.1

  -- a value of a kind that may cross reaches nothing
  pub crossing_bare : (v : Value) (kind : RegKind) → HasKind graph.shapes s.kinded.world.cells v
      kind
      → is_untracked graph (Some kind) ≡ true → (c : Colour)
      → Contains (colours_of state.cells colours.cells v) c → ⊥
  crossing_bare = crosses_nothing graph (conformances_hold graph s.clean) s.kinded.world state.cells
      colours.cells (colours_fit graph s.clean state s.kinded colours.cells s.have)

  -- a value of a register has the register's kind
  pub record OfRegister (r : ℕ) (v : Value) : Type 0 where
    pub kind : RegKind
    pub is : slice_get function.regs r ≡ Some kind
    pub has : HasKind graph.shapes s.kinded.world.cells v kind

  pub of_register : (r : ℕ) (v : Value) → value_at f.regs r ≡ Some v → OfRegister r v
  of_register r v has =
      let inside = value_within f.regs r v has in
      let count = slots.count in
      let kind = found_within function.regs r (omega (arith, inside, count)) in
      record { kind = kind.0; is = kind.1; has = slots.each r v kind.0 has kind.1 }

  -- its own `self` is an actor
  pub self_refers : has_self function ≡ true → (v : Value) → value_at f.regs 0 ≡ Some v
      → (c : ℕ) × (reference_of v ≡ Some c)
  self_refers self v has =
      let register = of_register 0 v has in
      let is = reference_is graph.shapes s.kinded.world.cells v register.kind register.has
      (sort_actor graph.shapes register.kind
      (subst (λ k. is_some (shape_of graph.shapes is_actor k) ≡ true) register.is
      (s.clean.placed.selves f.function function x.is self).kind)) in
      (is.cell, ap layer_reference is.is)

  -- ---- an isolated frame
  abbrev view : View
  view = view_at graph states state colours

  pub is_frame : IsFrame view q
  is_frame = let height = height_is state q job f x.top in omega (arith, height)

  -- its `Here` has the colour of its actor
  pub here_of : (a : Actor) → isolation_in function f.regs ≡ IsolatedTo a
      → here_at colours q ≡ OfActor a
  here_of = here_isolated graph (annotated states state) state colours q f function frame_there x.is
      s.sound.owned is_frame

  -- and it stands on its actor
  pub stands_of : (a : Actor) → isolation_in function f.regs ≡ IsolatedTo a
      → (view.shape q).executor ≡ On a
  stands_of = stands_isolated graph (annotated states state) state colours q f function frame_there
      x.is s.sound.owned is_frame

  pub executor_of : (a : Actor) → isolation_in function f.regs ≡ IsolatedTo a
      → stands_on f.executor ≡ On a
  executor_of = executor_isolated graph (annotated states state) state colours q f function
      frame_there x.is s.sound.owned is_frame

-- how an instruction's operands fit
pub instr_at : (graph : Graph) (states : ℕ → List (Option Regions)) (state : State)
    (colours : Colours) (s : IsColoured graph states state colours) (q : Spot) (job : Job)
    (f : Frame) (function : Function) (instr : Instr)
    → StandsAt graph state q job f function (Middle instr)
    → InstrFits graph.shapes graph.globals graph.functions function instr
instr_at graph states state colours s q job f function instr x =
    instr_fits graph function (function_fits graph f.function function x.is) f.point
    (place graph states state colours s q job f function (Middle instr) x) instr x.here
