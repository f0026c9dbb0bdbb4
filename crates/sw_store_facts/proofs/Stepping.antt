-- A running job whose top frame stands at an instruction, with its row, and the step that it makes.
use Rattle.std.proofs.Common.{◌≡◌, ◌+◌, ℕ, true, false, Option, Some, List, length, refl, sym}
use Rattle.std.proofs.Common.{subst, ap, ◌∙◌, IsTrue}
use Rattle.sw_graph.specs.declared.function.Function.{Function}
use Rattle.sw_graph.specs.declared.graph.Graph.{Graph}
use Rattle.sw_graph.specs.declared.instr.Instr.{Instr}
use Rattle.sw_graph.specs.Bodies.{has_self}
use Rattle.sw_graph.specs.Mentions.{set_by}
use Rattle.sw_graph.specs.Points.{Middle}
use Rattle.sw_graph.specs.Ways.{is_number, point_sets}
use Rattle.sw_value.specs.declared.effect.Effect.{Effect}
use Rattle.sw_value.specs.declared.frame.Frame.{Frame}
use Rattle.sw_value.specs.declared.job.Job.{Job}
use Rattle.sw_value.specs.declared.state.State.{State}
use Rattle.sw_value.specs.Effect.{point_effect}
use Rattle.sw_value.specs.Frame.{finish_instr, go_on, set_field}
use Rattle.sw_value.specs.Reach.{after_effect, step_of}
use Rattle.sw_value.specs.declared.effect.Effect.TheVariants as effect
use Rattle.sw_solve.specs.Annotation.{value_at}
use Rattle.sw_partition.specs.Regions.{Regions}
use Rattle.sw_region_ops.specs.Setting.{setting_of}
use Rattle.sw_owner_facts.specs.View.{Frame as Spot}
use Rattle.sw_region_facts.specs.Rows.{InstrMoves}
use Rattle.sw_region_facts.proofs.Annotated.{row_at}
use Rattle.sw_view_facts.specs.Changes.{KeepsReach, KeepsShape}
use Rattle.sw_view_facts.specs.Effects.{is_inside, next_of, register_of, turn_of}
use Rattle.sw_view_facts.specs.Executing.{Executes}
use Rattle.sw_view_facts.specs.Standing.{StandsAt}
use Rattle.sw_view_facts.specs.Steps.{ChangesFrame}
use Rattle.sw_view_facts.specs.Views.{Colours, annotated, frame_at, here_at, makes_itself}
use Rattle.sw_view_facts.specs.Views.{state_with}
use Rattle.sw_view_facts.proofs.EffectLemmas.{inside_changes, inside_executes, inside_keeps_shape}
use Rattle.sw_view_facts.proofs.EffectLemmas.{step_is}
use Rattle.sw_view_facts.proofs.ShapeLemmas.{open_after}
use Rattle.sw_store_facts.specs.Sound.{IsColoured}
use Rattle.sw_view_facts.proofs.TopLemmas.{frame_was}
use Rattle.sw_store_facts.proofs.Standing.{state_at}

-- where a frame goes on
pub goes_next : (e : Effect) (f : Frame) (n : ℕ) → next_of e ≡ Some n → (turn_of e f).point ≡ n
unfolding finish_instr go_on set_field
goes_next (effect.Set r v next) f n is = cc
goes_next (effect.SetField r i v next) f n is = cc
goes_next (effect.Print r line next) f n is = cc
goes_next (effect.New r cell number next) f n is = cc
goes_next (effect.Write c slot v next) f n is = cc
goes_next (effect.WriteGlobal g v next) f n is = cc
goes_next (effect.Goto next) f n is = cc
goes_next (effect.Wait on r next) f n is = cc
goes_next (effect.Rest r next) f n is = cc
goes_next (effect.Enter frame next) f n is = cc
goes_next (effect.Leave v) f n is = cc
goes_next (effect.Spawn r frame job cell next) f n is = cc
goes_next (effect.Halt kind at) f n is = cc
goes_next effect.Stuck f n is = cc

module _ (graph : Graph) (states : ℕ → List (Option Regions)) (state : State) (colours : Colours)
    (s : IsColoured graph states state colours) (q : Spot) (job : Job) (f : Frame)
    (function : Function) (instr : Instr)
    (x : StandsAt graph state q job f function (Middle instr)) where
  abbrev pub next_state : State
  next_state = step_of graph state q.job

  pub frame_is : frame_at state q ≡ Some f
  frame_is = frame_was state q job f x.top

  -- the states at the instruction and after it
  pub record Row : Type 0 where
    pub a : Regions
    pub at : value_at (states f.function) f.point ≡ Some a
    pub c : Regions
    pub behind : value_at (states f.function) (f.point + 1) ≡ Some c
    pub moves : InstrMoves (setting_of graph function) instr a c

  pub row : Row
  row =
      let here = state_at graph states state colours s q job f function (Middle instr) x in
      let there = row_at graph function (states f.function)
      (s.annotates f.function function x.is) f.point instr x.here here.0 here.1 in
      record {
        a = here.0;
        at = here.1;
        c = there.state;
        behind = there.stands;
        moves = there.is;
      }

  pub stands_before : annotated states state q ≡ Some row.a
  stands_before = ap (state_with states) frame_is ∙ row.at

  module _ (e : Effect) (inside : is_inside e ≡ true) (goes : next_of e ≡ Some (f.point + 1))
      (gives : point_effect graph state (length job.frames) f (Middle instr) ≡ e) where
    pub steps : next_state ≡ after_effect q.job e state
    steps = step_is graph state q job f function (Middle instr) e x gives (inside_executes e inside)

    pub changes : ChangesFrame state next_state q f (turn_of e f)
    changes = subst (λ t. ChangesFrame state t q f (turn_of e f)) (sym steps)
        (inside_changes state q job f x.top e inside)

    pub frame_now : frame_at next_state q ≡ Some (turn_of e f)
    frame_now = changes.now

    pub function_now : (turn_of e f).function ≡ f.function
    function_now = changes.call.function

    pub stands_behind : annotated states next_state q ≡ Some row.c
    stands_behind = ap (state_with states) changes.now
        ∙ ap (λ n. value_at (states n) (turn_of e f).point) changes.call.function
        ∙ ap (value_at (states f.function)) (goes_next e f (f.point + 1) goes) ∙ row.behind

    pub executes : (after : Colours) → ((p : Spot) → here_at after p ≡ here_at colours p)
        → KeepsReach state next_state colours after
        → Executes graph states state next_state q f function e (annotated states state)
        (annotated states next_state) colours after row.a row.c
    executes after heres reach = record {
      job = job;
      top = x.top;
      is = x.is;
      steps = steps;
      inside = inside;
      before = stands_before;
      behind = stands_behind;
      elsewhere = λ p differ. refl;
      others = λ p differ. refl;
      heres = heres;
      reach = reach;
    }

    -- its own `self` stays, since no instruction sets it
    pub keeps_shape : makes_itself graph function (Middle instr) ≡ false
        → ((r : ℕ) → register_of e ≡ Some r → set_by instr ≡ Some r)
        → KeepsShape graph f (turn_of e f)
    keeps_shape ordinary sets = inside_keeps_shape graph state q job f function (Middle instr) x e
        (f.point + 1) goes refl (open_after graph function f.point (Middle instr) x.here ordinary)
        (λ self own. stays self (sets 0 own))
      where
        stays : IsTrue (has_self function) → set_by instr ≡ Some 0 → ⊥
        stays self own =
            let never = (s.clean.placed.selves f.function function x.is self).stays f.point in
            let sets : point_sets 0 (Some (Middle instr)) ≡ true = ap (is_number 0) own in
            let is = sym (ap (point_sets 0) x.here) ∙ never in
            let clash : true ≡ false = sym sets ∙ is in
            cc
