-- What plans join, and with whose colour.
use Rattle.std.proofs.Common.{◌≡◌, ℕ, ◌<◌, refl, sym, Bool, true, false, cond, subst}
use Rattle.std.proofs.Common.{ltb, Option, Some, None, List, [], ◌∷◌, ◌++◌, slice_get}
use Rattle.std.specs.Prelude.{option_and_then}
use Rattle.std.specs.Option.{option_map_or}
use Rattle.std.proofs.lemmas.Option.{cond_some}
use Rattle.std.proofs.lemmas.List.Elements.{All-nil, All-append}
use Rattle.sw_types.specs.Sendable.{sends_at}
use Rattle.sw_graph.specs.declared.graph.Graph.{Graph}
use Rattle.sw_graph.specs.declared.instr.Instr.TheVariants as instr
use Rattle.sw_graph.specs.Points.{Point, Middle}
use Rattle.sw_value.specs.declared.cell.HeapCell.{HeapCell}
use Rattle.sw_value.specs.declared.cell.HeapCell.TheVariants.{Object, Actor, BoxOf, Closure, TaskOf}
use Rattle.sw_value.specs.declared.executor.Executor.{Executor}
use Rattle.sw_value.specs.declared.executor.Executor.TheVariants as executor
use Rattle.sw_value.specs.declared.value.Value.{Value}
use Rattle.sw_value.specs.declared.frame.Frame.{Frame}
use Rattle.sw_value.specs.declared.state.State.{State}
use Rattle.sw_value.specs.declared.effect.Effect.{Effect}
use Rattle.sw_value.specs.declared.effect.Effect.TheVariants as effect
use Rattle.sw_value.specs.declared.effect.Act.{Act}
use Rattle.sw_value.specs.declared.effect.Act.TheVariants.{Dispatch, Wake, Execute}
use Rattle.sw_value.specs.Act.{act_of}
use Rattle.sw_value.specs.Frame.{point_at}
use Rattle.sw_value.specs.Job.{top_frame}
use Rattle.sw_value.specs.Value.{reference_at}
use Rattle.sw_color_rules.specs.declared.colors.Owner.{Owner}
use Rattle.sw_color_rules.specs.declared.colors.Owner.TheVariants as owner
use Rattle.sw_color_rules.specs.declared.colors.Tint.TheVariants.{Bare, Owns}
use Rattle.sw_color_rules.specs.declared.colors.Colors.{Colors}
use Rattle.sw_color_rules.specs.declared.plan.Plan.{Plan}
use Rattle.sw_color_rules.specs.declared.plan.FrameChange.{FrameChange}
use Rattle.sw_color_rules.specs.declared.plan.FrameChange.TheVariants.{Pushed, Begun}
use Rattle.sw_color_rules.specs.Tints.{owned_number, colors_in, colors_of}
use Rattle.sw_color_rules.specs.Plans.{no_plan, joining, bare_cell, colored_cell, top_here}
use Rattle.sw_color_rules.specs.Plans.{next_color, number_on, is_isolated, new_closure, new_cell}
use Rattle.sw_color_rules.specs.Plans.{begun_with, passed, sending_of, is_to_actor}
use Rattle.sw_color_rules.specs.Plans.{called_number, called_closure, is_make, effect_plan, plan_at, plan_of}
use Rattle.sw_color_rules.specs.Machine.{global_count}
use Rattle.sw_color_rules.specs.Ranges.{AreBelow}
use Rattle.sw_color_rules.proofs.NumberLemmas.{AreNoted, value_below, held_option_below}
use Rattle.sw_late_facts.specs.Late.{goes_away, destination, destination_at, destination_by}
use Rattle.sw_late_facts.proofs.Seen.{IsActors}
use Rattle.sw_late_facts.proofs.Showing.{sight}
use Rattle.sw_late_facts.proofs.Fits.{IsKnown, Fits, fits_act}

-- each actor and each global actor owns its colour
pub record HaveColors (graph : Graph) (colors : Colors) : Type 0 where
  pub globals : (g : ℕ) → g < global_count graph.functions → IsActors (sight colors.palette) g
  pub actors : (c n : ℕ) → owned_number colors.cells c ≡ Some n → IsActors (sight colors.palette) n

-- What a plan joins: nothing that is handed over; what goes to an actor; what a new job takes on no
-- actor; or what it takes where the job that makes it runs itself.
pub data Reaches (colors : Colors) (plan : Plan) : Option ℕ → Type 0 where
  Stays : plan.heir ≡ None → Reaches colors plan None
  Goes : (a : ℕ) (ns : List ℕ) → plan.joined ≡ a ∷ ns → plan.fresh ≡ None
      → IsActors (sight colors.palette) a → AreBelow (next_color colors) ns
      → Reaches colors plan (Some a)
  Begins : (heir : ℕ) (ns : List ℕ) → plan.heir ≡ Some heir → plan.joined ≡ next_color colors ∷ ns
      → plan.fresh ≡ Some (owner.Job heir) → AreBelow (next_color colors) ns
      → Reaches colors plan None
  Remains : (heir a : ℕ) (ns : List ℕ) → plan.heir ≡ Some heir → plan.joined ≡ a ∷ ns
      → IsActors (sight colors.palette) a → AreBelow (next_color colors) ns
      → Reaches colors plan None

-- an actor that a plan makes has the colour that it makes
abbrev pub OwnsFresh : Colors → Plan → Type 0
OwnsFresh colors plan = (n : ℕ) → plan.tint ≡ Some (Owns n)
    → (c : ℕ) × (plan.fresh ≡ Some (owner.ActorOf c)) × (n ≡ next_color colors)

module _ (graph : Graph) (state : State) (colors : Colors) (have : HaveColors graph colors)
    (noted : AreNoted (next_color colors) colors.cells) where
  abbrev count : ℕ
  count = next_color colors

  number_owned : (on : Executor) → IsKnown graph on → (a : ℕ) → number_on colors on ≡ Some a
      → IsActors (sight colors.palette) a
  number_owned executor.Generic known a e = cc
  number_owned (executor.ActorOf c) known a e = have.actors c a e
  number_owned (executor.Global g) known a e =
      let both = cond_some (ltb g count) g a e in
      subst (IsActors (sight colors.palette)) both.1 (have.globals g known)

  pub called_on : (point : Point) (frame : Frame) (a : ℕ) → called_number colors point frame ≡ Some a
      → number_on colors frame.executor ≡ Some a
  called_on (Middle (instr.Call at dst kind f args)) frame a e = by (is_to_actor kind) e where
    by : (b : Bool) → cond b (number_on colors frame.executor) None ≡ Some a
        → number_on colors frame.executor ≡ Some a
    by true h = h
    by false h = cc
  called_on _ frame a e = cc

  passed_below : (sending : List Bool) (regs : List (Option Value))
      → AreBelow count (passed colors.cells sending regs)
  passed_below sending [] = All-nil (λ n. n < count)
  passed_below sending (None ∷ regs) = All-nil (λ n. n < count)
  passed_below [] (Some v ∷ regs) =
      All-append (λ n. n < count) (colors_in colors.cells v) (passed colors.cells [] regs)
      (value_below count colors.cells noted v) (passed_below [] regs)
  passed_below (sends ∷ sending) (Some v ∷ regs) =
      All-append (λ n. n < count) (cond sends [] (colors_in colors.cells v))
      (passed colors.cells sending regs) (by sends) (passed_below sending regs)
    where
      by : (b : Bool) → AreBelow count (cond b [] (colors_in colors.cells v))
      by true = All-nil (λ n. n < count)
      by false = value_below count colors.cells noted v

  closure_below : (point : Point) (frame : Frame) → AreBelow count (called_closure colors point frame)
  closure_below (Middle (instr.CallClosure at dst k args)) frame =
      held_option_below count colors.cells noted (reference_at frame.regs k)
  closure_below _ frame = All-nil (λ n. n < count)

  -- ---- a frame that a call pushes
  module _ (job : ℕ) (top : Frame) (point : Point) (frame : Frame) (next : ℕ)
      (fits : frame.crossing ≡ true → IsKnown graph frame.executor) where
    abbrev given : List ℕ
    given = called_closure colors point top ++ passed colors.cells (sending_of graph frame.function) frame.regs

    given_below : AreBelow count given
    given_below = All-append (λ n. n < count) (called_closure colors point top)
        (passed colors.cells (sending_of graph frame.function) frame.regs) (closure_below point top)
        (passed_below (sending_of graph frame.function) frame.regs)

    abbrev plan_with : Option ℕ → Plan
    plan_with o = begun_with o (owner.Job job) Pushed count given

    no_heir : (o : Option ℕ) → (plan_with o).heir ≡ None
    no_heir None = refl
    no_heir (Some a) = refl

    entered_reaches : Reaches colors (effect_plan graph colors job top point (effect.Enter frame next))
        (destination_by colors top point (effect.Enter frame next))
    entered_reaches = by frame.crossing (called_number colors point frame) refl refl where
      by : (b : Bool) (o : Option ℕ) → frame.crossing ≡ b → called_number colors point frame ≡ o
          → Reaches colors (plan_with o) (cond b o None)
      by false o crosses is = Stays (no_heir o)
      by true None crosses is = Stays refl
      by true (Some a) crosses is =
          Goes a given refl refl
          (number_owned frame.executor (fits crosses) a (called_on point frame a is)) given_below

  spawned_reaches : (job : ℕ) (top : Frame) (point : Point) (r : ℕ) (frame : Frame) (made cell next : ℕ)
      → IsKnown graph frame.executor
      → Reaches colors (effect_plan graph colors job top point (effect.Spawn r frame made cell next))
      (destination_by colors top point (effect.Spawn r frame made cell next))
  spawned_reaches job top point r frame made cell next known =
      by (goes_away top.executor frame.executor) (number_on colors frame.executor) refl where
        taken : List ℕ
        taken = passed colors.cells [] frame.regs

        by : (away : Bool) (o : Option ℕ) → number_on colors frame.executor ≡ o
            → Reaches colors (record (begun_with o (owner.Job made) Begun count taken) {
              tint = Some Bare;
              heir = Some made;
            }) (cond away o None)
        by true None is = Begins made taken refl refl refl (passed_below [] frame.regs)
        by false None is = Begins made taken refl refl refl (passed_below [] frame.regs)
        by true (Some a) is =
            Goes a taken refl refl (number_owned frame.executor known a is) (passed_below [] frame.regs)
        by false (Some a) is =
            Remains made a taken refl refl (number_owned frame.executor known a is)
            (passed_below [] frame.regs)

  -- ---- each effect
  cell_stays : (job n : ℕ) (cell : HeapCell) → (new_cell graph colors job n cell).heir ≡ None
  cell_stays job n (Object k parts) = by (sends_at graph.shapes k) where
    by : (b : Bool) → (cond b (bare_cell (top_here colors job ++ colors_of colors.cells parts))
        (colored_cell job count (colors_of colors.cells parts))).heir ≡ None
    by true = refl
    by false = refl
  cell_stays job n (Actor k parts) = refl
  cell_stays job n (BoxOf v) = refl
  cell_stays job n (Closure f captures) = by (is_isolated graph f) where
    by : (b : Bool) → (new_closure colors b job (colors_of colors.cells captures)).heir ≡ None
    by true = refl
    by false = refl
  cell_stays job n (TaskOf j) = refl

  set_stays : (b : Bool) (ns : List ℕ) → (cond b (joining ns) no_plan).heir ≡ None
  set_stays true ns = refl
  set_stays false ns = refl

  effect_reaches : (job : ℕ) (top : Frame) (point : Point) (f : Effect) → Fits graph state f
      → Reaches colors (effect_plan graph colors job top point f) (destination_by colors top point f)
  effect_reaches job top point (effect.Set r v next) fits =
      Stays (set_stays (is_make point) (colors_in colors.cells v))
  effect_reaches job top point (effect.SetField r i v next) fits = Stays refl
  effect_reaches job top point (effect.Print r line next) fits = Stays refl
  effect_reaches job top point (effect.New r cell n next) fits = Stays (cell_stays job n cell)
  effect_reaches job top point (effect.Write n slot v next) fits = Stays refl
  effect_reaches job top point (effect.WriteGlobal g v next) fits = Stays refl
  effect_reaches job top point (effect.Goto next) fits = Stays refl
  effect_reaches job top point (effect.Enter frame next) fits =
      entered_reaches job top point frame next fits
  effect_reaches job top point (effect.Spawn r frame made cell next) fits =
      spawned_reaches job top point r frame made cell next fits.0
  effect_reaches job top point (effect.Wait on r next) fits = Stays refl
  effect_reaches job top point (effect.Rest r next) fits = Stays refl
  effect_reaches job top point (effect.Leave v) fits = Stays refl
  effect_reaches job top point (effect.Halt kind at) fits = Stays refl
  effect_reaches job top point effect.Stuck fits = Stays refl

  pub act_reaches : (job : ℕ) (act : Act) → act_of graph state job ≡ Some act
      → Reaches colors (plan_of graph state colors job act) (destination graph state colors job act)
  act_reaches job Dispatch is = Stays refl
  act_reaches job (Wake ended r v) is = Stays refl
  act_reaches job (Execute f) is = on_top (option_and_then top_frame (slice_get state.jobs job)) where
    at_point : (top : Frame) (o : Option Point)
        → Reaches colors (option_map_or (λ point. effect_plan graph colors job top point f) o no_plan)
        (option_and_then (λ point. destination_by colors top point f) o)
    at_point top None = Stays refl
    at_point top (Some point) = effect_reaches job top point f (fits_act graph state job f is)

    on_top : (o : Option Frame) → Reaches colors (option_map_or (plan_at graph colors job f) o no_plan)
        (option_and_then (destination_at graph colors f) o)
    on_top None = Stays refl
    on_top (Some top) = at_point top (point_at graph top)

  -- ---- actors that are made
  cell_owns : (job n : ℕ) (cell : HeapCell) → OwnsFresh colors (new_cell graph colors job n cell)
  cell_owns job n (Object k parts) m e = by (sends_at graph.shapes k) m e where
    by : (b : Bool) → OwnsFresh colors (cond b (bare_cell (top_here colors job ++ colors_of colors.cells parts))
        (colored_cell job count (colors_of colors.cells parts)))
    by true m e = cc
    by false m e = cc
  cell_owns job n (Actor k parts) m e = (n, refl, (let same : count ≡ m = cc in sym same))
  cell_owns job n (BoxOf v) m e = cc
  cell_owns job n (Closure f captures) m e = by (is_isolated graph f) m e where
    by : (b : Bool) → OwnsFresh colors (new_closure colors b job (colors_of colors.cells captures))
    by true m e = cc
    by false m e = cc
  cell_owns job n (TaskOf j) m e = cc

  begun_owns : (o : Option ℕ) (by_owner : Owner) (begins : ℕ → FrameChange) (ns : List ℕ)
      → OwnsFresh colors (begun_with o by_owner begins count ns)
  begun_owns None by_owner begins ns m e = cc
  begun_owns (Some a) by_owner begins ns m e = cc

  set_owns : (b : Bool) (ns : List ℕ) → OwnsFresh colors (cond b (joining ns) no_plan)
  set_owns true ns m e = cc
  set_owns false ns m e = cc

  effect_owns : (job : ℕ) (top : Frame) (point : Point) (f : Effect)
      → OwnsFresh colors (effect_plan graph colors job top point f)
  effect_owns job top point (effect.Set r v next) m e =
      set_owns (is_make point) (colors_in colors.cells v) m e
  effect_owns job top point (effect.New r cell n next) m e = cell_owns job n cell m e
  effect_owns job top point (effect.Enter frame next) m e =
      begun_owns (called_number colors point frame) (owner.Job job) Pushed
      (called_closure colors point top ++ passed colors.cells (sending_of graph frame.function) frame.regs)
      m e
  effect_owns job top point _ m e = cc

  pub act_owns : (job : ℕ) (act : Act) → OwnsFresh colors (plan_of graph state colors job act)
  act_owns job Dispatch m e = cc
  act_owns job (Wake ended r v) m e = cc
  act_owns job (Execute f) m e = on_top (option_and_then top_frame (slice_get state.jobs job)) m e where
    at_point : (top : Frame) (o : Option Point)
        → OwnsFresh colors (option_map_or (λ point. effect_plan graph colors job top point f) o no_plan)
    at_point top None m e = cc
    at_point top (Some point) m e = effect_owns job top point f m e

    on_top : (o : Option Frame) → OwnsFresh colors (option_map_or (plan_at graph colors job f) o no_plan)
    on_top None m e = cc
    on_top (Some top) m e = at_point top (point_at graph top) m e
