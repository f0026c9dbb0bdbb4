-- What the effects that change one frame do to it, to the other frames and to memory.
use Rattle.std.specs.Prelude.{IsTrue}
use Rattle.std.specs.Option.{option_and_then, option_map}
use Rattle.std.specs.List.{slice_get, slice_set}
use Rattle.std.proofs.Common.{is_some, ◌≡◌, ◌≢◌, ◌-◌, ◌&&◌, ℕ, true, false, cond, ◌==◌, Option}
use Rattle.std.proofs.Common.{Some, None, List, length, refl, sym, subst, ap, ◌∙◌, arith, inl, inr}
use Rattle.std.proofs.lemmas.Bool.{cases_eq, eq-eqb, ne_eqb, and_left, and_right}
use Rattle.sw_graph.specs.declared.function.Function.{Function}
use Rattle.sw_graph.specs.declared.graph.Graph.{Graph}
use Rattle.sw_graph.specs.Bodies.{has_self}
use Rattle.sw_graph.specs.Points.{Point, point_in}
use Rattle.sw_value.specs.declared.cell.HeapCell.{HeapCell}
use Rattle.sw_value.specs.declared.effect.Act.TheVariants.{Execute}
use Rattle.sw_value.specs.declared.effect.Effect.{Effect}
use Rattle.sw_value.specs.declared.effect.Effect.TheVariants as effect
use Rattle.sw_value.specs.declared.frame.Frame.{Frame}
use Rattle.sw_value.specs.declared.job.Job.{Job}
use Rattle.sw_value.specs.declared.state.State.{State}
use Rattle.sw_value.specs.declared.value.Value.{Value}
use Rattle.sw_value.specs.declared.value.Value.TheVariants as value
use Rattle.sw_value.specs.Act.{act_of, act_by, execution_of}
use Rattle.sw_value.specs.Effect.{effect_of, needs, point_effect}
use Rattle.sw_value.specs.Frame.{finish_instr, go_on, point_at, set_field}
use Rattle.sw_value.specs.Job.{top_frame}
use Rattle.sw_value.specs.Reach.{after_effect, step_of}
use Rattle.sw_value.specs.State.{add_cell, in_cell, in_job, set_global}
use Rattle.sw_value.specs.Value.{value_at, with_field}
use Rattle.sw_value.proofs.ReachLemmas.{after_acts, step_by_act}
use Rattle.sw_partition.specs.Regions.{Regions}
use Rattle.sw_machine_kind_facts.proofs.ItemLemmas.{changed_other, set_other}
use Rattle.sw_owner_facts.specs.Colours.{Colour}
use Rattle.sw_owner_facts.specs.View.{Frame as Spot}
use Rattle.sw_owner_facts.proofs.FrameLemmas.{same_frame}
use Rattle.sw_reach_facts.specs.Reached.{colours_of}
use Rattle.sw_reach_facts.proofs.ChangeLemmas.{colours_before, colours_written}
use Rattle.sw_view_facts.specs.Changes.{KeepsReach, KeepsShape}
use Rattle.sw_view_facts.specs.Effects.{is_inside, job_of, memory_of, next_of, register_of, turn_of}
use Rattle.sw_view_facts.specs.Memory.{RegistersName, coloured_more}
use Rattle.sw_view_facts.specs.Standing.{StandsAt}
use Rattle.sw_view_facts.specs.Steps.{ChangesFrame, SameCall, TopAt, TurnsTop}
use Rattle.sw_view_facts.specs.Views.{Colours, annotated, closes_at, is_return, over, state_with}
use Rattle.sw_view_facts.proofs.ShapeLemmas.{isolation_kept, open_here, shape_kept}
use Rattle.sw_view_facts.proofs.TopLemmas.{turned, turns_in_top, turns_rest, turns_wait}

-- ---- frames
turns_by : (e : Effect) → is_inside e ≡ true → TurnsTop (turn_of e) (job_of e)
turns_by (effect.Set r v next) is = turns_in_top (turn_of (effect.Set r v next))
turns_by (effect.SetField r i v next) is = turns_in_top (turn_of (effect.SetField r i v next))
turns_by (effect.Print r line next) is = turns_in_top (turn_of (effect.Print r line next))
turns_by (effect.New r cell number next) is =
    turns_in_top (turn_of (effect.New r cell number next))
turns_by (effect.Write c slot v next) is = turns_in_top (turn_of (effect.Write c slot v next))
turns_by (effect.WriteGlobal g v next) is = turns_in_top (turn_of (effect.WriteGlobal g v next))
turns_by (effect.Goto next) is = turns_in_top (turn_of (effect.Goto next))
turns_by (effect.Wait on r next) is = turns_wait on r next
turns_by (effect.Rest r next) is = turns_rest r next
turns_by (effect.Enter frame next) is = cc
turns_by (effect.Leave v) is = cc
turns_by (effect.Spawn r frame job cell next) is = cc
turns_by (effect.Halt kind at) is = cc
turns_by effect.Stuck is = cc

after_inside : (e : Effect) → is_inside e ≡ true → (j : ℕ) (state : State)
    → after_effect j e state ≡ in_job (job_of e) j (memory_of e state)
after_inside (effect.Set r v next) is j state = refl
after_inside (effect.SetField r i v next) is j state = refl
after_inside (effect.Print r line next) is j state = refl
after_inside (effect.New r cell number next) is j state = refl
after_inside (effect.Write c slot v next) is j state = refl
after_inside (effect.WriteGlobal g v next) is j state = refl
after_inside (effect.Goto next) is j state = refl
after_inside (effect.Wait on r next) is j state = refl
after_inside (effect.Rest r next) is j state = refl
after_inside (effect.Enter frame next) is j state = cc
after_inside (effect.Leave v) is j state = cc
after_inside (effect.Spawn r frame job cell next) is j state = cc
after_inside (effect.Halt kind at) is j state = cc
after_inside effect.Stuck is j state = cc

jobs_kept : (e : Effect) (state : State) → (memory_of e state).jobs ≡ state.jobs
unfolding add_cell in_cell set_global
jobs_kept (effect.Set r v next) state = refl
jobs_kept (effect.SetField r i v next) state = refl
jobs_kept (effect.Print r line next) state = refl
jobs_kept (effect.New r cell number next) state = refl
jobs_kept (effect.Write c slot v next) state = refl
jobs_kept (effect.WriteGlobal g v next) state = refl
jobs_kept (effect.Goto next) state = refl
jobs_kept (effect.Wait on r next) state = refl
jobs_kept (effect.Rest r next) state = refl
jobs_kept (effect.Enter frame next) state = refl
jobs_kept (effect.Leave v) state = refl
jobs_kept (effect.Spawn r frame job cell next) state = refl
jobs_kept (effect.Halt kind at) state = refl
jobs_kept effect.Stuck state = refl

same_call : (e : Effect) (f : Frame) → SameCall f (turn_of e f)
unfolding finish_instr go_on set_field
same_call (effect.Set r v next) f =
    record { function = refl; executor = refl; crossing = refl; result = refl }
same_call (effect.SetField r i v next) f =
    record { function = refl; executor = refl; crossing = refl; result = refl }
same_call (effect.Print r line next) f =
    record { function = refl; executor = refl; crossing = refl; result = refl }
same_call (effect.New r cell number next) f =
    record { function = refl; executor = refl; crossing = refl; result = refl }
same_call (effect.Write c slot v next) f =
    record { function = refl; executor = refl; crossing = refl; result = refl }
same_call (effect.WriteGlobal g v next) f =
    record { function = refl; executor = refl; crossing = refl; result = refl }
same_call (effect.Goto next) f =
    record { function = refl; executor = refl; crossing = refl; result = refl }
same_call (effect.Wait on r next) f =
    record { function = refl; executor = refl; crossing = refl; result = refl }
same_call (effect.Rest r next) f =
    record { function = refl; executor = refl; crossing = refl; result = refl }
same_call (effect.Enter frame next) f =
    record { function = refl; executor = refl; crossing = refl; result = refl }
same_call (effect.Leave v) f =
    record { function = refl; executor = refl; crossing = refl; result = refl }
same_call (effect.Spawn r frame job cell next) f =
    record { function = refl; executor = refl; crossing = refl; result = refl }
same_call (effect.Halt kind at) f =
    record { function = refl; executor = refl; crossing = refl; result = refl }
same_call effect.Stuck f =
    record { function = refl; executor = refl; crossing = refl; result = refl }

-- the frame changes, and no other
pub inside_changes : (state : State) (q : Spot) (job : Job) (f : Frame) → TopAt state q job f
    → (e : Effect) → is_inside e ≡ true
    → ChangesFrame state (after_effect q.job e state) q f (turn_of e f)
inside_changes state q job f top e is =
    subst (λ s. ChangesFrame state s q f (turn_of e f)) (sym (after_inside e is q.job state))
    (turned (turn_of e) (job_of e) (turns_by e is) state (memory_of e state) (jobs_kept e state) q
    job f top (same_call e f))

-- where it goes on
point_is : (e : Effect) (f : Frame) (next : ℕ) → next_of e ≡ Some next
    → (turn_of e f).point ≡ next
unfolding finish_instr go_on set_field
point_is (effect.Set r v n) f next is = cc
point_is (effect.SetField r i v n) f next is = cc
point_is (effect.Print r line n) f next is = cc
point_is (effect.New r cell number n) f next is = cc
point_is (effect.Write c slot v n) f next is = cc
point_is (effect.WriteGlobal g v n) f next is = cc
point_is (effect.Goto n) f next is = cc
point_is (effect.Wait on r n) f next is = cc
point_is (effect.Rest r n) f next is = cc
point_is (effect.Enter frame n) f next is = cc
point_is (effect.Leave v) f next is = cc
point_is (effect.Spawn r frame job cell n) f next is = cc
point_is (effect.Halt kind at) f next is = cc
point_is effect.Stuck f next is = cc

set_elsewhere : (regs : List (Option Value)) (r s : ℕ) (v : Value) → s ≢ r
    → value_at (slice_set regs r (Some v)) s ≡ value_at regs s
set_elsewhere regs r s v differ =
    ap (option_and_then (λ (o : Option Value). o)) (set_other regs r s (Some v) differ)

-- each register but the one that it sets keeps its value
pub others_kept : (e : Effect) (f : Frame) (s : ℕ) → (register_of e ≡ Some s → ⊥)
    → value_at (turn_of e f).regs s ≡ value_at f.regs s
unfolding finish_instr go_on set_field
others_kept (effect.Set r v next) f s differ =
    set_elsewhere f.regs r s v (λ e. differ (ap Some (sym e)))
others_kept (effect.SetField r i v next) f s differ =
    ap (option_and_then (λ (o : Option Value). o))
    (changed_other (option_map (with_field i v)) r s f.regs (λ e. differ (ap Some (sym e))))
others_kept (effect.Print r line next) f s differ =
    set_elsewhere f.regs r s value.Unit (λ e. differ (ap Some (sym e)))
others_kept (effect.New r cell number next) f s differ =
    set_elsewhere f.regs r s (value.Cell number) (λ e. differ (ap Some (sym e)))
others_kept (effect.Write c slot v next) f s differ = refl
others_kept (effect.WriteGlobal g v next) f s differ = refl
others_kept (effect.Goto next) f s differ = refl
others_kept (effect.Wait on r next) f s differ = refl
others_kept (effect.Rest r next) f s differ =
    set_elsewhere f.regs r s value.Unit (λ e. differ (ap Some (sym e)))
others_kept (effect.Enter frame next) f s differ = refl
others_kept (effect.Leave v) f s differ = refl
others_kept (effect.Spawn r frame job cell next) f s differ = refl
others_kept (effect.Halt kind at) f s differ = refl
others_kept effect.Stuck f s differ = refl

-- The frame keeps its shape, if it isn't about to return, doesn't close where it goes on, and its
-- own `self` isn't set.
pub inside_keeps_shape : (graph : Graph) (state : State) (q : Spot) (job : Job) (f : Frame)
    (function : Function) (point : Point) → StandsAt graph state q job f function point
    → (e : Effect) (next : ℕ) → next_of e ≡ Some next → is_return (Some point) ≡ false
    → closes_at graph function next ≡ false
    → (IsTrue (has_self function) → register_of e ≡ Some 0 → ⊥) → KeepsShape graph f (turn_of e f)
inside_keeps_shape graph state q job f function point x e next goes stays open_next self =
    shape_kept graph function f (turn_of e f) (same_call e f) x.is
    (isolation_kept function f.regs (turn_of e f).regs
    (λ has. others_kept e f 0 (λ sets. self has sets)))
    (ap (closes_at graph function) (point_is e f next goes) ∙ open_next
    ∙ sym (open_here graph function f.point (ap is_return x.here ∙ stays)))

-- ---- memory
cells_after : (e : Effect) → is_inside e ≡ true → (j : ℕ) (state : State)
    → (after_effect j e state).cells ≡ (memory_of e state).cells
unfolding in_job
cells_after e is j state = ap (λ (s : State). s.cells) (after_inside e is j state)

pub reach_same : (state next : State) (colours after : Colours) → next.cells ≡ state.cells
    → after.cells ≡ colours.cells → KeepsReach state next colours after
reach_same state next colours after cells same p h r v there has =
    ap (λ cs. colours_of cs after.cells v) cells ∙ ap (λ cs. colours_of state.cells cs v) same

-- what registers reach stays when a slot is written
pub reach_written : (state : State) (colours after : Colours) (j n : ℕ) (slot : _) (v : Value)
    (next : ℕ) → after.cells ≡ colours.cells
    → KeepsReach state (after_effect j (effect.Write n slot v next) state) colours after
unfolding in_job in_cell
reach_written state colours after j n slot v next same p h r w there has =
    colours_written state.cells after.cells n slot v w
    ∙ ap (λ cs. colours_of state.cells cs w) same

-- and when a cell is made
pub reach_added : (state : State) (colours : Colours) (j r : ℕ) (cell : HeapCell) (number next : ℕ)
    (colour : Option Colour) → length colours.cells ≡ length state.cells → RegistersName state
    → KeepsReach state (after_effect j (effect.New r cell number next) state) colours
    (coloured_more colour colours)
unfolding in_job add_cell
reach_added state colours j r cell number next colour count named p h s v there has =
    colours_before state.cells colours.cells cell colour v count (named p h s v there has)

-- ---- region states
pub over_there : (regions : Spot → Option Regions) (q : Spot) (made : Regions)
    → over regions q made q ≡ Some made
over_there regions q made =
    ap (λ b. cond (b && (q.depth == q.depth)) (Some made) (regions q)) (eq-eqb q.job q.job refl)
    ∙ ap (λ b. cond b (Some made) (regions q)) (eq-eqb q.depth q.depth refl)

pub over_other : (regions : Spot → Option Regions) (q : Spot) (made : Regions) (p : Spot) → p ≢ q
    → over regions q made p ≡ regions p
over_other regions q made p differ = elim (cases_eq p.job q.job) [
  | inr apart ↦ ap (λ b. cond b (Some made) (regions p))
      (and_left (p.job == q.job) (p.depth == q.depth) (ne_eqb p.job q.job apart))
  | inl job ↦ ap (λ b. cond b (Some made) (regions p))
      (and_right (p.job == q.job) (p.depth == q.depth)
      (ne_eqb p.depth q.depth (λ depth. differ (same_frame job depth))))
]

pub annotated_kept : (states : ℕ → List (Option Regions)) (state next : State) (q : Spot)
    (f g : Frame) → ChangesFrame state next q f g → (p : Spot) → p ≢ q
    → annotated states next p ≡ annotated states state p
annotated_kept states state next q f g m p differ = ap (state_with states) (m.others p differ)

-- ---- the step
pub step_is : (graph : Graph) (state : State) (q : Spot) (job : Job) (f : Frame)
    (function : Function) (point : Point) (e : Effect) → StandsAt graph state q job f function point
    → point_effect graph state (length job.frames) f point ≡ e
    → execution_of e ≡ Some (Execute e) → step_of graph state q.job ≡ after_effect q.job e state
unfolding act_of effect_of top_frame point_at
step_is graph state q job f function point e x gives executed =
    step_by_act graph state q.job ∙ ap (λ o. after_acts q.job o state) acts
  where
    top_is : top_frame job ≡ Some f
    top_is = ap (slice_get job.frames)
        (let h = x.top.height in let i : length job.frames - 1 ≡ q.depth = omega (arith, h) in i)
        ∙ x.top.top

    stands : point_at graph f ≡ Some point
    stands = ap (option_and_then (λ (function : Function). point_in function f.point)) x.is ∙ x.here

    effect_is : effect_of graph state (length job.frames) f ≡ e
    effect_is = ap (λ o. needs o (point_effect graph state (length job.frames) f)) stands ∙ gives

    acts : act_of graph state q.job ≡ Some (Execute e)
    acts = ap (λ h. cond (is_some h) None
        (option_and_then (λ (j : Job). act_by graph state j j.status)
        (slice_get state.jobs q.job))) x.goes_on
        ∙ ap (option_and_then (λ (j : Job). act_by graph state j j.status)) x.top.there
        ∙ ap (act_by graph state job) x.running
        ∙ ap (option_and_then (λ frame. execution_of
        (effect_of graph state (length job.frames) frame))) top_is
        ∙ ap execution_of effect_is ∙ executed

-- an effect that changes one frame is executed
pub inside_executes : (e : Effect) → is_inside e ≡ true → execution_of e ≡ Some (Execute e)
inside_executes (effect.Set r v next) is = refl
inside_executes (effect.SetField r i v next) is = refl
inside_executes (effect.Print r line next) is = refl
inside_executes (effect.New r cell number next) is = refl
inside_executes (effect.Write c slot v next) is = refl
inside_executes (effect.WriteGlobal g v next) is = refl
inside_executes (effect.Goto next) is = refl
inside_executes (effect.Wait on r next) is = refl
inside_executes (effect.Rest r next) is = refl
inside_executes (effect.Enter frame next) is = cc
inside_executes (effect.Leave v) is = cc
inside_executes (effect.Spawn r frame job cell next) is = cc
inside_executes (effect.Halt kind at) is = cc
inside_executes effect.Stuck is = cc
