-- The changes of each plan note no colour but those that are made.
use Rattle.std.proofs.Common.{◌≡◌, ℕ, suc, ◌<◌, Bool, true, false, cond, ltb, List, [], ◌∷◌, ◌++◌}
use Rattle.std.proofs.Common.{length, map, fold, refl, subst, arith, Option, Some, None}
use Rattle.std.proofs.Common.{slice_get}
use Rattle.std.specs.Prelude.{option_and_then, option_map}
use Rattle.std.specs.Option.{option_map_or, option_to_list}
use Rattle.std.proofs.lemmas.Option.{cond_some, same_Some}
use Rattle.std.proofs.lemmas.Bool.{ltb-true}
use Rattle.std.proofs.lemmas.List.Elements.{All-nil, All-cons, All-head}
use Rattle.sw_types.specs.Sendable.{sends_at}
use Rattle.sw_graph.specs.declared.graph.Graph.{Graph}
use Rattle.sw_graph.specs.declared.instr.Instr.TheVariants as instr
use Rattle.sw_graph.specs.Points.{Point, Middle}
use Rattle.sw_value.specs.declared.cell.HeapCell.{HeapCell}
use Rattle.sw_value.specs.declared.cell.HeapCell.TheVariants.{Object, Actor, BoxOf, Closure, TaskOf}
use Rattle.sw_value.specs.declared.executor.Executor.{Executor}
use Rattle.sw_value.specs.declared.executor.Executor.TheVariants as executor
use Rattle.sw_value.specs.declared.frame.Frame.{Frame}
use Rattle.sw_value.specs.declared.state.State.{State}
use Rattle.sw_value.specs.declared.effect.Effect.{Effect}
use Rattle.sw_value.specs.declared.effect.Effect.TheVariants as effect
use Rattle.sw_value.specs.declared.effect.Act.{Act}
use Rattle.sw_value.specs.declared.effect.Act.TheVariants.{Dispatch, Wake, Execute}
use Rattle.sw_value.specs.Act.{act_of}
use Rattle.sw_value.specs.Frame.{point_at}
use Rattle.sw_value.specs.Job.{top_frame}
use Rattle.sw_value.specs.Start.{start_frames}
use Rattle.sw_color_rules.specs.declared.colors.Owner.{Owner}
use Rattle.sw_color_rules.specs.declared.colors.Owner.TheVariants as owner
use Rattle.sw_color_rules.specs.declared.colors.Tint.{Tint}
use Rattle.sw_color_rules.specs.declared.colors.Tint.TheVariants as tint
use Rattle.sw_color_rules.specs.declared.colors.Colors.{Colors}
use Rattle.sw_color_rules.specs.declared.plan.Plan.{Plan}
use Rattle.sw_color_rules.specs.declared.plan.FrameChange.{FrameChange}
use Rattle.sw_color_rules.specs.declared.plan.FrameChange.TheVariants.{Stays, Pushed, Begun, Popped}
use Rattle.sw_color_rules.specs.declared.colored.Colored.{Colored}
use Rattle.sw_color_rules.specs.Tints.{owned_by, owned_number, colors_in, colors_of}
use Rattle.sw_color_rules.specs.Palette.{IsWhole}
use Rattle.sw_color_rules.specs.Changes.{Change, Fresh, Mark, Merge}
use Rattle.sw_color_rules.specs.Plans.{frame_changes, merges, handing, changes_by, no_plan}
use Rattle.sw_color_rules.specs.Plans.{joining, bare_cell, colored_cell, top_here, is_to_actor}
use Rattle.sw_color_rules.specs.Plans.{next_color, number_on, passed}
use Rattle.sw_color_rules.specs.Plans.{is_isolated, new_closure, new_cell, begun_with, called_number}
use Rattle.sw_color_rules.specs.Plans.{is_make, effect_plan, plan_at, plan_of}
use Rattle.sw_color_rules.specs.Machine.{first_colors, started, start_colors}
use Rattle.sw_color_rules.specs.Machine.{colored_start, changes_of, colored_step, colored_reach}
use Rattle.sw_color_rules.specs.Ranges.{noted, AreBelow, AreMade}
use Rattle.sw_color_rules.proofs.NumberLemmas.{all_there, ordered_below, values_below}
use Rattle.sw_color_rules.proofs.RangeLemmas.{AllNote, changes_made}
use Rattle.sw_color_rules.proofs.PaletteLemmas.{changes_whole, start_whole}

-- ---- plans
abbrev count_with : ℕ → Option Owner → ℕ
count_with count None = count
count_with count (Some o) = suc count

abbrev TintBelow : ℕ → Option Tint → Type 0
TintBelow count None = Unit {0}
TintBelow count (Some tint) = AreBelow count (noted tint)

abbrev FrameBelow : ℕ → FrameChange → Type 0
FrameBelow count Stays = Unit {0}
FrameBelow count (Pushed n) = n < count
FrameBelow count (Begun n) = n < count
FrameBelow count Popped = Unit {0}

-- a plan that notes no colour but those that are made
record Within (count : ℕ) (plan : Plan) : Type 0 where
  tint : TintBelow (count_with count plan.fresh) plan.tint
  frame : FrameBelow (count_with count plan.fresh) plan.frame

merges_note : (count : ℕ) (ns : List ℕ) (more : List Change) → AllNote count more
    → AllNote count (merges ns ++ more)
merges_note count [] more notes = notes
merges_note count (a ∷ ns) more notes = by ns where
  by : (ns : List ℕ) → AllNote count (map (Merge a) ns ++ more)
  by [] = notes
  by (n ∷ ns) = (tt, by ns)

handing_notes : (count : ℕ) (ns : List ℕ) (heir : Option ℕ) → AllNote count (handing ns heir)
handing_notes count [] None = tt
handing_notes count [] (Some job) = tt
handing_notes count (a ∷ ns) None = tt
handing_notes count (a ∷ ns) (Some job) = (tt, tt)

frame_notes : (count job : ℕ) (frame : FrameChange) (more : List Change) → FrameBelow count frame
    → AllNote count more → AllNote count (frame_changes job frame ++ more)
frame_notes count job Stays more below notes = notes
frame_notes count job (Pushed n) more below notes = (below, notes)
frame_notes count job (Begun n) more below notes = (below, notes)
frame_notes count job Popped more below notes = (tt, notes)

tint_notes : (count job : ℕ) (tint : Option Tint) (frame : FrameChange) (more : List Change)
    → TintBelow count tint → FrameBelow count frame → AllNote count more
    → AllNote count ((option_to_list (option_map Mark tint) ++ frame_changes job frame) ++ more)
tint_notes count job None frame more tint_below below notes = frame_notes count job frame more below notes
tint_notes count job (Some tint) frame more tint_below below notes =
    (tint_below, frame_notes count job frame more below notes)

plan_notes : (count job : ℕ) (plan : Plan) → Within count plan → AllNote count (changes_by job plan)
plan_notes count job plan within = by plan.fresh within.tint within.frame where
  rest : (count : ℕ) → AllNote count (merges plan.joined ++ handing plan.joined plan.heir)
  rest count = merges_note count plan.joined (handing plan.joined plan.heir)
      (handing_notes count plan.joined plan.heir)

  made : List Change
  made = option_to_list (option_map Mark plan.tint) ++ frame_changes job plan.frame

  by : (o : Option Owner) → TintBelow (count_with count o) plan.tint
      → FrameBelow (count_with count o) plan.frame
      → AllNote count ((option_to_list (option_map Fresh o) ++ made)
      ++ (merges plan.joined ++ handing plan.joined plan.heir))
  by None tint frame =
      tint_notes count job plan.tint plan.frame
      (merges plan.joined ++ handing plan.joined plan.heir) tint frame (rest count)
  by (Some o) tint frame = (
    tt,
    tint_notes (suc count) job plan.tint plan.frame
        (merges plan.joined ++ handing plan.joined plan.heir) tint frame (rest (suc count)),
  )

-- ---- the plan of each effect
one_below : (count n : ℕ) → n < count → AreBelow count (n ∷ [])
one_below count n below = All-cons (λ m. m < count) n [] below (All-nil (λ m. m < count))

global_below : (count g n : ℕ) → cond (ltb g count) (Some g) None ≡ Some n → n < count
global_below count g n e =
    let both = cond_some (ltb g count) g n e in
    omega (arith, ltb-true g count both.0, both.1)

number_below : (colors : Colors) → AreMade colors → (on : Executor) (n : ℕ) → number_on colors on ≡ Some n
    → n < length colors.palette.names
unfolding owned_number
number_below colors made executor.Generic n e = cc
number_below colors made (executor.Global g) n e =
    global_below (length colors.palette.names) g n e
number_below colors made (executor.ActorOf c) n e = by (slice_get colors.cells c) refl e where
  owned : (tint : Tint) → AreBelow (length colors.palette.names) (noted tint) → owned_by tint ≡ Some n
      → n < length colors.palette.names
  owned tint.Bare below same = cc
  owned (tint.Colored m) below same = cc
  owned (tint.Owns m) below same =
      subst (λ k. k < length colors.palette.names) (same_Some m n same)
      (All-head (λ k. k < length colors.palette.names) m [] below)
  owned (tint.Holds ns) below same = cc

  by : (o : Option Tint) → slice_get colors.cells c ≡ o → option_and_then owned_by o ≡ Some n
      → n < length colors.palette.names
  by None there same = cc
  by (Some tint) there same =
      owned tint
      (all_there (λ t. AreBelow (length colors.palette.names) (noted t)) colors.cells c tint there
      made.cells) same

begins_within : (colors : Colors) (on : Option ℕ) (o : Owner) (ns : List ℕ)
    → ((n : ℕ) → on ≡ Some n → n < length colors.palette.names)
    → (begins : ℕ → FrameChange)
    → ((count n : ℕ) → n < count → FrameBelow count (begins n))
    → Within (next_color colors) (begun_with on o begins (next_color colors) ns)
begins_within colors None o ns below begins fits =
    record { tint = tt; frame = fits (suc (next_color colors)) (next_color colors) (omega arith) }
begins_within colors (Some a) o ns below begins fits =
    record { tint = tt; frame = fits (next_color colors) a (below a refl) }

pushes : (count n : ℕ) → n < count → FrameBelow count (Pushed n)
pushes count n below = below

-- what holds of the colours before each act
record Before (colors : Colors) : Type 0 where
  made : AreMade colors
  whole : IsWhole colors.palette

closure_within : (colors : Colors) (isolated : Bool) (job : ℕ) (ns : List ℕ) → Before colors
    → AreBelow (next_color colors) ns
    → Within (next_color colors) (new_closure colors isolated job ns)
closure_within colors true job ns before below = record { tint = one_below (suc (next_color colors)) (next_color colors) (omega arith); frame = tt }
closure_within colors false job ns before below = record {
  tint = ordered_below (next_color colors) ns below;
  frame = tt;
}

cell_within : (graph : Graph) (colors : Colors) (job c : ℕ) (cell : HeapCell) → Before colors
    → Within (next_color colors) (new_cell graph colors job c cell)
cell_within graph colors job c (Object k parts) before = by (sends_at graph.shapes k) where
  by : (t : Bool)
      → Within (next_color colors) (cond t
      (bare_cell (top_here colors job ++ colors_of colors.cells parts))
      (colored_cell job (next_color colors) (colors_of colors.cells parts)))
  by true = record { tint = All-nil (λ n. n < next_color colors); frame = tt }
  by false = record { tint = one_below (suc (next_color colors)) (next_color colors) (omega arith); frame = tt }
cell_within graph colors job c (Actor k parts) before = record { tint = one_below (suc (next_color colors)) (next_color colors) (omega arith); frame = tt }
cell_within graph colors job c (BoxOf v) before = record { tint = one_below (suc (next_color colors)) (next_color colors) (omega arith); frame = tt }
cell_within graph colors job c (Closure f captures) before =
    closure_within colors (is_isolated graph f) job (colors_of colors.cells captures) before
    (values_below (next_color colors) colors.cells before.made.cells captures)
cell_within graph colors job c (TaskOf j) before = record { tint = All-nil (λ n. n < next_color colors); frame = tt }

called_below : (colors : Colors) → AreMade colors → (point : Point) (frame : Frame) (n : ℕ)
    → called_number colors point frame ≡ Some n → n < next_color colors
called_below colors made (Middle (instr.Call at dst kind f args)) frame n e = by (is_to_actor kind) e where
  by : (t : Bool) → cond t (number_on colors frame.executor) None ≡ Some n → n < next_color colors
  by true same = number_below colors made frame.executor n same
  by false same = cc
called_below colors made _ frame n e = cc

-- ---- the plan of each effect
effect_within : (graph : Graph) (colors : Colors) (job : ℕ) (top : Frame) (point : Point) (e : Effect)
    → Before colors → Within (next_color colors) (effect_plan graph colors job top point e)
effect_within graph colors job top point (effect.Set r v next) before = by (is_make point) where
  by : (t : Bool)
      → Within (next_color colors) (cond t (joining (colors_in colors.cells v)) no_plan)
  by true = record { tint = tt; frame = tt }
  by false = record { tint = tt; frame = tt }
effect_within graph colors job top point (effect.SetField r i v next) before =
    record { tint = tt; frame = tt }
effect_within graph colors job top point (effect.Print r line next) before = record { tint = tt; frame = tt }
effect_within graph colors job top point (effect.New r cell c next) before =
    cell_within graph colors job c cell before
effect_within graph colors job top point (effect.Write c slot v next) before =
    record { tint = tt; frame = tt }
effect_within graph colors job top point (effect.WriteGlobal g v next) before =
    record { tint = tt; frame = tt }
effect_within graph colors job top point (effect.Goto next) before = record { tint = tt; frame = tt }
effect_within graph colors job top point (effect.Enter frame next) before =
    begins_within colors (called_number colors point frame) (owner.Job job) _
    (called_below colors before.made point frame) Pushed pushes
effect_within graph colors job top point (effect.Spawn r frame made cell next) before =
    by (number_on colors frame.executor) (number_below colors before.made frame.executor) where
      by : (o : Option ℕ) → ((n : ℕ) → o ≡ Some n → n < next_color colors)
          → Within (next_color colors)
          (record (begun_with o (owner.Job made) Begun (next_color colors)
          (passed colors.cells [] frame.regs)) { tint = Some tint.Bare; heir = Some made })
      by None below =
          record { tint = All-nil (λ n. n < suc (next_color colors)); frame = omega arith }
      by (Some a) below =
          record { tint = All-nil (λ n. n < next_color colors); frame = below a refl }
effect_within graph colors job top point (effect.Wait on r next) before = record { tint = tt; frame = tt }
effect_within graph colors job top point (effect.Rest r next) before = record { tint = tt; frame = tt }
effect_within graph colors job top point (effect.Leave v) before = record { tint = tt; frame = tt }
effect_within graph colors job top point (effect.Halt kind at) before = record { tint = tt; frame = tt }
effect_within graph colors job top point effect.Stuck before = record { tint = tt; frame = tt }

plan_within : (graph : Graph) (state : State) (colors : Colors) (job : ℕ) (act : Act) → Before colors
    → Within (next_color colors) (plan_of graph state colors job act)
plan_within graph state colors job Dispatch before = record { tint = tt; frame = tt }
plan_within graph state colors job (Wake ended r v) before = record { tint = tt; frame = tt }
plan_within graph state colors job (Execute e) before =
    by (option_and_then top_frame (slice_get state.jobs job)) where
      at_point : (top : Frame) (o : Option Point)
          → Within (next_color colors)
          (option_map_or (λ point. effect_plan graph colors job top point e) o no_plan)
      at_point top None = record { tint = tt; frame = tt }
      at_point top (Some point) = effect_within graph colors job top point e before

      by : (o : Option Frame)
          → Within (next_color colors) (option_map_or (plan_at graph colors job e) o no_plan)
      by None = record { tint = tt; frame = tt }
      by (Some top) = at_point top (point_at graph top)

-- ---- states
step_before : (graph : Graph) (colored : Colored) (item : ℕ) → Before colored.colors
    → Before (colored_step graph colored item).colors
unfolding colored_step changes_of
step_before graph colored item before = record {
  made = changes_made (changes_of graph colored item) colored.colors
      (by (act_of graph colored.state item)) before.made;
  whole = changes_whole (changes_of graph colored item) colored.colors before.whole;
} where
  by : (o : Option Act)
      → AllNote (next_color colored.colors)
      (option_map_or (λ act. changes_by item (plan_of graph colored.state colored.colors item act)) o [])
  by None = tt
  by (Some act) =
      plan_notes (next_color colored.colors) item
      (plan_of graph colored.state colored.colors item act)
      (plan_within graph colored.state colored.colors item act before)

steps_before : (graph : Graph) (items : List ℕ) (colored : Colored) → Before colored.colors
    → Before (fold (colored_step graph) colored items).colors
steps_before graph [] colored before = before
steps_before graph (item ∷ items) colored before =
    steps_before graph items (colored_step graph colored item) (step_before graph colored item before)

frames_made : (frames : List Frame) (colors : Colors) → AreMade colors
    → AreMade (fold started colors frames)
unfolding started
frames_made [] colors made = made
frames_made (frame ∷ frames) colors made =
    frames_made frames (started colors frame)
    (changes_made
    (changes_by 0
    (begun_with (number_on colors frame.executor) (owner.Job 0) Pushed (next_color colors) [])) colors
    (plan_notes (next_color colors) 0
    (begun_with (number_on colors frame.executor) (owner.Job 0) Pushed (next_color colors) [])
    (begins_within colors (number_on colors frame.executor) (owner.Job 0) []
    (number_below colors made frame.executor) Pushed pushes)) made)

first_made : (graph : Graph) → AreMade (first_colors graph)
first_made graph = record {
  cells = All-nil (λ t. AreBelow (next_color (first_colors graph)) (noted t));
  heres = All-cons (AreBelow (next_color (first_colors graph))) [] []
      (All-nil (λ n. n < next_color (first_colors graph)))
      (All-nil (AreBelow (next_color (first_colors graph))));
}

pub reach_made : (graph : Graph) (items : List ℕ) → AreMade (colored_reach graph items).colors
unfolding colored_reach start_colors
reach_made graph items =
    (steps_before graph items (colored_start graph)
    (record {
      made = frames_made (start_frames graph) (first_colors graph) (first_made graph);
      whole = start_whole graph;
    })).made
