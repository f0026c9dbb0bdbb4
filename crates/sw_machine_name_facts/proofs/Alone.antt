-- As long as first values are given, there is one job, and what it makes leads to first values alone.
use Rattle.std.proofs.Common.{◌≡◌, ◌⊎◌, inl, inr, ℕ, zero, suc, ◌+◌, ◌-◌, ◌<◌, Option, Some, None}
use Rattle.std.proofs.Common.{List, [], ◌∷◌, ◌++◌, length, Contains, refl, ap, sym, ◌∙◌, subst, arith}
use Rattle.std.specs.List.{slice_get}
use Rattle.std.proofs.lemmas.Bool.{cases_eq}
use Rattle.std.proofs.lemmas.Option.{slice_get_within}
use Rattle.sw_list.proofs.ListLemmas.{some_injective}
use Rattle.sw_list.proofs.Members.{none_in, first_or_later, first_in, later_in}
use Rattle.sw_graph.specs.declared.graph.Graph.{Graph}
use Rattle.sw_graph.specs.declared.instr.Instr.{Instr}
use Rattle.sw_graph.specs.declared.instr.Instr.TheVariants as instr
use Rattle.sw_graph.specs.declared.instr.Last.{Last}
use Rattle.sw_graph.specs.Placed.{IsPlaced, GivesFirst, starts, leads, IsAlone, named_by, leads_to}
use Rattle.sw_graph.specs.Points.{Point, Middle, End}
use Rattle.sw_value.specs.declared.cell.HeapCell.{HeapCell}
use Rattle.sw_value.specs.declared.effect.Act.{Act}
use Rattle.sw_value.specs.declared.effect.Act.TheVariants.{Dispatch, Wake, Execute}
use Rattle.sw_value.specs.declared.effect.Effect.{Effect}
use Rattle.sw_value.specs.declared.effect.Effect.TheVariants as effect
use Rattle.sw_value.specs.declared.frame.Frame.{Frame}
use Rattle.sw_value.specs.declared.job.Job.{Job}
use Rattle.sw_value.specs.declared.job.Status.TheVariants.{Ready}
use Rattle.sw_value.specs.declared.state.State.{State}
use Rattle.sw_value.specs.Act.{act_of}
use Rattle.sw_value.specs.Effect.{instr_effect, last_effect, point_effect}
use Rattle.sw_value.specs.Job.{top_frame, new_job}
use Rattle.sw_value.specs.Reach.{step_of, reach}
use Rattle.sw_value.specs.Start.{start_frames, start_of}
use Rattle.sw_value.specs.Transition.{made_by}
use Rattle.sw_value.proofs.ReachLemmas.{after_acts, step_by_act, reach_none, reach_push}
use Rattle.sw_machine_let_facts.specs.Lets.{RunsFirst, IsPastFirsts}
use Rattle.sw_machine_let_facts.proofs.ActLemmas.{Executes, asked}
use Rattle.sw_machine_let_facts.proofs.BeginLemmas.{function_of, begun, point_begins}
use Rattle.sw_machine_let_facts.proofs.FunctionLemmas.{CellsOf, same_function}
use Rattle.sw_machine_let_facts.proofs.PastLemmas.{past_on}
use Rattle.sw_machine_let_facts.proofs.RunLemmas.{further}
use Rattle.sw_machine_name_facts.proofs.Acts.{by_act, steps_by}
use Rattle.sw_machine_name_facts.proofs.Cells.{CellAfter, stays as cell_stays, written, added, new_cell}
use Rattle.sw_machine_name_facts.proofs.Cells.{cell_after}
use Rattle.sw_machine_name_facts.proofs.Frames.{FrameAfter, turns, entered, frame_after}
use Rattle.sw_machine_name_facts.proofs.Jobs.{JobAfter, stays, changes, begins, begun_frame, job_after}
use Rattle.sw_machine_name_facts.proofs.Jobs.{jobs_stay}
use Rattle.sw_machine_name_facts.proofs.Starting.{above_entry}

-- There is one job. Its frames above the bottom one are of functions that give first values or that
-- these lead to, and so is each closure.
record IsOpening (graph : Graph) (state : State) : Type 0 where
  one : (i : ℕ) → i < length state.jobs → i ≡ 0
  frames : (i : ℕ) (job : Job) → slice_get state.jobs i ≡ Some job → (depth : ℕ) (frame : Frame)
      → slice_get job.frames (suc depth) ≡ Some frame → GivesFirst graph frame.function
  closures : CellsOf (GivesFirst graph) state

-- ---- acts that lead to first values alone
record LeadsToFirsts (graph : Graph) (act : Act) : Type 0 where
  no_job : (i : ℕ) → made_by act ≡ Some i → ⊥
  frame : (frame : Frame) → begun_frame act ≡ Some frame → GivesFirst graph frame.function
  closure : (h : HeapCell) (f : ℕ) → new_cell act ≡ Some h → function_of h ≡ Some f
      → GivesFirst graph f

frame_begun : (e : Effect) (frame : Frame) → begun_frame (Execute e) ≡ Some frame
    → begun e ≡ Some frame.function
frame_begun (effect.Enter new next) frame is =
    ap (λ (f : Frame). Some f.function) (some_injective is)
frame_begun (effect.Spawn r new task c next) frame is =
    ap (λ (f : Frame). Some f.function) (some_injective is)
frame_begun e frame is = cc

closure_begun : (e : Effect) (h : HeapCell) (f : ℕ) → new_cell (Execute e) ≡ Some h
    → function_of h ≡ Some f → begun e ≡ Some f
closure_begun (effect.New r new number next) h f is of =
    ap function_of (some_injective is) ∙ of
closure_begun (effect.Spawn r new task c next) h f is of =
    let none : None ≡ Some f = ap function_of (some_injective is) ∙ of in
    absurd (let z : ⊥ = cc in z)
closure_begun e h f is of = cc

alone_leads : (i : Instr) (f : ℕ) → IsAlone i → Contains (named_by i) f → Contains (leads_to i) f
alone_leads (instr.NewTask at r g ss) f alone has = absurd alone
alone_leads i f alone has = has

instr_alone : (graph : Graph) (state : State) (depth next : ℕ) (frame : Frame) (m : ℕ) (i : Instr)
    → IsAlone i → made_by (Execute (instr_effect graph state depth frame next i)) ≡ Some m → ⊥
instr_alone graph state depth next frame m (instr.NewTask at r g ss) alone made = alone
instr_alone graph state depth next frame m i alone made = grind arith

last_alone : (graph : Graph) (frame : Frame) (m : ℕ) (l : Last)
    → made_by (Execute (last_effect graph frame l)) ≡ Some m → ⊥
last_alone graph frame m l made = grind arith

module _ (graph : Graph) (placed : IsPlaced graph) (state : State)
    (closures : CellsOf (GivesFirst graph) state) (j : ℕ) (x : Executes graph state j)
    (first : GivesFirst graph x.frame.function) where
  alone : (i : Instr) → x.point ≡ Middle i → IsAlone i
  alone i here =
      placed.alone x.frame.function x.frame.point x.function i first x.is (x.here ∙ ap Some here)

  begun_first : (f : ℕ) → begun (asked graph state j x) ≡ Some f → GivesFirst graph f
  begun_first f is =
      let known = point_begins graph state (length x.job.frames) x.frame f x.point is in
      elim known.2 [
        | inl named ↦
            leads x.frame.function f x.frame.point x.function known.0 first x.is
            (x.here ∙ ap Some known.1)
            (alone_leads known.0 f (alone known.0 known.1) named)
        | inr made ↦ closures made.number made.cell made.is f made.of
      ]

  makes_none : (m : ℕ) → made_by (Execute (asked graph state j x)) ≡ Some m → ⊥
  makes_none m = by x.point refl where
    by : (point : Point) → x.point ≡ point
        → made_by (Execute (point_effect graph state (length x.job.frames) x.frame point)) ≡ Some m
        → ⊥
    by (Middle i) here made =
        instr_alone graph state (length x.job.frames) (x.frame.point + 1) x.frame m i (alone i here)
        made
    by (End l) here made = last_alone graph x.frame m l made

  leads_on : LeadsToFirsts graph (Execute (asked graph state j x))
  leads_on = record {
    no_job = makes_none;
    frame = λ frame is. begun_first frame.function (frame_begun (asked graph state j x) frame is);
    closure = λ h f is of. begun_first f (closure_begun (asked graph state j x) h f is of);
  }

-- ---- a step
opening_stays : (graph : Graph) (state : State) → IsOpening graph state → (j : ℕ) (act : Act)
    → act_of graph state j ≡ Some act → LeadsToFirsts graph act
    → IsOpening graph (step_of graph state j)
opening_stays graph state opening j act is leads_on = record {
  one = λ i inside. elim (jobs_stay graph state j act is i inside) [
    | inl before ↦ opening.one i before
    | inr made ↦ absurd (leads_on.no_job i made)
  ];
  frames = λ i job at depth frame here.
      of_job i job depth frame (job_after graph state j act is i job at) here;
  closures = λ c h at f of.
      of_cell c h f (cell_after j act state c h
      (ap (λ (s : State). slice_get s.cells c) (sym (steps_by graph state j act is)) ∙ at)) of;
} where
  of_frame : (old : Job) → slice_get state.jobs j ≡ Some old → (depth : ℕ) (frame : Frame)
      → FrameAfter old act (suc depth) frame → GivesFirst graph frame.function
  of_frame old was depth frame (turns before there t) =
      subst (GivesFirst graph) (sym t.function) (opening.frames j old was depth before there)
  of_frame old was depth frame (entered pushed) = leads_on.frame frame pushed

  of_job : (i : ℕ) (job : Job) (depth : ℕ) (frame : Frame) → JobAfter state act j i job
      → slice_get job.frames (suc depth) ≡ Some frame → GivesFirst graph frame.function
  of_job i job depth frame (stays was) here = opening.frames i job was depth frame here
  of_job i job depth frame (changes same old was now) here =
      of_frame old was depth frame
      (frame_after act old (suc depth) frame
      (ap (λ (b : Job). slice_get b.frames (suc depth)) now ∙ here))
  of_job i job depth frame (begins made new pushed now) here = absurd (leads_on.no_job i made)

  of_cell : (c : ℕ) (h : HeapCell) (f : ℕ) → CellAfter state act c h → function_of h ≡ Some f
      → GivesFirst graph f
  of_cell c h f (cell_stays was) of = opening.closures c h was f of
  of_cell c h f (written slot v next same old was now) of =
      opening.closures c old was f (sym (same_function slot v old) ∙ ap function_of now ∙ of)
  of_cell c h f (added here new) of = leads_on.closure h f new of

-- ---- the one job, at its bottom frame
cases_in : (xs : List ℕ) (x : ℕ) → Contains xs x ⊎ (Contains xs x → ⊥)
cases_in [] x = inr (none_in x)
cases_in (y ∷ ys) x = elim (cases_eq y x) [
  | inl same ↦ inl (subst (Contains (y ∷ ys)) same (first_in y ys))
  | inr apart ↦ elim (cases_in ys x) [
    | inl later ↦ inl (later_in y ys x later)
    | inr none ↦ inr (λ has. elim (first_or_later y ys x has) [
      | inl same ↦ apart same
      | inr later ↦ none later
    ])
  ]
]

-- a job of one frame, which gives no first value
only_frame : (graph : Graph) (state : State) → IsOpening graph state → (j : ℕ) (job : Job)
    (frame : Frame) → slice_get state.jobs j ≡ Some job → slice_get job.frames 0 ≡ Some frame
    → length job.frames - 1 ≡ 0 → (Contains graph.starts frame.function → ⊥)
    → IsPastFirsts graph state
only_frame graph state opening j job frame at bottom few later i other there depth f here =
    let left = opening.one j (slice_get_within state.jobs j job at) in
    let right = opening.one i (slice_get_within state.jobs i other there) in
    let jobs : other ≡ job =
    some_injective (sym there ∙ ap (slice_get state.jobs) (right ∙ sym left) ∙ at) in
    let here_too : slice_get job.frames depth ≡ Some f =
    ap (λ (b : Job). slice_get b.frames depth) (sym jobs) ∙ here in
    let inside = slice_get_within job.frames depth f here_too in
    let low : depth ≡ 0 = omega (arith, few, inside) in
    let frames : frame ≡ f =
    some_injective (sym bottom ∙ ap (slice_get job.frames) (sym low) ∙ here_too) in
    λ first. later (subst (λ (g : Frame). Contains graph.starts g.function) (sym frames) first)

-- the top frame leads to first values, or there are none to give any more
top_first : (graph : Graph) (state : State) → IsOpening graph state → (j : ℕ)
    (x : Executes graph state j)
    → GivesFirst graph x.frame.function ⊎ IsPastFirsts graph state
unfolding top_frame
top_first graph state opening j x = by (length x.job.frames - 1) refl x.top where
  by : (top : ℕ) → length x.job.frames - 1 ≡ top → slice_get x.job.frames top ≡ Some x.frame
      → GivesFirst graph x.frame.function ⊎ IsPastFirsts graph state
  by (suc depth) count here = inl (opening.frames j x.job x.at depth x.frame here)
  by zero count here = elim (cases_in graph.starts x.frame.function) [
    | inl first ↦ inl (starts x.frame.function first)
    | inr later ↦
        inr (only_frame graph state opening j x.job x.frame x.at here count later)
  ]

-- ---- all items
abbrev Stands : Graph → State → Type 0
Stands graph state = IsPastFirsts graph state ⊎ IsOpening graph state

start_opening : (graph : Graph) → IsOpening graph (start_of graph)
unfolding start_of new_job
start_opening graph = record {
  one = λ i inside. omega (arith, inside);
  frames = of_first;
  closures = λ c h at. cc;
} where
  of_first : (i : ℕ) (job : Job)
      → slice_get (record { frames = start_frames graph; status = Ready } ∷ []) i ≡ Some job
      → (depth : ℕ) (frame : Frame) → slice_get job.frames (suc depth) ≡ Some frame
      → GivesFirst graph frame.function
  of_first zero job at depth frame here =
      starts frame.function
      (above_entry graph depth frame
      (ap (λ (b : Job). slice_get b.frames (suc depth)) (some_injective at) ∙ here))
  of_first (suc i) job at depth frame here = cc

opening_step : (graph : Graph) → IsPlaced graph → (items : List ℕ) (item : ℕ)
    → IsOpening graph (reach graph items) → Stands graph (reach graph (items ++ item ∷ []))
opening_step graph placed items item opening =
    by (act_of graph (reach graph items) item) refl where
      state : State
      state = reach graph items

      on : IsOpening graph (step_of graph state item) → Stands graph (reach graph (items ++ item ∷ []))
      on later = inr (subst (IsOpening graph) (sym (reach_push graph items item)) later)

      nothing : (act : Act) → act_of graph state item ≡ Some act → LeadsToFirsts graph act
          → Stands graph (reach graph (items ++ item ∷ []))
      nothing act is leads_on = on (opening_stays graph state opening item act is leads_on)

      runs : (x : Executes graph state item)
          → act_of graph state item ≡ Some (Execute (asked graph state item x))
          → Stands graph (reach graph (items ++ item ∷ []))
      runs x is = elim (top_first graph state opening item x) [
        | inl first ↦
            nothing (Execute (asked graph state item x)) is
            (leads_on graph placed state opening.closures item x first)
        | inr past ↦ inl (past_on graph placed items (item ∷ []) past)
      ]

      by : (o : Option Act) → act_of graph state item ≡ o
          → Stands graph (reach graph (items ++ item ∷ []))
      by None is =
          on (subst (IsOpening graph)
          (sym (step_by_act graph state item ∙ ap (λ a. after_acts item a state) is)) opening)
      by (Some act) is =
          by_act (λ a. act_of graph state item ≡ Some a
          → Stands graph (reach graph (items ++ item ∷ []))) graph state item
          (λ same. nothing Dispatch same (record {
            no_job = λ i made. cc;
            frame = λ frame begun. cc;
            closure = λ h f new of. cc;
          }))
          (λ ended r v same. nothing (Wake ended r v) same (record {
            no_job = λ i made. cc;
            frame = λ frame begun. cc;
            closure = λ h f new of. cc;
          })) runs act is is

all_items : (graph : Graph) → IsPlaced graph → (items : List ℕ) → Stands graph (reach graph items)
all_items graph placed items =
    further (λ l. Stands graph (reach graph l))
    (λ before item stands. elim stands [
      | inl past ↦ inl (past_on graph placed before (item ∷ []) past)
      | inr opening ↦ opening_step graph placed before item opening
    ]) [] items
    (inr (subst (IsOpening graph) (sym (reach_none graph)) (start_opening graph)))

pub given_alone : (graph : Graph) → IsPlaced graph → (items : List ℕ) (j : ℕ)
    → RunsFirst graph (reach graph items) j → (i : ℕ) → i < length (reach graph items).jobs
    → i ≡ j
unfolding top_frame
given_alone graph placed items j r i inside = elim (all_items graph placed items) [
  | inl past ↦
      absurd (past j r.job r.is (length r.job.frames - 1) r.frame r.top r.first)
  | inr opening ↦
      opening.one i inside
      ∙ sym (opening.one j (slice_get_within (reach graph items).jobs j r.job r.is))
]
