-- Each act keeps that a global has a value, or that a frame is yet to give it one.
use Rattle.std.proofs.Common.{◌≡◌, ℕ, zero, suc, ◌+◌, ◌-◌, ◌<◌, ◌⊎◌, inl, inr, true, false, ◌||◌}
use Rattle.std.proofs.Common.{cond, Option, Some, None, List, [], ◌∷◌, ◌++◌, length, refl, ap}
use Rattle.std.proofs.Common.{sym, ◌∙◌, subst, arith, length-append}
use Rattle.std.specs.List.{slice_get, slice_set}
use Rattle.std.proofs.lemmas.Bool.{cases_eq}
use Rattle.std.proofs.lemmas.Option.{slice_get_within}
use Rattle.sw_list.proofs.ListLemmas.{some_injective, slice_get_before}
use Rattle.sw_graph.specs.declared.function.Function.{Function}
use Rattle.sw_graph.specs.declared.graph.Graph.{Graph}
use Rattle.sw_graph.specs.declared.instr.Last.TheVariants as last
use Rattle.sw_graph.specs.declared.instr.Operand.{Operand}
use Rattle.sw_graph.specs.Placed.{GivesFirst}
use Rattle.sw_graph.specs.Points.{End, point_in}
use Rattle.sw_graph.specs.Ways.{Way, further}
use Rattle.sw_value.specs.declared.cell.HeapCell.{HeapCell}
use Rattle.sw_value.specs.declared.cell.HeapCell.TheVariants as cell
use Rattle.sw_value.specs.declared.cell.Slot.{Slot}
use Rattle.sw_value.specs.declared.cell.Slot.TheVariants.{Part, Content}
use Rattle.sw_value.specs.declared.effect.Effect.{Effect}
use Rattle.sw_value.specs.declared.effect.Effect.TheVariants as effect
use Rattle.sw_value.specs.declared.frame.Frame.{Frame}
use Rattle.sw_value.specs.declared.job.Job.{Job}
use Rattle.sw_value.specs.declared.job.Status.TheVariants.{Ready}
use Rattle.sw_value.specs.declared.state.State.{State}
use Rattle.sw_value.specs.declared.value.Value.{Value}
use Rattle.sw_value.specs.declared.value.Value.TheVariants as value
use Rattle.sw_value.specs.Cell.{with_slot}
use Rattle.sw_value.specs.Frame.{finish_instr, go_on, set_field, take_result}
use Rattle.sw_value.specs.Job.{in_top, enter, wait, rest, leave}
use Rattle.sw_value.specs.Lists.{changed_at}
use Rattle.sw_value.specs.Reach.{after_effect}
use Rattle.sw_value.specs.State.{in_job, add_cell, in_cell, set_global, halt}
use Rattle.sw_value.specs.Value.{value_at}
use Rattle.sw_value.proofs.JobLemmas.{leave_some, return_to_there}
use Rattle.sw_value.proofs.ListLemmas.{changed_at_found, changed_at_none}
use Rattle.sw_machine_kind_facts.specs.FirstValues.{IsDue, IsBeginning, HasValue}
use Rattle.sw_graph.specs.Stores.{has_stored}
use Rattle.sw_machine_kind_facts.proofs.FirstLemmas.{Steps, FirstFits}
use Rattle.sw_machine_kind_facts.proofs.ItemLemmas.{at_end, top_of, last_of, set_end, changed_end}
use Rattle.sw_machine_kind_facts.proofs.ItemLemmas.{changed_other}
use Rattle.sw_machine_kind_facts.proofs.ItemLemmas.{set_here, split_end}
use Rattle.sw_machine_kind_facts.proofs.StateLemmas.{one_function, taken_function, taken_point}

-- a frame that is due: at the same point, at the next, and at its return
pub due_same : (graph : Graph) (g : ℕ) (frame later : Frame) → later.function ≡ frame.function
    → later.point ≡ frame.point → IsDue graph g frame → IsDue graph g later
due_same graph g frame later same point due = record {
  function = due.function;
  is = ap (slice_get graph.functions) same ∙ due.is;
  stores = due.stores;
  passed = due.passed;
  way = subst (λ p. Way due.function p due.passed) (sym point) due.way;
  not_yet = due.not_yet;
}

pub due_steps : (graph : Graph) (g : ℕ) (frame later : Frame) (function : Function) (next : ℕ)
    → slice_get graph.functions frame.function ≡ Some function
    → Steps function frame.point next g → later.function ≡ frame.function → later.point ≡ next
    → IsDue graph g frame → IsDue graph g later
due_steps graph g frame later function next is steps same point due =
    let functions = one_function graph frame.function frame.function function due.function refl is
    due.is in
    let own = subst (λ f. Steps f frame.point next g) functions steps in
    record {
      function = due.function;
      is = ap (slice_get graph.functions) same ∙ due.is;
      stores = due.stores;
      passed = frame.point ∷ due.passed;
      way = subst (λ p. Way due.function p (frame.point ∷ due.passed)) (sym point)
          (further frame.point next due.passed due.way own.goes);
      not_yet = ap (λ b. b || has_stored due.function due.passed g) own.not_here ∙ due.not_yet;
    }

due_returns : (graph : Graph) (g : ℕ) (frame : Frame) (function : Function) (s : Option Operand)
    → slice_get graph.functions frame.function ≡ Some function
    → point_in function frame.point ≡ Some (End (last.Return s)) → IsDue graph g frame → ⊥
due_returns graph g frame function s is here due =
    let functions = one_function graph frame.function frame.function function due.function refl is
    due.is in
    let stored = due.stores frame.point due.passed s due.way
    (subst (λ (f : Function). point_in f frame.point ≡ Some (End (last.Return s))) functions here)
    in
    let wrong : false ≡ true = sym due.not_yet ∙ stored in cc

-- the one job
pub only_job : (job other : Job) (j : ℕ) → slice_get (other ∷ []) j ≡ Some job
    → (j ≡ 0) × (job ≡ other)
only_job job other zero e = (refl, sym (some_injective e))
only_job job other (suc j) e = absurd (let wrong : ⊥ = cc in wrong)

changed_only : (h : Job → Job) (job : Job) → changed_at h 0 (job ∷ []) ≡ h job ∷ []
unfolding changed_at
changed_only h job = refl

pub jobs_after : (h : Job → Job) (state : State) (j : ℕ) (job : Job) → state.jobs ≡ job ∷ []
    → j ≡ 0 → (in_job h j state).jobs ≡ h job ∷ []
unfolding in_job
jobs_after h state j job alone at =
    ap (λ k. changed_at h k state.jobs) at ∙ ap (changed_at h 0) alone ∙ changed_only h job

-- the closures of a state come from first-value functions
abbrev pub AreFirst : Graph → List HeapCell → Type 0
AreFirst graph cells = (c f : ℕ) (captures : List Value)
    → slice_get cells c ≡ Some (cell.Closure f captures) → GivesFirst graph f

-- above the entry a frame is of such a function
pub top_first : (graph : Graph) (state : State) (g : ℕ) (b : IsBeginning graph state g)
    (below : List Frame) (top : Frame) → b.job.frames ≡ below ++ top ∷ []
    → GivesFirst graph top.function
top_first graph state g b [] top are =
    let none : slice_get (top ∷ []) (b.index + 1) ≡ Some b.frame =
    ap (λ l. slice_get l (b.index + 1)) (sym are) ∙ b.here in
    let inside = slice_get_within (top ∷ []) (b.index + 1) b.frame none in absurd
    (omega (arith, inside))
top_first graph state g b (z ∷ zs) top are =
    let place : length ((z ∷ zs) ++ top ∷ []) - 1 ≡ length zs + 1 =
    omega (arith, length-append (z ∷ zs) (top ∷ [])) in
    b.firsts (length zs) top
    (ap (λ l. slice_get l (length zs + 1)) are
    ∙ ap (slice_get ((z ∷ zs) ++ top ∷ [])) (sym place) ∙ top_of (z ∷ zs) top)

-- the top frame changes
pub begins_moves : (graph : Graph) (state after : State) (g : ℕ) (b : IsBeginning graph state g)
    (below : List Frame) (top changed : Frame) (later : Job) → b.job.frames ≡ below ++ top ∷ []
    → after.jobs ≡ later ∷ [] → later.frames ≡ below ++ changed ∷ []
    → changed.function ≡ top.function → AreFirst graph after.cells
    → (IsDue graph g top → IsDue graph g changed) → IsBeginning graph after g
begins_moves graph state after g b below top changed later are alone frames same closures due =
    elim (at_end below top b.frame (b.index + 1) (ap (λ l. slice_get l (b.index + 1)) (sym are)
    ∙ b.here)) [
      | inl before ↦ of b.frame
          (slice_get_before below (changed ∷ []) (b.index + 1) b.frame before) b.due
      | inr (at, is) ↦ of changed (ap (slice_get (below ++ changed ∷ [])) at ∙ end)
          (due (subst (IsDue graph g) is b.due))
    ] where
      end : slice_get (below ++ changed ∷ []) (length below) ≡ Some changed
      end = ap (slice_get (below ++ changed ∷ [])) (sym (last_of below changed))
          ∙ top_of below changed

      firsts : (i : ℕ) (frame : Frame) → slice_get later.frames (i + 1) ≡ Some frame
          → GivesFirst graph frame.function
      firsts i frame here =
          elim (at_end below changed frame (i + 1) (ap (λ l. slice_get l (i + 1)) (sym frames) ∙
          here)) [
            | inl before ↦ b.firsts i frame (ap (λ l. slice_get l (i + 1)) are
                ∙ slice_get_before below (top ∷ []) (i + 1) frame before)
            | inr (at, is) ↦ subst (GivesFirst graph)
                (sym (ap (λ (f : Frame). f.function) is ∙ same))
                (top_first graph state g b below top are)
          ]

      of : (frame : Frame) → slice_get (below ++ changed ∷ []) (b.index + 1) ≡ Some frame
          → IsDue graph g frame → IsBeginning graph after g
      of frame here due = record {
        job = later;
        alone = alone;
        firsts = firsts;
        closures = closures;
        index = b.index;
        frame = frame;
        here = ap (λ l. slice_get l (b.index + 1)) frames ∙ here;
        due = due;
      }

-- a frame is put on top
pub begins_pushes : (graph : Graph) (state after : State) (g : ℕ) (b : IsBeginning graph state g)
    (frame : Frame) (later : Job) → after.jobs ≡ later ∷ []
    → later.frames ≡ b.job.frames ++ frame ∷ [] → GivesFirst graph frame.function
    → AreFirst graph after.cells → IsBeginning graph after g
begins_pushes graph state after g b frame later alone frames first closures = record {
  job = later;
  alone = alone;
  firsts = λ i other here. elim (at_end b.job.frames frame other (i + 1)
      (ap (λ l. slice_get l (i + 1)) (sym frames) ∙ here)) [
        | inl before ↦ b.firsts i other before
        | inr (at, is) ↦ subst (GivesFirst graph) (sym (ap (λ (f : Frame). f.function) is)) first
      ];
  closures = closures;
  index = b.index;
  frame = b.frame;
  here = ap (λ l. slice_get l (b.index + 1)) frames
      ∙ slice_get_before b.job.frames (frame ∷ []) (b.index + 1) b.frame b.here;
  due = b.due;
}

-- the top frame returns
pub begins_pops : (graph : Graph) (state after : State) (g : ℕ) (b : IsBeginning graph state g)
    (below : List Frame) (top : Frame) (later : Job) → b.job.frames ≡ below ++ top ∷ []
    → after.jobs ≡ later ∷ [] → later.frames ≡ below → (IsDue graph g top → ⊥)
    → AreFirst graph after.cells → IsBeginning graph after g
begins_pops graph state after g b below top later are alone frames done closures = record {
  job = later;
  alone = alone;
  firsts = λ i other here. b.firsts i other (ap (λ l. slice_get l (i + 1)) are
      ∙ slice_get_before below (top ∷ []) (i + 1) other
      (ap (λ l. slice_get l (i + 1)) (sym frames) ∙ here));
  closures = closures;
  index = b.index;
  frame = b.frame;
  here = ap (λ l. slice_get l (b.index + 1)) frames ∙ elim (at_end below top b.frame (b.index + 1)
      (ap (λ l. slice_get l (b.index + 1)) (sym are) ∙ b.here)) [
        | inl before ↦ before
        | inr (at, is) ↦ absurd (done (subst (IsDue graph g) is b.due))
      ];
  due = b.due;
}

-- closures stay what they are
slot_closure : (slot : Slot) (v : Value) (c : HeapCell) (f : ℕ) (captures : List Value)
    → with_slot slot v c ≡ cell.Closure f captures → c ≡ cell.Closure f captures
slot_closure (Part i) v (cell.Object k vs) f captures e = cc
slot_closure (Part i) v (cell.Actor k vs) f captures e = cc
slot_closure (Part i) v (cell.BoxOf w) f captures e = e
slot_closure (Part i) v (cell.Closure n vs) f captures e = e
slot_closure (Part i) v (cell.TaskOf j) f captures e = e
slot_closure Content v (cell.Object k vs) f captures e = e
slot_closure Content v (cell.Actor k vs) f captures e = e
slot_closure Content v (cell.BoxOf w) f captures e = cc
slot_closure Content v (cell.Closure n vs) f captures e = e
slot_closure Content v (cell.TaskOf j) f captures e = e

changed_from : {A : Type 0} (h : A → A) (i : ℕ) (xs : List A) (y : A)
    → slice_get (changed_at h i xs) i ≡ Some y → (x : A) × (slice_get xs i ≡ Some x) × (h x ≡ y)
changed_from {A} h i xs y e = by (slice_get xs i) refl where
  by : (o : Option A) → slice_get xs i ≡ o
      → (x : A) × (slice_get xs i ≡ Some x) × (h x ≡ y)
  by None is = let wrong : slice_get xs i ≡ Some y =
      ap (λ l. slice_get l i) (sym (changed_at_none h i xs is)) ∙ e in
      absurd (let none : ⊥ = cc in none)
  by (Some x) is = (x, is, some_injective (sym (changed_at_found h i xs x is) ∙ e))

written_first : (graph : Graph) (cells : List HeapCell) (c : ℕ) (slot : Slot) (v : Value)
    → AreFirst graph cells → AreFirst graph (changed_at (with_slot slot v) c cells)
written_first graph cells c slot v firsts k f captures here = elim (cases_eq k c) [
  | inl same ↦
      let old = changed_from (with_slot slot v) c cells (cell.Closure f captures)
      (ap (slice_get (changed_at (with_slot slot v) c cells)) (sym same) ∙ here) in
      firsts c f captures (old.1 ∙ ap Some (slot_closure slot v old.0 f captures old.2))
  | inr other ↦ firsts k f captures (sym (changed_other (with_slot slot v) c k cells other) ∙ here)
]

added_first : (graph : Graph) (cells : List HeapCell) (c : HeapCell) → AreFirst graph cells
    → ((f : ℕ) (captures : List Value) → c ≡ cell.Closure f captures → GivesFirst graph f)
    → AreFirst graph (cells ++ c ∷ [])
added_first graph cells c firsts new k f captures here =
    elim (at_end cells c (cell.Closure f captures) k here) [
      | inl before ↦ firsts k f captures before
      | inr (at, is) ↦ new f captures (sym is)
    ]

-- an instruction of the top frame, after which the job goes on
moved : (graph : Graph) (state middle : State) (g j : ℕ) (b : IsBeginning graph state g) (job : Job)
    (below : List Frame) (top : Frame) (h : Job → Job) (changed : Frame) (function : Function)
    (next : ℕ) → middle.jobs ≡ state.jobs → j ≡ 0 → job ≡ b.job → job.frames ≡ below ++ top ∷ []
    → (h job).frames ≡ below ++ changed ∷ [] → changed.function ≡ top.function
    → changed.point ≡ next → slice_get graph.functions top.function ≡ Some function
    → Steps function top.point next g → AreFirst graph middle.cells
    → IsBeginning graph (in_job h j middle) g
unfolding in_job
moved graph state middle g j b job below top h changed function next jobs at is are frames same
    point found steps closures =
    begins_moves graph state (in_job h j middle) g b below top changed (h job)
    (ap (λ (x : Job). x.frames) (sym is) ∙ are)
    (jobs_after h middle j job (jobs ∙ b.alone ∙ ap (λ x. x ∷ []) (sym is)) at) frames same closures
    (due_steps graph g top changed function next found steps same point)

-- a call
entered : (graph : Graph) (state : State) (g j : ℕ) (b : IsBeginning graph state g) (job : Job)
    (below : List Frame) (top : Frame) (frame : Frame) (function : Function) (next : ℕ) → j ≡ 0
    → job ≡ b.job → job.frames ≡ below ++ top ∷ []
    → slice_get graph.functions top.function ≡ Some function
    → Steps function top.point next g → GivesFirst graph frame.function
    → IsBeginning graph (in_job (enter frame next) j state) g
unfolding in_top go_on enter in_job
entered graph state g j b job below top frame function next at is are found steps first =
    let alone = b.alone ∙ ap (λ x. x ∷ []) (sym is) in
    let m = moved graph state state g j b job below top (in_top (go_on next)) (go_on next top)
    function
    next refl at is are (ap (λ fs. changed_at (go_on next) (length fs - 1) fs) are
    ∙ changed_end (go_on next) below top) refl refl found steps b.closures in
    let same : m.job ≡ in_top (go_on next) job =
    sym (only_job (in_top (go_on next) job) m.job 0
    (ap (λ l. slice_get l 0) (sym m.alone ∙ jobs_after (in_top (go_on next)) state j job alone
    at))).1 in
    begins_pushes graph (in_job (in_top (go_on next)) j state) (in_job (enter frame next) j state)
    g m
    frame (enter frame next job) (jobs_after (enter frame next) state j job alone at)
    (ap (λ (x : Job). x.frames ++ frame ∷ []) (sym same)) first b.closures

-- a return, which first takes the top frame away
abbrev with_frames : List Frame → Job → Job
with_frames frames job = record { frames = frames; status = job.status }

abbrev popped : State → List Frame → Job → State
popped state frames job = record state { jobs = with_frames frames job ∷ [] }

popped_begins : (graph : Graph) (state : State) (g : ℕ) (b : IsBeginning graph state g) (job : Job)
    (below : List Frame) (top : Frame) (function : Function) (s : Option Operand) → job ≡ b.job
    → job.frames ≡ below ++ top ∷ [] → slice_get graph.functions top.function ≡ Some function
    → point_in function top.point ≡ Some (End (last.Return s))
    → IsBeginning graph (popped state below job) g
popped_begins graph state g b job below top function s is are found here =
    begins_pops graph state (popped state below job) g b below top (with_frames below job)
    (ap (λ (x : Job). x.frames) (sym is) ∙ are) refl refl
    (due_returns graph g top function s found here) b.closures

popped_job : (graph : Graph) (state : State) (g : ℕ) (job : Job) (below : List Frame)
    (p : IsBeginning graph (popped state below job) g) → p.job ≡ with_frames below job
popped_job graph state g job below p =
    sym (only_job (with_frames below job) p.job 0 (ap (λ l. slice_get l 0) (sym p.alone))).1

-- a frame is left below
below_there : (graph : Graph) (state : State) (g : ℕ) (job : Job) (below : List Frame)
    → IsBeginning graph (popped state below job) g
    → (lowest : List Frame) × (lower : Frame) × (below ≡ lowest ++ lower ∷ [])
below_there graph state g job [] p =
    let wrong : slice_get [] (p.index + 1) ≡ Some p.frame =
    ap (λ (x : Job). slice_get x.frames (p.index + 1)) (sym (popped_job graph state g job [] p))
    ∙ p.here in absurd (let c : ⊥ = cc in c)
below_there graph state g job (f ∷ fs) p = split_end fs f

left : (graph : Graph) (state : State) (g j : ℕ) (b : IsBeginning graph state g) (job : Job)
    (below : List Frame) (top : Frame) (function : Function) (v : Value) (s : Option Operand) → j ≡
    0
    → job ≡ b.job → job.frames ≡ below ++ top ∷ []
    → slice_get graph.functions top.function ≡ Some function
    → point_in function top.point ≡ Some (End (last.Return s))
    → IsBeginning graph (in_job (leave v) j state) g
unfolding in_job
left graph state g j b job below top function v s at is are found here =
    let alone = b.alone ∙ ap (λ x. x ∷ []) (sym is) in
    let p = popped_begins graph state g b job below top function s is are found here in
    let there = below_there graph state g job below p in
    let lower = there.1 in
    let taken = take_result top.result v lower in
    let place : slice_get below (length below - 1) ≡ Some lower =
    ap (λ l. slice_get l (length l - 1)) there.2 ∙ top_of there.0 lower in
    let after : leave v job ≡ record {
      frames = slice_set below (length below - 1) taken;
      status = cond top.crossing Ready job.status;
    } =
    leave_some v job below top are ∙ return_to_there below top lower v job.status place in
    let frames : (leave v job).frames ≡ there.0 ++ taken ∷ [] =
    ap (λ (x : Job). x.frames) after
    ∙ ap (λ l. slice_set l (length l - 1) taken) there.2
    ∙ ap (λ k. slice_set (there.0 ++ lower ∷ []) k taken) (last_of there.0 lower)
    ∙ set_end there.0 lower taken in
    begins_moves graph (popped state below job) (in_job (leave v) j state) g p there.0 lower taken
    (leave v job) (ap (λ (x : Job). x.frames) (popped_job graph state g job below p) ∙ there.2)
    (jobs_after (leave v) state j job alone at) frames (taken_function top.result v lower)
    b.closures
    (due_same graph g lower taken (taken_function top.result v lower)
    (taken_point top.result v lower))

-- what an effect keeps
abbrev pub IsFirstOrSet : Graph → State → ℕ → Type 0
IsFirstOrSet graph state g = HasValue state g ⊎ IsBeginning graph state g

pub first_kept : (graph : Graph) (state : State) (g j : ℕ) → IsBeginning graph state g → (job : Job)
    (below : List Frame) (top : Frame) (function : Function)
    → slice_get state.jobs j ≡ Some job → job.frames ≡ below ++ top ∷ []
    → slice_get graph.functions top.function ≡ Some function → g < length state.globals →
    (e : Effect)
    → FirstFits graph function top.point g e → IsFirstOrSet graph (after_effect j e state) g
unfolding FirstFits in_top finish_instr set_field go_on add_cell in_cell set_global enter wait rest
    halt in_job
first_kept graph state g j b job below top function at are found inside e fits = by e fits where
  one : (j ≡ 0) × (job ≡ b.job)
  one = only_job job b.job j (ap (λ l. slice_get l j) (sym b.alone) ∙ at)

  tops : (h : Frame → Frame)
      → changed_at h (length job.frames - 1) job.frames ≡ below ++ h top ∷ []
  tops h = ap (λ fs. changed_at h (length fs - 1) fs) are ∙ changed_end h below top

  by : (e : Effect) → FirstFits graph function top.point g e
      → IsFirstOrSet graph (after_effect j e state) g
  by (effect.Set r v next) steps = inr (moved graph state state g j b job below top
      (in_top (finish_instr r v next)) (finish_instr r v next top) function next refl one.0 one.1
      are
      (tops (finish_instr r v next)) refl refl found steps b.closures)
  by (effect.SetField r i v next) steps = inr (moved graph state state g j b job below top
      (in_top (set_field r i v next)) (set_field r i v next top) function next refl one.0 one.1 are
      (tops (set_field r i v next)) refl refl found steps b.closures)
  by (effect.Print r line next) steps = inr (moved graph state state g j b job below top
      (in_top (finish_instr r value.Unit next)) (finish_instr r value.Unit next top) function next
      refl one.0 one.1 are (tops (finish_instr r value.Unit next)) refl refl found steps b.closures)
  by (effect.New r c number next) steps = inr (moved graph state (add_cell c state) g j b job below
      top (in_top (finish_instr r (value.Cell number) next))
      (finish_instr r (value.Cell number) next top) function next refl one.0 one.1 are
      (tops (finish_instr r (value.Cell number) next)) refl refl found steps.0
      (added_first graph state.cells c b.closures steps.1))
  by (effect.Write c slot v next) steps = inr (moved graph state
      (in_cell (with_slot slot v) c state) g j b job below top (in_top (go_on next))
      (go_on next top)
      function next refl one.0 one.1 are (tops (go_on next)) refl refl found steps
      (written_first graph state.cells c slot v b.closures))
  by (effect.WriteGlobal n v next) (inl same) = inl (
    v,
    ap (λ k. value_at (slice_set state.globals k (Some v)) g) same
        ∙ set_here state.globals g v inside,
  )
  by (effect.WriteGlobal n v next) (inr steps) = inr (moved graph state (set_global n v state) g j b
      job below top (in_top (go_on next)) (go_on next top) function next refl one.0 one.1 are
      (tops (go_on next)) refl refl found steps b.closures)
  by (effect.Goto next) steps = inr (moved graph state state g j b job below top
      (in_top (go_on next)) (go_on next top) function next refl one.0 one.1 are (tops (go_on next))
      refl
      refl found steps b.closures)
  by (effect.Enter frame next) steps = inr (entered graph state g j b job below top frame function
      next
      one.0 one.1 are found steps.0 steps.1)
  by (effect.Wait job_on r next) steps = inr (moved graph state state g j b job below top
      (wait job_on r next) (go_on next top) function next refl one.0 one.1 are (tops (go_on next))
      refl
      refl found steps b.closures)
  by (effect.Rest r next) steps = inr (moved graph state state g j b job below top (rest r next)
      (finish_instr r value.Unit next top) function next refl one.0 one.1 are
      (tops (finish_instr r value.Unit next)) refl refl found steps b.closures)
  by (effect.Spawn r frame made c next) none = absurd none
  by (effect.Leave v) returns = inr (left graph state g j b job below top function v returns.0 one.0
      one.1 are found returns.1)
  by (effect.Halt kind at) fits = inr (record {
    job = b.job;
    alone = b.alone;
    firsts = b.firsts;
    closures = b.closures;
    index = b.index;
    frame = b.frame;
    here = b.here;
    due = b.due;
  })
  by effect.Stuck fits = inr b
