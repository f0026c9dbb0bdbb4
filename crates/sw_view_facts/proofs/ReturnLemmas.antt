-- A return to the frame below, from the machine's step to soundness.
use Rattle.std.specs.Option.{option_map, option_map_or, option_and_then}
use Rattle.std.specs.List.{slice_get, slice_set}
use Rattle.std.proofs.Common.{◌≡◌, ◌≢◌, ℕ, suc, ◌<◌, ◌≤◌, ◌⊎◌, ◌==◌, ◌&&◌, true, false, not, cond}
use Rattle.std.proofs.Common.{Option, Some, None, List, [], ◌∷◌, ◌++◌, length, Contains, refl, sym}
use Rattle.std.proofs.Common.{subst, ap, ◌∙◌, arith, inl, inr, Bool}
use Rattle.std.proofs.lemmas.Bool.{cases_eq, cases_lt, ne_eqb}
use Rattle.std.proofs.lemmas.List.{length-append}
use Rattle.std.proofs.lemmas.Option.{slice_get_past}
use Rattle.sw_list.proofs.ListLemmas.{slice_get_first}
use Rattle.sw_graph.specs.declared.function.Function.{Function}
use Rattle.sw_graph.specs.declared.graph.Graph.{Graph}
use Rattle.sw_value.specs.declared.frame.Frame.{Frame}
use Rattle.sw_value.specs.declared.frame.TheConstants.{NO_REGISTER}
use Rattle.sw_value.specs.declared.job.Job.{Job}
use Rattle.sw_value.specs.declared.job.Status.TheVariants.{Ready, Running}
use Rattle.sw_value.specs.declared.state.State.{State}
use Rattle.sw_value.specs.declared.value.Value.{Value}
use Rattle.sw_value.specs.Frame.{take_result, set_register}
use Rattle.sw_value.specs.Job.{leave, is_running, is_running_status}
use Rattle.sw_value.specs.State.{in_job}
use Rattle.sw_value.specs.Value.{value_at}
use Rattle.sw_value.proofs.JobLemmas.{leave_some, return_to_there}
use Rattle.sw_value.proofs.ListLemmas.{changed_at_found, slice_get_end}
use Rattle.sw_solve.specs.Annotation as annotation
use Rattle.sw_partition.specs.Regions.{Regions}
use Rattle.sw_machine_kind_facts.proofs.ItemLemmas.{changed_other, last_of, top_of, set_end}
use Rattle.sw_machine_kind_facts.proofs.ItemLemmas.{set_other}
use Rattle.sw_owner_facts.specs.Colours.{Colour}
use Rattle.sw_owner_facts.specs.View.{Element, Here, Register, above, View, HoldsLive, FrameShape}
use Rattle.sw_owner_facts.specs.View.{IsLive, Holds, Frame as Spot}
use Rattle.sw_owner_facts.specs.Calls.{Returned, Handed}
use Rattle.sw_owner_facts.proofs.FrameLemmas.{same_frame, below_differs, below_above}
use Rattle.sw_owner_facts.proofs.FrameLemmas.{cases_register}
use Rattle.sw_reach_facts.specs.Reached.{colours_of}
use Rattle.sw_view_facts.specs.Views.{Colours, frame_at, shape_by, shape_with, here_at, view_of}
use Rattle.sw_view_facts.specs.Views.{annotated, state_with, elements_in, function_of, frame_under}
use Rattle.sw_view_facts.specs.Views.{live_by, awaited_by, region_by, colours_by, live_with}
use Rattle.sw_view_facts.specs.Shifts.{Shifts}
use Rattle.sw_view_facts.specs.Changes.{KeepsShape}
use Rattle.sw_view_facts.specs.Steps.{SameCall, height_in, runs_in}
use Rattle.sw_view_facts.proofs.ShiftLemmas.{kept_others, shape_stays, value_stays, elements_stay}

-- what holds of a frame and of the frame with register r set holds of the frame that takes a result
pub takes : (r : ℕ) (v : Value) (f : Frame) (P : Frame → Type 0) → P f → P (set_register r v f)
    → P (take_result r v f)
unfolding take_result
takes r v f P kept set = by (r == NO_REGISTER) where
  by : (b : Bool) → P (cond b f (set_register r v f))
  by true = kept
  by false = set

pub same_call : (r : ℕ) (v : Value) (f : Frame) → SameCall f (take_result r v f)
unfolding set_register
same_call r v f = takes r v f (SameCall f)
    (record { function = refl; executor = refl; crossing = refl; result = refl })
    (record { function = refl; executor = refl; crossing = refl; result = refl })

pub same_point : (r : ℕ) (v : Value) (f : Frame) → (take_result r v f).point ≡ f.point
unfolding set_register
same_point r v f = takes r v f (λ g. g.point ≡ f.point) refl refl

pub others_keep : (r : ℕ) (v : Value) (f : Frame) (s : ℕ) → s ≢ r
    → value_at (take_result r v f).regs s ≡ value_at f.regs s
unfolding set_register
others_keep r v f s differ = takes r v f (λ g. value_at g.regs s ≡ value_at f.regs s) refl
    (ap (option_and_then (λ (o : Option Value). o)) (set_other f.regs r s (Some v) differ))

module _ (graph : Graph) (states : ℕ → List (Option Regions)) (state : State)
    (colours after : Colours) (p : Spot) (job : Job) (rest : List Frame) (f t : Frame)
    (callee : Function) (v : Value)
    (at : slice_get state.jobs p.job ≡ Some job)
    (frames : job.frames ≡ (rest ++ f ∷ []) ++ t ∷ []) (depth : length rest ≡ p.depth)
    (running : job.status ≡ Running)
    (called : slice_get graph.functions t.function ≡ Some callee)
    (keeps : KeepsShape graph f (take_result t.result v f))
    (cells : after.cells ≡ colours.cells)
    (heres : (s : Spot) → s ≢ above p → here_at after s ≡ here_at colours s) where
  abbrev g : Frame
  g = take_result t.result v f

  abbrev next : State
  next = in_job (leave v) p.job state

  left : leave v job
      ≡ record { frames = rest ++ g ∷ []; status = cond t.crossing Ready job.status }
  left =
      leave_some v job (rest ++ f ∷ []) t frames
      ∙ return_to_there (rest ++ f ∷ []) t f v job.status (top_of rest f)
      ∙ ap (λ (l : List Frame). record { frames = l; status = cond t.crossing Ready job.status })
      (ap (λ k. slice_set (rest ++ f ∷ []) k (take_result t.result v f)) (last_of rest f)
      ∙ set_end rest f (take_result t.result v f))

  job_now : slice_get next.jobs p.job
      ≡ Some (record { frames = rest ++ g ∷ []; status = cond t.crossing Ready job.status })
  unfolding in_job
  job_now = changed_at_found (leave v) p.job state.jobs job at ∙ ap Some left

  job_other : (j : ℕ) → (j ≡ p.job → ⊥) → slice_get next.jobs j ≡ slice_get state.jobs j
  unfolding in_job
  job_other j differ = changed_other (leave v) p.job j state.jobs differ

  -- the frames of the job, before and after
  frame_before : (s : Spot) → s.job ≡ p.job
      → frame_at state s ≡ slice_get ((rest ++ f ∷ []) ++ t ∷ []) s.depth
  frame_before s same =
      ap (option_and_then (λ (j : Job). slice_get j.frames s.depth))
      (ap (slice_get state.jobs) same ∙ at)
      ∙ ap (λ l. slice_get l s.depth) frames

  frame_after : (s : Spot) → s.job ≡ p.job → frame_at next s ≡ slice_get (rest ++ g ∷ []) s.depth
  frame_after s same =
      ap (option_and_then (λ (j : Job). slice_get j.frames s.depth))
      (ap (slice_get next.jobs) same ∙ job_now)

  lengths : length (rest ++ f ∷ []) ≡ suc p.depth
  lengths = let e = length-append rest (f ∷ []) in omega (arith, e, depth)

  lengths_top : length ((rest ++ f ∷ []) ++ t ∷ []) ≡ suc (suc p.depth)
  lengths_top = let e = length-append (rest ++ f ∷ []) (t ∷ []) in omega (arith, e, lengths)

  lengths_after : length (rest ++ g ∷ []) ≡ suc p.depth
  lengths_after = let e = length-append rest (g ∷ []) in omega (arith, e, depth)

  was : frame_at state p ≡ Some f
  was = frame_before p refl
      ∙ slice_get_first (rest ++ f ∷ []) (t ∷ []) p.depth (let e = lengths in omega (arith, e))
      ∙ ap (slice_get (rest ++ f ∷ [])) (sym depth) ∙ slice_get_end rest f

  was_above : frame_at state (above p) ≡ Some t
  was_above = frame_before (above p) refl
      ∙ ap (slice_get ((rest ++ f ∷ []) ++ t ∷ [])) (sym lengths)
      ∙ slice_get_end (rest ++ f ∷ []) t

  now : frame_at next p ≡ Some g
  now = frame_after p refl ∙ ap (slice_get (rest ++ g ∷ [])) (sym depth) ∙ slice_get_end rest g

  now_above : frame_at next (above p) ≡ None
  now_above = frame_after (above p) refl
      ∙ slice_get_past (rest ++ g ∷ []) (suc p.depth) (let e = lengths_after in omega (arith, e))

  others : (s : Spot) → s ≢ p → s ≢ above p → frame_at next s ≡ frame_at state s
  others s differ apart = elim (cases_eq s.job p.job) [
    | inr away ↦ ap (option_and_then (λ (j : Job). slice_get j.frames s.depth))
        (job_other s.job away)
    | inl same ↦ elim (cases_lt s.depth p.depth) [
      | inl low ↦
          let inner : s.depth < length rest = omega (arith, low, depth) in
          frame_after s same ∙ slice_get_first rest (g ∷ []) s.depth inner
          ∙ sym (frame_before s same
          ∙ slice_get_first (rest ++ f ∷ []) (t ∷ []) s.depth
          (let e = lengths in omega (arith, e, low))
          ∙ slice_get_first rest (f ∷ []) s.depth inner)
      | inr high ↦
          let not_p : s.depth ≡ p.depth → ⊥ = λ e. differ (same_frame same e) in
          let not_above : s.depth ≡ suc p.depth → ⊥ = λ e. apart (same_frame same e) in
          let past : suc (suc p.depth) ≤ s.depth = omega (arith, high, not_p, not_above) in
          frame_after s same ∙ slice_get_past (rest ++ g ∷ []) s.depth
          (let e = lengths_after in omega (arith, e, past))
          ∙ sym (frame_before s same ∙ slice_get_past ((rest ++ f ∷ []) ++ t ∷ []) s.depth
          (let e = lengths_top in omega (arith, e, past)))
    ]
  ]

  height_before : height_in state p.job ≡ suc (suc p.depth)
  height_before = ap (λ o. option_map_or (λ (j : Job). length j.frames) o 0) at
      ∙ ap length frames ∙ lengths_top

  height_after : height_in next p.job ≡ suc p.depth
  height_after = ap (λ o. option_map_or (λ (j : Job). length j.frames) o 0) job_now ∙ lengths_after

  height_other : (j : ℕ) → (j ≡ p.job → ⊥) → height_in next j ≡ height_in state j
  height_other j differ = ap (λ o. option_map_or (λ (j : Job). length j.frames) o 0)
      (job_other j differ)

  pub shifts : Shifts graph (annotated states state) (annotated states next) state next colours after
      p f g
  unfolding in_job
  shifts = record {
    was = was;
    now = now;
    none = frame_before (above (above p)) refl
        ∙ slice_get_past ((rest ++ f ∷ []) ++ t ∷ []) (suc (suc p.depth))
        (let e = lengths_top in omega (arith, e));
    others = others;
    back = λ s apart inner. by s inner (cases_eq s.job p.job);
    call = same_call t.result v f;
    shape = keeps;
    heres = heres;
    regions_stay = λ s differ apart. ap (state_with states) (others s differ apart);
    reached = λ s h r w there has. ap (λ cs. colours_of state.cells cs w) cells;
  }
    where
      by : (s : Spot) → s.depth < height_in next s.job
          → (s.job ≡ p.job) ⊎ (s.job ≡ p.job → ⊥) → s.depth < height_in state s.job
      by s inner (inl same) =
          let after_is = ap (height_in next) same ∙ height_after in
          let before_is = ap (height_in state) same ∙ height_before in
          omega (arith, inner, after_is, before_is)
      by s inner (inr away) = subst (λ n. s.depth < n) (height_other s.job away) inner

  -- ---- the return
  abbrev old : View
  old = view_of graph (annotated states state) state colours

  abbrev new : View
  new = view_of graph (annotated states next) next after

  not_above : p ≢ above p
  not_above = below_differs (below_above p)

  state_same : annotated states next p ≡ annotated states state p
  state_same = ap (state_with states) now
      ∙ (λ i. value_at_point ((same_call t.result v f).function i) (same_point t.result v f i))
      ∙ sym (ap (state_with states) was)
    where
      value_at_point : ℕ → ℕ → Option Regions
      value_at_point function point = annotation.value_at (states function) point

  elements_same : elements_in graph (frame_at next p) ≡ elements_in graph (frame_at state p)
  elements_same = elements_stay graph (annotated states state) (annotated states next) state next
      colours after p f g shifts p not_above

  region_same : (x : Element) → new.region p x ≡ old.region p x
  region_same x = ap (λ e. region_by e (annotated states next p) x) elements_same
      ∙ ap (λ o. region_by (elements_in graph (frame_at state p)) o x) state_same

  awaits : awaited_by state p ≡ Some t.result
  awaits = ap (option_map (λ (h : Frame). h.result)) was_above

  awaits_none : awaited_by next p ≡ None
  awaits_none = ap (option_map (λ (h : Frame). h.result)) now_above

  live_same : (r : ℕ) → (r ≡ t.result → ⊥) → new.live p r ≡ old.live p r
  live_same r differ =
      ap (λ e. live_by e (awaited_by next p) (annotated states next p) r) elements_same
      ∙ ap (λ w. live_by (elements_in graph (frame_at state p)) w (annotated states next p) r)
      awaits_none
      ∙ ap (λ o. live_by (elements_in graph (frame_at state p)) None o r) state_same
      ∙ ap (λ b. not b && live_with (elements_in graph (frame_at state p))
      (annotated states state p) r) (sym (ne_eqb r t.result differ))
      ∙ ap (λ w. live_by (elements_in graph (frame_at state p)) w (annotated states state p) r)
      (sym awaits)

  -- what the frame held but for the register that waited
  held_before : (x : Element) (c : Colour) → (x ≡ Register t.result → ⊥) → HoldsLive new p x c
      → HoldsLive old p x c
  held_before x c differ h = record {
    frame = shifts.back p not_above h.frame;
    not_closing = sym (ap (λ (s : FrameShape). s.closing) (shape_stays graph (annotated states state)
        (annotated states next) state next colours after p f g shifts p not_above))
        ∙ h.not_closing;
    live = lives x differ h.live;
    holds = holds x differ h.holds;
  }
    where
      lives : (x : Element) → (x ≡ Register t.result → ⊥) → IsLive new p x → IsLive old p x
      lives Here differ l = tt
      lives (Register r) differ l = sym (live_same r (λ e. differ (ap Register e))) ∙ l

      holds : (x : Element) → (x ≡ Register t.result → ⊥) → Holds new p x c → Holds old p x c
      holds Here differ h = sym (heres p not_above) ∙ h
      holds (Register r) differ h = subst (λ l. Contains l c)
          (value_stays graph (annotated states state) (annotated states next) state next colours
          after p f g shifts r
          (others_keep t.result v f r (λ e. differ (ap Register e)))) h

  runs_now : (j : ℕ) → runs_in next j → runs_in state j
  unfolding is_running
  runs_now j run = elim (cases_eq j p.job) [
    | inl same ↦ ap (λ o. option_map_or is_running o false)
        (ap (slice_get state.jobs) same ∙ at) ∙ ap is_running_status running
    | inr differ ↦ sym (ap (λ o. option_map_or is_running o false) (job_other j differ)) ∙ run
  ]

  stops : t.crossing ≡ true
      → option_map_or is_running (slice_get next.jobs p.job) false ≡ false
  unfolding is_running
  stops crosses = ap (λ o. option_map_or is_running o false) job_now
      ∙ ap (λ b. is_running_status (cond b Ready job.status)) crosses

  crossing_is : (old.shape (above p)).crossing ≡ t.crossing
  crossing_is =
      ap (λ o. (shape_by graph (function_of graph (frame_under state p.job (suc p.depth))) o).crossing)
      was_above
      ∙ ap (λ o. (shape_with graph (function_of graph (frame_under state p.job (suc p.depth))) t
      o).crossing) called

  -- The frame above p returns v, whose colours may be handed to p.
  pub returns_to : ((c : Colour) → Contains (colours_by next after (Some g) t.result) c
      → Handed old p t.result c) → Returned old new p t.result
  unfolding in_job
  returns_to handed = record {
    popped = record {
      top = height_before;
      height = height_after;
      heights = height_other;
      running = runs_now;
    };
    leaves = λ crosses. stops (sym crossing_is ∙ crosses);
    shape = shape_stays graph (annotated states state) (annotated states next) state next colours
        after p f g shifts p not_above;
    held = λ {x} {c} h. by x c h (cases_register x t.result);
    together = λ {x} {y} both. region_same x ∙ both ∙ sym (region_same y);
    others = λ s inner differ. kept_others graph (annotated states state) (annotated states next)
        state next colours after p f g shifts s differ (λ e. above_none s inner e);
  }
    where
      above_none : (s : Spot) → s.depth < height_in next s.job → s ≡ above p → ⊥
      above_none s inner e =
          let job_is : s.job ≡ p.job = ap (λ (z : Spot). z.job) e in
          let depth_is : s.depth ≡ suc p.depth = ap (λ (z : Spot). z.depth) e in
          let height_is = ap (height_in next) job_is ∙ height_after in
          omega (arith, inner, depth_is, height_is)

      by : (x : Element) (c : Colour) → HoldsLive new p x c
          → (x ≡ Register t.result) ⊎ (x ≢ Register t.result)
          → HoldsLive old p x c ⊎ ((x ≡ Register t.result) × Handed old p t.result c)
      by x c h (inr differ) = inl (held_before x c differ h)
      by x c h (inl same) = inr (
        same,
        handed c (subst (λ l. Contains l c)
            (ap (λ o. colours_by next after o t.result) now)
            (subst (λ y. Holds new p y c) same h.holds)),
      )
