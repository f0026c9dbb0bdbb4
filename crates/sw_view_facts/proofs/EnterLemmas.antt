-- A call, from the machine's step to soundness.
use Rattle.std.specs.Option.{option_map, option_map_or, option_and_then}
use Rattle.std.specs.List.{slice_get}
use Rattle.std.proofs.Common.{◌≡◌, ◌≢◌, ℕ, suc, ◌+◌, ◌-◌, ◌<◌, ◌≤◌, ◌⊎◌, ◌==◌, ◌&&◌, Bool, true}
use Rattle.std.proofs.Common.{false, not, cond, Option, Some, None, List, [], ◌∷◌, ◌++◌, length}
use Rattle.std.proofs.Common.{Contains, refl, sym, subst, ap, ◌∙◌, arith, inl, inr}
use Rattle.std.proofs.lemmas.Bool.{cases_eq, cases_lt, and_parts, eqb-false}
use Rattle.std.proofs.lemmas.List.{length-append}
use Rattle.std.proofs.lemmas.Option.{slice_get_past}
use Rattle.sw_list.proofs.ListLemmas.{slice_get_first}
use Rattle.sw_graph.specs.declared.graph.Graph.{Graph}
use Rattle.sw_value.specs.Lists.{changed_at}
use Rattle.sw_value.specs.declared.frame.Frame.{Frame}
use Rattle.sw_value.specs.declared.job.Job.{Job}
use Rattle.sw_value.specs.declared.job.Status.TheVariants.{Ready, Running}
use Rattle.sw_value.specs.declared.state.State.{State}
use Rattle.sw_value.specs.Frame.{go_on}
use Rattle.sw_value.specs.Job.{enter, is_running, is_running_status}
use Rattle.sw_value.specs.State.{in_job}
use Rattle.sw_value.proofs.ListLemmas.{changed_at_found, slice_get_end}
use Rattle.sw_partition.specs.Regions.{Regions}
use Rattle.sw_machine_kind_facts.proofs.ItemLemmas.{changed_other, changed_end}
use Rattle.sw_owner_facts.specs.Colours.{Colour}
use Rattle.sw_owner_facts.specs.View.{Element, Here, Register, above, View, HoldsLive, InOneRegion}
use Rattle.sw_owner_facts.specs.View.{FrameShape, IsLive, Holds, Frame as Spot, IsDisconnected}
use Rattle.sw_owner_facts.specs.Calls.{Called}
use Rattle.sw_owner_facts.proofs.FrameLemmas.{same_frame, below_differs, below_above}
use Rattle.sw_region_facts.specs.FrameRegions.{live_in, TogetherIn, LiveIn, region_in}
use Rattle.sw_reach_facts.specs.Reached.{colours_of}
use Rattle.sw_view_facts.specs.Changes.{KeepsShape}
use Rattle.sw_view_facts.specs.Steps.{height_in, runs_in}
use Rattle.sw_view_facts.specs.Views.{Colours, frame_at, here_at, view_of, annotated, state_with}
use Rattle.sw_view_facts.specs.Views.{elements_in, live_by, waits, awaited_by, region_by}
use Rattle.sw_view_facts.specs.Shifts.{Shifts}
use Rattle.sw_view_facts.proofs.ShiftLemmas.{kept_others, shape_stays, value_stays, elements_stay}

not_not : (b : Bool) → not b ≡ true → b ≡ false
not_not true e = cc
not_not false e = refl

-- The frame at p calls: t is put on top of it. `regions` says which states frames are in before,
-- after the operations on the arguments.
module _ (graph : Graph) (states : ℕ → List (Option Regions)) (regions : Spot → Option Regions)
    (state : State) (colours after : Colours) (p : Spot) (job : Job) (rest : List Frame)
    (f t : Frame) (made c : Regions)
    (at : slice_get state.jobs p.job ≡ Some job) (frames : job.frames ≡ rest ++ f ∷ [])
    (depth : length rest ≡ p.depth) (running : job.status ≡ Running)
    (keeps : KeepsShape graph f (go_on (f.point + 1) f))
    (cells : after.cells ≡ colours.cells)
    (heres : (s : Spot) → s ≢ above p → here_at after s ≡ here_at colours s)
    (before : regions p ≡ Some made)
    (elsewhere : (s : Spot) → s ≢ p → regions s ≡ annotated states state s) where
  abbrev g : Frame
  g = go_on (f.point + 1) f

  abbrev next : State
  next = in_job (enter t (f.point + 1)) p.job state

  entered : enter t (f.point + 1) job ≡ record {
    frames = (rest ++ g ∷ []) ++ t ∷ [];
    status = cond t.crossing Ready job.status;
  }
  unfolding enter
  entered =
      ap (λ (l : List Frame). record {
        frames = changed_at (go_on (f.point + 1)) (length l - 1) l ++ t ∷ [];
        status = cond t.crossing Ready job.status;
      }) frames
      ∙ ap (λ (l : List Frame). record {
        frames = l ++ t ∷ [];
        status = cond t.crossing Ready job.status;
      }) (changed_end (go_on (f.point + 1)) rest f)

  job_now : slice_get next.jobs p.job ≡ Some (record {
    frames = (rest ++ g ∷ []) ++ t ∷ [];
    status = cond t.crossing Ready job.status;
  })
  unfolding in_job
  job_now = changed_at_found (enter t (f.point + 1)) p.job state.jobs job at ∙ ap Some entered

  job_other : (j : ℕ) → (j ≡ p.job → ⊥) → slice_get next.jobs j ≡ slice_get state.jobs j
  unfolding in_job
  job_other j differ = changed_other (enter t (f.point + 1)) p.job j state.jobs differ

  frame_before : (s : Spot) → s.job ≡ p.job
      → frame_at state s ≡ slice_get (rest ++ f ∷ []) s.depth
  frame_before s same =
      ap (option_and_then (λ (j : Job). slice_get j.frames s.depth))
      (ap (slice_get state.jobs) same ∙ at)
      ∙ ap (λ l. slice_get l s.depth) frames

  frame_after : (s : Spot) → s.job ≡ p.job
      → frame_at next s ≡ slice_get ((rest ++ g ∷ []) ++ t ∷ []) s.depth
  frame_after s same =
      ap (option_and_then (λ (j : Job). slice_get j.frames s.depth))
      (ap (slice_get next.jobs) same ∙ job_now)

  lengths_before : length (rest ++ f ∷ []) ≡ suc p.depth
  lengths_before = let e = length-append rest (f ∷ []) in omega (arith, e, depth)

  lengths : length (rest ++ g ∷ []) ≡ suc p.depth
  lengths = let e = length-append rest (g ∷ []) in omega (arith, e, depth)

  lengths_top : length ((rest ++ g ∷ []) ++ t ∷ []) ≡ suc (suc p.depth)
  lengths_top = let e = length-append (rest ++ g ∷ []) (t ∷ []) in omega (arith, e, lengths)

  was : frame_at state p ≡ Some f
  was = frame_before p refl ∙ ap (slice_get (rest ++ f ∷ [])) (sym depth) ∙ slice_get_end rest f

  was_above : frame_at state (above p) ≡ None
  was_above = frame_before (above p) refl
      ∙ slice_get_past (rest ++ f ∷ []) (suc p.depth) (let e = lengths_before in omega (arith, e))

  pub now : frame_at next p ≡ Some g
  now = frame_after p refl
      ∙ slice_get_first (rest ++ g ∷ []) (t ∷ []) p.depth (let e = lengths in omega (arith, e))
      ∙ ap (slice_get (rest ++ g ∷ [])) (sym depth) ∙ slice_get_end rest g

  pub now_above : frame_at next (above p) ≡ Some t
  now_above = frame_after (above p) refl
      ∙ ap (slice_get ((rest ++ g ∷ []) ++ t ∷ [])) (sym lengths)
      ∙ slice_get_end (rest ++ g ∷ []) t

  others : (s : Spot) → s ≢ p → s ≢ above p → frame_at next s ≡ frame_at state s
  others s differ apart = elim (cases_eq s.job p.job) [
    | inr away ↦ ap (option_and_then (λ (j : Job). slice_get j.frames s.depth))
        (job_other s.job away)
    | inl same ↦ elim (cases_lt s.depth p.depth) [
      | inl low ↦
          let inner : s.depth < length rest = omega (arith, low, depth) in
          frame_after s same
          ∙ slice_get_first (rest ++ g ∷ []) (t ∷ []) s.depth
          (let e = lengths in omega (arith, e, low))
          ∙ slice_get_first rest (g ∷ []) s.depth inner
          ∙ sym (frame_before s same ∙ slice_get_first rest (f ∷ []) s.depth inner)
      | inr high ↦
          let not_p : s.depth ≡ p.depth → ⊥ = λ e. differ (same_frame same e) in
          let not_above : s.depth ≡ suc p.depth → ⊥ = λ e. apart (same_frame same e) in
          let past : suc (suc p.depth) ≤ s.depth = omega (arith, high, not_p, not_above) in
          frame_after s same ∙ slice_get_past ((rest ++ g ∷ []) ++ t ∷ []) s.depth
          (let e = lengths_top in omega (arith, e, past))
          ∙ sym (frame_before s same ∙ slice_get_past (rest ++ f ∷ []) s.depth
          (let e = lengths_before in omega (arith, e, past)))
    ]
  ]

  height_before : height_in state p.job ≡ suc p.depth
  height_before = ap (λ o. option_map_or (λ (j : Job). length j.frames) o 0) at
      ∙ ap length frames ∙ lengths_before

  height_after : height_in next p.job ≡ suc (suc p.depth)
  height_after = ap (λ o. option_map_or (λ (j : Job). length j.frames) o 0) job_now ∙ lengths_top

  height_other : (j : ℕ) → (j ≡ p.job → ⊥) → height_in next j ≡ height_in state j
  height_other j differ = ap (λ o. option_map_or (λ (j : Job). length j.frames) o 0)
      (job_other j differ)

  pub shifts : Shifts graph regions (annotated states next) state next colours after p f g
  unfolding go_on in_job
  shifts = record {
    was = was;
    now = now;
    none = frame_before (above (above p)) refl
        ∙ slice_get_past (rest ++ f ∷ []) (suc (suc p.depth))
        (let e = lengths_before in omega (arith, e));
    others = others;
    back = λ s apart inner. by s apart inner (cases_eq s.job p.job);
    call = record { function = refl; executor = refl; crossing = refl; result = refl };
    shape = keeps;
    heres = heres;
    regions_stay = λ s differ apart. ap (state_with states) (others s differ apart)
        ∙ sym (elsewhere s differ);
    reached = λ s h r w there has. ap (λ cs. colours_of state.cells cs w) cells;
  }
    where
      by : (s : Spot) → s ≢ above p → s.depth < height_in next s.job
          → (s.job ≡ p.job) ⊎ (s.job ≡ p.job → ⊥) → s.depth < height_in state s.job
      by s apart inner (inl same) =
          let after_is = ap (height_in next) same ∙ height_after in
          let before_is = ap (height_in state) same ∙ height_before in
          let not_above : s.depth ≡ suc p.depth → ⊥ = λ e. apart (same_frame same e) in
          omega (arith, inner, after_is, before_is, not_above)
      by s apart inner (inr away) = subst (λ n. s.depth < n) (height_other s.job away) inner

  abbrev old : View
  old = view_of graph regions state colours

  abbrev new : View
  new = view_of graph (annotated states next) next after

  not_above : p ≢ above p
  not_above = below_differs (below_above p)

  abbrev elements : List (Option ℕ)
  elements = elements_in graph (Some f)

  elements_same : elements_in graph (frame_at next p) ≡ elements
  elements_same = elements_stay graph regions (annotated states next) state next colours after p f g
      shifts p not_above ∙ ap (elements_in graph) was

  runs_now : (j : ℕ) → runs_in next j → runs_in state j
  unfolding is_running
  runs_now j run = elim (cases_eq j p.job) [
    | inl same ↦ ap (λ o. option_map_or is_running o false)
        (ap (slice_get state.jobs) same ∙ at) ∙ ap is_running_status running
    | inr differ ↦ sym (ap (λ o. option_map_or is_running o false) (job_other j differ)) ∙ run
  ]

  module _ (behind : annotated states next p ≡ Some c) where
    pub region_now : (x : Element) → new.region p x ≡ region_in elements c x
    region_now x = ap (λ e. region_by e (annotated states next p) x) elements_same
        ∙ ap (λ o. region_by elements o x) behind

    pub region_then : (x : Element) → old.region p x ≡ region_in elements made x
    region_then x = ap (λ o. region_by (elements_in graph o) (regions p) x) was
        ∙ ap (λ o. region_by elements o x) before

    live_now : (r : ℕ) → new.live p r ≡ not (waits (Some t.result) r) && live_in elements c r
    live_now r =
        ap (λ e. live_by e (awaited_by next p) (annotated states next p) r) elements_same
        ∙ ap (λ w. live_by elements w (annotated states next p) r)
        (ap (option_map (λ (h : Frame). h.result)) now_above)
        ∙ ap (λ o. live_by elements (Some t.result) o r) behind

    live_then : (r : ℕ) → old.live p r ≡ live_in elements made r
    live_then r = ap (λ o. live_by (elements_in graph o) (awaited_by state p) (regions p) r) was
        ∙ ap (λ w. live_by elements w (regions p) r)
        (ap (option_map (λ (h : Frame). h.result)) was_above)
        ∙ ap (λ o. live_by elements None o r) before

    pub not_waiting : (x : Element) → IsLive new p x → x ≡ Register t.result → ⊥
    not_waiting Here l e = cc
    not_waiting (Register r) l e =
        let parts = and_parts (not (r == t.result)) (live_in elements c r) (sym (live_now r) ∙ l) in
        eqb-false r t.result (not_not (r == t.result) parts.0) (let s : r ≡ t.result = cc in s)

  -- The call, where the caller's region state but for the register that waits is weaker afterwards.
  pub calls : annotated states next p ≡ Some c
      → ((x y : Element) → (x ≡ Register t.result → ⊥) → (y ≡ Register t.result → ⊥)
      → TogetherIn elements made x y → TogetherIn elements c x y)
      → ((x : Element) → (x ≡ Register t.result → ⊥) → LiveIn elements c x
      → LiveIn elements made x)
      → ((x y : Element) (d : Colour) → HoldsLive new (above p) x d → HoldsLive new (above p) y d
      → InOneRegion new (above p) x y)
      → ((x : Element) (d : Colour) → HoldsLive new (above p) x d
      → (new.here (above p) ≡ d) ⊎ IsDisconnected old p.job d)
      → (old.shape p).closing ≡ false → Called old new p
  unfolding go_on in_job
  calls behind joins lives meets held opened = record {
    pushed = record {
      before = height_before;
      height = height_after;
      heights = height_other;
      running = runs_now;
      together = λ {x} {y} {c = d}. meets x y d;
    };
    not_closing = opened;
    caller = record {
      shape = shape_stays graph regions (annotated states next) state next colours after p f g shifts p
          not_above;
      held = λ {x} {c = d} h. held_before x d h;
      together = λ {x} {y} h k t. region_now behind x
          ∙ joins x y (not_waiting behind x h.live) (not_waiting behind y k.live)
          (sym (region_then behind x) ∙ t ∙ region_then behind y)
          ∙ sym (region_now behind y);
    };
    others = λ s inner differ. kept_others graph regions (annotated states next) state next colours
        after p f g shifts s differ (λ e. above_none s inner e);
    held = λ {x} {c = d}. held x d;
  }
    where
      above_none : (s : Spot) → s.depth < height_in state s.job → s ≡ above p → ⊥
      above_none s inner e =
          let job_is : s.job ≡ p.job = ap (λ (z : Spot). z.job) e in
          let depth_is : s.depth ≡ suc p.depth = ap (λ (z : Spot). z.depth) e in
          let height_is = ap (height_in state) job_is ∙ height_before in
          omega (arith, inner, depth_is, height_is)

      lives_then : (x : Element) → IsLive new p x → IsLive old p x
      lives_then Here l = tt
      lives_then (Register r) l = live_then behind r
          ∙ lives (Register r) (not_waiting behind (Register r) l)
          (and_parts (not (r == t.result)) (live_in elements c r) (sym (live_now behind r) ∙ l)).1

      holds : (x : Element) (d : Colour) → Holds new p x d → Holds old p x d
      holds Here d h = sym (heres p not_above) ∙ h
      holds (Register r) d h = subst (λ l. Contains l d)
          (value_stays graph regions (annotated states next) state next colours after p f g shifts r
          refl) h

      held_before : (x : Element) (d : Colour) → HoldsLive new p x d → HoldsLive old p x d
      held_before x d h = record {
        frame = shifts.back p not_above h.frame;
        not_closing = sym (ap (λ (s : FrameShape). s.closing) (shape_stays graph regions
            (annotated states next) state next colours after p f g shifts p not_above))
            ∙ h.not_closing;
        live = lives_then x h.live;
        holds = holds x d h.holds;
      }
