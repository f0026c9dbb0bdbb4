-- A job more, as a move of views.
use Rattle.std.specs.Option.{option_and_then, option_map_or}
use Rattle.std.specs.List.{slice_get}
use Rattle.std.proofs.Common.{◌≡◌, ◌≢◌, ◌⊎◌, ◌<◌, ℕ, zero, suc, false, Option, Some, None, [], ◌∷◌}
use Rattle.std.proofs.Common.{◌++◌, length, refl, sym, subst, ap, ◌∙◌, arith, inl, inr}
use Rattle.std.proofs.Common.{length-append, true}
use Rattle.std.proofs.lemmas.Bool.{cases_lt, cases_eq}
use Rattle.std.proofs.lemmas.Option.{slice_get_past, slice_get_within}
use Rattle.sw_list.proofs.ListLemmas.{slice_get_first}
use Rattle.sw_graph.specs.declared.graph.Graph.{Graph}
use Rattle.sw_value.specs.declared.frame.Frame.{Frame}
use Rattle.sw_value.specs.declared.job.Job.{Job}
use Rattle.sw_value.specs.declared.state.State.{State}
use Rattle.sw_value.specs.Job.{is_running, new_job}
use Rattle.sw_value.specs.State.{add_job}
use Rattle.sw_value.proofs.ListLemmas.{slice_get_end}
use Rattle.sw_partition.specs.Regions.{Regions}
use Rattle.sw_owner_facts.specs.Calls.{IsOnActor, IsOnNone, Spawned}
use Rattle.sw_owner_facts.specs.Colours.{Actor, Colour}
use Rattle.sw_owner_facts.specs.View.{Element, HoldsLive, InOneRegion, IsDisconnected, IsFrame}
use Rattle.sw_owner_facts.specs.View.{View, bottom, Frame as Spot}
use Rattle.sw_owner_facts.specs.Within.{Kept}
use Rattle.sw_reach_facts.specs.Reached.{colours_of}
use Rattle.sw_view_facts.specs.Steps.{height_in, runs_in, TopAt}
use Rattle.sw_view_facts.specs.Views.{Colours, here_at, view_of, shape_by, shape_with}
use Rattle.sw_view_facts.proofs.KeptLemmas.{kept_as_is}

module _ (graph : Graph) (regions later : Spot → Option Regions) (state : State) (frame : Frame)
    (colours after : Colours) (cells : after.cells ≡ colours.cells)
    (heres : (p : Spot) → p.job < length state.jobs → here_at after p ≡ here_at colours p)
    (stays : (p : Spot) → p.job < length state.jobs → later p ≡ regions p) where
  abbrev next : State
  next = add_job (new_job (frame ∷ [])) state

  abbrev j : ℕ
  j = length state.jobs

  abbrev old : View
  old = view_of graph regions state colours

  abbrev new : View
  new = view_of graph later next after

  job_other : (i : ℕ) → i < j → slice_get next.jobs i ≡ slice_get state.jobs i
  unfolding add_job
  job_other i inside = slice_get_first state.jobs (new_job (frame ∷ []) ∷ []) i inside

  job_now : slice_get next.jobs j ≡ Some (new_job (frame ∷ []))
  unfolding add_job
  job_now = slice_get_end state.jobs (new_job (frame ∷ []))

  past : (i : ℕ) → j < i → slice_get next.jobs i ≡ None
  unfolding add_job
  past i out = slice_get_past (state.jobs ++ new_job (frame ∷ []) ∷ []) i
      (let e = length-append state.jobs (new_job (frame ∷ []) ∷ []) in omega (arith, e, out))

  none_before : slice_get state.jobs j ≡ None
  none_before = slice_get_past state.jobs j (omega arith)

  -- any other job
  same_or : (i : ℕ) → i ≢ j → slice_get next.jobs i ≡ slice_get state.jobs i
  same_or i differ = elim (cases_lt i j) [
    | inl inside ↦ job_other i inside
    | inr out ↦ past i (omega (arith, out, differ))
        ∙ sym (slice_get_past state.jobs i (omega (arith, out)))
  ]

  height_now : height_in next j ≡ suc zero
  unfolding new_job
  height_now = ap (λ o. option_map_or (λ (j : Job). length j.frames) o 0) job_now

  height_other : (i : ℕ) → i ≢ j → height_in next i ≡ height_in state i
  height_other i differ = ap (λ o. option_map_or (λ (j : Job). length j.frames) o 0)
      (same_or i differ)

  rests : (option_map_or is_running (slice_get next.jobs j) false) ≡ false
  unfolding new_job is_running
  rests = ap (λ o. option_map_or is_running o false) job_now

  runs_back : (i : ℕ) → runs_in next i → runs_in state i
  runs_back i run = elim (cases_eq i j) [
    | inl same ↦
        let wrong : true ≡ false = sym run
        ∙ ap (λ k. option_map_or is_running (slice_get next.jobs k) false) same ∙ rests in
        absurd (let c : ⊥ = cc in c)
    | inr differ ↦ sym (ap (λ o. option_map_or is_running o false) (same_or i differ)) ∙ run
  ]

  kept : (p : Spot) → IsFrame old p → Kept old new p
  unfolding add_job
  kept p is = by (slice_get state.jobs p.job) refl is where
    by : (o : Option Job) → slice_get state.jobs p.job ≡ o
        → p.depth < option_map_or (λ (j : Job). length j.frames) o 0 → Kept old new p
    by None e inside = absurd (omega (arith, inside))
    by (Some job) e inside =
        let there = slice_get_within state.jobs p.job job e in
        let apart : p.job ≡ j → ⊥ = λ same. omega (arith, there, same) in
        kept_as_is graph regions later state next colours after p
        (λ d. ap (option_and_then (λ (j : Job). slice_get j.frames d)) (job_other p.job there))
        (λ inner. subst (λ n. p.depth < n) (height_other p.job apart) inner)
        (heres p there) (stays p there)
        (λ s h r w at has. ap (λ cs. colours_of state.cells cs w) cells)

  -- The new job's elements that share a colour are in one region, what it holds has the colour of
  -- its `Here` or was sent, and it stands on its actor or on none.
  pub job_spawns : ((x y : Element) (c : Colour) → HoldsLive new (bottom j) x c
      → HoldsLive new (bottom j) y c → InOneRegion new (bottom j) x y)
      → ((x : Element) (c : Colour) → HoldsLive new (bottom j) x c
      → (new.here (bottom j) ≡ c) ⊎ IsDisconnected old j c)
      → ((a : Actor) × IsOnActor new (bottom j) a) ⊎ IsOnNone new (bottom j)
      → Spawned old new j
  job_spawns meets held stands = record {
    pushed = record {
      before = ap (λ o. option_map_or (λ (j : Job). length j.frames) o 0) none_before;
      height = height_now;
      heights = height_other;
      running = runs_back;
      together = λ {x} {y} {c}. meets x y c;
    };
    others = kept;
    ready = rests;
    held = λ {x} {c}. held x c;
    stands = stands;
  }

-- the frame of the job, below which there is none
pub shape_after : (graph : Graph) (later : Spot → Option Regions) (state : State) (frame : Frame)
    (after : Colours)
    → (view_of graph later (add_job (new_job (frame ∷ [])) state) after).shape
    (bottom (length state.jobs))
    ≡ shape_with graph None frame (slice_get graph.functions frame.function)
unfolding add_job new_job
shape_after graph later state frame after = ap (shape_by graph None)
    (ap (option_and_then (λ (j : Job). slice_get j.frames zero))
    (slice_get_end state.jobs (new_job (frame ∷ []))))

-- the frame that makes the job is still the top one of its own
pub top_after : (state : State) (frame : Frame) (q : Spot) (job : Job) (f : Frame)
    → TopAt state q job f → TopAt (add_job (new_job (frame ∷ [])) state) q job f
unfolding add_job
top_after state frame q job f at = record {
  there = slice_get_first state.jobs (new_job (frame ∷ []) ∷ []) q.job
      (slice_get_within state.jobs q.job job at.there) ∙ at.there;
  top = at.top;
  height = at.height;
}
