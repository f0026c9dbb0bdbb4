-- What a job begins to take to an actor: then it waits to be dispatched there.
use Rattle.std.proofs.Common.{◌≡◌, ℕ, ◌-◌, arith, refl, ap, sym, ◌∙◌, subst}
use Rattle.std.proofs.Common.{Bool, true, false, cond, Option, Some, None, List, [], ◌∷◌, ◌++◌, length}
use Rattle.std.proofs.Common.{slice_get, length-append}
use Rattle.std.specs.Prelude.{option_and_then}
use Rattle.std.specs.Option.{option_map_or}
use Rattle.std.proofs.lemmas.Option.{slice_get_within}
use Rattle.sw_graph.specs.declared.graph.Graph.{Graph}
use Rattle.sw_graph.specs.Points.{Point}
use Rattle.sw_value.specs.declared.frame.Frame.{Frame}
use Rattle.sw_value.specs.declared.job.Job.{Job}
use Rattle.sw_value.specs.declared.job.Status.TheVariants.{Ready}
use Rattle.sw_value.specs.declared.state.State.{State}
use Rattle.sw_value.specs.declared.effect.Effect.{Effect}
use Rattle.sw_value.specs.declared.effect.Effect.TheVariants as effect
use Rattle.sw_value.specs.declared.effect.Act.{Act}
use Rattle.sw_value.specs.declared.effect.Act.TheVariants.{Dispatch, Wake, Execute}
use Rattle.sw_value.specs.Act.{act_of}
use Rattle.sw_value.specs.Frame.{point_at, go_on}
use Rattle.sw_value.specs.Job.{top_frame, enter, new_job}
use Rattle.sw_value.specs.Lists.{changed_at}
use Rattle.sw_value.specs.Reach.{after_act}
use Rattle.sw_value.specs.State.{in_job, add_job, add_cell}
use Rattle.sw_value.proofs.ListLemmas.{changed_at_found, slice_get_end}
use Rattle.sw_machine_access_facts.proofs.CellLemmas.{changed_other}
use Rattle.sw_color_rules.specs.declared.colors.Colors.{Colors}
use Rattle.sw_color_rules.specs.Palette.{IsWhole}
use Rattle.sw_color_rules.specs.Changes.{Change, after_changes}
use Rattle.sw_color_rules.specs.Plans.{number_on, called_number, next_color, no_plan, effect_plan, plan_at, plan_of}
use Rattle.sw_late_facts.specs.Late.{goes_away, carrier, destination, destination_at, destination_by}
use Rattle.sw_late_facts.specs.Carriers.{AwaitsActor}
use Rattle.sw_late_facts.proofs.Fits.{Fits, fits_act}
use Rattle.sw_late_facts.proofs.Reaching.{HaveColors, called_on}
use Rattle.sw_late_facts.proofs.Waiting.{number_stays}
use Rattle.sw_color_rules.specs.Plans.{begun_with, passed, sending_of, called_closure}
use Rattle.sw_color_rules.specs.declared.colors.Owner.TheVariants as owner
use Rattle.sw_color_rules.specs.declared.plan.FrameChange.TheVariants.{Pushed}
use Rattle.sw_color_rules.proofs.NumberLemmas.{AreNoted}

-- a frame that is pushed and crosses is the top frame of a job that waits
entered_top : (frame : Frame) (next : ℕ) (job : Job) → top_frame (enter frame next job) ≡ Some frame
unfolding top_frame enter
entered_top frame next job =
    ap (slice_get (below ++ frame ∷ []))
    (let last : length (below ++ frame ∷ []) - 1 ≡ length below =
    omega (arith, length-append below (frame ∷ [])) in last)
    ∙ slice_get_end below frame
  where
    below : List Frame
    below = changed_at (go_on next) (length job.frames - 1) job.frames

entered_ready : (frame : Frame) (next : ℕ) (job : Job) → frame.crossing ≡ true
    → (enter frame next job).status ≡ Ready
unfolding enter
entered_ready frame next job crosses = ap (λ b. cond b Ready job.status) crosses

module _ (graph : Graph) (state : State) (colors : Colors) (have : HaveColors graph colors)
    (noted : AreNoted (next_color colors) colors.cells) (whole : IsWhole colors.palette)
    (cs : List Change) (j : ℕ) where
  abbrev later : Colors
  later = after_changes cs colors

  entered_awaits : (job : Job) → slice_get state.jobs j ≡ Some job → (point : Point) (frame : Frame)
      (next a : ℕ) (ns : List ℕ) → frame.crossing ≡ true → called_number colors point frame ≡ Some a
      → AwaitsActor (after_act j (Execute (effect.Enter frame next)) state) later
      (record { job = j; actor = a; colors = ns })
  unfolding in_job
  entered_awaits job there point frame next a ns crosses is = record {
    job = enter frame next job;
    there = changed_at_found (enter frame next) j state.jobs job there;
    ready = entered_ready frame next job crosses;
    frame = frame;
    top = entered_top frame next job;
    actor = number_stays cs colors whole frame.executor a
        (called_on graph state colors have noted point frame a is);
  }

  spawned_awaits : (job : Job) → slice_get state.jobs j ≡ Some job
      → (r : ℕ) (frame : Frame) (made cell next a : ℕ) (ns : List ℕ) → made ≡ length state.jobs
      → number_on colors frame.executor ≡ Some a
      → AwaitsActor (after_act j (Execute (effect.Spawn r frame made cell next)) state) later
      (record { job = made; actor = a; colors = ns })
  unfolding in_job add_job add_cell new_job top_frame
  spawned_awaits job there r frame made cell next a ns is_next is = record {
    job = new_job (frame ∷ []);
    there = changed_other _ j made (state.jobs ++ new_job (frame ∷ []) ∷ [])
        (λ e. absurd (omega (arith, e, is_next, slice_get_within state.jobs j job there)))
        ∙ ap (slice_get (state.jobs ++ new_job (frame ∷ []) ∷ [])) is_next
        ∙ slice_get_end state.jobs (new_job (frame ∷ []));
    ready = refl;
    frame = frame;
    top = refl;
    actor = number_stays cs colors whole frame.executor a is;
  }

  no_heir : (o : Option ℕ) (n : ℕ) (ns : List ℕ)
      → (begun_with o (owner.Job j) Pushed n ns).heir ≡ None
  no_heir None n ns = refl
  no_heir (Some a) n ns = refl

  -- a job that begins to take something waits
  pub boards : (act : Act) → act_of graph state j ≡ Some act → (a : ℕ)
      → destination graph state colors j act ≡ Some a → (ns : List ℕ)
      → AwaitsActor (after_act j act state) later
      (record { job = carrier j (plan_of graph state colors j act).heir; actor = a; colors = ns })
  boards Dispatch acts a to ns = cc
  boards (Wake ended r v) acts a to ns = cc
  boards (Execute f) acts a to ns = on_job (slice_get state.jobs j) refl to where
    Awaits : Option ℕ → Type 0
    Awaits heir = AwaitsActor (after_act j (Execute f) state) later
        (record { job = carrier j heir; actor = a; colors = ns })

    by : (job : Job) → slice_get state.jobs j ≡ Some job → (top : Frame) (point : Point) (e : Effect)
        → e ≡ f → Fits graph state e → destination_by colors top point e ≡ Some a
        → AwaitsActor (after_act j (Execute e) state) later (record {
          job = carrier j (effect_plan graph colors j top point e).heir;
          actor = a;
          colors = ns;
        })
    by job there top point (effect.Enter frame next) same fits h =
        crossed frame.crossing refl h where
          given : List ℕ
          given = called_closure colors point top
              ++ passed colors.cells (sending_of graph frame.function) frame.regs

          crossed : (b : Bool) → frame.crossing ≡ b
              → cond b (called_number colors point frame) None ≡ Some a
              → AwaitsActor (after_act j (Execute (effect.Enter frame next)) state) later (record {
                job = carrier j
                    (begun_with (called_number colors point frame) (owner.Job j) Pushed (next_color colors)
                    given).heir;
                actor = a;
                colors = ns;
              })
          crossed false crosses g = cc
          crossed true crosses g =
              subst (λ heir. AwaitsActor (after_act j (Execute (effect.Enter frame next)) state) later
              (record { job = carrier j heir; actor = a; colors = ns }))
              (sym (no_heir (called_number colors point frame) (next_color colors) given))
              (entered_awaits job there point frame next a ns crosses g)
    by job there top point (effect.Spawn r frame made cell next) same fits h =
        away (goes_away top.executor frame.executor) h where
          away : (b : Bool) → cond b (number_on colors frame.executor) None ≡ Some a
              → AwaitsActor (after_act j (Execute (effect.Spawn r frame made cell next)) state) later
              (record { job = made; actor = a; colors = ns })
          away false g = cc
          away true g = spawned_awaits job there r frame made cell next a ns fits.1 g
    by job there top point _ same fits h = cc

    at_point : (job : Job) → slice_get state.jobs j ≡ Some job → (top : Frame) (o : Option Point)
        → option_and_then (λ point. destination_by colors top point f) o ≡ Some a
        → AwaitsActor (after_act j (Execute f) state) later (record {
          job = carrier j (option_map_or (λ point. effect_plan graph colors j top point f) o no_plan).heir;
          actor = a;
          colors = ns;
        })
    at_point job there top None h = cc
    at_point job there top (Some point) h = by job there top point f refl (fits_act graph state j f acts) h

    on_top : (job : Job) → slice_get state.jobs j ≡ Some job → (o : Option Frame)
        → option_and_then (destination_at graph colors f) o ≡ Some a
        → AwaitsActor (after_act j (Execute f) state) later (record {
          job = carrier j (option_map_or (plan_at graph colors j f) o no_plan).heir;
          actor = a;
          colors = ns;
        })
    on_top job there None h = cc
    on_top job there (Some top) h = at_point job there top (point_at graph top) h

    on_job : (o : Option Job) → slice_get state.jobs j ≡ o
        → option_and_then (destination_at graph colors f) (option_and_then top_frame o) ≡ Some a
        → AwaitsActor (after_act j (Execute f) state) later (record {
          job = carrier j (option_map_or (plan_at graph colors j f) (option_and_then top_frame o)
              no_plan).heir;
          actor = a;
          colors = ns;
        })
    on_job None there h = cc
    on_job (Some job) there h = on_top job there (top_frame job) h
