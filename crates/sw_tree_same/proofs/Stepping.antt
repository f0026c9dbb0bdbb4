-- What a running job does on both machines leads to states that match.
use Rattle.std.proofs.Common.{◌≡◌, ℕ, ◌-◌, Bool, true, false, Option, Some, None, List, [], ◌∷◌}
use Rattle.std.proofs.Common.{◌++◌, length, refl, ap, sym, ◌∙◌, subst}
use Rattle.std.specs.Prelude.{slice_get, slice_set, option_map, if◌then◌else◌}
use Rattle.sw_list.proofs.ListLemmas.{slice_get_before}
use Rattle.sw_graph.specs.declared.graph.Graph.{Graph}
use Rattle.sw_value.specs.declared.cell.HeapCell.TheVariants.{TaskOf}
use Rattle.sw_value.specs.declared.effect.Act.{Act}
use Rattle.sw_value.specs.declared.effect.Effect.{Effect}
use Rattle.sw_value.specs.declared.effect.Effect.TheVariants as effect
use Rattle.sw_value.specs.declared.frame.Frame.{Frame}
use Rattle.sw_value.specs.declared.frame.TheConstants.{NO_REGISTER}
use Rattle.sw_value.specs.declared.job.Job.{Job}
use Rattle.sw_value.specs.declared.job.Status.TheVariants as status
use Rattle.sw_value.specs.declared.state.State.{State}
use Rattle.sw_value.specs.declared.value.Value.{Value}
use Rattle.sw_value.specs.declared.value.Value.TheVariants as value
use Rattle.sw_value.specs.Act.{execution_of}
use Rattle.sw_value.specs.Cell.{with_slot}
use Rattle.sw_value.specs.Frame.{finish_instr, go_on, set_field, take_result}
use Rattle.sw_value.specs.Job.{enter, in_top, leave, new_job, rest, return_to, wait}
use Rattle.sw_value.specs.Lists.{changed_at}
use Rattle.sw_value.specs.State.{add_cell, add_job, halt, in_cell, in_job, set_global}
use Rattle.sw_value.proofs.JobLemmas.{leave_some, return_to_there}
use Rattle.sw_value.proofs.ReachLemmas.{after_acts}
use Rattle.sw_step.specs.declared.event.Event.TheVariants as event
use Rattle.sw_step.specs.Event as machine
use Rattle.sw_machine_kind_facts.specs.Standing.{awaited_in}
use Rattle.sw_machine_kind_facts.proofs.ItemLemmas.{last_of, set_end, top_of}
use Rattle.sw_spots.specs.Spots.{Program}
use Rattle.sw_tree_step.specs.Acting.{Adds, Done, Enters, Halts, Leaves, Outside, Prints, Quiet, Rests}
use Rattle.sw_tree_step.specs.Acting.{Spawns, Waits, Writes, WritesGlobal}
use Rattle.sw_tree_step.specs.State.{Kept, Ready, Running, TreeFrame, TreeJob, TreeState}
use Rattle.sw_tree_step.specs.Step as step
use Rattle.sw_tree_step.specs.Step.{Does, Move, after, event_by, given, job_after, job_by}
use Rattle.sw_tree_step.specs.Step.{outside_after, returned}
use Rattle.sw_tree_same.specs.Frames.{FramesMatch, wanted_by}
use Rattle.sw_tree_same.specs.States.{JobsMatch, StatesMatch, StatusesMatch}
use Rattle.sw_tree_same.proofs.Calling.{job_count}
use Rattle.sw_tree_same.proofs.Changing.{added, added_job, halts_both, job_put, wrote, wrote_global}
use Rattle.sw_tree_same.proofs.Scene.{Follows, IsDone, Related, Scene}
use Rattle.sw_tree_same.proofs.Stacks.{changed_top, on_top, put_on, taken_up}

-- A move and an act have one event, and the states after them match.
pub record Comes (p : Program) (graph : Graph) (j : ℕ) (trees : TreeState) (state : State)
    (one : Option Move) (other : Option Act) : Type 0 where
  pub event : event_by one ≡ machine.event_by other
  pub next : StatesMatch p graph (after one j trees) (after_acts j other state)

-- a change of a frame that keeps where its value goes
abbrev KeepsResult : (Frame → Frame) → Frame → Type 0
KeepsResult g frame = (g frame).result ≡ frame.result

finish_keeps : (r : ℕ) (v : Value) (n : ℕ) (frame : Frame) → KeepsResult (finish_instr r v n) frame
unfolding finish_instr
finish_keeps r v n frame = refl

field_keeps : (r i : ℕ) (v : Value) (n : ℕ) (frame : Frame) → KeepsResult (set_field r i v n) frame
unfolding set_field
field_keeps r i v n frame = refl

go_keeps : (n : ℕ) (frame : Frame) → KeepsResult (go_on n) frame
unfolding go_on
go_keeps n frame = refl

-- the statuses of a job whose frame may have crossed
crossed : (one other : Bool) → one ≡ other
    → StatusesMatch (if one then Ready else Running)
    (if other then status.Ready else status.Running)
crossed true true is = tt
crossed false false is = tt
crossed true false is = absurd (let no : ⊥ = cc in no)
crossed false true is = absurd (let no : ⊥ = cc in no)

awaits_none : (crosses : Bool)
    → awaited_in (if crosses then status.Ready else status.Running) ≡ None
awaits_none true = refl
awaits_none false = refl

-- A frame has returned.
left : (p : Program) (graph : Graph) (tree : TreeFrame) (top : Frame) (v : Value)
    → tree.crossing ≡ top.crossing → (tree.gives ≡ false → top.result ≡ NO_REGISTER)
    → (below : List TreeFrame) (frames : List Frame)
    → FramesMatch p graph (wanted_by tree.gives top.result) below frames
    → JobsMatch p graph (returned below tree v Running) (return_to frames top v status.Running)
left p graph tree top v crosses unwanted [] frames are =
    subst (λ some. JobsMatch p graph (returned [] tree v Running) (return_to some top v status.Running))
    (sym are) (record { status = refl; frames = refl })
left p graph tree top v crosses unwanted (next ∷ below) frames are =
    subst (JobsMatch p graph (returned (next ∷ below) tree v Running))
    (sym (return_to_there frames top are.top v status.Running
    (ap (λ (all : List Frame). slice_get all (length all - 1)) are.are ∙ top_of are.below are.top)))
    (record {
      status = crossed tree.crossing top.crossing crosses;
      frames = subst (λ wanted. FramesMatch p graph wanted
          (if tree.gives then given v next ∷ below else next ∷ below) (slice_set frames
          (length frames - 1) (take_result top.result v are.top))) (sym (awaits_none top.crossing))
          (subst (FramesMatch p graph None
          (if tree.gives then given v next ∷ below else next ∷ below))
          (sym (ap (λ (all : List Frame). slice_set all (length all - 1)
          (take_result top.result v are.top)) are.are
          ∙ ap (λ k. slice_set (are.below ++ are.top ∷ []) k (take_result top.result v are.top))
          (last_of are.below are.top)
          ∙ set_end are.below are.top (take_result top.result v are.top)))
          (taken_up p graph tree.gives top.result v next below frames unwanted are));
    })

-- The frames of the job that runs, of which the scene has the top ones.
module _ (c : Scene) (j : ℕ) (below : List TreeFrame) (frames : List Frame)
    (are : FramesMatch c.p c.graph None (c.tree ∷ below) frames) (top : are.top ≡ c.frame)
    (at : slice_get c.trees.jobs j
    ≡ Some (record { frames = c.tree ∷ below; status = Running }))
    (there : slice_get c.state.jobs j ≡ Some (record { frames = frames; status = status.Running }))
  where
    abbrev one : TreeJob
    one = record { frames = c.tree ∷ below; status = Running }

    abbrev other : Job
    other = record { frames = frames; status = status.Running }

    abbrev Comes_to : Option Move → Option Act → Type 0
    Comes_to move act = Comes c.p c.graph j c.trees c.state move act

    -- the top frames went on
    went : (wanted : Option ℕ) (later : TreeFrame) (g : Frame → Frame) → KeepsResult g c.frame
        → Follows c wanted later (g c.frame)
        → FramesMatch c.p c.graph wanted (later ∷ below) (changed_at g (length frames - 1) frames)
    went wanted later g keeps f =
        subst (FramesMatch c.p c.graph wanted (later ∷ below))
        (sym (changed_top c.p c.graph None c.tree below frames are g
        ∙ ap (λ (frame : Frame). are.below ++ g frame ∷ []) top))
        (put_on c.p c.graph None c.tree below frames are wanted later (g c.frame) f.same f.gives
        (keeps ∙ ap (λ (frame : Frame). frame.result) (sym top)))

    -- so it is in any states that match
    still : (trees : TreeState) (state : State) → StatesMatch c.p c.graph trees state
        → slice_get trees.jobs j ≡ Some one → slice_get state.jobs j ≡ Some other → (later : TreeFrame)
        (outside : Outside) (g : Frame → Frame) → KeepsResult g c.frame
        → job_by outside later below Running
        ≡ record { frames = later ∷ below; status = Running }
        → Follows c None later (g c.frame)
        → StatesMatch c.p c.graph (step.in_job (job_after (Does (record { frame = later; outside = outside }))) j trees)
        (in_job (in_top g) j state)
    unfolding in_top
    still trees state m here is_there later outside g keeps same f =
        job_put c.p c.graph trees state m j one other here is_there
        (job_after (Does (record { frame = later; outside = outside }))) (in_top g)
        (subst (λ (job : TreeJob). JobsMatch c.p c.graph job (in_top g other)) (sym same)
        (record { status = tt; frames = went None later g keeps f }))

    -- What is done on the tree and in the graph leads to states that match.
    done_comes : (later : TreeFrame) (outside : Outside) (e : Effect) → IsDone c later outside e
        → Comes_to (Some (Does (record { frame = later; outside = outside }))) (execution_of e)
    unfolding add_cell in_cell set_global add_job new_job enter wait rest
    done_comes later Quiet (effect.Set r v n) f = record {
      event = refl;
      next = still c.trees c.state c.match_states at there later Quiet (finish_instr r v n)
          (finish_keeps r v n c.frame) refl f;
    }
    done_comes later Quiet (effect.SetField r i v n) f = record {
      event = refl;
      next = still c.trees c.state c.match_states at there later Quiet (set_field r i v n)
          (field_keeps r i v n c.frame) refl f;
    }
    done_comes later Quiet (effect.Goto n) f = record {
      event = refl;
      next = still c.trees c.state c.match_states at there later Quiet (go_on n) (go_keeps n c.frame)
          refl f;
    }
    done_comes later (Prints line) (effect.Print r text n) d = record {
      event = ap event.Printed d.0;
      next = still c.trees c.state c.match_states at there later (Prints line)
          (finish_instr r value.Unit n) (finish_keeps r value.Unit n c.frame) refl d.1;
    }
    done_comes later (Adds cell) (effect.New r made number n) d = record {
      event = refl;
      next = still (outside_after (Adds cell) c.trees) (add_cell made c.state)
          (added c.p c.graph c.trees c.state c.match_states cell made d.0) at there later (Adds cell)
          (finish_instr r (value.Cell number) n) (finish_keeps r (value.Cell number) n c.frame) refl
          d.1;
    }
    done_comes later (Writes k slot v) (effect.Write l to w n) d = record {
      event = refl;
      next = still (outside_after (Writes k slot v) c.trees) (in_cell (with_slot to w) l c.state)
          (subst (λ x. StatesMatch c.p c.graph (outside_after (Writes x slot v) c.trees)
          (in_cell (with_slot to w) l c.state)) (sym d.0)
          (subst (λ x. StatesMatch c.p c.graph (outside_after (Writes l x v) c.trees)
          (in_cell (with_slot to w) l c.state)) (sym d.1)
          (subst (λ x. StatesMatch c.p c.graph (outside_after (Writes l to x) c.trees)
          (in_cell (with_slot to w) l c.state)) (sym d.2)
          (wrote c.p c.graph c.trees c.state c.match_states l to w)))) at there later
          (Writes k slot v) (go_on n) (go_keeps n c.frame) refl d.3;
    }
    done_comes later (WritesGlobal g v) (effect.WriteGlobal h w n) d = record {
      event = refl;
      next = still (outside_after (WritesGlobal g v) c.trees) (set_global h w c.state)
          (subst (λ x. StatesMatch c.p c.graph (outside_after (WritesGlobal x v) c.trees)
          (set_global h w c.state)) (sym d.0)
          (subst (λ x. StatesMatch c.p c.graph (outside_after (WritesGlobal h x) c.trees)
          (set_global h w c.state)) (sym d.1)
          (wrote_global c.p c.graph c.trees c.state c.match_states h w))) at there later
          (WritesGlobal g v) (go_on n) (go_keeps n c.frame) refl d.2;
    }
    done_comes later (Enters callee) (effect.Enter frame n) d = record {
      event = refl;
      next = job_put c.p c.graph c.trees c.state c.match_states j one other at there
          (job_after (Does (record { frame = later; outside = Enters callee }))) (enter frame n)
          (record {
            status = crossed callee.crossing frame.crossing d.0.crossing;
            frames = subst (λ wanted. FramesMatch c.p c.graph wanted (callee ∷ later ∷ below)
                (changed_at (go_on n) (length frames - 1) frames ++ frame ∷ []))
                (sym (awaits_none frame.crossing))
                (on_top c.p c.graph None callee (later ∷ below)
                (changed_at (go_on n) (length frames - 1) frames) frame d.0
                (λ none. absurd (let no : ⊥ = (let wrong : true ≡ false = sym d.1 ∙ none in cc) in no))
                (subst (λ wanted. FramesMatch c.p c.graph wanted (later ∷ below)
                (changed_at (go_on n) (length frames - 1) frames))
                (ap (λ gives. wanted_by gives frame.result) (sym d.1))
                (went (Some frame.result) later (go_on n) (go_keeps n c.frame) d.2)));
          });
    }
    done_comes later (Spawns first) (effect.Spawn r frame job cell n) d = record {
      event = refl;
      next = still (outside_after (Spawns first) c.trees)
          (add_cell (TaskOf job) (add_job (new_job (frame ∷ [])) c.state))
          (added c.p c.graph
          (record c.trees { jobs = c.trees.jobs ++ record { frames = first ∷ []; status = Ready } ∷ [] })
          (add_job (new_job (frame ∷ [])) c.state)
          (added_job c.p c.graph c.trees c.state c.match_states
          (record { frames = first ∷ []; status = Ready }) (new_job (frame ∷ []))
          (record {
            status = tt;
            frames = on_top c.p c.graph None first [] [] frame d.0 (λ none. d.2) refl;
          })) (Kept (TaskOf (length c.trees.jobs))) (TaskOf job)
          (ap TaskOf (job_count c ∙ sym d.3), tt))
          (slice_get_before c.trees.jobs (record { frames = first ∷ []; status = Ready } ∷ []) j one at)
          (slice_get_before c.state.jobs (new_job (frame ∷ []) ∷ []) j other there) later
          (Spawns first) (finish_instr r (value.Cell cell) n)
          (finish_keeps r (value.Cell cell) n c.frame) refl d.4;
    }
    done_comes later (Waits on) (effect.Wait awaited r n) d = record {
      event = refl;
      next = job_put c.p c.graph c.trees c.state c.match_states j one other at there
          (job_after (Does (record { frame = later; outside = Waits on }))) (wait awaited r n)
          (record {
            status = d.0;
            frames = went (Some r) later (go_on n) (go_keeps n c.frame) d.1;
          });
    }
    done_comes later Rests (effect.Rest r n) f = record {
      event = refl;
      next = job_put c.p c.graph c.trees c.state c.match_states j one other at there
          (job_after (Does (record { frame = later; outside = Rests }))) (rest r n)
          (record {
            status = tt;
            frames = went None later (finish_instr r value.Unit n)
                (finish_keeps r value.Unit n c.frame) f;
          });
    }
    done_comes later (Leaves v) (effect.Leave w) d = record {
      event = refl;
      next = job_put c.p c.graph c.trees c.state c.match_states j one other at there
          (job_after (Does (record { frame = later; outside = Leaves v }))) (leave w)
          (subst (λ (frame : TreeFrame). JobsMatch c.p c.graph (returned below frame v Running)
          (leave w other)) (sym d.1)
          (subst (λ x. JobsMatch c.p c.graph (returned below c.tree x Running) (leave w other))
          (sym d.0)
          (subst (JobsMatch c.p c.graph (returned below c.tree w Running))
          (sym (leave_some w other are.below are.top are.are))
          (left c.p c.graph c.tree are.top w are.same.crossing are.unwanted below are.below are.rest))));
    }
    done_comes later (Halts kind place) (effect.Halt trap spot) d = record {
      event = ap (λ k. event.Trapped k place) d.0 ∙ ap (event.Trapped trap) d.1;
      next = subst (λ k. StatesMatch c.p c.graph (step.in_job (job_after (Does (record {
        frame = later;
        outside = Halts kind place;
      }))) j (outside_after (Halts k place) c.trees)) (halt trap spot c.state)) (sym d.0)
          (subst (λ x. StatesMatch c.p c.graph (step.in_job (job_after (Does (record {
            frame = later;
            outside = Halts kind place;
          }))) j (outside_after (Halts trap x) c.trees)) (halt trap spot c.state)) (sym d.1)
          (halts_both c.p c.graph c.trees c.state c.match_states j one other at there trap spot
          (job_after (Does (record { frame = later; outside = Halts kind place })))
          (subst (λ (frame : TreeFrame). JobsMatch c.p c.graph
          (record { frames = frame ∷ below; status = Running }) other) (sym d.2)
          (record { status = tt; frames = are }))));
    }
    done_comes later _ _ d = absurd d

    pub comes : (done : Option Done) (e : Effect) → Related c done e
        → Comes_to (option_map Does done) (execution_of e)
    comes None e is = subst (λ x. Comes_to None (execution_of x)) (sym is)
        (record { event = refl; next = c.match_states })
    comes (Some done) e is = done_comes done.frame done.outside e is
