-- What a job begins to take along, in the state after the effect by which it does.
use Rattle.std.proofs.Common.{◌≡◌, ℕ, Bool, true, false, cond, Option, Some, None, List, ◌++◌}
use Rattle.std.proofs.Common.{length}
use Rattle.std.proofs.Common.{refl, sym, subst, ap, ◌∙◌}
use Rattle.sw_types.specs.declared.isolation.CallKind.{CallKind}
use Rattle.sw_types.specs.declared.isolation.CallKind.TheVariants.{Plain, Same, Weak, Strong, Make}
use Rattle.sw_graph.specs.declared.function.Function.{Function}
use Rattle.sw_graph.specs.declared.graph.Graph.{Graph}
use Rattle.sw_graph.specs.declared.instr.Instr.TheVariants as instr
use Rattle.sw_graph.specs.declared.instr.Operand.{Operand}
use Rattle.sw_graph.specs.Points.{Point, Middle}
use Rattle.sw_value.specs.declared.effect.Effect.{Effect}
use Rattle.sw_value.specs.declared.effect.Effect.TheVariants as effect
use Rattle.sw_value.specs.declared.frame.Frame.{Frame}
use Rattle.sw_value.specs.declared.job.Job.{Job}
use Rattle.sw_value.specs.declared.state.State.{State}
use Rattle.sw_value.specs.Call.{crosses, pushed_frame}
use Rattle.sw_value.specs.Effect.{point_effect}
use Rattle.sw_value.specs.Reach.{step_of}
use Rattle.sw_value.specs.Value.{registers}
use Rattle.sw_color_rules.specs.declared.colors.Colors.{Colors}
use Rattle.sw_color_rules.specs.declared.colors.Owner.TheVariants as owner
use Rattle.sw_color_rules.specs.declared.plan.FrameChange.TheVariants.{Pushed}
use Rattle.sw_color_rules.specs.declared.plan.Plan.{Plan}
use Rattle.sw_color_rules.specs.Changes.{Push, after_change, after_changes}
use Rattle.sw_color_rules.specs.Plans.{begun_with, called_closure, called_number, effect_plan}
use Rattle.sw_color_rules.specs.Plans.{next_color}
use Rattle.sw_color_rules.specs.Plans.{number_on, passed, sending_of}
use Rattle.sw_partition.specs.Regions.{Regions}
use Rattle.sw_owner_facts.specs.View.{Frame as Spot}
use Rattle.sw_view_facts.specs.Standing.{StandsAt}
use Rattle.sw_late_facts.specs.Late.{Cargo, Late, carrier, destination_by, late_by, later_of}
use Rattle.sw_secure_facts.specs.Painting.{actor_on}
use Rattle.sw_secure_facts.specs.Secure.{IsSecure}
use Rattle.sw_secure_call_facts.proofs.Inverting.{function_called}
use Rattle.sw_secure_job_facts.proofs.Effects.{SpawnsBy, spawns_from}
use Rattle.sw_hue_facts.specs.Hued.{hued}
use Rattle.sw_secure_late_facts.specs.LateSecure.{CargoFits, IsLateSecure}
use Rattle.sw_secure_late_facts.proofs.Calling as calling
use Rattle.sw_secure_late_facts.proofs.Lending.{numbered_on}
use Rattle.sw_secure_late_facts.proofs.Plans.{Gives, after}
use Rattle.sw_secure_late_facts.proofs.Sending.{call_takes}
use Rattle.sw_secure_late_facts.proofs.Taking.{task_takes}

-- what a plan takes along
abbrev pub taken_by : ℕ → Plan → ℕ → Cargo
taken_by job plan a = record {
  job = carrier job plan.heir;
  actor = a;
  colors = later_of plan.joined;
}

module _ (graph : Graph) (states : ℕ → List (Option Regions)) (late : Late)
    (s : IsLateSecure graph states late) (q : Spot) (job : Job) (f : Frame) (function : Function)
  where
    abbrev colors : Colors
    colors = late.colors

    abbrev later : State
    later = step_of graph late.state q.job

    -- ---- a call of an actor from elsewhere
    module _ (frame : Frame) (next a : ℕ) (crossing : frame.crossing ≡ true) (then : Colors)
        (is_then : then ≡ after_change colors (Push q.job a))
        (secure : IsSecure graph states later (hued then)) where
      abbrev numbers : Point → List ℕ
      numbers point = called_closure colors point f ++ passed colors.cells
          (sending_of graph frame.function) frame.regs

      abbrev Takes : Point → Type 0
      Takes point = CargoFits graph states later then
          (record { job = q.job; actor = a; colors = numbers point })

      strong : (at dst number : ℕ) (args : List Operand)
          → StandsAt graph late.state q job f function
          (Middle (instr.Call at dst Strong number args))
          → point_effect graph late.state (length job.frames) f
          (Middle (instr.Call at dst Strong number args))
          ≡ effect.Enter frame next → number_on colors frame.executor ≡ Some a
          → Takes (Middle (instr.Call at dst Strong number args))
      strong at dst number args stands gives is =
          let found = function_called graph late.state (length job.frames) f at dst Strong number
          args
          frame
          next gives in
          let known = numbered_on colors frame.executor
          (calling.has graph states late s q job f function
          (Middle (instr.Call at dst Strong number args))
          stands frame next gives) a is in
          subst (λ (g : Frame). CargoFits graph states later then
          (record {
            job = q.job;
            actor = a;
            colors = passed colors.cells (sending_of graph g.function)
                g.regs;
          }))
          found.called.frame
          (call_takes graph states late s q job f function at dst number args stands
          found.called.callee
          found.called.is found.values found.are found.called.executor found.called.runs
          (gives ∙ ap (λ g. effect.Enter g next) (sym found.called.frame)
          ∙ ap (effect.Enter (pushed_frame number dst (crosses Strong)
          (registers (length found.called.callee.regs) found.values) found.called.executor))
          (sym found.next)) a known.actor
          (ap (λ (g : Frame). actor_on g.executor) found.called.frame ∙ known.is_on) known.hue_is
          then
          is_then
          secure)

      -- a call of the caller's own isolation doesn't come from elsewhere
      same_stays : (at dst number : ℕ) (args : List Operand)
          → point_effect graph late.state (length job.frames) f
          (Middle (instr.Call at dst Same number args))
          ≡ effect.Enter frame next → false ≡ true
      same_stays at dst number args gives =
          let found = function_called graph late.state (length job.frames) f at dst Same number args
          frame
          next gives in
          ap (λ (g : Frame). g.crossing) found.called.frame ∙ crossing

      by_kind : (at dst : ℕ) (kind : CallKind) (number : ℕ) (args : List Operand)
          → StandsAt graph late.state q job f function (Middle (instr.Call at dst kind number args))
          → point_effect graph late.state (length job.frames) f
          (Middle (instr.Call at dst kind number args))
          ≡ effect.Enter frame next
          → called_number colors (Middle (instr.Call at dst kind number args)) frame ≡ Some a
          → Takes (Middle (instr.Call at dst kind number args))
      by_kind at dst Strong number args stands gives is = strong at dst number args stands gives is
      by_kind at dst Same number args stands gives is =
          absurd (let clash = same_stays at dst number args gives in let wrong : ⊥ = cc in wrong)
      by_kind at dst Plain number args stands gives is = absurd (let clash : ⊥ = cc in clash)
      by_kind at dst Weak number args stands gives is = absurd (let clash : ⊥ = cc in clash)
      by_kind at dst Make number args stands gives is = absurd (let clash : ⊥ = cc in clash)

      call_boards : (point : Point) → StandsAt graph late.state q job f function point
          → point_effect graph late.state (length job.frames) f point ≡ effect.Enter frame next
          → called_number colors point frame ≡ Some a → Takes point
      call_boards (Middle (instr.Call at dst kind number args)) stands gives is =
          by_kind at dst kind number args stands gives is
      call_boards _ stands gives is = absurd (let clash : ⊥ = cc in clash)

    -- ---- each effect
    module _ (point : Point) (stands : StandsAt graph late.state q job f function point) where
      abbrev then_by : Effect → Colors
      then_by e = after graph states late s q job f function point stands e

      abbrev Boards : Effect → Type 0
      Boards e = Gives graph states late s q job f function point stands e
          → IsSecure graph states later (hued (then_by e)) → (a : ℕ)
          → destination_by colors f point e ≡ Some a
          → CargoFits graph states later (then_by e)
          (taken_by q.job (effect_plan graph colors q.job f point e) a)

      abbrev ns_of : Frame → List ℕ
      ns_of frame = called_closure colors point f
          ++ passed colors.cells (sending_of graph frame.function) frame.regs

      abbrev pushes : Frame → Option ℕ → Plan
      pushes frame o = begun_with o (owner.Job q.job) Pushed (next_color colors) (ns_of frame)

      enter_boards : (frame : Frame) (next : ℕ) → Boards (effect.Enter frame next)
      enter_boards frame next gives secure a to = by frame.crossing refl to where
        by : (b : Bool) → frame.crossing ≡ b → cond b (called_number colors point frame) None ≡ Some
            a
            → CargoFits graph states later (then_by (effect.Enter frame next))
            (taken_by q.job (pushes frame (called_number colors point frame)) a)
        by false crossing is = absurd (let clash : ⊥ = cc in clash)
        by true crossing is =
            subst (λ o. CargoFits graph states later (then_by (effect.Enter frame next))
            (taken_by q.job (pushes frame o) a)) (sym is)
            (call_boards frame next a crossing (then_by (effect.Enter frame next))
            (ap (λ to. after_changes (late_by q.job
            (pushes frame (called_number colors point frame))
            to) colors)
            to ∙ ap (λ o. after_changes (late_by q.job (pushes frame o) (Some a)) colors) is)
            secure point stands gives is)

      abbrev task_effect : ℕ → Frame → ℕ → ℕ → Effect
      task_effect r frame cell next = effect.Spawn r frame (length late.state.jobs) cell next

      spawn_boards : (r : ℕ) (frame : Frame) (made cell next : ℕ)
          → Boards (effect.Spawn r frame made cell next)
      spawn_boards r frame made cell next gives =
          subst (λ k. IsSecure graph states later (hued
          (then_by (effect.Spawn r frame k cell next)))
          → (a : ℕ)
          → destination_by colors f point (effect.Spawn r frame k cell next) ≡ Some a
          → CargoFits graph states later (then_by (effect.Spawn r frame k cell next))
          (taken_by q.job (effect_plan graph colors q.job f point
          (effect.Spawn r frame k cell next))
          a))
          (sym from.made_is) task
        where
          from : SpawnsBy graph late.state (length job.frames) f point r frame made cell next
          from = spawns_from graph late.state (length job.frames) f point r frame made cell next
              gives

          task : IsSecure graph states later (hued (then_by (task_effect r frame cell next)))
              → (a : ℕ)
              → destination_by colors f point (task_effect r frame cell next) ≡ Some a
              → CargoFits graph states later (then_by (task_effect r frame cell next))
              (taken_by q.job (effect_plan graph colors q.job f point
              (task_effect r frame cell next))
              a)
          task secure a to = task_takes graph states late s q job f function point stands r frame
              cell
              next
              (gives ∙ ap (λ k. effect.Spawn r frame k cell next) from.made_is) a to
              (then_by (task_effect r frame cell next))
              (ap (λ o. after_changes (late_by q.job (effect_plan graph colors q.job f point
              (task_effect r frame cell next)) o) colors) to)
              secure

      pub boards : (e : Effect) → Boards e
      boards (effect.Enter frame next) gives secure a to = enter_boards frame next gives secure a to
      boards (effect.Spawn r frame made cell next) gives secure a to =
          spawn_boards r frame made cell next gives secure a to
      boards (effect.Set r v next) gives secure a to = absurd (let clash : ⊥ = cc in clash)
      boards (effect.SetField r i v next) gives secure a to = absurd (let clash : ⊥ = cc in clash)
      boards (effect.Print r line next) gives secure a to = absurd (let clash : ⊥ = cc in clash)
      boards (effect.New r cell c next) gives secure a to = absurd (let clash : ⊥ = cc in clash)
      boards (effect.Write c slot v next) gives secure a to = absurd (let clash : ⊥ = cc in clash)
      boards (effect.WriteGlobal g v next) gives secure a to = absurd (let clash : ⊥ = cc in clash)
      boards (effect.Goto next) gives secure a to = absurd (let clash : ⊥ = cc in clash)
      boards (effect.Wait on r next) gives secure a to = absurd (let clash : ⊥ = cc in clash)
      boards (effect.Rest r next) gives secure a to = absurd (let clash : ⊥ = cc in clash)
      boards (effect.Leave v) gives secure a to = absurd (let clash : ⊥ = cc in clash)
      boards (effect.Halt kind at) gives secure a to = absurd (let clash : ⊥ = cc in clash)
      boards effect.Stuck gives secure a to = absurd (let clash : ⊥ = cc in clash)
