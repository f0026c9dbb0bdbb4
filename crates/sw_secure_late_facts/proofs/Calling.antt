-- What the plan of a call comes to by hue.
use Rattle.std.proofs.Common.{ℕ, Option, List, length, refl}
use Rattle.sw_graph.specs.declared.function.Function.{Function}
use Rattle.sw_graph.specs.declared.graph.Graph.{Graph}
use Rattle.sw_graph.specs.Points.{Point}
use Rattle.sw_value.specs.declared.effect.Effect.TheVariants.{Enter}
use Rattle.sw_value.specs.declared.frame.Frame.{Frame}
use Rattle.sw_value.specs.declared.job.Job.{Job}
use Rattle.sw_value.specs.Reach.{step_of}
use Rattle.sw_color_rules.specs.Plans.{next_color}
use Rattle.sw_partition.specs.Regions.{Regions}
use Rattle.sw_owner_facts.specs.View.{Frame as Spot, above}
use Rattle.sw_view_facts.specs.Standing.{StandsAt}
use Rattle.sw_view_facts.specs.Views.{Colours}
use Rattle.sw_late_facts.specs.Late.{Late}
use Rattle.sw_secure_facts.specs.Executing.{Executing, MayJoin}
use Rattle.sw_secure_facts.specs.Painting.{Unites, joined_by, made_by}
use Rattle.sw_secure_facts.specs.Secure.{IsSecure}
use Rattle.sw_secure_facts.proofs.Uniting.{may_unite_some}
use Rattle.sw_secure_call_facts.proofs.Whole.{calls_join, calls_stay}
use Rattle.sw_hue_facts.specs.Hued.{hued}
use Rattle.sw_secure_late_facts.specs.LateSecure.{IsLateSecure}
use Rattle.sw_secure_late_facts.proofs.Anchors.{actor_known}
use Rattle.sw_secure_late_facts.proofs.Beginning.{entered_there, known_before}
use Rattle.sw_secure_late_facts.proofs.Begun.{HasNumber}
use Rattle.sw_secure_late_facts.proofs.Calls.{call_paints}
use Rattle.sw_secure_late_facts.proofs.Knowing.{executing, shows}
use Rattle.sw_secure_late_facts.proofs.Owning.{has_number}
use Rattle.sw_secure_late_facts.proofs.Plans.{Gives, HasPaint}

module _ (graph : Graph) (states : ℕ → List (Option Regions)) (late : Late)
    (s : IsLateSecure graph states late) (q : Spot) (job : Job) (f : Frame) (function : Function)
    (point : Point) (stands : StandsAt graph late.state q job f function point) (frame : Frame)
    (next : ℕ) (gives : Gives graph states late s q job f function point stands (Enter frame next))
  where
    abbrev colours : Colours
    colours = hued late.colors

    abbrev number : ℕ
    number = next_color late.colors

    known : Executing graph states late.state colours q number job f function point
        (Enter frame next)
    known = executing graph states late s q job f function point stands (Enter frame next) gives

    may : MayJoin graph late.state colours q number f point (Enter frame next)
    may = calls_join graph states late.state colours q number job f function point
        (Enter frame next)
        known refl

    -- some colours that the call may lead to
    some : (after : Colours) × Unites q.job
        (joined_by graph late.state colours q number f point (Enter frame next))
        (made_by graph colours q.job number point (Enter frame next)) after
    some = may_unite_some q (joined_by graph late.state colours q number f point (Enter frame next))
        may
        (made_by graph colours q.job number point (Enter frame next))

    after_secure : IsSecure graph states (step_of graph late.state q.job) some.0
    after_secure = calls_stay graph states late.state colours q number job f function point
        (Enter frame next) known refl some.0 some.1

    pub has : HasNumber late.colors frame.executor
    has = has_number graph states late s frame.executor (λ a on.
        known_before graph late.state q job f function point stands frame next gives a
        (actor_known graph states (step_of graph late.state q.job) some.0 after_secure (above q)
        frame
        (entered_there graph late.state q job f function point stands frame next gives) a on))

    pub calls_paint : HasPaint graph states late s q job f function point stands (Enter frame next)
    calls_paint = call_paints graph late.state late.colors q
        (shows graph states late s q job f function point stands) f frame next (length job.frames)
        point
        gives has may
