-- What is known of a late state that is secure by hue, where a job executes.
use Rattle.std.proofs.Common.{◌≡◌, ℕ, Option, List, length}
use Rattle.sw_graph.specs.declared.function.Function.{Function}
use Rattle.sw_graph.specs.declared.graph.Graph.{Graph}
use Rattle.sw_graph.specs.Points.{Point}
use Rattle.sw_value.specs.declared.effect.Effect.{Effect}
use Rattle.sw_value.specs.declared.frame.Frame.{Frame}
use Rattle.sw_value.specs.declared.job.Job.{Job}
use Rattle.sw_value.specs.Effect.{point_effect}
use Rattle.sw_color_rules.specs.Plans.{next_color}
use Rattle.sw_partition.specs.Regions.{Regions}
use Rattle.sw_owner_facts.specs.View.{Frame as Spot}
use Rattle.sw_view_facts.specs.Standing.{StandsAt}
use Rattle.sw_late_facts.specs.Late.{Late}
use Rattle.sw_secure_facts.specs.Executing.{Executing}
use Rattle.sw_hue_facts.specs.Hued.{hued}
use Rattle.sw_secure_late_facts.specs.LateSecure.{IsLateSecure}
use Rattle.sw_secure_late_facts.proofs.Numbers.{numbered}
use Rattle.sw_secure_late_facts.proofs.Reading.{value_reads}
use Rattle.sw_secure_late_facts.proofs.Showing.{Shows, here_known}

module _ (graph : Graph) (states : ℕ → List (Option Regions)) (late : Late)
    (s : IsLateSecure graph states late) (q : Spot) (job : Job) (f : Frame) (function : Function)
    (point : Point) (stands : StandsAt graph late.state q job f function point) where
  pub shows : Shows late.state late.colors q
  shows = record {
    whole = s.whole;
    made = s.made;
    values = value_reads graph late.state.cells late.colors s.tints s.secure.memory.earlier;
    here = here_known late.state late.colors q job f stands.top s.secure.heres;
  }

  pub executing : (e : Effect)
      → point_effect graph late.state (length job.frames) f point ≡ e
      → Executing graph states late.state (hued late.colors) q (next_color late.colors) job f
      function
      point e
  executing e gives = record {
    secure = s.secure;
    numbered = numbered late.colors s.whole s.made;
    stands = stands;
    gives = gives;
  }
