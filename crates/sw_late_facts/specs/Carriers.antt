-- The jobs that take something to an actor.
use Rattle.std.specs.Prelude.{◌≡◌, ◌<◌, None, Some, slice_get}
use Rattle.sw_value.specs.declared.frame.Frame.{Frame}
use Rattle.sw_value.specs.declared.job.Job.{Job}
use Rattle.sw_value.specs.declared.job.Status.TheVariants.{Ready}
use Rattle.sw_value.specs.declared.state.State.{State}
use Rattle.sw_value.specs.Job.{top_frame}
use Rattle.sw_color_rules.specs.declared.colors.Colors.{Colors}
use Rattle.sw_color_rules.specs.Palette.{owner_in}
use Rattle.sw_color_rules.specs.Plans.{number_on, next_color}
use Rattle.sw_color_rules.specs.Ranges.{AreBelow}
use Rattle.sw_late_facts.specs.Late.{Cargo}
use Rattle.sw_late_facts.specs.Alike.{job_of}

-- The job is there and isn't running, and its next dispatch is on the actor.
pub record AwaitsActor (state : State) (colors : Colors) (cargo : Cargo) : Type 0 where
  pub job : Job
  pub there : slice_get state.jobs cargo.job ≡ Some job
  pub ready : job.status ≡ Ready
  pub frame : Frame
  pub top : top_frame job ≡ Some frame
  pub actor : number_on colors frame.executor ≡ Some cargo.actor

-- What it takes was made, and goes to a colour that an actor or a global actor owns.
pub record GoesToActor (colors : Colors) (cargo : Cargo) : Type 0 where
  pub made : cargo.actor < next_color colors
  pub actors : job_of (owner_in colors.palette cargo.actor) ≡ None
  pub colors_made : AreBelow (next_color colors) cargo.colors
