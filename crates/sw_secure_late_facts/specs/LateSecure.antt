-- What every late state of an accepted program keeps: by hue it is secure, and its numbers are as
-- the
-- next item needs them.
use Rattle.std.specs.Prelude.{◌≡◌, ◌⊎◌, ◌<◌, ℕ, suc, true, Option, Some, List, [], length}
use Rattle.std.specs.Prelude.{slice_get, Contains}
use Rattle.std.specs.List.{All}
use Rattle.sw_graph.specs.declared.graph.Graph.{Graph}
use Rattle.sw_value.specs.declared.frame.Frame.{Frame}
use Rattle.sw_value.specs.declared.job.Job.{Job}
use Rattle.sw_value.specs.declared.state.State.{State}
use Rattle.sw_value.specs.Job.{top_frame}
use Rattle.sw_color_rules.specs.declared.colored.Colored.{Colored}
use Rattle.sw_color_rules.specs.declared.colors.Colors.{Colors}
use Rattle.sw_color_rules.specs.Machine.{global_count}
use Rattle.sw_color_rules.specs.Palette.{IsWhole}
use Rattle.sw_color_rules.specs.Ranges.{AreMade}
use Rattle.sw_partition.specs.Regions.{Regions}
use Rattle.sw_owner_facts.specs.Colours.{Actor, GlobalActor, OfActor, OfJob}
use Rattle.sw_owner_facts.specs.View.{Element, Here, HoldsLive, InOneRegion, Frame as Spot}
use Rattle.sw_view_facts.specs.Views.{view_at}
use Rattle.sw_late_facts.specs.Hues.{hue}
use Rattle.sw_late_facts.specs.Late.{Cargo, Late}
use Rattle.sw_hue_facts.specs.Hued.{hued}
use Rattle.sw_hue_facts.specs.Tinted.{TintsFit}
use Rattle.sw_secure_facts.specs.Painting.{actor_on}
use Rattle.sw_secure_facts.specs.Secure.{IsSecure}

-- What a job takes along is the job's, and if anything live of the job holds it, its top frame
-- does, with `Here`. That frame hasn't begun, and is a task's first or comes from elsewhere. What
-- it
-- takes goes to the colour of the actor on which that frame is to run.
pub record CargoFits (graph : Graph) (states : ℕ → List (Option Regions)) (state : State)
    (colors : Colors) (cargo : Cargo) : Type 0 where
  pub job : Job
  pub there : slice_get state.jobs cargo.job ≡ Some job
  pub frame : Frame
  pub top : top_frame job ≡ Some frame
  pub entry : frame.point ≡ 0
  pub entered : (length job.frames ≡ 1) ⊎ (frame.crossing ≡ true)
  pub actor : Actor
  pub on : actor_on frame.executor ≡ Some actor
  pub is : hue colors.palette cargo.actor ≡ OfActor actor
  pub owned : (n : ℕ) → Contains cargo.colors n
      → (m : ℕ) × (hue colors.palette n ≡ OfJob cargo.job m)
  pub alone : (n m : ℕ) → Contains cargo.colors n → hue colors.palette n ≡ OfJob cargo.job m
      → (p : Spot) (x : Element) → p.job ≡ cargo.job
      → HoldsLive (view_at graph states state (hued colors)) p x (OfJob cargo.job m)
      → (length job.frames ≡ suc p.depth)
      × InOneRegion (view_at graph states state (hued colors)) p x Here

pub record IsLateSecure (graph : Graph) (states : ℕ → List (Option Regions)) (late : Late) : Type 0
  where
    pub whole : IsWhole late.colors.palette
    pub made : AreMade late.colors
    -- each global actor's number has its hue
    pub globals : (g : ℕ) → g < global_count graph.functions
        → hue late.colors.palette g ≡ OfActor (GlobalActor g)
    pub tints : TintsFit graph late.state.cells late.colors
    pub cargo : All (CargoFits graph states late.state late.colors) late.cargo
    pub secure : IsSecure graph states late.state (hued late.colors)

-- a state of the coloured machine as a late one in which no job takes anything along
abbrev pub taking_nothing : Colored → Late
taking_nothing colored = record { state = colored.state; colors = colored.colors; cargo = [] }
