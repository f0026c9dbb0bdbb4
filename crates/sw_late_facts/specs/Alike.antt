-- When the late colours are those of the coloured machine.
use Rattle.std.specs.Prelude.{◌≡◌, ℕ, Option, Some, None}
use Rattle.sw_color_rules.specs.declared.colors.Owner.{Owner}
use Rattle.sw_color_rules.specs.declared.colors.Owner.TheVariants.{Job}
use Rattle.sw_color_rules.specs.declared.colors.Colors.{Colors}
use Rattle.sw_color_rules.specs.Palette.{owner_in}
use Rattle.sw_color_rules.specs.Changes.{after_changes}
use Rattle.sw_late_facts.specs.Late.{Late, deliveries}

-- the colours if all that jobs take to actors were the actors' already
abbrev pub delivered : Late → Colors
delivered late = after_changes (deliveries late.cargo) late.colors

-- the job that owns a colour, if a job does
abbrev pub job_of : Option Owner → Option ℕ
job_of (Some (Job j)) = Some j
job_of _ = None

-- The same cells share a colour, and so do the same frames. What a job owns in one it owns in the
-- other, and all else is an actor's in both.
pub record AreAlike (one other : Colors) : Type 0 where
  pub cells : one.cells ≡ other.cells
  pub heres : one.heres ≡ other.heres
  pub names : one.palette.names ≡ other.palette.names
  pub jobs : (n : ℕ) → job_of (owner_in one.palette n) ≡ job_of (owner_in other.palette n)
