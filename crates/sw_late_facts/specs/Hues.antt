-- Colours by number as colours that name their owner.
use Rattle.std.specs.Prelude.{◌≡◌, ℕ, ◌<◌, Option, Some, None}
use Rattle.sw_owner_facts.specs.Colours.{Colour, OfJob, OfActor, Instance, GlobalActor}
use Rattle.sw_color_rules.specs.declared.colors.Owner.{Owner}
use Rattle.sw_color_rules.specs.declared.colors.Owner.TheVariants.{Job, ActorOf, Global}
use Rattle.sw_color_rules.specs.declared.colors.Palette.{Palette}
use Rattle.sw_color_rules.specs.Names.{name_in}
use Rattle.sw_color_rules.specs.Palette.{owner_in}

-- A number that was never made has no owner; it counts as one of the first job.
abbrev pub hue_by : Option Owner → ℕ → Colour
hue_by (Some (Job j)) n = OfJob j n
hue_by (Some (ActorOf c)) n = OfActor (Instance c)
hue_by (Some (Global g)) n = OfActor (GlobalActor g)
hue_by None n = OfJob 0 n

-- the colour with this number: its owner, and of a job's colour the number that is left of it
abbrev pub hue : Palette → ℕ → Colour
hue palette n = hue_by (owner_in palette n) (name_in palette.names n)

-- Of two colours that merge, the first goes: a job's colour where the other is an actor's, or one of
-- the same job with a lower number.
abbrev pub GivesWay : Colour → Colour → Type 0
GivesWay (OfJob j n) (OfJob k m) = (j ≡ k) × (m < n)
GivesWay (OfJob j n) (OfActor a) = Unit {0}
GivesWay (OfActor a) kept = ⊥
