-- The numbers that actors and global actors own.
use Rattle.std.specs.Prelude.{◌≡◌, ◌≢◌, ◌⊎◌, ◌<◌, ℕ, Option, Some, Contains}
use Rattle.sw_color_rules.specs.declared.colors.Colors.{Colors}
use Rattle.sw_color_rules.specs.declared.colors.Owner.{Owner}
use Rattle.sw_color_rules.specs.declared.colors.Owner.TheVariants.{Job, ActorOf, Global}
use Rattle.sw_color_rules.specs.Names.{name_in}
use Rattle.sw_color_rules.specs.Palette.{owner_in}
use Rattle.sw_color_rules.specs.Tints.{owned_number}
use Rattle.sw_late_facts.specs.Late.{Cargo, Late}

-- What an actor owns is one colour with the number that is noted of the actor's cell; what a global
-- actor owns is one colour with that actor's own number. There are `count` global actors.
pub record OwnByNumber (count : ℕ) (colors : Colors) : Type 0 where
  pub actors : (n c : ℕ) → owner_in colors.palette n ≡ Some (ActorOf c)
      → (own : ℕ) × (owned_number colors.cells c ≡ Some own)
      × (name_in colors.palette.names own ≡ name_in colors.palette.names n)
  pub globals : (n g : ℕ) → owner_in colors.palette n ≡ Some (Global g)
      → (g < count) × (name_in colors.palette.names g ≡ name_in colors.palette.names n)

-- Each actor owns the number that is noted of its cell, and each of the global actors its own number.
pub record KeepNumbers (count : ℕ) (colors : Colors) : Type 0 where
  pub actors : (c n : ℕ) → owned_number colors.cells c ≡ Some n
      → owner_in colors.palette n ≡ Some (ActorOf c)
  pub globals : (g : ℕ) → g < count → owner_in colors.palette g ≡ Some (Global g)

-- What a job takes to an actor is the job's, or that actor's already.
pub record TakesOwn (colors : Colors) (cargo : Cargo) : Type 0 where
  pub each : (n : ℕ) → Contains cargo.colors n
      → (owner_in colors.palette n ≡ Some (Job cargo.job))
      ⊎ (owner_in colors.palette n ≡ owner_in colors.palette cargo.actor)

-- they are taken by two jobs
abbrev pub AreOfOtherJobs : Cargo → Cargo → Type 0
AreOfOtherJobs one other = one.job ≢ other.job

-- A job owns the colour with this number and takes it along, and this is the owner of the actor's
-- colour.
pub record IsTaken (late : Late) (n : ℕ) (owner : Option Owner) : Type 0 where
  pub cargo : Cargo
  pub taken : Contains late.cargo cargo
  pub jobs : owner_in late.colors.palette n ≡ Some (Job cargo.job)
  pub becomes : owner ≡ owner_in late.colors.palette cargo.actor
