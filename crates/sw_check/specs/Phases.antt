-- The phases as the program chooses them.
use Rattle.std.specs.Prelude.{List}
use Rattle.sw_verdict.specs.Phases.{Phase, all_phases, phases_to_sharing, phases_to_size}
use Rattle.sw_check.specs.declared.parts.Phases as code
use Rattle.sw_check.specs.declared.parts.Phases.TheVariants.{All, ToSharing, ToSize}

abbrev pub list_of : code.Phases → List Phase
list_of All = all_phases
list_of ToSize = phases_to_size
list_of ToSharing = phases_to_sharing
