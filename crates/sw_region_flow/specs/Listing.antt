-- Breaches that are one in a list.
use Rattle.std.specs.Prelude.{Bool, ◌==◌, ◌&&◌}
use Rattle.sw_breach.specs.declared.Breach.{Breach}

-- whether two breaches have one position and one code
abbrev pub is_alike : Breach → Breach → Bool
is_alike one other = (one.at == other.at) && (one.code == other.code)
