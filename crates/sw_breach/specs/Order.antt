-- The order of breaches in a list.
use Rattle.std.specs.declared.cmp.Ordering.{Ordering}
use Rattle.std.specs.Ordering.{nat_cmp, ordering_then}
use Rattle.std.specs.Option.{option_cmp}
use Rattle.sw_breach.specs.declared.Breach.{Breach}

-- by position, then by code, then by note, where no note comes before a note
abbrev pub breach_cmp : Breach → Breach → Ordering
breach_cmp one other =
    ordering_then (ordering_then (nat_cmp one.at other.at) (nat_cmp one.code other.code))
    (option_cmp nat_cmp one.note other.note)
