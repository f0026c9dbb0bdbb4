-- How many jobs have a location as their target.
use Rattle.std.specs.Prelude.{ℕ, ◌+◌, nat_lt, Bool, true, false, not, ◌&&◌, ◌||◌, Option, Some}
use Rattle.std.specs.Prelude.{None, List, count_by, unwrap_or, if◌then◌else◌}
use Rattle.indexmap.specs.IndexMap.{IndexMap, get}
use Rattle.sw_value.specs.declared.race.Place.{Place}
use Rattle.sw_race.specs.declared.target.Target.{Target}
use Rattle.sw_race.specs.declared.uses.Uses.{Uses}
use Rattle.sw_race.specs.With.{is_same_place}

abbrev pub unused : Uses
unused = record { readers = 0; writers = 0 }

-- whether a target, if there is one, reads a location, and whether it writes it
abbrev pub reads : Place → Option Target → Bool
reads place None = false
reads place (Some t) = is_same_place t.place place && not t.writes

abbrev pub writes : Place → Option Target → Bool
writes place None = false
writes place (Some t) = is_same_place t.place place && t.writes

-- how often a location is among the targets of jobs
abbrev pub uses_of : Place → List (Option Target) → Uses
uses_of place targets =
    record { readers = count_by (reads place) targets; writers = count_by (writes place) targets }

-- what a table says of a location; it says nothing of those without uses
abbrev pub uses_in : {S : Type 0} → IndexMap Place Uses S → Place → Uses
uses_in table place = unwrap_or (get is_same_place table place) unused

-- one job more that writes, or reads
abbrev pub more : Bool → Uses → Uses
more true uses = record { readers = uses.readers; writers = uses.writers + 1 }
more false uses = record { readers = uses.readers + 1; writers = uses.writers }

-- one more target, if there is one
abbrev pub with_use : Option Target → Place → Uses → Uses
with_use None place uses = uses
with_use (Some t) place uses = if is_same_place t.place place then more t.writes uses else uses

-- how many write, or read
abbrev pub used : Bool → Uses → ℕ
used true uses = uses.writers
used false uses = uses.readers

-- whether a job that writes, or reads, has a rival among the uses, of which it is one
abbrev pub is_shared : Bool → Uses → Bool
is_shared true uses = nat_lt 0 uses.readers || nat_lt 1 uses.writers
is_shared false uses = nat_lt 0 uses.writers

-- whether a target that is counted, if there is one, has no rival
abbrev pub is_alone : {S : Type 0} → IndexMap Place Uses S → Option Target → Bool
is_alone table None = true
is_alone table (Some t) = not (is_shared t.writes (uses_in table t.place))
