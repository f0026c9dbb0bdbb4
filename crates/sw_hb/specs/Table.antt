-- The entries of locations in a table.
use Rattle.std.specs.Prelude.{List, []}
use Rattle.std.specs.Option.{unwrap_or}
use Rattle.indexmap.specs.IndexMap.{IndexMap, get}
use Rattle.sw_value.specs.declared.race.Place.{Place}
use Rattle.sw_value.specs.Transition.{Transition}
use Rattle.sw_race.specs.With.{is_same_place}
use Rattle.sw_hb.specs.declared.entries.Latest.{Latest}
use Rattle.sw_hb.specs.Latest.{AreLatest}

-- the entries of a location; there are none where the table says nothing of it
abbrev pub entries_at : {S : Type 0} → IndexMap Place (List Latest) S → Place → List Latest
entries_at table place = unwrap_or (get is_same_place table place) []

-- at each location the table has the latest accesses
abbrev pub IsTableOf : {S : Type 0} → List Transition → IndexMap Place (List Latest) S → Type 0
IsTableOf events table = (place : Place) → AreLatest events place (entries_at table place)
