-- Notes whose codes are those of their kind, and whose captures are outer variables.
use Rattle.std.proofs.Common.{◌≤◌, ◌<◌, List, ◌++◌}
use Rattle.std.specs.List.{AllByRecursion}
use Rattle.sw_isolation_rules.specs.declared.note.Note.{Note}
use Rattle.sw_isolation_rules.specs.declared.note.Note.TheVariants.{Body, Kind, Refused, Race, Var}
use Rattle.sw_isolation_rules.specs.declared.note.Note.TheVariants.{Mentioned, Captures}
use Rattle.sw_isolation_rules.proofs.Each.{each_join}
use Rattle.sw_isolation_rules.proofs.NotedUses.{EachLeaf}

abbrev pub IsSound : Note → Type 0
IsSound (Body body) = Unit {0}
IsSound (Kind kinded) = Unit {0}
IsSound (Refused one) = (501 ≤ one.code) × (one.code ≤ 504)
IsSound (Race one) = (604 ≤ one.code) × (one.code ≤ 606)
IsSound (Var key) = Unit {0}
IsSound (Mentioned one) = Unit {0}
IsSound (Captures one) = one.mention.variable < one.closure

abbrev pub AreSound : List Note → Type 0
AreSound notes = AllByRecursion IsSound notes

pub join : (one other : List Note) → AreSound one → AreSound other → AreSound (one ++ other)
join = each_join IsSound

pub leaf_sound : EachLeaf IsSound
leaf_sound = record {
  refused = λ at code low high. (low, high);
  race = λ at code low high. (low, high);
  mentioned = λ one. tt;
  captures = λ closure listed one less. less;
}
