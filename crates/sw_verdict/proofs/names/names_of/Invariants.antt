use Rattle.std.proofs.Common.{◌≡◌, ◌++◌, drop, map}
use Rattle.std.specs.Prelude.{string_bytes}
use Rattle.sw_verdict.specs.ActorNames.{name_by}
use Rattle.sw_verdict.proofs.names.names_of.Given as goal

-- the names so far, and those of the ids that are left
abbrev pub invariant-loop-id : goal.invariant-loop-id
invariant-loop-id l =
    map string_bytes l.list ++ map (name_by l.names) (drop l.id-index l.ids)
    ≡ map (name_by l.names) l.ids
