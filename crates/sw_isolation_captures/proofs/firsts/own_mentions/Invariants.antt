use Rattle.std.proofs.Common.{◌≡◌, drop}
use Rattle.std.specs.Prelude.{flat_map}
use Rattle.sw_isolation_rules.specs.Captures.{firsts_from, mentioned, outer, own_mentions}
use Rattle.sw_isolation_captures.proofs.firsts.own_mentions.Given as goal

-- the first mentions so far, with those of the notes that are left
abbrev pub invariant-loop-note : goal.invariant-loop-note
invariant-loop-note l =
    firsts_from l.firsts (outer l.closure (flat_map mentioned (drop l.note-index l.inner)))
    ≡ own_mentions l.closure l.inner
