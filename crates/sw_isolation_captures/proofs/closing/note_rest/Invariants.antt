use Rattle.std.proofs.Common.{◌≡◌, ◌++◌, drop, map, not}
use Rattle.std.specs.List.{filter}
use Rattle.std.specs.Option.{option_to_list}
use Rattle.sw_isolation_rules.specs.Captures.{captured, is_among}
use Rattle.sw_isolation_rules.specs.declared.note.Mention.{Mention}
use Rattle.sw_isolation_captures.proofs.closing.note_rest.Given as goal

abbrev pub invariant-loop-one : goal.invariant-loop-one
invariant-loop-one l =
    l.notes ++ map (captured l.closure l.listed)
    (filter (λ (one : Mention). not (is_among (option_to_list l.me) one.variable))
    (drop l.one-index l.mentions))
    ≡ l.fn.notes ++ map (captured l.closure l.listed)
    (filter (λ (one : Mention). not (is_among (option_to_list l.me) one.variable)) l.mentions)
