use Rattle.std.proofs.Common.{◌≡◌, ◌++◌, drop, not}
use Rattle.std.specs.List.{filter}
use Rattle.sw_isolation_rules.specs.Captures.{is_mention}
use Rattle.sw_isolation_captures.proofs.closing.note_others.Given as goal

abbrev pub invariant-loop-note : goal.invariant-loop-note
invariant-loop-note l =
    l.notes ++ filter (λ note. not (is_mention note)) (drop l.note-index l.inner)
    ≡ l.fn.notes ++ filter (λ note. not (is_mention note)) l.inner
