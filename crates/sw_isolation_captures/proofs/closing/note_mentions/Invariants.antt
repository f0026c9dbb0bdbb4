use Rattle.std.proofs.Common.{◌≡◌, ◌++◌, drop, map}
use Rattle.sw_isolation_rules.specs.declared.note.Note.TheVariants.{Mentioned}
use Rattle.sw_isolation_captures.proofs.closing.note_mentions.Given as goal

abbrev pub invariant-loop-mention : goal.invariant-loop-mention
invariant-loop-mention l =
    l.notes ++ map Mentioned (drop l.mention-index l.mentions)
    ≡ l.fn.notes ++ map Mentioned l.mentions
