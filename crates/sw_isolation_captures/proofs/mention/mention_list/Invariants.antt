use Rattle.std.proofs.Common.{◌≡◌, ◌++◌, drop, map}
use Rattle.sw_typing_rules.specs.Worlds.{world_of}
use Rattle.sw_isolation_rules.specs.Captures.{list_mentions}
use Rattle.sw_isolation_rules.specs.declared.note.Note.TheVariants.{Mentioned}
use Rattle.sw_isolation_table.specs.Known.{answers_of}
use Rattle.sw_isolation_captures.proofs.mention.mention_list.Given as goal

-- the mentions so far, and those of the words that are left
abbrev pub invariant-loop-word : goal.invariant-loop-word
invariant-loop-word l =
    l.notes ++ map Mentioned (list_mentions (world_of l.world) (answers_of l.typed) l.owner
    (drop l.word-index l.words))
    ≡ l.fn.notes ++ map Mentioned
    (list_mentions (world_of l.world) (answers_of l.typed) l.owner l.words)
