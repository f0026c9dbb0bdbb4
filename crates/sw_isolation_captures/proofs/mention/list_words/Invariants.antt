use Rattle.std.proofs.Common.{◌≡◌, ◌++◌, drop}
use Rattle.sw_typing_rules.specs.Worlds.{world_of}
use Rattle.sw_isolation_rules.specs.Captures.{list_mentions, variables}
use Rattle.sw_isolation_table.specs.Known.{answers_of}
use Rattle.sw_isolation_captures.proofs.mention.list_words.Given as goal

-- the variables so far, and those of the words that are left
abbrev pub invariant-loop-word : goal.invariant-loop-word
invariant-loop-word l =
    l.listed ++ variables (list_mentions (world_of l.world) (answers_of l.typed) l.owner
    (drop l.word-index l.words))
    ≡ l.fn.listed ++ variables
    (list_mentions (world_of l.world) (answers_of l.typed) l.owner l.words)
