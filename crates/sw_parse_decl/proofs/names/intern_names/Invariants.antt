-- Of all texts those are interned that the tokens left don't give, and there is room for these.
use Rattle.std.proofs.Common.{◌+◌, ◌*◌, ◌<◌, length}
use Rattle.sw_grammar_facts.specs.Interned.{texts_in}
use Rattle.sw_parse_decl.proofs.InternSteps.{IsInterned}
use Rattle.sw_parse_decl.proofs.names.intern_names.Given as goal

abbrev pub invariant-loop-alloc : goal.invariant-loop-alloc
invariant-loop-alloc l =
    IsInterned l.fn.names (texts_in l.fn.tokens) l.names l.bound l.tokens
    × (length l.names + 3 * length l.tokens < 4294967293)

abbrev pub decreases-loop-alloc : goal.decreases-loop-alloc
decreases-loop-alloc l = length l.tokens
