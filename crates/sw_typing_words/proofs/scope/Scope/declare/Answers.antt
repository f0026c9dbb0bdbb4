use Rattle.std.proofs.Common.{nat_eq, rules}
use Rattle.indexmap.specs.IndexMap.{get}
use Rattle.sw_typing_words.proofs.ScopeLemmas.{declared}
use Rattle.sw_typing_words.proofs.scope.Scope.declare.Goals as goal

pub invariant_of-self-in-Ok : goal.invariant_of-self-in-Ok
invariant_of-self-in-Ok c =
    declared c.self.inside.entries c.push.new.self
    (record { var = c.args.var; hides = c.copied-hides.result })
    (get nat_eq c.self.inside.newest) (get nat_eq c.note.new.table) c.self.invariant
    c.in_ok-push.ensures.ok (search rules) (search rules)
