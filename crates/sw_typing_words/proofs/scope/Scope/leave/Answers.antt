use Rattle.std.proofs.Common.{nat_eq, rules}
use Rattle.indexmap.specs.IndexMap.{get}
use Rattle.sw_typing_words.proofs.ScopeLemmas.{left}
use Rattle.sw_typing_words.proofs.scope.Scope.leave.Goals as goal

pub invariant_of-self : goal.invariant_of-self
invariant_of-self c =
    left c.self.inside.entries c.pop.new.self c.in-Some.last
    (get nat_eq c.self.inside.newest) (get nat_eq c.note_left.new.table) c.self.invariant
    (search rules) (search rules)
