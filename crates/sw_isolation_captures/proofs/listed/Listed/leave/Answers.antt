use Rattle.std.proofs.Common.{nat_eq, ◌∙◌, sym}
use Rattle.indexmap.specs.IndexMap.{get}
use Rattle.sw_isolation_captures.proofs.PlaceLemmas.{left, left_again}
use Rattle.sw_isolation_captures.proofs.listed.Listed.leave.Goals as goal

pub invariant_of-self : goal.invariant_of-self
invariant_of-self c =
    left c.self.inside.variables c.pop.new.self c.in-Some.last c.len.result c.copied.result
    (get nat_eq c.self.inside.first) (get nat_eq c.forget.new.table) c.self.invariant
    c.in-Some.ensures c.len.ensures (c.copied.ensures ∙ c.get.ensures.value)
    (sym c.eq.ensures ∙ c.if-eq.true) c.forget.ensures

pub invariant_of-self-else-eq : goal.invariant_of-self-else-eq
invariant_of-self-else-eq c =
    left_again c.self.inside.variables c.pop.new.self c.in-Some.last c.len.result
    c.copied.result (get nat_eq c.self.inside.first) c.self.invariant c.in-Some.ensures
    c.len.ensures (c.copied.ensures ∙ c.get.ensures.value) (sym c.eq.ensures ∙ c.if-eq.false)
