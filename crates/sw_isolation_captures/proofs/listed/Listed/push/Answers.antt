use Rattle.std.proofs.Common.{nat_eq, ◌∙◌, sym}
use Rattle.indexmap.specs.IndexMap.{get}
use Rattle.sw_isolation_captures.proofs.PlaceLemmas.{added, added_again}
use Rattle.sw_isolation_captures.proofs.listed.Listed.push.Goals as goal

pub invariant_of-self-then-contains_key : goal.invariant_of-self-then-contains_key
invariant_of-self-then-contains_key c =
    added_again c.self.inside.variables c.push.new.self c.args.variable
    (get nat_eq c.self.inside.first) c.self.invariant c.in_ok-push.ensures.ok
    (sym c.contains_key.ensures ∙ c.if-contains_key.true)

pub invariant_of-self-in-Ok : goal.invariant_of-self-in-Ok
invariant_of-self-in-Ok c =
    added c.self.inside.variables c.push.new.self c.args.variable c.len-place.result
    (get nat_eq c.self.inside.first) (get nat_eq c.note.new.table) c.self.invariant
    c.in_ok-push.ensures.ok c.len-place.ensures
    (sym c.contains_key.ensures ∙ c.if-contains_key.false) c.in-Ok.ensures.ok
