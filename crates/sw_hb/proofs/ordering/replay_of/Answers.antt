use Rattle.std.proofs.Common.{sym, subst, ap, ◌∙◌}
use Rattle.sw_before.specs.Events.{events_of}
use Rattle.sw_hb.specs.declared.clocked.Clocked.{Clocked}
use Rattle.sw_hb.specs.Events.{IsFirstPair}
use Rattle.sw_hb.proofs.OrderLemmas.{ordered_is, trapped_is, unordered_is}
use Rattle.sw_hb.proofs.ordering.replay_of.Goals as goal

pub returns-in-Some : goal.returns-in-Some
returns-in-Some c =
    unordered_is c.args.graph.now c.args.clocked.now c.requires.clocked c.from_vec-lines.result
    (c.from_vec-lines.ensures ∙ c.requires.lines) c.in-Some.first c.in-Some.second
    (subst (IsFirstPair (events_of c.args.graph.now c.args.clocked.now.items)) c.in-Some.is
    c.unordered.ensures)

pub returns-in-None : goal.returns-in-None
returns-in-None c =
    ordered_is c.args.graph.now c.args.clocked.now c.requires.clocked c.from_vec-lines.result
    (c.from_vec-lines.ensures ∙ c.requires.lines)
    (subst (IsFirstPair (events_of c.args.graph.now c.args.clocked.now.items)) c.in_default.is
    c.unordered.ensures)
    (ap (λ (k : Clocked). k.state.halted) (sym c.clocked.view_is) ∙ c.in-None.is)
    c.accesses.result c.accesses.ensures

pub returns-in-Some-halted : goal.returns-in-Some-halted
returns-in-Some-halted c =
    trapped_is c.args.graph.now c.args.clocked.now c.requires.clocked c.from_vec-lines.result
    (c.from_vec-lines.ensures ∙ c.requires.lines)
    (subst (IsFirstPair (events_of c.args.graph.now c.args.clocked.now.items)) c.in_default.is
    c.unordered.ensures) c.in-Some-halted.kind c.in-Some-halted.at
    (ap (λ (k : Clocked). k.state.halted) (sym c.clocked.view_is) ∙ c.in-Some-halted.is)
