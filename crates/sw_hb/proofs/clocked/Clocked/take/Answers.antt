use Rattle.std.proofs.Common.{sym, ap, ◌∙◌}
use Rattle.sw_value.specs.Transition.{transition_by}
use Rattle.sw_step.proofs.StepLemmas.{step_act}
use Rattle.sw_before.specs.Events.{events_of}
use Rattle.sw_hb.specs.Clocked.{is_one_too_many}
use Rattle.sw_hb.proofs.ClockedLemmas.{clocked_push, is_next, made_many, still_few}
use Rattle.sw_hb.proofs.clocked.Clocked.take.Goals as goal

pub returns-then-is_one_too_many-clause-many : goal.returns-then-is_one_too_many-clause-many
returns-then-is_one_too_many-clause-many c = λ _.
    made_many c.args.graph.now c.args.self.now c.args.item c.args.act c.requires.clocked
    c.requires.acts (sym (c.is_one_too_many.ensures ∙ ap is_one_too_many c.made_by.ensures)
    ∙ c.if-is_one_too_many.true)

pub take_in-requires : goal.take_in-requires
take_in-requires c =
    is_next c.args.graph.now c.args.self.now c.args.item c.args.act c.requires.clocked
    c.requires.acts c.make_room.new.self c.links_by-links.result c.next_access-access.result
    (c.in_ok-make_room.ensures.kept (events_of c.args.graph.now c.args.self.now.items)
    c.requires.clocked.history_is) (c.links_by-links.ensures c.args.graph.now)
    c.next_access-access.ensures c.in_ok-make_room.ensures.room
    (sym (c.is_one_too_many.ensures ∙ ap is_one_too_many c.made_by.ensures)
    ∙ c.if-is_one_too_many.false) c.requires.items

pub returns-in-Ok-clause-steps : goal.returns-in-Ok-clause-steps
returns-in-Ok-clause-steps c =
    c.in-Ok.ensures.ok
    ∙ sym (step_act c.args.graph.now c.args.self.now.state c.args.item c.args.act c.requires.acts)

pub returns-in-Ok-clause-few : goal.returns-in-Ok-clause-few
returns-in-Ok-clause-few c =
    still_few c.args.graph.now c.args.self.now c.args.item c.args.act c.requires.clocked
    c.requires.acts (sym (c.is_one_too_many.ensures ∙ ap is_one_too_many c.made_by.ensures)
    ∙ c.if-is_one_too_many.false)

pub returns-in-Ok-clause-clocked : goal.returns-in-Ok-clause-clocked
returns-in-Ok-clause-clocked c =
    let events = events_of c.args.graph.now c.args.self.now.items in
    clocked_push c.args.graph.now c.args.self.now c.args.item c.args.act c.requires.clocked
    c.requires.acts _ (sym (c.is_one_too_many.ensures ∙ ap is_one_too_many c.made_by.ensures)
    ∙ c.if-is_one_too_many.false) (c.in-Ok.ensures.ok
    ∙ sym (step_act c.args.graph.now c.args.self.now.state c.args.item c.args.act c.requires.acts))
    c.in_ok-push.ensures.ok (λ named. c.take_in.ensures events
    (transition_by c.args.graph.now c.args.self.now.state c.args.item c.args.act)
    (c.in_ok-make_room.ensures.kept events c.requires.clocked.history_is) named
    (sym (c.links_by-links.ensures c.args.graph.now)) (sym c.next_access-access.ensures))
