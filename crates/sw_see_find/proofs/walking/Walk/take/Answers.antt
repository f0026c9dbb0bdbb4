use Rattle.std.proofs.Common.{◌∙◌, sym}
use Rattle.sw_step.proofs.StepLemmas.{step_act}
use Rattle.sw_see_find.proofs.WalkLemmas.{few_cells, reached_push}
use Rattle.sw_see_find.proofs.walking.Walk.take.Goals as goal

pub act_of-requires : goal.act_of-requires
act_of-requires c = record {
  cells =
      few_cells c.args.graph.now c.args.self.now.state c.args.self.now.items.items
      c.requires.reached c.requires.few;
}

pub returns-clause-reached : goal.returns-clause-reached
returns-clause-reached c =
    rw c.in_ok-push.ensures.items
    (reached_push c.args.graph.now c.args.self.now.state _ c.args.self.now.items.items c.args.job
    c.requires.reached
    (c.in_ok-perform.ensures.ok ∙ sym (step_act c.args.graph.now c.args.self.now.state c.args.job
    c.in-Some.act (sym c.in_ok-act.ensures ∙ c.in-Some.is))))
