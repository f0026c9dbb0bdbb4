use Rattle.std.proofs.Common.{fold, option_to_list, ap, ◌∙◌}
use Rattle.std.specs.Option.{option_map}
use Rattle.sw_before.specs.Channels.{OfEnd}
use Rattle.sw_clocks.specs.Rows.{clocks_in}
use Rattle.sw_clocks.specs.Steps.{hearing, telling}
use Rattle.sw_clocks.proofs.StepLemmas.{took_in}
use Rattle.sw_clocks.proofs.clocks.Clocks.take_in.Goals as goal

pub returns : goal.returns
returns c =
    let job = c.args.links.now.job in
    took_in c.args.links.now (clocks_in c.args.self.now) (clocks_in c.hear.new.self)
    (clocks_in c.hear-2.new.self) (clocks_in c.tick.new.self) (clocks_in c.tell.new.self)
    (clocks_in c.tell-2.new.self) (clocks_in c.tell-3.new.self) record {
      awaited = c.hear.ensures.clocks
          ∙ ap (λ o. fold (hearing job) (clocks_in c.args.self.now) (option_to_list o))
          c.of_end.ensures;
      entered = c.hear-2.ensures.clocks
          ∙ ap (λ o. fold (hearing job) (clocks_in c.hear.new.self) (option_to_list o))
          c.of_executor.ensures;
      counted = c.tick.ensures.clocks;
      made = c.tell.ensures.clocks
          ∙ ap (λ o. fold (telling job) (clocks_in c.tick.new.self) (option_to_list o))
          c.of_job.ensures;
      ended = c.tell-2.ensures.clocks
          ∙ ap (λ o. fold (telling job) (clocks_in c.tell.new.self) (option_to_list o))
          (c.of_end-2.ensures ∙ ap (option_map OfEnd) c.then_some.ensures);
      left = c.tell-3.ensures.clocks
          ∙ ap (λ o. fold (telling job) (clocks_in c.tell-2.new.self) (option_to_list o))
          c.of_executor-2.ensures;
    }
