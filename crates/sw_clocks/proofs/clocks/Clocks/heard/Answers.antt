use Rattle.std.proofs.Common.{◌≡◌, max, ap, ◌∙◌, arith}
use Rattle.std.specs.Option.{option_map_or}
use Rattle.std.proofs.lemmas.Grind.{common_steps}
use Rattle.sw_clocks.specs.Rows.{clocks_in}
use Rattle.sw_clocks.proofs.StepLemmas.{heard_of}
use Rattle.sw_clocks.proofs.clocks.Clocks.heard.Goals as goal

pub returns : goal.returns
returns c = λ t is.
    let own = c.count-own.ensures in
    let ended = c.count_of-ended.ensures
    ∙ ap (λ o. option_map_or (λ x. clocks_in c.args.self.now x c.args.job) o 0) c.of_end.ensures in
    let entered = c.count_of-entered.ensures
    ∙ ap (λ o. option_map_or (λ x. clocks_in c.args.self.now x c.args.job) o 0)
    c.of_executor.ensures in
    let both : c.max-2.result
    ≡ max (max c.count-own.result c.count_of-ended.result) c.count_of-entered.result =
    grind (arith, common_steps) in
    let all = heard_of c.args.links.now (clocks_in c.args.self.now) c.args.job t is in
    cc
