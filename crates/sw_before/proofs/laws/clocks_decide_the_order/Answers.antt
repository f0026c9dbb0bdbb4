use Rattle.sw_before.proofs.ClockLemmas.{are_clocks, clocks_decide, clocks_push}
use Rattle.sw_before.proofs.laws.clocks_decide_the_order.Goals as goal

pub returns : goal.returns
returns c = record {
  order = clocks_decide;
  known = λ events. (are_clocks events).known;
  within = λ events. (are_clocks events).within;
  one_more = clocks_push;
}
