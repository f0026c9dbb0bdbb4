use Rattle.std.proofs.Common.{Some, arith}
use Rattle.sw_hb.proofs.HistoryLemmas.{few_heard}
use Rattle.sw_hb.proofs.history.History.ranked.Goals as goal

pub overflow_add-result : goal.overflow_add-result
overflow_add-result c =
    let next = c.requires in
    omega (
      arith,
      c.heard.ensures next.event next.links_are,
      few_heard c.args.self.now c.args.links.now (Some c.args.access) next c.args.access.job,
    )
