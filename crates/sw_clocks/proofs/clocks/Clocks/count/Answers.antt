use Rattle.std.proofs.Common.{sym, ap, ◌∙◌}
use Rattle.sw_clocks.specs.Channel.{meant}
use Rattle.sw_clocks.specs.Rows.{count_at}
use Rattle.sw_clocks.proofs.CountLemmas.{clocks_at, clocks_none}
use Rattle.sw_clocks.proofs.clocks.Clocks.count.Goals as goal

pub returns-in-None : goal.returns-in-None
returns-in-None c =
    sym (clocks_none c.args.self.now.counts c.args.self.now.actors (meant c.args.channel)
    c.args.job (sym c.in-None.ensures))

pub returns-in-Some : goal.returns-in-Some
returns-in-Some c =
    c.count.ensures
    ∙ ap (λ counts. count_at counts c.in-Some.row c.args.job)
    (c.deref.ensures.value ∙ ap (λ rows. rows.counts) c.self.view_is)
    ∙ sym (clocks_at c.args.self.now.counts c.args.self.now.actors (meant c.args.channel)
    c.in-Some.row c.args.job (sym c.in-Some.ensures))
