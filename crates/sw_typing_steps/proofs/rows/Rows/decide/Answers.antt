use Rattle.std.proofs.Common.{sym, ◌∙◌}
use Rattle.sw_typing_steps.proofs.DoubtLemmas.{none_to_decide}
use Rattle.sw_typing_steps.proofs.rows.Rows.decide.Goals as goal

pub returns-then-well_since : goal.returns-then-well_since
returns-then-well_since c =
    none_to_decide c.args.start c.args.valued c.args.self.now
    (sym c.well_since.ensures ∙ c.if-well_since.true)
