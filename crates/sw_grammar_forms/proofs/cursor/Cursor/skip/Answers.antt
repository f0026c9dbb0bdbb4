use Rattle.std.proofs.Common.{sym, ◌∙◌, ap}
use Rattle.std.specs.Prelude.{Ok}
use Rattle.sw_grammar_forms.proofs.CursorSteps.{skip_takes, skip_passes}
use Rattle.sw_grammar_forms.proofs.cursor.Cursor.skip.Goals as goal

pub returns-then-found : goal.returns-then-found
returns-then-found c =
    skip_takes c.args.text.now c.args.self.now _ _ (sym c.sees-found.ensures ∙ c.if-found.true)
    c.take.ensures
    ∙ ap (λ b. Ok (b, c.take.new.self)) (sym c.if-found.true)

pub returns-else-found : goal.returns-else-found
returns-else-found c =
    skip_passes c.args.text.now c.args.self.now (sym c.sees-found.ensures ∙ c.if-found.false)
    ∙ ap (λ b. Ok (b, c.args.self.now)) (sym c.if-found.false)
