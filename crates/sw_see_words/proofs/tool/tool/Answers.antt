use Rattle.std.proofs.Common.{◌∙◌, ap, ap₂}
use Rattle.std.proofs.lemmas.Result.{IfOk-weaker}
use Rattle.clap.specs.Simple.{App, with_subcommand}
use Rattle.sw_see_words.proofs.tool.tool.Goals as goal

pub returns : goal.returns
returns c =
    let first = c.in_ok-subcommand.ensures.shape c.in_ok-breaches.ensures.1
    ∙ ap₂ with_subcommand c.bare.ensures.app
    (ap (λ (a : App). a.top) c.in_ok-breaches.ensures.0) in
    let second = c.in_ok-subcommand-2.ensures.shape c.in_ok-steps.ensures.1
    ∙ ap₂ with_subcommand first (ap (λ (a : App). a.top) c.in_ok-steps.ensures.0) in
    let third = c.in_ok-subcommand-3.ensures.shape c.in_ok-find.ensures.1
    ∙ ap₂ with_subcommand second (ap (λ (a : App). a.top) c.in_ok-find.ensures.0) in
    IfOk-weaker c.subcommand-4.result _ _
    (λ command added. added.shape c.in_ok-draw.ensures.1
    ∙ ap₂ with_subcommand third (ap (λ (a : App). a.top) c.in_ok-draw.ensures.0))
    c.subcommand-4.ensures
