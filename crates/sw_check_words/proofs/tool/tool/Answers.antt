use Rattle.std.proofs.Common.{◌∙◌, ap, ap₂}
use Rattle.std.proofs.lemmas.Result.{IfOk-weaker}
use Rattle.clap.specs.Simple.{App, with_subcommand}
use Rattle.sw_check_words.proofs.tool.tool.Goals as goal

pub returns : goal.returns
returns c =
    let first = c.in_ok-subcommand.ensures.shape c.in_ok-check.ensures.1
    ∙ ap₂ with_subcommand c.bare.ensures.app (ap (λ (a : App). a.top) c.in_ok-check.ensures.0) in
    let second = c.in_ok-subcommand-2.ensures.shape c.in_ok-pair.ensures.1
    ∙ ap₂ with_subcommand first (ap (λ (a : App). a.top) c.in_ok-pair.ensures.0) in
    let third = c.in_ok-subcommand-3.ensures.shape c.in_ok-pair-2.ensures.1
    ∙ ap₂ with_subcommand second (ap (λ (a : App). a.top) c.in_ok-pair-2.ensures.0) in
    let fourth = c.in_ok-subcommand-4.ensures.shape c.in_ok-pair-3.ensures.1
    ∙ ap₂ with_subcommand third (ap (λ (a : App). a.top) c.in_ok-pair-3.ensures.0) in
    let fifth = c.in_ok-subcommand-5.ensures.shape c.in_ok-pair-4.ensures.1
    ∙ ap₂ with_subcommand fourth (ap (λ (a : App). a.top) c.in_ok-pair-4.ensures.0) in
    let sixth = c.in_ok-subcommand-6.ensures.shape c.in_ok-pair-5.ensures.1
    ∙ ap₂ with_subcommand fifth (ap (λ (a : App). a.top) c.in_ok-pair-5.ensures.0) in
    IfOk-weaker c.subcommand-7.result _ _
    (λ command added. added.shape c.in_ok-demo.ensures.1
    ∙ ap₂ with_subcommand sixth (ap (λ (a : App). a.top) c.in_ok-demo.ensures.0))
    c.subcommand-7.ensures
