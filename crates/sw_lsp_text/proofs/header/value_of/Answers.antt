use Rattle.std.proofs.Common.{sym, ◌∙◌}
use Rattle.sw_lsp_text.proofs.Names.{value_of_short, value_of_long, then_some_now}
use Rattle.sw_lsp_text.proofs.header.value_of.Goals as goal

pub returns-in_err-name : goal.returns-in_err-name
returns-in_err-name c =
    rw c.from_residual.ensures (sym (value_of_short c.args.line.now c.in_err-name.ensures.cases))

pub returns : goal.returns
returns c =
    let long = value_of_long c.args.line.now c.in_ok-name.name.now c.in_ok-name.value.now
    c.eq_ignore_ascii_case.result c.in_ok-name.ensures.cases c.eq_ignore_ascii_case.ensures.test in
    rw c.then_some.ensures (then_some_now c.eq_ignore_ascii_case.result c.in_ok-name.value ∙ sym long)
