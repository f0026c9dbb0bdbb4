use Rattle.std.proofs.Common.{◌∙◌, ap}
use Rattle.std.specs.List.{prefix_len}
use Rattle.sw_token.specs.Literals.{is_digit_or_line}
use Rattle.sw_token.proofs.LiteralLemmas.{digit_or_line_ascii}
use Rattle.sw_token.proofs.Utf8Lemmas.{boundary_after_prefix}
use Rattle.sw_token.proofs.step.digits_step.Goals as goal

pub range_from-requires : goal.range_from-requires
range_from-requires c =
    let len = c.digits_len-len.ensures.value
    ∙ ap (prefix_len (is_digit_or_line c.args.form)) c.as_bytes.ensures.value in
    λ some. boundary_after_prefix (is_digit_or_line c.args.form)
    (digit_or_line_ascii c.args.form) c.args.after.now c.digits_len-len.result c.utf8.after len
