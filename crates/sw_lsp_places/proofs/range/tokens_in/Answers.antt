use Rattle.std.proofs.Common.{inr, rules}
use Rattle.sw_lsp_places.proofs.range.tokens_in.Goals as goal

pub returns-in-Err-NotUtf8 : goal.returns-in-Err-NotUtf8
returns-in-Err-NotUtf8 c =
    let not = (c.in-Err-NotUtf8.ensures.not_utf8 c.in-Err-NotUtf8.field-0-0).0 (search rules) in
    inr (c.new-in-Err-NotUtf8.ensures.items, λ utf8. absurd (not.0 utf8))
