use Rattle.std.proofs.Common.{Err, ap, sym, subst}
use Rattle.sw_verdict.specs.Phases.{EncodingFinds, is_utf8, not_utf8, breach_at, not_utf8_code}
use Rattle.sw_verdict.proofs.Finding.{found_breach}
use Rattle.sw_verdict.proofs.phases.encoding.Goals as goal

pub returns-in-Ok-clause-found : goal.returns-in-Ok-clause-found
returns-in-Ok-clause-found c = is_utf8 c.in-Ok.ensures.utf8

pub returns-in-Err-NotUtf8-clause-found : goal.returns-in-Err-NotUtf8-clause-found
returns-in-Err-NotUtf8-clause-found c =
    let why = (c.in-Err-NotUtf8.ensures.not_utf8 c.in-Err-NotUtf8.at).0
    (ap Err c.in-Err-NotUtf8.field-0-is) in
    found_breach (EncodingFinds c.args.text.now) not_utf8_code c.in-Err-NotUtf8.at _
    c.refused.ensures
    (subst (λ at. EncodingFinds c.args.text.now (breach_at not_utf8_code at)) (sym why.1)
    (not_utf8 why.0))
