use Rattle.std.proofs.Common.{◌≡◌, Some, length, drop, sym, ap, ◌∙◌}
use Rattle.sw_token.specs.Literals.{literal_of, head_of}
use Rattle.sw_token.specs.Reading.{literal_step}
use Rattle.sw_token.proofs.FoundLemmas.{found-literal}
use Rattle.sw_token.proofs.Steps.{boundary_after_head}
use Rattle.sw_token.proofs.step.found.Goals as goal
use Rattle.sw_token.proofs.step.found.Goals.{After-head_len}

literal_is : (c : After-head_len)
    → literal_of c.args.is_white c.args.text.now ≡ Some c.in-Some-literal_of.form
literal_is c =
    ap (literal_of c.args.is_white) (sym c.as_bytes-bytes.ensures.value)
    ∙ sym c.in-Some-literal_of.ensures

pub range_from-requires : goal.range_from-requires
range_from-requires c =
    λ some. rw c.head_len.ensures
    (boundary_after_head c.args.is_white c.args.text.now c.in-Some-literal_of.form c.utf8.text
    (literal_is c))

pub returns-in-Some-literal_of : goal.returns-in-Some-literal_of
returns-in-Some-literal_of c =
    let is = literal_is (goal.at.returns-in-Some-literal_of c).After-head_len in
    let step = found-literal c.args.is_white c.args.text.now c.in-Some-literal_of.form is in
    let head = c.head_len.ensures in
    let rest : c.range_from.result.now
    ≡ drop (length (head_of c.in-Some-literal_of.form)) c.args.text.now =
    c.range_from.ensures.value ∙ ap (λ n. drop n c.args.text.now) head in
    c.literal_step.ensures ∙ (ap (literal_step c.in-Some-literal_of.form) rest ∙ sym step)
