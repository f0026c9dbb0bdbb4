use Rattle.std.proofs.Common.{◌^◌, ◌-◌, min, refl, sym, ap, ◌∙◌, take, get_or}
use Rattle.sw_token.specs.Literals.{with_digit, number_in}
use Rattle.sw_token.proofs.LiteralLemmas.{number_in-nil, number_in-more, with_digit-cut}
use Rattle.sw_token.proofs.literals.Literal.number_in.Goals as goal

pub loop-digit-init : goal.loop-digit-init
loop-digit-init c = rw (number_in-nil c.args.self) refl

pub loop-digit-preserved : goal.loop-digit-preserved
loop-digit-preserved c =
    let before = number_in c.args.self (take c.loop-digit.digit-index c.args.digits.now) in
    let byte = get_or c.args.digits.now c.loop-digit.digit-index 0 in
    let more =
    number_in-more c.args.self c.args.digits.now c.loop-digit.digit-index c.loop-digit-test.true in
    c.with_digit-number.ensures
    ∙ (ap (λ n. min (with_digit c.args.self n byte) (2 ^ 64 - 1)) c.loop-digit.invariant
    ∙ (with_digit-cut c.args.self before byte (2 ^ 64 - 1)
    ∙ ap (λ n. min n (2 ^ 64 - 1)) (sym more)))
