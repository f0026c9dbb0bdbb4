use Rattle.std.proofs.Common.{◌≡◌, [], ◌∷◌, ◌++◌, append_assoc, sym, ap, ◌∙◌, arith}
use Rattle.sw_dictation.proofs.Numerals.{numeral_is_decimal}
use Rattle.sw_dictation.specs.Numerals.{numeral}
use Rattle.sw_cert.proofs.printing.add_number.Goals as goal

pub returns : goal.returns
returns c =
    let digits : c.as_bytes.result.now ≡ numeral c.args.number =
    c.as_bytes.ensures.value ∙ c.format.ensures.text
    ∙ sym (numeral_is_decimal c.args.number (omega (arith, c.ranges.number))) in
    c.in_ok-push.ensures.items
    ∙ ap (λ l. l ++ c.args.closer ∷ [])
    (c.in_ok-extend_from_slice.ensures.items ∙ ap (λ l. c.args.text.now.items ++ l) digits)
    ∙ append_assoc c.args.text.now.items (numeral c.args.number) (c.args.closer ∷ [])
