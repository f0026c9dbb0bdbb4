use Rattle.std.proofs.Common.{ap, ◌∙◌, position, bytes_eq}
use Rattle.sw_token.specs.Kinds.{ruled_words, reserved_words}
use Rattle.sw_token.proofs.kinds.key_number.Goals as goal

pub returns : goal.returns
unfolding ruled_words reserved_words
returns c =
    c.number_of.ensures
    ∙ ap (position (λ word. bytes_eq word.now c.args.text.now)) c.as_slice.ensures
