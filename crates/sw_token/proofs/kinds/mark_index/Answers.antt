use Rattle.std.proofs.Common.{ap, ◌∙◌, position, bytes_eq}
use Rattle.sw_token.proofs.kinds.mark_index.Goals as goal

pub returns : goal.returns
returns c =
    c.number_of.ensures
    ∙ ap (position (λ mark. bytes_eq mark.now c.args.text.now)) c.as_slice.ensures
