use Rattle.std.proofs.Common.{ap, subst}
use Rattle.sw_grammar_forms.specs.Fronts.{front}
use Rattle.sw_grammar_forms.specs.Outcome.{Gives}
use Rattle.sw_grammar.specs.Types as types
use Rattle.sw_grammar.specs.Reading.{read}
use Rattle.sw_grammar.specs.Tokens.{type_ext}
use Rattle.sw_parse_parts.specs.Around.{known}
use Rattle.sw_parse_body.proofs.phrases.type_tree.Goals as goal

pub returns : goal.returns
returns c =
    subst (λ around. Gives (front type_ext (read around c.args.depth (types.type around)) c.args.tokens.now)
    c.type_in.result c.type_in.new.tokens) (ap known c.new-around.ensures) c.type_in.ensures
