use Rattle.std.proofs.Common.{◌-◌, length, drop, ◌∙◌, arith}
use Rattle.std.proofs.lemmas.List.Elements.{All-take, All-drop}
use Rattle.sw_token.proofs.TokenLaws.{IsTokens-few}
use Rattle.sw_token.specs.Spelling.{IsReadable}
use Rattle.sw_grammar_forms.proofs.TokensSpelled.{tokens_readable, tokens_spelled}
use Rattle.sw_parse_body.proofs.FrontSteps.{from_spelled}
use Rattle.sw_parse_body.proofs.fronts.cursor_from.Goals as goal

pub prove-unreachable-requires : goal.prove-unreachable-requires
prove-unreachable-requires c =
    omega (
      arith,
      IsTokens-few c.args.source.now c.args.tokens.now c.requires.tokens,
      c.if-prove.true,
      c.len-bytes.ensures.value,
    )

pub new-requires : goal.new-requires
new-requires c =
    All-take (IsReadable c.args.source.now) (length c.args.tokens.now - c.args.from)
    (drop c.args.from c.args.tokens.now)
    (All-drop (IsReadable c.args.source.now) c.args.from c.args.tokens.now
    (tokens_readable c.args.source.now c.args.tokens.now c.len-bytes.ensures.utf8
    c.requires.tokens))

pub returns-clause-left : goal.returns-clause-left
returns-clause-left c =
    c.new.ensures ∙ from_spelled c.args.source.now c.args.tokens.now c.args.from

pub returns-clause-spelling : goal.returns-clause-spelling
returns-clause-spelling c =
    tokens_spelled c.args.source.now c.args.tokens.now c.len-bytes.ensures.utf8 c.requires.tokens
