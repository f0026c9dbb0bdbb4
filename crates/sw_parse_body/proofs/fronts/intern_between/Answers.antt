use Rattle.std.proofs.Common.{◌≡◌, ◌-◌, drop, ◌∙◌, subst, arith}
use Rattle.std.proofs.lemmas.List.Elements.{All-take, All-drop}
use Rattle.std.specs.Prelude.{OnOk, OnErr}
use Rattle.sw_token.proofs.TokenLaws.{IsTokens-few}
use Rattle.sw_token.specs.Spelling.{IsReadable}
use Rattle.sw_grammar_forms.proofs.TokensSpelled.{tokens_readable}
use Rattle.sw_tree.specs.Names.{with_texts}
use Rattle.sw_grammar_facts.specs.Interned.{texts_in}
use Rattle.sw_parse_decl.specs.Texts.{ArePartlyInterned}
use Rattle.sw_parse_body.proofs.FrontSteps.{between_spelled}
use Rattle.sw_parse_body.proofs.fronts.intern_between.Goals as goal

pub prove-unreachable-requires : goal.prove-unreachable-requires
prove-unreachable-requires c =
    omega (
      arith,
      IsTokens-few c.args.source.now c.args.tokens.now c.requires.tokens,
      c.if-prove.true,
      c.len-bytes.ensures.value,
    )

pub new-requires : goal.new-requires
new-requires c =
    All-take (IsReadable c.args.source.now) (c.args.to - c.args.from)
    (drop c.args.from c.args.tokens.now)
    (All-drop (IsReadable c.args.source.now) c.args.from c.args.tokens.now
    (tokens_readable c.args.source.now c.args.tokens.now c.len-bytes.ensures.utf8
    c.requires.tokens))

pub returns-clause-texts : goal.returns-clause-texts
returns-clause-texts c =
    subst (λ ts. OnOk c.intern_names.result
    (c.intern_names.new.names ≡ with_texts c.args.names.now (texts_in ts)))
    (c.new.ensures
    ∙ between_spelled c.args.source.now c.args.tokens.now c.args.from (c.args.to - c.args.from))
    c.intern_names.ensures.texts

pub returns-clause-err : goal.returns-clause-err
returns-clause-err c =
    subst (λ ts. OnErr c.intern_names.result
    (ArePartlyInterned c.args.names.now (texts_in ts) c.intern_names.new.names))
    (c.new.ensures
    ∙ between_spelled c.args.source.now c.args.tokens.now c.args.from (c.args.to - c.args.from))
    c.intern_names.ensures.err
