use Rattle.std.proofs.Common.{length, ◌∙◌, ap, sym, arith}
use Rattle.std.proofs.lemmas.Result.{err_from_is_err_and}
use Rattle.sw_tree.specs.Names.{with_texts}
use Rattle.sw_tree.proofs.NamesLemmas.{length-with_text}
use Rattle.sw_parse_decl.proofs.InternSteps.{word_fails, word_texts, word_partly, attribute_fails}
use Rattle.sw_parse_decl.proofs.InternSteps.{attribute_texts, other_gives, rest_of}
use Rattle.sw_parse_decl.proofs.InternSteps.{attribute_binds_nothing, binds_is, word_binds_nothing}
use Rattle.sw_parse_decl.proofs.names.intern_next.Goals as goal

pub returns-in_err-intern-clause-err : goal.returns-in_err-intern-clause-err
returns-in_err-intern-clause-err c =
    rw (err_from_is_err_and c.from_residual.result c.from_residual.ensures.1).1
    (word_fails c.args.bound c.args.names.now c.args.tokens.now (sym c.sees_word.ensures ∙ c.if-sees_word.true)
    c.intern.new.self c.in_err-intern.ensures.err)

pub intern_made-requires : goal.intern_made-requires
intern_made-requires c = omega (
  arith,
  ap length c.in_ok-intern.ensures.texts,
  length-with_text c.args.names.now c.text-text.result.now,
  c.requires.room,
)

pub returns-in_err-intern_made-clause-err : goal.returns-in_err-intern_made-clause-err
returns-in_err-intern_made-clause-err c =
    rw (err_from_is_err_and c.from_residual-in_err-intern_made.result
    c.from_residual-in_err-intern_made.ensures.1).1
    (word_partly c.args.bound c.args.names.now c.args.tokens.now
    (sym c.sees_word.ensures ∙ c.if-sees_word.true) c.intern.new.self c.text-text.result.now
    c.take.new.self c.text-text.ensures
    (rest_of c.args.tokens.now c.take.new.self c.take.result c.take.ensures)
    c.in_ok-intern.ensures.texts c.intern_made.new.names c.in_err-intern_made.ensures.err)

pub returns-then-sees_word-clause-texts : goal.returns-then-sees_word-clause-texts
returns-then-sees_word-clause-texts c =
    word_texts c.args.bound c.args.names.now c.args.tokens.now
    (sym c.sees_word.ensures ∙ c.if-sees_word.true) c.intern.new.self c.text-text.result.now
    c.take.new.self c.text-text.ensures
    (rest_of c.args.tokens.now c.take.new.self c.take.result c.take.ensures)
    c.in_ok-intern.ensures.texts c.intern_made.new.names c.in_ok-intern_made.ensures.texts

pub returns-then-sees_word-clause-binds : goal.returns-then-sees_word-clause-binds
returns-then-sees_word-clause-binds c =
    word_binds_nothing c.args.tokens.now (sym c.sees_word.ensures ∙ c.if-sees_word.true)

pub returns-in_err-intern-2-clause-err : goal.returns-in_err-intern-2-clause-err
returns-in_err-intern-2-clause-err c =
    rw (err_from_is_err_and c.from_residual-in_err-intern-2.result
    c.from_residual-in_err-intern-2.ensures.1).1
    (attribute_fails c.args.bound c.args.names.now c.args.tokens.now
    (sym c.sees_attribute.ensures ∙ c.if-sees_attribute.true)
    c.intern-then-sees_attribute.new.self c.in_err-intern-2.ensures.err)

pub returns-then-sees_attribute-clause-texts : goal.returns-then-sees_attribute-clause-texts
returns-then-sees_attribute-clause-texts c =
    attribute_texts c.args.bound c.args.names.now c.args.tokens.now
    (sym c.sees_attribute.ensures ∙ c.if-sees_attribute.true)
    c.intern-then-sees_attribute.new.self c.attribute.result.now c.attribute.ensures
    c.in_ok-intern-2.ensures.texts

pub returns-then-sees_attribute-clause-binds : goal.returns-then-sees_attribute-clause-binds
returns-then-sees_attribute-clause-binds c =
    attribute_binds_nothing c.args.tokens.now
    (sym c.sees_attribute.ensures ∙ c.if-sees_attribute.true)

pub returns-clause-texts : goal.returns-clause-texts
unfolding with_texts
returns-clause-texts c =
    ap (with_texts c.args.names.now) (other_gives c.args.bound c.args.tokens.now
    (sym c.sees_word.ensures ∙ c.if-sees_word.false)
    (sym c.sees_attribute.ensures ∙ c.if-sees_attribute.false))

pub returns-clause-binds : goal.returns-clause-binds
returns-clause-binds c = c.sees_binding-binds.ensures ∙ binds_is c.args.tokens.now
