use Rattle.std.proofs.Common.{◌≡◌, [], ◌∙◌, ap, sym, subst}
use Rattle.std.specs.Prelude.{OnOk, OnErr}
use Rattle.std.proofs.lemmas.Result.{on_err_weaker}
use Rattle.sw_tree.specs.Names.{with_texts}
use Rattle.sw_grammar.specs.Tokens.{optional_text}
use Rattle.sw_parse_decl.specs.Texts.{ArePartlyInterned}
use Rattle.sw_parse_decl.proofs.InternSteps.{none_interned, made_of_optional, made_of_declared}
use Rattle.sw_parse_decl.proofs.InternSteps.{made_of_nothing, made_unbound}
use Rattle.sw_parse_decl.proofs.names.intern_made.Goals as goal

pub returns-then-sees-clause-texts : goal.returns-then-sees-clause-texts
unfolding with_texts
returns-then-sees-clause-texts c =
    subst (λ texts. OnOk c.intern_optional.result
    (c.intern_optional.new.names ≡ with_texts c.args.names.now texts))
    (made_of_optional c.args.bound c.args.text.now c.args.tokens.now
    (sym c.sees.ensures ∙ c.if-sees.true)) c.intern_optional.ensures.texts

pub returns-then-sees-clause-err : goal.returns-then-sees-clause-err
returns-then-sees-clause-err c =
    subst (λ texts. OnErr c.intern_optional.result
    (ArePartlyInterned c.args.names.now texts c.intern_optional.new.names))
    (made_of_optional c.args.bound c.args.text.now c.args.tokens.now
    (sym c.sees.ensures ∙ c.if-sees.true))
    (on_err_weaker c.intern_optional.result
    (none_interned c.args.names.now c.intern_optional.new.names (optional_text c.args.text.now) [])
    c.intern_optional.ensures.err)

pub returns-then-not-bound-clause-texts : goal.returns-then-not-bound-clause-texts
unfolding with_texts
returns-then-not-bound-clause-texts c =
    ap (with_texts c.args.names.now)
    (made_unbound c.args.bound c.args.text.now c.args.tokens.now
    (sym c.sees.ensures ∙ c.if-sees.false) c.if-not-bound.true)

pub returns-then-sees-2-clause-texts : goal.returns-then-sees-2-clause-texts
returns-then-sees-2-clause-texts c =
    subst (λ texts. OnOk c.intern_declared.result
    (c.intern_declared.new.names ≡ with_texts c.args.names.now texts))
    (made_of_declared c.args.bound c.args.text.now c.args.tokens.now
    (sym c.sees.ensures ∙ c.if-sees.false) c.if-not-bound.false
    (sym c.sees-2.ensures ∙ c.if-sees-2.true))
    c.intern_declared.ensures.texts

pub returns-then-sees-2-clause-err : goal.returns-then-sees-2-clause-err
returns-then-sees-2-clause-err c =
    subst (λ texts. OnErr c.intern_declared.result
    (ArePartlyInterned c.args.names.now texts c.intern_declared.new.names))
    (made_of_declared c.args.bound c.args.text.now c.args.tokens.now
    (sym c.sees.ensures ∙ c.if-sees.false) c.if-not-bound.false
    (sym c.sees-2.ensures ∙ c.if-sees-2.true))
    c.intern_declared.ensures.err

pub returns-clause-texts : goal.returns-clause-texts
unfolding with_texts
returns-clause-texts c =
    ap (with_texts c.args.names.now)
    (made_of_nothing c.args.bound c.args.text.now c.args.tokens.now
    (sym c.sees.ensures ∙ c.if-sees.false) (sym c.sees-2.ensures ∙ c.if-sees-2.false))
