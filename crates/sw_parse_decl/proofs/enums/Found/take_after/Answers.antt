use Rattle.std.proofs.Common.{sym, subst, ◌∙◌}
use Rattle.sw_grammar.specs.Around.{index_in}
use Rattle.sw_parse_decl.specs.Found.{AreFound, IsWordOf}
use Rattle.sw_parse_decl.proofs.EnumSteps.{none_marked, one_marked}
use Rattle.sw_parse_decl.proofs.enums.Found.take_after.Goals as goal

pub returns-then-not-sees-clause-found : goal.returns-then-not-sees-clause-found
returns-then-not-sees-clause-found c written all token so_far word =
    subst (λ marks. AreFound (index_in c.args.around.now.texts) written marks c.args.self.now)
    (none_marked all token c.args.tokens.now (sym c.sees.ensures ∙ c.if-not-sees.true)) so_far

pub returns-clause-found : goal.returns-clause-found
returns-clause-found c written all token so_far word =
    one_marked (index_in c.args.around.now.texts) written all token c.add.new.self
    c.args.tokens.now c.take_word-mark.new.tokens c.take_word-mark.result c.take_word-mark.ensures
    (sym c.sees.ensures ∙ c.if-not-sees.false)
    (λ one same. c.in_ok-add.ensures written all one so_far
    (subst (λ t. IsWordOf t c.args.word) (sym same) word))
