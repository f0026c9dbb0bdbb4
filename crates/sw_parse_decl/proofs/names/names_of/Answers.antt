use Rattle.std.proofs.Common.{◌∙◌, ap, length, arith}
use Rattle.sw_tree.specs.Names.{with_texts}
use Rattle.sw_grammar_facts.specs.Interned.{texts_in}
use Rattle.sw_parse_decl.specs.Programs.{texts_of}
use Rattle.sw_parse_decl.proofs.InternSteps.{predeclared_few}
use Rattle.sw_parse_decl.proofs.names.names_of.Goals as goal

pub intern_names-requires : goal.intern_names-requires
intern_names-requires c =
    omega (arith, ap length c.in_ok-names.ensures, predeclared_few, c.requires)

pub returns : goal.returns
unfolding texts_of
returns c =
    c.in_ok-intern_names.ensures.texts
    ∙ ap (λ texts. with_texts texts (texts_in c.args.tokens.now)) c.in_ok-names.ensures
