use Rattle.std.proofs.Common.{sym, ◌∙◌, ap, subst}
use Rattle.std.specs.Prelude.{option_map}
use Rattle.sw_grammar_forms.specs.Outcome.{Gives}
use Rattle.sw_grammar.specs.Around.{index_in, outermost, returning}
use Rattle.sw_grammar.specs.Reading.{read}
use Rattle.sw_grammar.specs.Stmts as stmts
use Rattle.sw_parse_parts.specs.Around.{known, with_here}
use Rattle.sw_parse_body.proofs.PhraseFronts.{front_of_any}
use Rattle.sw_parse_body.proofs.phrases.block.Goals as goal

pub returns : goal.returns
returns c =
    let word = option_map (λ text. text.now) c.args.word in
    let around = returning (outermost (index_in c.args.names.now)) word in
    subst (λ answer. Gives answer c.block.result c.block.new.tokens)
    (sym (front_of_any (read around c.args.depth (stmts.block around)) c.args.tokens.now))
    (subst (λ inside. Gives (read inside c.args.depth (stmts.block inside) c.args.tokens.now)
    c.block.result c.block.new.tokens)
    (ap known (c.returning-around.ensures
    ∙ ap (λ all. with_here all (returning (known all) word).here) c.new-outermost.ensures))
    c.block.ensures)
