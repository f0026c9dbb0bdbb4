use Rattle.std.proofs.Common.{◌∙◌, ap, codes, refl}
use Rattle.std.specs.Prelude.{Ok}
use Rattle.sw_grammar_forms.proofs.ListLoops.{list_turn, list_shorter}
use Rattle.sw_grammar.specs.Grammar.{body, good}
use Rattle.sw_grammar.specs.Nests.{El, shape_of}
use Rattle.sw_grammar.specs.Stmts.{pattern}
use Rattle.sw_parse_parts.specs.Around.{known}
use Rattle.sw_parse_parts.proofs.patterns.more_patterns.Goals as goal

pub loop-patterns-smaller : goal.loop-patterns-smaller
loop-patterns-smaller c =
    list_shorter El shape_of (body (known c.args.around.now).id_of) good c.args.depth (codes ",")
    (pattern (known c.args.around.now)) refl _ _ _ _
    (c.skip.ensures ∙ ap (λ found. Ok (found, c.skip.new.self)) c.loop-patterns-test.true)
    c.in_ok-pattern.ensures

pub loop-patterns-preserved : goal.loop-patterns-preserved
loop-patterns-preserved c = rw c.in_ok-push-2.ensures.items
    (list_turn El shape_of (body (known c.args.around.now).id_of) good c.args.depth (codes ",")
    (pattern (known c.args.around.now)) refl _ _ _ _ c.loop-patterns.patterns.items _
    c.loop-patterns.invariant
    (c.skip.ensures ∙ ap (λ found. Ok (found, c.skip.new.self)) c.loop-patterns-test.true)
    c.in_ok-pattern.ensures)
